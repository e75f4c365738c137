-- A header is read exactly where it is the text of a shape that a job may have.
use Rattle.std.proofs.Common.{◌≡◌, ℕ, ◌+◌, ◌%◌, ◌^◌, ◌<◌, ◌≤◌, true, List, [], ◌∷◌, ◌++◌, length, drop, Ok, ok_or, refl, sym, ap, subst, ◌∙◌, arith}
use Rattle.std.specs.Prelude.{codes, nat_eq}
use Rattle.std.specs.List.{join_with_byte, starts_with}
use Rattle.std.specs.Fmt.{decimal}
use Rattle.std.proofs.Math.Nat.{mul-le-mul_right}
use Rattle.std.proofs.lemmas.Bool.{and_from, and_parts, le-leb, leb-true, eq-eqb, eqb-true}
use Rattle.std.proofs.lemmas.Bool.Decides.{nat_tests, Decides-eqb}
use Rattle.std.proofs.lemmas.List.{drop_at}
use Rattle.std.proofs.lemmas.Slice.Eq.{starts_is}
use Rattle.fs_types.specs.PathText.{is_between}
use Rattle.fs_script.specs.declared.fault.ScriptFault.TheVariants as faults
use Rattle.fs_script.specs.declared.limits.TheConstants.{SERVER_LIMIT, CLIENT_LIMIT, LEAST_CHUNK, MOST_CHUNK, CHUNK_UNIT, MEMORY_SLOTS, MEMORY_BYTES, SPILL_SLOTS, SPILL_BYTES}
use Rattle.fs_script.specs.declared.shape.Shape.{Shape}
use Rattle.fs_script.specs.Grammar.{shape_words, header_text, AreFew, IsShape}
use Rattle.fs_script.specs.Reading.Tokens.{words_of}
use Rattle.fs_script.specs.Reading.Numbers.{number_of}
use Rattle.fs_script.specs.Reading.Headers.{field, are_few, is_shape, shape_of, shape_of_words, header_of}
use Rattle.fs_script.proofs.Reading.Steps.{bind_ok, guard, test, some_is}
use Rattle.fs_script.proofs.Reading.Numbers.{number_is_text, text_is_number}
use Rattle.fs_script.proofs.Reading.Words.{IsWord, is_word-append, is_word-decimal, tokens_joined, tokens_again}

-- ---- the numbers of a shape

few_tested : (h : Shape) (each slots bytes : ℕ) → are_few h.clients h.chunk each slots bytes ≡ true → AreFew h each slots bytes
few_tested h each slots bytes e = record { slots = grind (arith, nat_tests); bytes = grind (arith, nat_tests) }

between_tested : (least most n : ℕ) → is_between least most n ≡ true → (least ≤ n) × (n ≤ most)
between_tested least most n e = let t = and_parts _ _ e in (leb-true least n t.0, leb-true n most t.1)

pub shape_tested : (h : Shape) → is_shape h ≡ true → IsShape h
shape_tested h e =
    let a = and_parts _ _ e in
    let b = and_parts _ _ a.0 in
    let c = and_parts _ _ b.0 in
    let d = and_parts _ _ c.0 in
    let f = and_parts _ _ d.0 in
    let chunk = and_parts _ _ d.1 in
    let servers = between_tested 1 SERVER_LIMIT h.servers f.0 in
    let clients = between_tested 1 CLIENT_LIMIT h.clients f.1 in
    let size = between_tested LEAST_CHUNK MOST_CHUNK h.chunk chunk.0 in
    record {
      some_server = servers.0;
      servers = servers.1;
      some_client = clients.0;
      clients = clients.1;
      chunk_least = size.0;
      chunk_most = size.1;
      chunk_whole = eqb-true (h.chunk % CHUNK_UNIT) 0 chunk.1;
      some_slot = leb-true 1 (h.shmem + h.spill) c.1;
      memory = few_tested h h.shmem MEMORY_SLOTS MEMORY_BYTES b.1;
      spill = few_tested h h.spill SPILL_SLOTS SPILL_BYTES a.1;
    }

few_passes : (h : Shape) (each slots bytes : ℕ) → AreFew h each slots bytes → are_few h.clients h.chunk each slots bytes ≡ true
few_passes h each slots bytes f = and_from _ _ (le-leb _ _ f.slots) (le-leb _ _ f.bytes)

pub shape_passes : (h : Shape) → IsShape h → is_shape h ≡ true
shape_passes h s =
    let servers = and_from _ _ (le-leb _ _ s.some_server) (le-leb _ _ s.servers) in
    let clients = and_from _ _ (le-leb _ _ s.some_client) (le-leb _ _ s.clients) in
    let size = and_from _ _ (le-leb _ _ s.chunk_least) (le-leb _ _ s.chunk_most) in
    let chunk = and_from _ _ size (eq-eqb _ _ s.chunk_whole) in
    let numbers = and_from _ _ (and_from _ _ (and_from _ _ servers clients) chunk) (le-leb _ _ s.some_slot) in
    and_from _ _ (and_from _ _ numbers (few_passes h h.shmem _ _ s.memory)) (few_passes h h.spill _ _ s.spill)

-- each client has no more slots than all of them
pub few_each : (h : Shape) (each slots bytes : ℕ) → 1 ≤ h.clients → AreFew h each slots bytes → each ≤ slots
few_each h each slots bytes some few = omega (arith, few.slots, mul-le-mul_right each some)

-- ---- the words of a header

-- a word is read as a field
record IsField (name w : List ℕ) (n : ℕ) : Type 0 where
  below : n < 2 ^ 64
  text : w ≡ name ++ decimal n

field_is_text : (name w : List ℕ) (n : ℕ) → field name w ≡ Ok n → IsField name w n
field_is_text name w n e =
    let g = guard (starts_with nat_eq w name) (ok_or (number_of (drop (length name) w)) faults.BadHeader) faults.BadHeader n e in
    let number = number_is_text (drop (length name) w) n (some_is (number_of (drop (length name) w)) faults.BadHeader n g.1) in
    record {
      below = number.below;
      text = (starts_is Decides-eqb w name (starts_with nat_eq w name) refl).0 g.0 ∙ ap (λ rest. name ++ rest) number.text;
    }

begins_with : (name rest : List ℕ) → starts_with nat_eq (name ++ rest) name ≡ true
begins_with name rest = (starts_is Decides-eqb (name ++ rest) name (starts_with nat_eq (name ++ rest) name) refl).1 rest refl

text_is_field : (name : List ℕ) (n : ℕ) → n < 2 ^ 64 → field name (name ++ decimal n) ≡ Ok n
text_is_field name n lt =
    rw (begins_with name (decimal n), drop_at name (decimal n) (length name) refl, text_is_number n lt) refl

fields_are : (a b c d e : List ℕ) (h : Shape) → shape_of a b c d e ≡ Ok h → IsShape h × (a ∷ b ∷ c ∷ d ∷ e ∷ [] ≡ shape_words h)
fields_are a b c d e h is =
    let p = bind_ok _ _ h is in
    let q = bind_ok _ _ h p.2 in
    let r = bind_ok _ _ h q.2 in
    let t = bind_ok _ _ h r.2 in
    let u = bind_ok _ _ h t.2 in
    let made : Shape = record { servers = p.0; clients = q.0; chunk = r.0; shmem = t.0; spill = u.0 } in
    let g = test (is_shape made) made (faults.OverLimit 1) h u.2 in
    let servers = (field_is_text (codes "servers=") a p.0 p.1).text in
    let clients = (field_is_text (codes "clients=") b q.0 q.1).text in
    let chunk = (field_is_text (codes "chunk=") c r.0 r.1).text in
    let shmem = (field_is_text (codes "shmem=") d t.0 t.1).text in
    let spill = (field_is_text (codes "spill=") e u.0 u.1).text in
    subst (λ (k : Shape). IsShape k × (a ∷ b ∷ c ∷ d ∷ e ∷ [] ≡ shape_words k)) g.1
    (shape_tested made g.0, cc)

words_are : (ws : List (List ℕ)) (h : Shape) → shape_of_words ws ≡ Ok h → IsShape h × (ws ≡ shape_words h)
words_are [] h e = absurd cc
words_are (a ∷ []) h e = absurd cc
words_are (a ∷ b ∷ []) h e = absurd cc
words_are (a ∷ b ∷ c ∷ []) h e = absurd cc
words_are (a ∷ b ∷ c ∷ d ∷ []) h e = absurd cc
words_are (a ∷ b ∷ c ∷ d ∷ e ∷ []) h is = fields_are a b c d e h is
words_are (a ∷ b ∷ c ∷ d ∷ e ∷ f ∷ ws) h is = absurd cc

-- a header that is read is the text of its shape
pub header_is_text : (line : List ℕ) (h : Shape) → header_of line ≡ Ok h → IsShape h × (line ≡ header_text h)
header_is_text line h e =
    let begin = codes "unifyfs 1 " in
    let rest = drop 10 line in
    let g = guard (starts_with nat_eq line begin) (shape_of_words (words_of rest)) faults.BadHeader h e in
    let w = words_are (words_of rest) h g.1 in
    let joined : rest ≡ join_with_byte 32 (shape_words h) = sym (tokens_joined 32 rest) ∙ ap (join_with_byte 32) w.1 in
    (w.0, (starts_is Decides-eqb line begin (starts_with nat_eq line begin) refl).0 g.0 ∙ ap (λ r. begin ++ r) joined)

-- the text of a shape is read
pub text_is_header : (h : Shape) → IsShape h → header_of (header_text h) ≡ Ok h
text_is_header h s =
    let servers : h.servers < 2 ^ 64 = omega (arith, s.servers) in
    let clients : h.clients < 2 ^ 64 = omega (arith, s.clients) in
    let chunk : h.chunk < 2 ^ 64 = omega (arith, s.chunk_most) in
    let shmem : h.shmem < 2 ^ 64 = omega (arith, few_each h h.shmem _ _ s.some_client s.memory) in
    let spill : h.spill < 2 ^ 64 = omega (arith, few_each h h.spill _ _ s.some_client s.spill) in
    let word : (name : List ℕ) (n : ℕ) → n < 2 ^ 64 → IsWord 32 name → IsWord 32 (name ++ decimal n) =
    λ name n lt w. is_word-append 32 name (decimal n) w (is_word-decimal 32 n refl lt) in
    let words : words_of (join_with_byte 32 (shape_words h)) ≡ shape_words h =
    tokens_again 32 (codes "servers=" ++ decimal h.servers)
    ((codes "clients=" ++ decimal h.clients) ∷ (codes "chunk=" ++ decimal h.chunk) ∷ (codes "shmem=" ++ decimal h.shmem)
    ∷ (codes "spill=" ++ decimal h.spill) ∷ [])
    (word (codes "servers=") h.servers servers refl) (
      word (codes "clients=") h.clients clients refl,
      (
        word (codes "chunk=") h.chunk chunk refl,
        (word (codes "shmem=") h.shmem shmem refl, (word (codes "spill=") h.spill spill refl, tt)),
      ),
    ) in
    ap shape_of_words words
    ∙ rw (
      text_is_field (codes "servers=") h.servers servers,
      text_is_field (codes "clients=") h.clients clients,
      text_is_field (codes "chunk=") h.chunk chunk,
      text_is_field (codes "shmem=") h.shmem shmem,
      text_is_field (codes "spill=") h.spill spill,
      shape_passes h s,
    ) refl
