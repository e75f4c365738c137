-- A line is read exactly where it is the text of a line that a job may have.
use Rattle.std.proofs.Common.{◌≡◌, ℕ, ◌^◌, ◌<◌, ◌≤◌, ◌==◌, Bool, true, false, nat_lt, nat_le, List, [], ◌∷◌, ◌++◌, length, drop, Some, Ok, refl, sym, ap, subst, ◌∙◌, append_assoc, arith}
use Rattle.std.specs.Prelude.{nat_eq, codes}
use Rattle.std.specs.List.{join_with_byte, AllByRecursion, starts_with}
use Rattle.std.specs.Str.{bytes_eq, all_ascii_digits}
use Rattle.std.specs.Fmt.{decimal}
use Rattle.std.proofs.lemmas.Bool.{le-leb, leb-true, lt-ltb, ltb-true}
use Rattle.std.proofs.lemmas.Bool.Decides.{nat_tests, Decides-eqb}
use Rattle.std.proofs.lemmas.Fmt.{digits_decimal, decimal_nonempty}
use Rattle.std.proofs.lemmas.Slice.Eq.{bytes_eq-Decides, starts_is}
use Rattle.fs_types.specs.PathText.{IsPath, is_path}
use Rattle.fs_types.specs.declared.limits.TheConstants.{LONGEST_FILE}
use Rattle.fs_script.specs.declared.limits.TheConstants.{TRANSFER_LIMIT}
use Rattle.fs_script.specs.declared.fault.Reason.TheVariants as reasons
use Rattle.fs_script.specs.declared.read.line_fault.LineFault.TheVariants.{Bad, OverLimit}
use Rattle.fs_script.specs.declared.read.op_kind.OpKind.{OpKind}
use Rattle.fs_script.specs.declared.read.op_kind.OpKind.TheVariants as kinds
use Rattle.fs_script.specs.declared.shape.Shape.{Shape}
use Rattle.fs_script.specs.declared.line.Line.{Line}
use Rattle.fs_script.specs.declared.line.Line.TheVariants as lines
use Rattle.fs_script.specs.declared.line.OpLine.{OpLine}
use Rattle.fs_script.specs.declared.line.Op.{Op}
use Rattle.fs_script.specs.declared.line.Op.TheVariants as ops
use Rattle.fs_script.specs.declared.line.Data.{Data}
use Rattle.fs_script.specs.declared.line.Data.TheVariants.{Text, Pattern}
use Rattle.fs_script.specs.Grammar.{data_text, read_word, op_words, op_text, IsData, IsOp, IsOpLine, IsLine, IsTextOf, is_note}
use Rattle.fs_script.specs.Reading.Steps.{◌>>=◌}
use Rattle.fs_script.specs.Reading.Tokens.{tokens, words_of, one_token, two_tokens, three_tokens}
use Rattle.fs_script.specs.Reading.Numbers.{number_of}
use Rattle.fs_script.specs.Reading.Words.{or_bad, rank_of, path_of, number_up_to, text_of, pattern_of, data_of}
use Rattle.fs_script.specs.Reading.Lines.{kind_of, path_alone, read_of, op_of_kind, op_of_words, op_line_of, line_of}
use Rattle.fs_script.proofs.Number.{own as numerals}
use Rattle.fs_script.proofs.Reading.Steps.{bind_ok, guard, test, some_is, ok_is, choice}
use Rattle.fs_script.proofs.Reading.Numbers.{IsNumber, number_is_text, text_is_number}
use Rattle.fs_script.proofs.Reading.Words.{IsWord, is_word-append, is_word-decimal, is_word-text, is_word-path, one_is, two_are, three_are, tokens_joined, tokens_again}

-- ---- what is read is spelled so

-- a word that was read as a number, where a line without one is bad
number_is : (w : List ℕ) (n : ℕ) (r : _) → or_bad r (number_of w) ≡ Ok n → IsNumber w n
number_is w n r e = number_is_text w n (some_is (number_of w) (Bad r) n e)

rank_is : (h : Shape) (w : List ℕ) (r : ℕ) → rank_of h w ≡ Ok r → (r < h.clients) × (w ≡ decimal r)
rank_is h w r e =
    let b = bind_ok _ _ r e in
    let t = test (nat_lt b.0 h.clients) b.0 (Bad reasons.Rank) r b.2 in
    subst (λ k. (k < h.clients) × (w ≡ decimal k)) t.1 (ltb-true b.0 h.clients t.0, (number_is w b.0 reasons.Rank b.1).text)

path_is : (w p : List ℕ) → path_of w ≡ Ok p → IsPath p × (w ≡ p)
path_is w p e =
    let t = test (is_path w) w (Bad reasons.Path) p e in
    subst (λ k. IsPath k × (w ≡ k)) t.1 (t.0, refl)

number_up_to_is : (most : ℕ) (w : List ℕ) (n : ℕ) → number_up_to most w ≡ Ok n → (n ≤ most) × (w ≡ decimal n)
number_up_to_is most w n e =
    let b = bind_ok _ _ n e in
    let t = test (nat_le b.0 most) b.0 OverLimit n b.2 in
    subst (λ k. (k ≤ most) × (w ≡ decimal k)) t.1 (leb-true b.0 most t.0, (number_is w b.0 reasons.Number b.1).text)

text_is : (w : List ℕ) (d : Data) → text_of w ≡ Ok d → IsData d × (codes "t:" ++ w ≡ data_text d)
text_is w d e =
    let g = guard _ _ _ d e in
    let t = test (nat_le (length w) TRANSFER_LIMIT) (Text w) OverLimit d g.1 in
    subst (λ k. IsData k × (codes "t:" ++ w ≡ data_text k)) t.1 ((g.0, leb-true (length w) TRANSFER_LIMIT t.0), refl)

pattern_text : (seed len : ℕ) → data_text (Pattern seed len) ≡ codes "p:" ++ (decimal seed ++ (58 ∷ decimal len))
pattern_text seed len = ap (λ r. codes "p:" ++ r) (append_assoc (decimal seed) (58 ∷ []) (decimal len))

pattern_is : (w : List ℕ) (d : Data) → pattern_of (tokens 58 w) ≡ Ok d → IsData d × (codes "p:" ++ w ≡ data_text d)
pattern_is w d e =
    let a = bind_ok _ _ d e in
    let b = bind_ok _ _ d a.2 in
    let c = bind_ok _ _ d b.2 in
    let t = test (nat_le c.0 TRANSFER_LIMIT) (Pattern b.0 c.0) OverLimit d c.2 in
    let two = two_are (tokens 58 w) a.0 (some_is (two_tokens (tokens 58 w)) (Bad reasons.Data) a.0 a.1) in
    let seed = number_is a.0.0 b.0 reasons.Data b.1 in
    let len = number_is a.0.1 c.0 reasons.Data c.1 in
    let words : tokens 58 w ≡ decimal b.0 ∷ decimal c.0 ∷ [] = cc in
    let whole : w ≡ decimal b.0 ++ (58 ∷ decimal c.0) = sym (tokens_joined 58 w) ∙ ap (join_with_byte 58) words in
    subst (λ k. IsData k × (codes "p:" ++ w ≡ data_text k)) t.1
    ((seed.below, leb-true c.0 TRANSFER_LIMIT t.0), ap (λ r. codes "p:" ++ r) whole ∙ sym (pattern_text b.0 c.0))

after_name : (name w : List ℕ) → starts_with nat_eq w name ≡ true → w ≡ name ++ drop (length name) w
after_name name w e = (starts_is Decides-eqb w name (starts_with nat_eq w name) refl).0 e

data_is : (w : List ℕ) (d : Data) → data_of w ≡ Ok d → IsData d × (w ≡ data_text d)
data_is w d e =
    choice (IsData d × (w ≡ data_text d)) (starts_with nat_eq w (codes "t:")) _ _ (Ok d) e
    (λ is found. let t = text_is (drop 2 w) d found in (t.0, after_name (codes "t:") w is ∙ t.1))
    (λ rest. let g = guard _ _ _ d rest in let p = pattern_is (drop 2 w) d g.1 in (p.0, after_name (codes "p:") w g.0 ∙ p.1))

-- the name of an operation
abbrev name_of : OpKind → List ℕ
name_of kinds.Create = codes "create"
name_of kinds.Open = codes "open"
name_of kinds.Write = codes "write"
name_of kinds.Sync = codes "sync"
name_of kinds.Read = codes "read"
name_of kinds.ReadOwn = codes "readown"
name_of kinds.Size = codes "size"
name_of kinds.Trunc = codes "trunc"
name_of kinds.Laminate = codes "laminate"
name_of kinds.Unlink = codes "unlink"

kind_is : (w : List ℕ) (k : OpKind) → kind_of w ≡ Some k → w ≡ name_of k
kind_is w k e =
    choice P (bytes_eq w (codes "create")) _ _ (Some k) e (at kinds.Create)
    (λ e1. choice P (bytes_eq w (codes "open")) _ _ (Some k) e1 (at kinds.Open)
    (λ e2. choice P (bytes_eq w (codes "write")) _ _ (Some k) e2 (at kinds.Write)
    (λ e3. choice P (bytes_eq w (codes "sync")) _ _ (Some k) e3 (at kinds.Sync)
    (λ e4. choice P (bytes_eq w (codes "read")) _ _ (Some k) e4 (at kinds.Read)
    (λ e5. choice P (bytes_eq w (codes "readown")) _ _ (Some k) e5 (at kinds.ReadOwn)
    (λ e6. choice P (bytes_eq w (codes "size")) _ _ (Some k) e6 (at kinds.Size)
    (λ e7. choice P (bytes_eq w (codes "trunc")) _ _ (Some k) e7 (at kinds.Trunc)
    (λ e8. choice P (bytes_eq w (codes "laminate")) _ _ (Some k) e8 (at kinds.Laminate)
    (λ e9. choice P (bytes_eq w (codes "unlink")) _ _ (Some k) e9 (at kinds.Unlink) (λ none. absurd cc))))))))))
  where
    P : Type 0
    P = w ≡ name_of k

    at : (j : OpKind) → bytes_eq w (name_of j) ≡ true → Some j ≡ Some k → w ≡ name_of k
    at j is same = (bytes_eq-Decides w (name_of j)).0 is ∙ cc

-- these words say an operation and its path
abbrev SaysOp : List (List ℕ) → List ℕ × Op → Type 0
SaysOp ws x = IsPath x.0 × IsOp x.1 × (ws ≡ op_words x.1 x.0)

alone_is : (ws : List (List ℕ)) (p : List ℕ) → path_alone ws ≡ Ok p → IsPath p × (ws ≡ p ∷ [])
alone_is ws p e =
    let b = bind_ok _ _ p e in
    let path = path_is b.0 p b.2 in
    (path.0, one_is ws b.0 (some_is (one_token ws) (Bad reasons.Words) b.0 b.1) ∙ ap (λ w. w ∷ []) path.1)

-- an operation that has a path and no other word
alone_op_is : (o : Op) (name : List ℕ) (ws : List (List ℕ)) (x : List ℕ × Op) → IsOp o → ((p : List ℕ) → op_words o p ≡ name ∷ p ∷ [])
    → (path_alone ws >>= λ p. Ok (p, o)) ≡ Ok x → SaysOp (name ∷ ws) x
alone_op_is o name ws x is words e =
    let b = bind_ok _ _ x e in
    let path = alone_is ws b.0 b.1 in
    subst (SaysOp (name ∷ ws)) (ok_is (b.0, o) x b.2) (path.0, is, ap (λ l. name ∷ l) path.1 ∙ sym (words b.0))

read_is : (own : Bool) (ws : List (List ℕ)) (x : List ℕ × Op) → read_of own ws ≡ Ok x → SaysOp (read_word own ∷ ws) x
read_is own ws x e =
    let a = bind_ok _ _ x e in
    let b = bind_ok _ _ x a.2 in
    let c = bind_ok _ _ x b.2 in
    let d = bind_ok _ _ x c.2 in
    let three = three_are ws a.0 (some_is (three_tokens ws) (Bad reasons.Words) a.0 a.1) in
    let path = path_is a.0.0 b.0 b.1 in
    let off = number_is a.0.1 c.0 reasons.Number c.1 in
    let len = number_up_to_is TRANSFER_LIMIT a.0.2 d.0 d.1 in
    subst (SaysOp (read_word own ∷ ws)) (ok_is (b.0, ops.Read c.0 d.0 own) x d.2) (path.0, (off.below, len.0), cc)

op_of_kind_is : (k : OpKind) (ws : List (List ℕ)) (x : List ℕ × Op) → op_of_kind k ws ≡ Ok x → SaysOp (name_of k ∷ ws) x
op_of_kind_is kinds.Create ws x e = alone_op_is ops.Create (codes "create") ws x tt (λ p. refl) e
op_of_kind_is kinds.Open ws x e = alone_op_is ops.Open (codes "open") ws x tt (λ p. refl) e
op_of_kind_is kinds.Size ws x e = alone_op_is ops.Size (codes "size") ws x tt (λ p. refl) e
op_of_kind_is kinds.Write ws x e =
    let a = bind_ok _ _ x e in
    let b = bind_ok _ _ x a.2 in
    let c = bind_ok _ _ x b.2 in
    let d = bind_ok _ _ x c.2 in
    let three = three_are ws a.0 (some_is (three_tokens ws) (Bad reasons.Words) a.0 a.1) in
    let path = path_is a.0.0 b.0 b.1 in
    let off = number_is a.0.1 c.0 reasons.Number c.1 in
    let text = data_is a.0.2 d.0 d.1 in
    subst (SaysOp (codes "write" ∷ ws)) (ok_is (b.0, ops.Write c.0 d.0) x d.2)
    (path.0, (off.below, text.0), cc)
op_of_kind_is kinds.Sync ws x e = alone_op_is ops.Sync (codes "sync") ws x tt (λ p. refl) e
op_of_kind_is kinds.Read ws x e = read_is false ws x e
op_of_kind_is kinds.ReadOwn ws x e = read_is true ws x e
op_of_kind_is kinds.Trunc ws x e =
    let a = bind_ok _ _ x e in
    let b = bind_ok _ _ x a.2 in
    let c = bind_ok _ _ x b.2 in
    let two = two_are ws a.0 (some_is (two_tokens ws) (Bad reasons.Words) a.0 a.1) in
    let path = path_is a.0.0 b.0 b.1 in
    let size = number_up_to_is LONGEST_FILE a.0.1 c.0 c.1 in
    subst (SaysOp (codes "trunc" ∷ ws)) (ok_is (b.0, ops.Trunc c.0) x c.2) (path.0, size.0, cc)
op_of_kind_is kinds.Laminate ws x e = alone_op_is ops.Laminate (codes "laminate") ws x tt (λ p. refl) e
op_of_kind_is kinds.Unlink ws x e = alone_op_is ops.Unlink (codes "unlink") ws x tt (λ p. refl) e

op_is : (ws : List (List ℕ)) (x : List ℕ × Op) → op_of_words ws ≡ Ok x → SaysOp ws x
op_is [] x e = absurd cc
op_is (name ∷ ws) x e =
    let b = bind_ok _ _ x e in
    let kind = kind_is name b.0 (some_is (kind_of name) (Bad reasons.Op) b.0 b.1) in
    subst (λ w. SaysOp (w ∷ ws) x) (sym kind) (op_of_kind_is b.0 ws x b.2)

-- a text says this line
abbrev Says : Shape → List ℕ → Line → Type 0
Says h t l = IsLine h l × IsTextOf l t

op_line_is : (h : Shape) (ws : List (List ℕ)) (l : Line) → op_line_of h ws ≡ Ok l → Says h (join_with_byte 32 ws) l
op_line_is h [] l e = absurd cc
op_line_is h (first ∷ ws) l e =
    let a = bind_ok _ _ l e in
    let b = bind_ok _ _ l a.2 in
    let rank = rank_is h first a.0 a.1 in
    let op = op_is ws b.0 b.1 in
    let made : OpLine = record { rank = a.0; path = b.0.0; op = b.0.1 } in
    let words : first ∷ ws ≡ decimal a.0 ∷ op_words b.0.1 b.0.0 = cc in
    subst (Says h (join_with_byte 32 (first ∷ ws))) (ok_is (lines.Op made) l b.2)
    (record { rank = rank.0; path = op.0; op = op.1 }, ap (join_with_byte 32) words)

-- a line that is read is spelled so
pub line_is_text : (h : Shape) (t : List ℕ) (l : Line) → line_of h t ≡ Ok l → IsLine h l × IsTextOf l t
line_is_text h t l e =
    choice (Says h t l) (is_note t) _ _ (Ok l) e
    (λ is found. subst (Says h t) (ok_is lines.Note l found) (tt, is))
    (λ e1. choice (Says h t l) (bytes_eq t (codes "barrier")) _ _ (Ok l) e1
    (λ is found. subst (Says h t) (ok_is lines.Barrier l found) (tt, (bytes_eq-Decides t (codes "barrier")).0 is))
    (λ rest. subst (λ x. Says h x l) (tokens_joined 32 t) (op_line_is h (words_of t) l rest)))

-- ---- what is spelled so is read

data_again : (d : Data) → IsData d → data_of (data_text d) ≡ Ok d
data_again (Text bytes) h = rw (h.0, le-leb (length bytes) TRANSFER_LIMIT h.1) refl
data_again (Pattern seed len) h =
    let lt : len < 2 ^ 64 = omega (arith, h.1) in
    let two : tokens 58 (decimal seed ++ (58 ∷ decimal len)) ≡ decimal seed ∷ decimal len ∷ [] =
    tokens_again 58 (decimal seed) (decimal len ∷ []) (is_word-decimal 58 seed refl h.0) (is_word-decimal 58 len refl lt, tt) in
    ap data_of (pattern_text seed len) ∙ ap pattern_of two
    ∙ rw (text_is_number seed h.0, text_is_number len lt, le-leb len TRANSFER_LIMIT h.1) refl

read_again : (own : Bool) (off len : ℕ) (p : List ℕ) → IsPath p → IsOp (ops.Read off len own)
    → read_of own (p ∷ decimal off ∷ decimal len ∷ []) ≡ Ok (p, ops.Read off len own)
read_again own off len p path i =
    let lt : len < 2 ^ 64 = omega (arith, i.1) in
    rw (path, text_is_number off i.0, text_is_number len lt, le-leb len TRANSFER_LIMIT i.1) refl

op_again : (o : Op) (p : List ℕ) → IsPath p → IsOp o → op_of_words (op_words o p) ≡ Ok (p, o)
op_again ops.Create p path i = rw path refl
op_again ops.Open p path i = rw path refl
op_again ops.Size p path i = rw path refl
op_again (ops.Write off text) p path i = rw (path, text_is_number off i.0, data_again text i.1) refl
op_again ops.Sync p path i = rw path refl
op_again (ops.Read off len false) p path i = read_again false off len p path i
op_again (ops.Read off len true) p path i = read_again true off len p path i
op_again (ops.Trunc n) p path i =
    let lt : n < 2 ^ 64 = omega (arith, i) in
    rw (path, text_is_number n lt, le-leb n LONGEST_FILE i) refl
op_again ops.Laminate p path i = rw path refl
op_again ops.Unlink p path i = rw path refl

data_is_word : (d : Data) → IsData d → IsWord 32 (data_text d)
data_is_word (Text bytes) h = is_word-append 32 (codes "t:") bytes refl (is_word-text bytes h.0)
data_is_word (Pattern seed len) h =
    subst (IsWord 32) (sym (pattern_text seed len))
    (is_word-append 32 (codes "p:") (decimal seed ++ (58 ∷ decimal len)) refl
    (is_word-append 32 (decimal seed) (58 ∷ decimal len) (is_word-decimal 32 seed refl h.0)
    (is_word-append 32 (58 ∷ []) (decimal len) refl (is_word-decimal 32 len refl (omega (arith, h.1))))))

is_word-read_word : (own : Bool) → IsWord 32 (read_word own)
is_word-read_word false = refl
is_word-read_word true = refl

words_fit : (o : Op) (p : List ℕ) → IsOp o → IsWord 32 p → AllByRecursion (IsWord 32) (op_words o p)
words_fit ops.Create p i w = (refl, (w, tt))
words_fit ops.Open p i w = (refl, (w, tt))
words_fit ops.Size p i w = (refl, (w, tt))
words_fit (ops.Write off text) p i w = (refl, (w, (is_word-decimal 32 off refl i.0, (data_is_word text i.1, tt))))
words_fit ops.Sync p i w = (refl, (w, tt))
words_fit (ops.Read off len own) p i w =
    (is_word-read_word own, (w, (is_word-decimal 32 off refl i.0, (is_word-decimal 32 len refl (omega (arith, i.1)), tt))))
words_fit (ops.Trunc n) p i w = (refl, (w, (is_word-decimal 32 n refl (omega (arith, i)), tt)))
words_fit ops.Laminate p i w = (refl, (w, tt))
words_fit ops.Unlink p i w = (refl, (w, tt))

-- a text that begins with a digit is no note and no barrier
digit_first : (h : Shape) (w rest : List ℕ) → all_ascii_digits w ≡ true → 0 < length w
    → line_of h (w ++ rest) ≡ op_line_of h (words_of (w ++ rest))
digit_first h [] rest e lt = absurd (omega arith)
digit_first h (b ∷ w) rest e lt =
    let note : (b == 35) ≡ false = grind (arith, nat_tests) in
    let barrier : (b == 98) ≡ false = grind (arith, nat_tests) in
    rw (note, barrier) refl

rank_first : (r : List ℕ) (o : Op) (p : List ℕ) → join_with_byte 32 (r ∷ op_words o p) ≡ r ++ (32 ∷ join_with_byte 32 (op_words o p))
rank_first r ops.Create p = refl
rank_first r ops.Open p = refl
rank_first r ops.Size p = refl
rank_first r (ops.Write off text) p = refl
rank_first r ops.Sync p = refl
rank_first r (ops.Read off len false) p = refl
rank_first r (ops.Read off len true) p = refl
rank_first r (ops.Trunc n) p = refl
rank_first r ops.Laminate p = refl
rank_first r ops.Unlink p = refl

op_line_again : (h : Shape) (o : OpLine) → h.clients < 2 ^ 64 → IsOpLine h o → line_of h (op_text o) ≡ Ok (lines.Op o)
op_line_again h o few i =
    let lt : o.rank < 2 ^ 64 = omega (arith, i.rank) in
    let words : words_of (op_text o) ≡ decimal o.rank ∷ op_words o.op o.path =
    tokens_again 32 (decimal o.rank) (op_words o.op o.path) (is_word-decimal 32 o.rank refl lt)
    (words_fit o.op o.path i.op (is_word-path o.path i.path)) in
    let first = rank_first (decimal o.rank) o.op o.path in
    let begins = digit_first h (decimal o.rank) (32 ∷ join_with_byte 32 (op_words o.op o.path))
    (digits_decimal numerals o.rank lt) (decimal_nonempty o.rank lt) in
    let op : line_of h (op_text o) ≡ op_line_of h (words_of (op_text o)) = rw (first) begins in
    op ∙ ap (op_line_of h) words
    ∙ rw (text_is_number o.rank lt, lt-ltb o.rank h.clients i.rank, op_again o.op o.path i.path i.op) refl

-- a line that is spelled so is read
pub text_is_line : (h : Shape) (l : Line) (t : List ℕ) → h.clients < 2 ^ 64 → IsLine h l → IsTextOf l t → line_of h t ≡ Ok l
text_is_line h lines.Note t few is s = rw s refl
text_is_line h lines.Barrier t few is s = ap (line_of h) s
text_is_line h (lines.Op o) t few is s = ap (line_of h) s ∙ op_line_again h o few is
