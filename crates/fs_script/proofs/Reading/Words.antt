-- Words without spaces, and the lines that they make.
use Rattle.std.proofs.Common.{◌≡◌, ℕ, ◌^◌, ◌<◌, ◌==◌, Bool, true, false, ◌&&◌, not, cond, List, [], ◌∷◌, ◌++◌, drop, Some, refl, sym, ap, ◌∙◌, arith}
use Rattle.std.specs.Prelude.{nat_eq}
use Rattle.std.specs.List.{list_all, slice_split, onto_first, join_with_byte, All, AllByRecursion, starts_with}
use Rattle.std.specs.Bool.{Decides}
use Rattle.std.specs.Char.{is_ascii_digit}
use Rattle.std.specs.Fmt.{decimal}
use Rattle.std.proofs.lemmas.Bool.{and_from, and_parts, eq-eqb}
use Rattle.std.proofs.lemmas.Bool.Decides.{nat_tests, Decides-eqb, Decides-by_and}
use Rattle.std.proofs.lemmas.Fmt.{digits_decimal}
use Rattle.std.proofs.lemmas.Slice.Eq.{starts_is}
use Rattle.std.proofs.lemmas.List.Folds.{list_all-append}
use Rattle.std.proofs.lemmas.List.Splits.{slice_split_at, slice_split_none, join_with_byte-slice_split}
use Rattle.fs_types.specs.PathText.{is_path, is_component, is_name_character, between_slashes, mount_point}
use Rattle.fs_script.specs.TextBytes.{is_text_byte}
use Rattle.fs_script.specs.Reading.Tokens.{tokens, one_token, two_tokens, three_tokens}
use Rattle.fs_script.proofs.Number.{own, all_ascii_digits_is}

-- it isn't the byte that parts words
abbrev pub is_word_byte : ℕ → ℕ → Bool
is_word_byte c b = not (b == c)

-- a text without that byte
abbrev pub IsWord : ℕ → List ℕ → Type 0
IsWord c w = list_all (is_word_byte c) w ≡ true

list_all-weaker : (p q : ℕ → Bool) → ((b : ℕ) → p b ≡ true → q b ≡ true) → (w : List ℕ) → list_all p w ≡ true → list_all q w ≡ true
list_all-weaker p q h [] e = refl
list_all-weaker p q h (b ∷ w) e =
    let s = and_parts (p b) (list_all p w) e in
    and_from (q b) (list_all q w) (h b s.0) (list_all-weaker p q h w s.1)

pub is_word-append : (c : ℕ) (v w : List ℕ) → IsWord c v → IsWord c w → IsWord c (v ++ w)
is_word-append c v w a b = list_all-append (is_word_byte c) v w ∙ and_from _ _ a b

digit_is_word_byte : (c b : ℕ) → is_ascii_digit c ≡ false → is_ascii_digit b ≡ true → is_word_byte c b ≡ true
digit_is_word_byte c b other e = grind (arith, nat_tests)

pub is_word-decimal : (c n : ℕ) → is_ascii_digit c ≡ false → n < 2 ^ 64 → IsWord c (decimal n)
is_word-decimal c n other lt =
    let digits = sym (all_ascii_digits_is (decimal n)) ∙ digits_decimal own n lt in
    list_all-weaker is_ascii_digit (is_word_byte c) (λ b. digit_is_word_byte c b other) (decimal n) digits

text_byte_is_word_byte : (b : ℕ) → is_text_byte b ≡ true → is_word_byte 32 b ≡ true
text_byte_is_word_byte b e = grind (arith, nat_tests)

pub is_word-text : (w : List ℕ) → list_all is_text_byte w ≡ true → IsWord 32 w
is_word-text w e = list_all-weaker is_text_byte (is_word_byte 32) text_byte_is_word_byte w e

-- what the parts have, and each byte that parts them, the whole has
onto_first-all : (q : ℕ → Bool) (b : ℕ) (parts : List (List ℕ))
    → list_all (list_all q) (onto_first b parts) ≡ true → (q b ≡ true) × (list_all (list_all q) parts ≡ true)
onto_first-all q b [] e = ((and_parts _ _ (and_parts _ _ e).0).0, refl)
onto_first-all q b (part ∷ parts) e =
    let s = and_parts (q b && list_all q part) (list_all (list_all q) parts) e in
    let f = and_parts (q b) (list_all q part) s.0 in
    (f.0, and_from (list_all q part) (list_all (list_all q) parts) f.1 s.1)

parts_byte : (p q : ℕ → Bool) → ((b : ℕ) → p b ≡ true → q b ≡ true) → (b : ℕ) (w : List ℕ) (at : Bool) → p b ≡ at
    → (list_all (list_all q) (slice_split p w) ≡ true → list_all q w ≡ true)
    → list_all (list_all q) (cond at ([] ∷ slice_split p w) (onto_first b (slice_split p w))) ≡ true → list_all q (b ∷ w) ≡ true
parts_byte p q h b w true is rest e = and_from (q b) (list_all q w) (h b is) (rest e)
parts_byte p q h b w false is rest e =
    let s = onto_first-all q b (slice_split p w) e in
    and_from (q b) (list_all q w) s.0 (rest s.1)

parts_all : (p q : ℕ → Bool) → ((b : ℕ) → p b ≡ true → q b ≡ true) → (w : List ℕ)
    → list_all (list_all q) (slice_split p w) ≡ true → list_all q w ≡ true
parts_all p q h [] e = refl
parts_all p q h (b ∷ w) e = parts_byte p q h b w (p b) refl (parts_all p q h w) e

slash_is_word_byte : (b : ℕ) → (b == 47) ≡ true → is_word_byte 32 b ≡ true
slash_is_word_byte b e = grind (arith, nat_tests)

name_character_is_word_byte : (b : ℕ) → is_name_character b ≡ true → is_word_byte 32 b ≡ true
name_character_is_word_byte b e = grind (arith, nat_tests)

component_is_word : (c : List ℕ) → is_component c ≡ true → IsWord 32 c
component_is_word c e =
    list_all-weaker is_name_character (is_word_byte 32) name_character_is_word_byte c (and_parts _ _ (and_parts _ _ (and_parts _ _ e).0).0).1

components_are_words : (cs : List (List ℕ)) → list_all is_component cs ≡ true → list_all (list_all (is_word_byte 32)) cs ≡ true
components_are_words [] e = refl
components_are_words (c ∷ cs) e =
    let s = and_parts (is_component c) (list_all is_component cs) e in
    and_from (list_all (is_word_byte 32) c) (list_all (list_all (is_word_byte 32)) cs) (component_is_word c s.0) (components_are_words cs s.1)

pub is_word-path : (p : List ℕ) → is_path p ≡ true → IsWord 32 p
is_word-path p e =
    let parts = and_parts _ _ e in
    let begins = (and_parts _ _ parts.0).1 in
    let whole : p ≡ mount_point ++ drop 9 p = (starts_is Decides-eqb p mount_point (starts_with nat_eq p mount_point) refl).0 begins in
    let rest : IsWord 32 (drop 9 p) =
    parts_all (λ b. b == 47) (is_word_byte 32) slash_is_word_byte (drop 9 p) (components_are_words (between_slashes (drop 9 p)) parts.1) in
    let both : IsWord 32 (mount_point ++ drop 9 p) = is_word-append 32 mount_point (drop 9 p) refl rest in
    rw whole both

not_decides : (b : Bool) → Decides (not b) (b ≡ false)
not_decides true = (λ e. absurd cc, λ e. absurd cc)
not_decides false = (λ e. refl, λ e. refl)

none_parts : (c : ℕ) (w : List ℕ) → IsWord c w → All (λ b. (b == c) ≡ false) w
none_parts c w h =
    (Decides-by_and (is_word_byte c) (λ b. (b == c) ≡ false) (list_all (is_word_byte c))
    (λ b. not_decides (b == c)) refl (λ _ _. refl) w).0 h

-- a text is its tokens, with a byte between each two
pub tokens_joined : (c : ℕ) (text : List ℕ) → join_with_byte c (tokens c text) ≡ text
tokens_joined c text = join_with_byte-slice_split c text

-- words, joined, are the tokens again
pub tokens_again : (c : ℕ) (w : List ℕ) (ws : List (List ℕ)) → IsWord c w → AllByRecursion (IsWord c) ws
    → tokens c (join_with_byte c (w ∷ ws)) ≡ w ∷ ws
tokens_again c w [] a b = slice_split_none (λ b. b == c) w (none_parts c w a)
tokens_again c w (v ∷ vs) a b =
    slice_split_at (λ b. b == c) w c (join_with_byte c (v ∷ vs)) (none_parts c w a) (eq-eqb c c refl)
    ∙ ap (λ l. w ∷ l) (tokens_again c v vs b.0 b.1)

-- ---- so many tokens

pub one_is : (ws : List (List ℕ)) (x : List ℕ) → one_token ws ≡ Some x → ws ≡ x ∷ []
one_is [] x e = absurd cc
one_is (a ∷ []) x e = cc
one_is (a ∷ b ∷ ws) x e = absurd cc

pub two_are : (ws : List (List ℕ)) (x : List ℕ × List ℕ) → two_tokens ws ≡ Some x → ws ≡ x.0 ∷ x.1 ∷ []
two_are [] x e = absurd cc
two_are (a ∷ []) x e = absurd cc
two_are (a ∷ b ∷ []) x e = cc
two_are (a ∷ b ∷ c ∷ ws) x e = absurd cc

pub three_are : (ws : List (List ℕ)) (x : List ℕ × List ℕ × List ℕ) → three_tokens ws ≡ Some x → ws ≡ x.0 ∷ x.1 ∷ x.2 ∷ []
three_are [] x e = absurd cc
three_are (a ∷ []) x e = absurd cc
three_are (a ∷ b ∷ []) x e = absurd cc
three_are (a ∷ b ∷ c ∷ []) x e = cc
three_are (a ∷ b ∷ c ∷ d ∷ ws) x e = absurd cc
