-- Numerals are the decimal texts of the numbers below 2 ^ 64.
use Rattle.std.proofs.Common.{◌≡◌, ℕ, zero, suc, lit<, ◌^◌, ◌<◌, ◌==◌, Bool, true, false, ◌&&◌, ◌||◌, not, nat_lt, List, length, get_or, Some, refl, sym, ap, ◌∙◌, arith}
use Rattle.std.specs.Fmt.{decimal}
use Rattle.std.specs.Str.{all_ascii_digits}
use Rattle.std.specs.Str.Parse.{digits_value}
use Rattle.std.proofs.lemmas.Bool.{and_parts}
use Rattle.std.proofs.lemmas.Option.{cond_some}
use Rattle.std.proofs.lemmas.Bool.Decides.{nat_tests, Decides-eqb}
use Rattle.std.proofs.lemmas.Fmt.{digits_decimal, digits_value-decimal, decimal-digits_value, decimal_digit, decimal_nonempty, first_decimal}
use Rattle.fs_script.specs.Reading.Numbers.{is_numeral, number_of}
use Rattle.fs_script.proofs.Number.{own, number_is}

pub record IsNumber (w : List ℕ) (n : ℕ) : Type 0 where
  pub below : n < 2 ^ 64
  pub text : w ≡ decimal n

-- the parts of a test that gave a number
record Numeral (w : List ℕ) (n : ℕ) : Type 0 where
  digits : all_ascii_digits w ≡ true
  some : 0 < length w
  plain : get_or w 0 0 ≡ 48 → length w ≡ 1
  below : digits_value 10 w < 2 ^ 64
  value : digits_value 10 w ≡ n

first_is_plain : (one zero_first : Bool) (P Q : Type 0) → (one ≡ true → P) → (Q → zero_first ≡ true) → (one || not zero_first) ≡ true → Q → P
first_is_plain true z P Q p q e h = p refl
first_is_plain false true P Q p q e h = absurd cc
first_is_plain false false P Q p q e h = absurd (cc (q h))

numeral_parts : (w : List ℕ) (n : ℕ) → number_of w ≡ Some n → Numeral w n
numeral_parts w n e =
    let g = cond_some (is_numeral w && nat_lt (digits_value 10 w) (2 ^ 64)) (digits_value 10 w) n e in
    let a = and_parts (is_numeral w) (nat_lt (digits_value 10 w) (2 ^ 64)) g.0 in
    let b = and_parts _ _ a.0 in
    let c = and_parts _ _ b.0 in
    let lt : digits_value 10 w < 2 ^ 64 = grind (arith, nat_tests, a.1) in
    let some : 0 < length w = grind (arith, nat_tests, c.1) in
    record {
      digits = c.0;
      some = some;
      plain = first_is_plain (length w == 1) (get_or w 0 0 == 48) (length w ≡ 1) (get_or w 0 0 ≡ 48) (Decides-eqb (length w) 1).0 (Decides-eqb (get_or w 0 0) 48).1 b.1;
      below = lt;
      value = g.1;
    }

-- a word that gives a number is its text
pub number_is_text : (w : List ℕ) (n : ℕ) → number_of w ≡ Some n → IsNumber w n
number_is_text w n e =
    let p = numeral_parts w n e in
    record {
      below = omega (arith, p.below, p.value);
      text = sym (decimal-digits_value own w p.digits p.some p.plain p.below) ∙ ap decimal p.value;
    }

not_zero_first : (one : Bool) (first : ℕ) → 48 < first → (one || not (first == 48)) ≡ true
not_zero_first one first lt = grind (arith, nat_tests)

is_plain : (n : ℕ) → n < 2 ^ 64 → (length (decimal n) == 1 || not (get_or (decimal n) 0 0 == 48)) ≡ true
is_plain zero lt = rw (decimal_digit 0 (lit< tt)) refl
is_plain (suc n) lt = not_zero_first (length (decimal (suc n)) == 1) (get_or (decimal (suc n)) 0 0) (first_decimal (suc n) (omega arith) lt)

-- the text of a number gives the number
pub text_is_number : (n : ℕ) → n < 2 ^ 64 → number_of (decimal n) ≡ Some n
text_is_number n lt =
    let digits : all_ascii_digits (decimal n) ≡ true = digits_decimal own n lt in
    let value : digits_value 10 (decimal n) ≡ n = digits_value-decimal own n lt in
    let some : nat_lt 0 (length (decimal n)) ≡ true = grind (arith, nat_tests, decimal_nonempty n lt) in
    let numeral : is_numeral (decimal n) ≡ true = rw (digits, some, is_plain n lt) refl in
    number_is (decimal n) numeral (omega (arith, value)) ∙ ap Some value
