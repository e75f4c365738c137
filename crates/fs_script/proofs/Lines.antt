-- The tokens and the lines of a text, one after the other.
use Rattle.std.proofs.Common.{◌≡◌, ℕ, ◌+◌, ◌<◌, ◌≤◌, ◌==◌, Bool, false, List, [], ◌∷◌, length, take, drop, Some, None, refl, sym, ap, ◌∙◌, arith, ◌++◌, Result, Ok, Err, append_assoc, length-append}
use Rattle.std.specs.List.{position, position_or_len, All}
use Rattle.std.proofs.lemmas.List.Splits.{slice_split_first, slice_split_none, length-slice_split}
use Rattle.std.proofs.lemmas.List.Sums.{fails_before_first}
use Rattle.std.proofs.lemmas.Bool.Decides.{nat_tests}
use Rattle.fs_script.specs.declared.line.Line.{Line}
use Rattle.fs_script.specs.declared.fault.ScriptFault.{ScriptFault}
use Rattle.fs_script.specs.declared.shape.Shape.{Shape}
use Rattle.fs_script.specs.Reading.Steps.{◌>>=◌}
use Rattle.fs_script.specs.Reading.Tokens.{tokens, without_empty_end, lines_of}
use Rattle.fs_script.specs.Reading.Lines.{line_of}
use Rattle.fs_script.specs.Reading.Scripts.{numbered, lines_from}

-- ---- tokens

abbrev is_at : ℕ → ℕ → Bool
is_at c b = b == c

some_position : (c : ℕ) (bs : List ℕ) (i : ℕ) → position (is_at c) bs ≡ Some i → (i ≡ position_or_len (is_at c) bs) × (i < length bs)
some_position c bs i e = grind (arith, nat_tests)

no_position : (c : ℕ) (bs : List ℕ) → position (is_at c) bs ≡ None → length bs ≤ position_or_len (is_at c) bs
no_position c bs e = grind (arith, nat_tests)

pub record IsFirstToken (c : ℕ) (bs : List ℕ) (i : ℕ) : Type 0 where
  pub tokens : tokens c bs ≡ take i bs ∷ tokens c (drop (i + 1) bs)
  pub within : i < length bs

pub first_token : (c : ℕ) (bs : List ℕ) (i : ℕ) → position (is_at c) bs ≡ Some i → IsFirstToken c bs i
first_token c bs i e =
    let p = some_position c bs i e in
    let n = position_or_len (is_at c) bs in
    let first : tokens c bs ≡ take n bs ∷ tokens c (drop (n + 1) bs) = slice_split_first (is_at c) bs 0 (rw (← p.0) p.1) in
    record { tokens = rw p.0 first; within = p.1 }

pub last_token : (c : ℕ) (bs : List ℕ) → position (is_at c) bs ≡ None → tokens c bs ≡ bs ∷ []
last_token c bs e =
    let none : All (λ x. is_at c x ≡ false) bs = λ k d below. fails_before_first (is_at c) bs k d (omega (arith, no_position c bs e)) in
    slice_split_none (is_at c) bs none

-- ---- lines

keeps_end : (l : List ℕ) (ls : List (List ℕ)) → 0 < length ls → without_empty_end (l ∷ ls) ≡ l ∷ without_empty_end ls
keeps_end l [] lt = absurd (omega arith)
keeps_end l (m ∷ ls) lt = refl

pub first_line : (bs : List ℕ) (i : ℕ) → position (is_at 10) bs ≡ Some i → lines_of bs ≡ take i bs ∷ lines_of (drop (i + 1) bs)
first_line bs i e =
    let rest = drop (i + 1) bs in
    let some : 0 < length (tokens 10 rest) = omega (arith, length-slice_split (is_at 10) rest) in
    ap without_empty_end (first_token 10 bs i e).tokens ∙ keeps_end (take i bs) (tokens 10 rest) some

no_empty_end : (l : List ℕ) → 0 < length l → without_empty_end (l ∷ []) ≡ l ∷ []
no_empty_end l lt = grind (arith, nat_tests)

pub last_line : (bs : List ℕ) → position (is_at 10) bs ≡ None → 0 < length bs → lines_of bs ≡ bs ∷ []
last_line bs e lt = ap without_empty_end (last_token 10 bs e) ∙ no_empty_end bs lt

-- ---- the lines that were read before, and those that are still read

abbrev pub with_front : List Line → Result (List Line) ScriptFault → Result (List Line) ScriptFault
with_front front read = read >>= λ ls. Ok (front ++ ls)

regroup : (front : List Line) (l : Line) (rest : Result (List Line) ScriptFault)
    → with_front front (rest >>= λ ls. Ok (l ∷ ls)) ≡ with_front (front ++ l ∷ []) rest
regroup front l (Ok ls) = ap Ok (sym (append_assoc front (l ∷ []) ls))
regroup front l (Err f) = refl

module _ (h : Shape) (front : List Line) (t : List ℕ) (ts : List (List ℕ)) (total : Result (List Line) ScriptFault)
    (so_far : with_front front (lines_from h (length front + 2) (t ∷ ts)) ≡ total) where
  -- one more line was read
  pub goes_on : (new : List Line) (l : Line) → numbered (length front + 2) (line_of h t) ≡ Ok l → new ≡ front ++ l ∷ []
      → with_front new (lines_from h (length new + 2) ts) ≡ total
  goes_on new l found is =
      let count : length new + 2 ≡ length front + 2 + 1 = omega (arith, ap length is, length-append front (l ∷ [])) in
      let one : with_front front (lines_from h (length front + 2) (t ∷ ts))
      ≡ with_front (front ++ l ∷ []) (lines_from h (length front + 2 + 1) ts) =
      rw found (regroup front l (lines_from h (length front + 2 + 1) ts)) in
      rw (count, is) (sym one ∙ so_far)

  -- a faulty line ends it
  pub ends : (f : ScriptFault) → numbered (length front + 2) (line_of h t) ≡ Err f → total ≡ Err f
  ends f found =
      let one : with_front front (lines_from h (length front + 2) (t ∷ ts)) ≡ Err f = rw found refl in
      sym so_far ∙ one
