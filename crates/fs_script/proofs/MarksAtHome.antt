-- Each mark in a file stands where its line wrote the byte that it is of.
use Rattle.std.proofs.Math.Nat.{mod-lt}
use Rattle.std.proofs.lemmas.Nat.{div-add-mod'}
use Rattle.fs_script.proofs.PutLines.{writes_at, home_mark, get_or-written}
use Rattle.fs_script.specs.Vocabulary.{Mark, mark_of, LONGEST_FILE, put_lines, Job, marks_at, marks_put, cells_of, IsAtHome, offset}
use Rattle.fs_script.specs.Vocabulary.{payload, marks_in, Answering, pending_at}
use Rattle.fs_types.proofs.Common.{◌≡◌, [], arith, None, ◌-◌, ◌<◌, length, ◌+◌, ◌≤◌, ltb, leb, List, ◌∷◌, drop, get_or, ◌&&◌, Option, Some}
use Rattle.fs_types.proofs.Common.{sym, subst, nat_le, ◌/◌, ◌%◌, IfSome, ◌*◌, ltb-true, cond_both, leb-true, and_parts, length-take}
use Rattle.fs_types.proofs.Common.{length-drop, ℕ}
use Rattle.fs_script.proofs.FileCells.{holds-state_in}
use Rattle.fs_types.specs.Overwrite.{cut}
use Rattle.fs_types.proofs.CallerLemmas.{get_or-cut_anywhere}

module _ (s : Job) (some : 0 < s.shape.chunk) where
  -- each of these marks stands there
  abbrev AreAtHome : List (Option Mark) → Type 0
  AreAtHome marks = (k : ℕ) → IfSome (get_or marks k None) (λ m. IsAtHome s k m)

  IsAtHome-byte : (n k : ℕ) → offset s n ≤ k → k < offset s n + length (payload s n)
      → IsAtHome s k (mark_of s.shape.chunk n (k - offset s n))
  IsAtHome-byte n k from to =
      let chunk = s.shape.chunk in
      let i = k - offset s n in
      let p = i / chunk in
      let whole : p * chunk + i % chunk ≡ i = div-add-mod' i chunk in
      let size = length-take chunk (drop (p * chunk) (payload s n)) in
      let rest = length-drop (p * chunk) (payload s n) in
      let below : i % chunk < chunk = mod-lt i some in
      record { place = omega (arith, whole); byte = omega (arith, whole, size, rest, below) }

  AreAtHome-line : (n : ℕ) (marks : List (Option Mark)) → AreAtHome marks → AreAtHome (put_lines s (marks_in s) (n ∷ []) marks)
  AreAtHome-line n marks all k =
      let inside = leb (offset s n) k && ltb k (offset s n + length (payload s n)) in
      subst (λ m. IfSome m (λ x. IsAtHome s k x)) (sym (get_or-written s n marks k))
      (cond_both (writes_at s n k) (home_mark s n k) (get_or marks k None) (λ m. IfSome m (λ x. IsAtHome s k x))
      (λ writes.
      let within = and_parts (nat_le (offset s n + length (payload s n)) LONGEST_FILE) inside writes in
      let sides = and_parts (leb (offset s n) k) (ltb k (offset s n + length (payload s n))) within.1 in
      IsAtHome-byte n k (leb-true (offset s n) k sides.0) (ltb-true k (offset s n + length (payload s n)) sides.1))
      (λ _. all k))

  AreAtHome-put_lines : (ns : List ℕ) (marks : List (Option Mark)) → AreAtHome marks → AreAtHome (put_lines s (marks_in s) ns marks)
  AreAtHome-put_lines [] marks all = all
  AreAtHome-put_lines (n ∷ ns) marks all =
      AreAtHome-put_lines ns (put_lines s (marks_in s) (n ∷ []) marks) (AreAtHome-line n marks all)

  AreAtHome-cut : (n : ℕ) (marks : List (Option Mark)) → AreAtHome marks → AreAtHome (cut None marks n)
  AreAtHome-cut n marks all k =
      subst (λ m. IfSome m (λ x. IsAtHome s k x)) (sym (get_or-cut_anywhere None marks n k))
      (cond_both (ltb k n) (get_or marks k None) None (λ m. IfSome m (λ x. IsAtHome s k x)) (λ _. all k) (λ _. tt))

  -- in what lines make of an empty file
  pub IsAtHome-marks_put : (ns : List ℕ) (k : ℕ) (m : Mark) → get_or (marks_put s ns) k None ≡ Some m → IsAtHome s k m
  IsAtHome-marks_put ns k m is = subst (λ x. IfSome x (λ y. IsAtHome s k y)) is (AreAtHome-put_lines ns [] (λ i. tt) k)

  -- and in the file at each version of a journal
  pub IsAtHome-marks_at : (A : Answering) (J : List ℕ) (v k : ℕ) (m : Mark) → get_or (cells_of (marks_at s A J v)) k None ≡ Some m
      → IsAtHome s k m
  IsAtHome-marks_at A J v k m is = subst (λ x. IfSome x (λ y. IsAtHome s k y)) is
      (holds-state_in AreAtHome s (marks_in s) (λ i. tt) A (λ n. AreAtHome-put_lines (pending_at s A n))
      (λ n l m at is. AreAtHome-cut m) J v k)
