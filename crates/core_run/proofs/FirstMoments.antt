-- A job has one first moment: the paths that it names are one list in byte order.
use Rattle.std.proofs.Common.{◌≡◌, ℕ, zero, suc, ◌<◌, true, List, [], ◌∷◌, length, map, Some, refl, sym, ap, ◌∙◌, arith}
use Rattle.std.proofs.Common.{◌⊎◌, inl, inr}
use Rattle.std.specs.Prelude.{slice_index_or}
use Rattle.std.specs.List.{AllByRecursion, Contains, slice_get}
use Rattle.std.proofs.Common.{Ordering, Less, Equal, Greater}
use Rattle.std.specs.Ordering.{ordering_reverse, nat_cmp, is_lt}
use Rattle.std.specs.Cmp.Lexicographic.{slice_cmp}
use Rattle.std.proofs.lemmas.Cmp.{nat_list_cmp_total}
use Rattle.std.proofs.lemmas.Option.{same_Some, slice_get_within, get_or_from_slice_get}
use Rattle.fs_script.specs.Job.{Job}
use Rattle.fs_script.specs.Report.{AreRising, ArePaths}
use Rattle.core_machine.specs.Moment.{Moment, IsFirst}
use Rattle.fs_script.proofs.CallerLemmas.{not_among}

-- ---- paths in byte order are one list

-- a path stands at some place
abbrev StandsIn : List (List ℕ) → List ℕ → Type 0
StandsIn ps p = (k : ℕ) × (slice_get ps k ≡ Some p)

place_of : (ps : List (List ℕ)) (k : ℕ) (p : List ℕ) → k < length ps → slice_index_or ps k p ≡ p → slice_get ps k ≡ Some p
place_of [] k p within is = absurd (omega arith)
place_of (q ∷ qs) zero p within is = ap Some is
place_of (q ∷ qs) (suc k) p within is = place_of qs k p (omega arith) is

StandsIn-from_Contains : (ps : List (List ℕ)) (p : List ℕ) → Contains ps p → StandsIn ps p
StandsIn-from_Contains ps p has = (has.0, place_of ps has.0 p has.1 has.2)

Contains-from_StandsIn : (ps : List (List ℕ)) (p : List ℕ) → StandsIn ps p → Contains ps p
Contains-from_StandsIn ps p at = (at.0, slice_get_within ps at.0 p at.1, get_or_from_slice_get ps at.0 p p at.1)

-- it is the first, or stands in the rest
first_or_later : (q : List ℕ) (qs : List (List ℕ)) (p : List ℕ) (k : ℕ) → slice_get (q ∷ qs) k ≡ Some p → (q ≡ p) ⊎ StandsIn qs p
first_or_later q qs p zero at = inl (same_Some q p at)
first_or_later q qs p (suc k) at = inr (k, at)

-- what is below each of a list is below the one at a place
below_at : (p : List ℕ) (qs : List (List ℕ)) (k : ℕ) (q : List ℕ) → AllByRecursion (λ r. is_lt (slice_cmp nat_cmp p r) ≡ true) qs
    → slice_get qs k ≡ Some q → is_lt (slice_cmp nat_cmp p q) ≡ true
below_at p [] k q below at = absurd cc
below_at p (r ∷ rs) zero q below at = ap (λ x. is_lt (slice_cmp nat_cmp p x)) (sym (same_Some r q at)) ∙ below.0
below_at p (r ∷ rs) (suc k) q below at = below_at p rs k q below.1 at

-- of two paths not each is below the other
not_both : (o u : Ordering) → o ≡ ordering_reverse u → is_lt o ≡ true → is_lt u ≡ true → ⊥
not_both o Less turned first second = cc (sym first ∙ ap is_lt turned)
not_both o Equal turned first second = cc second
not_both o Greater turned first second = cc second

-- two rising lists with the same paths begin with the same
same_first : (p q : List ℕ) (ps qs : List (List ℕ)) → AreRising (p ∷ ps) → AreRising (q ∷ qs)
    → (q ≡ p) ⊎ StandsIn qs p → (p ≡ q) ⊎ StandsIn ps q → p ≡ q
same_first p q ps qs rising others (inl same) there = sym same
same_first p q ps qs rising others (inr later) (inl same) = same
same_first p q ps qs rising others (inr later) (inr there) =
    absurd (not_both (slice_cmp nat_cmp p q) (slice_cmp nat_cmp q p) (nat_list_cmp_total.antisymm p q)
    (below_at p ps there.0 q rising.0 there.1) (below_at q qs later.0 p others.0 later.1))

-- what stands in the rest of the one stands in the rest of the other
later_in : (p q : List ℕ) (ps qs : List (List ℕ)) (r : List ℕ) (k : ℕ) → p ≡ q → AreRising (p ∷ ps) → slice_get ps k ≡ Some r
    → (q ≡ r) ⊎ StandsIn qs r → StandsIn qs r
later_in p q ps qs r k same rising at (inl is) = absurd (not_among p ps k rising.0 (at ∙ ap Some (sym (same ∙ is))))
later_in p q ps qs r k same rising at (inr later) = later

same_paths : (ps qs : List (List ℕ)) → AreRising ps → AreRising qs
    → ((p : List ℕ) → StandsIn ps p → StandsIn qs p) → ((p : List ℕ) → StandsIn qs p → StandsIn ps p) → ps ≡ qs
same_paths [] [] rising others there back = refl
same_paths [] (q ∷ qs) rising others there back = absurd (cc (back q (0, refl)).1)
same_paths (p ∷ ps) [] rising others there back = absurd (cc (there p (0, refl)).1)
same_paths (p ∷ ps) (q ∷ qs) rising others there back =
    let in_others : (r : List ℕ) (k : ℕ) → slice_get (p ∷ ps) k ≡ Some r → (q ≡ r) ⊎ StandsIn qs r =
    λ r k at. let other = there r (k, at) in first_or_later q qs r other.0 other.1 in
    let in_ours : (r : List ℕ) (k : ℕ) → slice_get (q ∷ qs) k ≡ Some r → (p ≡ r) ⊎ StandsIn ps r =
    λ r k at. let own = back r (k, at) in first_or_later p ps r own.0 own.1 in
    let same : p ≡ q = same_first p q ps qs rising others (in_others p 0 refl) (in_ours q 0 refl) in
    let rest : ps ≡ qs = same_paths ps qs rising.1 others.1
    (λ r at. later_in p q ps qs r at.0 same rising at.1 (in_others r (suc at.0) at.1))
    (λ r at. later_in q p qs ps r at.0 (sym same) others at.1 (in_ours r (suc at.0) at.1)) in
    ap (λ x. x ∷ ps) same ∙ ap (λ xs. q ∷ xs) rest

one_path_list : {s : Job} {ps qs : List (List ℕ)} → ArePaths s ps → ArePaths s qs → ps ≡ qs
one_path_list {ps = ps} {qs = qs} own other =
    same_paths ps qs own.rising other.rising
    (λ p at. StandsIn-from_Contains qs p (other.each p (own.named p (Contains-from_StandsIn ps p at))))
    (λ p at. StandsIn-from_Contains ps p (own.each p (other.named p (Contains-from_StandsIn qs p at))))

-- ---- and no journal has a line yet

-- journals without lines are their paths
without_lines : (js : List (List ℕ × List ℕ)) → AllByRecursion (λ j. j.1 ≡ []) js → js ≡ map (λ p. (p, [])) (map (λ j. j.0) js)
without_lines [] all = refl
without_lines (j ∷ js) all =
    ap (λ (line_list : List ℕ). (j.0, line_list) ∷ js) all.0 ∙ ap (λ ks. (j.0, []) ∷ ks) (without_lines js all.1)

-- moments with the same parts are one
same_parts : (m n : Moment) → m.job ≡ n.job → m.clients ≡ n.clients → m.answers ≡ n.answers → m.journals ≡ n.journals
    → m.logs ≡ n.logs → m.spent ≡ n.spent → m ≡ n
same_parts m n job clients answers journals logs spent =
    ap (λ x. record m { job = x }) job ∙ ap (λ x. record m { job = n.job; clients = x }) clients
    ∙ ap (λ x. record m { job = n.job; clients = n.clients; answers = x }) answers
    ∙ ap (λ x. record n { journals = x; logs = m.logs; spent = m.spent }) journals
    ∙ ap (λ x. record n { logs = x; spent = m.spent }) logs ∙ ap (λ x. record n { spent = x }) spent

pub one_first : (s : Job) (m n : Moment) → IsFirst s m → IsFirst s n → m ≡ n
one_first s m n first other =
    let paths = one_path_list first.paths other.paths in
    let journals = without_lines m.journals first.journals ∙ ap (map (λ p. (p, []))) paths ∙ sym (without_lines n.journals
    other.journals) in
    same_parts m n (first.job ∙ sym other.job) (first.clients ∙ sym other.clients) (first.answers ∙ sym other.answers)
    journals (first.logs ∙ sym other.logs) (first.spent ∙ sym other.spent)
