-- The runs of some marks have these marks and no others, and none goes on where the next one begins.
use Rattle.fs_types.proofs.Common.{◌≡◌, ℕ, zero, suc, ◌+◌, ◌-◌, ◌<◌, ◌≤◌, true, ◌&&◌, ◌==◌, List, [], ◌∷◌, get_or}
use Rattle.fs_types.proofs.Common.{Option, Some, None, ◌⊎◌, inl, inr, refl, sym, ap, ◌∙◌, arith, nat_tests, cond_both, cases_lt, and_parts}
use Rattle.fs_types.proofs.Common.{eqb-true}
use Rattle.fs_types.specs.Fragments.{piece_eq, end_of}
use Rattle.fs_types.specs.Marks.{Mark}
use Rattle.fs_types.specs.Pieces.{Fragment}
use Rattle.fs_types.specs.FragmentMarks.{mark_at, mark_within}
use Rattle.fs_script.specs.Runs.{byte_run, goes_on, with_run, runs_from, runs, AreMaximal}
use Rattle.fs_script.proofs.PiecesOnce.{same_piece}

-- ---- the first run

pub first_within : (f : Fragment) (fs : List Fragment) (k : ℕ) → f.at ≤ k → k < end_of f → mark_at (f ∷ fs) k ≡ Some (mark_within f k)
first_within f fs k from to = grind (arith, nat_tests)

pub first_outside : (f : Fragment) (fs : List Fragment) (k : ℕ) → (k < f.at) ⊎ (end_of f ≤ k) → mark_at (f ∷ fs) k ≡ mark_at fs k
first_outside f fs k (inl before) = grind (arith, nat_tests)
first_outside f fs k (inr past) = grind (arith, nat_tests)

-- two runs of which the first goes on in the second, as one
abbrev pub joined : Fragment → Fragment → Fragment
joined f g = record { at = f.at; len = f.len + g.len; piece = f.piece; from = f.from }

pub record GoesOn (f g : Fragment) : Type 0 where
  pub at : g.at ≡ end_of f
  pub piece : g.piece ≡ f.piece
  pub from : g.from ≡ f.from + f.len

pub GoesOn-from : (f g : Fragment) → goes_on f g ≡ true → GoesOn f g
GoesOn-from f g on =
    let both = and_parts (g.at == end_of f && piece_eq g.piece f.piece) (g.from == f.from + f.len) on in
    let first = and_parts (g.at == end_of f) (piece_eq g.piece f.piece) both.0 in
    record {
      at = eqb-true g.at (end_of f) first.0;
      piece = same_piece g.piece f.piece first.1;
      from = eqb-true g.from (f.from + f.len) both.1;
    }

-- past the end of the first its marks are those of the second
same_mark : (f g : Fragment) (k : ℕ) → GoesOn f g → end_of f ≤ k → mark_within f k ≡ mark_within g k
same_mark f g k on past =
    let place : f.from + (k - f.at) ≡ g.from + (k - g.at) = omega (arith, on.from, on.at) in
    let piece = sym on.piece in
    λ i. record { line = (piece i).line; part = (piece i).part; place = place i }

-- ---- a run before others

with_run-within : (f : Fragment) (gs : List Fragment) (k : ℕ) → f.at ≤ k → k < end_of f
    → mark_at (with_run f gs) k ≡ Some (mark_within f k)
with_run-within f [] k from to = first_within f [] k from to
with_run-within f (g ∷ gs) k from to =
    cond_both (goes_on f g) (joined f g ∷ gs) (f ∷ g ∷ gs) (λ fs. mark_at fs k ≡ Some (mark_within f k))
    (λ _. first_within (joined f g) gs k from (omega arith)) (λ _. first_within f (g ∷ gs) k from to)

joined-outside : (f g : Fragment) (gs : List Fragment) (k : ℕ) → GoesOn f g → (k < f.at) ⊎ (end_of f ≤ k)
    → mark_at (joined f g ∷ gs) k ≡ mark_at (g ∷ gs) k
joined-outside f g gs k on (inl before) =
    first_outside (joined f g) gs k (inl before) ∙ sym (first_outside g gs k (inl (omega (arith, on.at))))
joined-outside f g gs k on (inr past) = elim (cases_lt k (end_of (joined f g))) [
  | inl to ↦
      first_within (joined f g) gs k (omega arith) to ∙ ap Some (same_mark f g k on past)
      ∙ sym (first_within g gs k (omega (arith, on.at)) (omega (arith, on.at)))
  | inr beyond ↦ first_outside (joined f g) gs k (inr beyond) ∙ sym (first_outside g gs k (inr (omega (arith, on.at))))
]

with_run-outside : (f : Fragment) (gs : List Fragment) (k : ℕ) → (k < f.at) ⊎ (end_of f ≤ k)
    → mark_at (with_run f gs) k ≡ mark_at gs k
with_run-outside f [] k out = first_outside f [] k out
with_run-outside f (g ∷ gs) k out =
    cond_both (goes_on f g) (joined f g ∷ gs) (f ∷ g ∷ gs) (λ fs. mark_at fs k ≡ mark_at (g ∷ gs) k)
    (λ on. joined-outside f g gs k (GoesOn-from f g on) out) (λ _. first_outside f (g ∷ gs) k out)

-- ---- the marks of runs

before_runs : (at : ℕ) (marks : List (Option Mark)) (k : ℕ) → k < at → mark_at (runs_from at marks) k ≡ None
before_runs at [] k before = refl
before_runs at (None ∷ marks) k before = before_runs (at + 1) marks k (omega arith)
before_runs at (Some m ∷ marks) k before =
    with_run-outside (byte_run at m) (runs_from (at + 1) marks) k (inl before) ∙ before_runs (at + 1) marks k (omega arith)

mark_at-from : (at : ℕ) (marks : List (Option Mark)) (k j : ℕ) → j ≡ at + k → mark_at (runs_from at marks) j ≡ get_or marks k None
mark_at-from at [] k j is = refl
mark_at-from at (None ∷ marks) zero j is = before_runs (at + 1) marks j (omega (arith, is))
mark_at-from at (None ∷ marks) (suc k) j is = mark_at-from (at + 1) marks k j (omega (arith, is))
mark_at-from at (Some m ∷ marks) zero j is =
    let place : m.place + (j - at) ≡ m.place = omega (arith, is) in
    with_run-within (byte_run at m) (runs_from (at + 1) marks) j (omega (arith, is)) (omega (arith, is))
    ∙ ap (λ p. Some (record { line = m.line; part = m.part; place = p })) place
mark_at-from at (Some m ∷ marks) (suc k) j is =
    with_run-outside (byte_run at m) (runs_from (at + 1) marks) j (inr (omega (arith, is)))
    ∙ mark_at-from (at + 1) marks k j (omega (arith, is))

-- at each place the runs have the mark that stands there
pub mark_at-of : (marks : List (Option Mark)) (k : ℕ) → mark_at (runs marks) k ≡ get_or marks k None
mark_at-of marks k = mark_at-from 0 marks k k (omega arith)

-- ---- each is as long as it can be

-- what goes on the second goes on both as one
goes_on-joined : (f g h : Fragment) → GoesOn f g → goes_on (joined f g) h ≡ goes_on g h
goes_on-joined f g h on =
    let ends : end_of (joined f g) ≡ end_of g = omega (arith, on.at) in
    let froms : f.from + (f.len + g.len) ≡ g.from + g.len = omega (arith, on.from) in
    let piece = sym on.piece in
    λ i. h.at == ends i && piece_eq h.piece (piece i) && h.from == froms i

AreMaximal-joined : (f g : Fragment) (gs : List Fragment) → GoesOn f g → AreMaximal (g ∷ gs) → AreMaximal (joined f g ∷ gs)
AreMaximal-joined f g [] on all = tt
AreMaximal-joined f g (h ∷ gs) on all = (goes_on-joined f g h on ∙ all.0, all.1)

AreMaximal-with_run : (f : Fragment) (gs : List Fragment) → AreMaximal gs → AreMaximal (with_run f gs)
AreMaximal-with_run f [] all = tt
AreMaximal-with_run f (g ∷ gs) all = cond_both (goes_on f g) (joined f g ∷ gs) (f ∷ g ∷ gs) AreMaximal
    (λ on. AreMaximal-joined f g gs (GoesOn-from f g on) all) (λ apart. (apart, all))

AreMaximal-runs_from : (at : ℕ) (marks : List (Option Mark)) → AreMaximal (runs_from at marks)
AreMaximal-runs_from at [] = tt
AreMaximal-runs_from at (None ∷ marks) = AreMaximal-runs_from (at + 1) marks
AreMaximal-runs_from at (Some m ∷ marks) =
    AreMaximal-with_run (byte_run at m) (runs_from (at + 1) marks) (AreMaximal-runs_from (at + 1) marks)

pub AreMaximal-runs : (marks : List (Option Mark)) → AreMaximal (runs marks)
AreMaximal-runs marks = AreMaximal-runs_from 0 marks
