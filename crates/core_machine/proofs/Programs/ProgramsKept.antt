-- What is kept of the turns, where a client is ready and after its next line was answered.
use Rattle.fs_types.proofs.Common.{common_steps, ◌≡◌, ℕ, ◌+◌, ◌<◌, ◌≤◌, true, false, List, [], not, length, map, filter, get_or, Vec}
use Rattle.fs_types.proofs.Common.{Global, vec_capacity, Some, IsSome, is_some, slice_get, slice_index, Contains, refl, sym, ap, ◌∙◌, subst}
use Rattle.fs_types.proofs.Common.{inl, inr, arith, ◌==◌, slice_set, map-set_same, cases_eq, length-map, map-set, get_or-set_same}
use Rattle.fs_types.proofs.Common.{get_or-set_other, same_Some, slice_get_read, slice_get_within}
use Rattle.fs_script.specs.Vocabulary.{phase, program}
use Rattle.core_machine.specs.Vocabulary.{Program, Inside, Places, next_in, is_of_phase, going, IsInPhase, IsLeast, next_of, next_phases}
use Rattle.core_machine.specs.Vocabulary.{after_line, ArePrograms, places_of, IsKept}
use Rattle.core_machine.proofs.Programs.Going.{Goes, Goes-from_Contains, none-goes, IsInPhase-from_some}
use Rattle.core_machine.proofs.Programs.NextLines.{next_in-within, length-programs, lines-at, place-at, next_of-read, Goes-least}
use Rattle.core_machine.proofs.Programs.NextLines.{going-least, IsInPhase-least, IsInPhase-none}
use Rattle.core_machine.proofs.Programs.Advanced.{next_in-own, none_earlier-advanced, going-stays, going-leaves}

-- ---- a client that is ready

-- the turns w are kept as t, and in them client i, which is kept as r, is ready
pub record IsReady (t : Inside) (r : ℕ) (w : Places) (i : ℕ) : Type 0 where
  pub kept : IsKept t.script.now t.programs.items t.phase t.ready.items (vec_capacity t.ready)
  pub view : places_of t.script.now t.programs.items t.phase ≡ w
  pub rank : r ≡ i
  pub ready : Contains (going w) i

module _ {t : Inside} {r : ℕ} {w : Places} {i : ℕ} (ready : IsReady t r w i) where
  abbrev before : Places
  before = places_of t.script.now t.programs.items t.phase

  goes : (n : ℕ) × Goes before r n
  goes = grind (arith, common_steps, going, Goes-from_Contains)

  some-going : going before ≡ [] → ⊥
  some-going empty = (let none = ap length (ap going (sym ready.view) ∙ empty) in omega (arith, ready.ready.1))

  pub ready-within : r < length t.programs.items
  ready-within =
      let within = next_in-within before r goes.0 ready.kept.job goes.1.next in
      omega (arith, length-programs t.script.now t.programs.items ready.kept.programs)

  module _ (p : Program) (read : p ≡ get_or t.programs.items r p) where
    next-ready : next_of p ≡ Some goes.0
    next-ready = next_of-read t.script.now t.programs.items ready.kept.programs t.phase r p ready-within read ∙ goes.1.next

    pub some-next : IsSome (next_of p)
    some-next = ap is_some next-ready

    -- the line that its program gives
    pub line-ready : (m : ℕ) → next_of p ≡ Some m → (next_in w i ≡ Some m) × (phase w.job m ≡ w.phase)
    line-ready m next =
        let is = same_Some goes.0 m (sym next-ready ∙ next) in
        rw (← ready.view, ← ready.rank) (goes.1.next ∙ ap Some is, ap (phase t.script.now) (sym is) ∙ goes.1.of_phase)

-- ---- its next line was answered

-- by that its program p becomes q
pub record Advances (t : Inside) (r : ℕ) (w : Places) (i : ℕ) (p q : Program) : Type 0 where
  pub ready : IsReady t r w i
  pub read : p ≡ get_or t.programs.items r p
  pub answered : q ≡ record p { place = p.place + 1 }

module _ {t : Inside} {r : ℕ} {w : Places} {i : ℕ} {p q : Program} (advances : Advances t r w i p q) where
  abbrev new : List Program
  new = slice_set t.programs.items r q

  abbrev old : Places
  old = before advances.ready

  line : (n : ℕ) × Goes old r n
  line = goes advances.ready

  at : slice_get t.programs.items r ≡ Some p
  at = slice_get_read t.programs.items (length t.programs.items) r p refl (ready-within advances.ready) advances.read

  within : r < length old.places
  within = omega (arith, ready-within advances.ready, length-map t.programs.items (λ p. p.place))

  lines-same : q.lines.items ≡ p.lines.items
  lines-same = ap (λ (o : Program). o.lines.items) advances.answered

  place-new : q.place ≡ slice_index old.places r + 1
  place-new =
      let place = place-at t.script.now t.programs.items advances.ready.kept.programs r p at in
      ap (λ (o : Program). o.place) advances.answered ∙ ap (λ j. j + 1) (sym place)

  places-set : map (λ p. p.place) new ≡ slice_set old.places r (slice_index old.places r + 1)
  places-set = map-set (λ (o : Program). o.place) t.programs.items r q ∙ ap (slice_set old.places r) place-new

  pub places-new : map (λ p. p.place) new ≡ slice_set w.places i (slice_index w.places i + 1)
  places-new = rw (← advances.ready.view, ← advances.ready.rank) places-set

  pub are-new : ArePrograms t.script.now new
  are-new = grind (arith, common_steps, map-set_same, lines-same)

  new-is : places_of t.script.now new t.phase ≡ after_line old r
  new-is = ap (λ (xs : List ℕ). record { job = t.script.now; places = xs; phase = t.phase }) places-set

  within-new : (j : ℕ) → slice_index (map (λ p. p.place) new) j ≤ length (program t.script.now j)
  within-new j = elim (cases_eq j r) [
    | inl is ↦
        let own = get_or-set_same old.places r (slice_index old.places r + 1) 0 within in
        let more = slice_get_within (program t.script.now r) (slice_index old.places r) line.0 line.1.next in
        let now = ap (λ (xs : List ℕ). slice_index xs r) places-set in
        subst (λ o. slice_index (map (λ p. p.place) new) o ≤ length (program t.script.now o)) (sym is) (omega arith)
    | inr other ↦
        let same = get_or-set_other old.places r j (slice_index old.places r + 1) 0 other in
        let now = ap (λ (xs : List ℕ). slice_index xs j) places-set in
        omega (arith, advances.ready.kept.within j)
  ]

  next-new : next_in (after_line old r) r ≡ next_of q
  next-new =
      let lines = lines-same ∙ lines-at t.script.now t.programs.items advances.ready.kept.programs r p at in
      next_in-own old r within ∙ ap (slice_get (program t.script.now r)) (sym place-new)
      ∙ ap (λ (ls : List ℕ). slice_get ls q.place) (sym lines)

  none_earlier-new : (j m : ℕ) → next_in (places_of t.script.now new t.phase) j ≡ Some m → t.phase ≤ phase t.script.now m
  none_earlier-new =
      let after = none_earlier-advanced old r line.0 within line.1 advances.ready.kept.phase in
      subst (λ v. (j m : ℕ) → next_in v j ≡ Some m → t.phase ≤ phase t.script.now m) (sym new-is) after

  -- what is left to know are the clients that go, and that the run is in the phase
  IsKept-new : (k : ℕ) (rest : Vec ℕ Global) → rest.items ≡ going (places_of t.script.now new k) → vec_capacity t.ready ≤ vec_capacity rest
      → IsInPhase (places_of t.script.now new k) → IsKept t.script.now new k rest.items (vec_capacity rest)
  IsKept-new k rest ready enough in_phase = grind (arith, common_steps, are-new, within, within-new, phase)

  -- the client stays: its next line is of the same phase
  pub IsKept-stays : is_of_phase t.script.now t.phase (next_of q) ≡ true
      → IsKept t.script.now new t.phase t.ready.items (vec_capacity t.ready)
  IsKept-stays of =
      let same = ap going new-is ∙ going-stays old r line.0 within line.1 (ap (is_of_phase t.script.now t.phase) next-new ∙ of) in
      IsKept-new t.phase t.ready (advances.ready.kept.ready ∙ sym same) (omega arith)
      (IsInPhase-from_some (places_of t.script.now new t.phase) none_earlier-new (λ empty. some-going advances.ready (sym same ∙ empty)))

  -- another phase begins, and these clients go in it
  module _ (k : ℕ) (least : IsLeast (next_phases t.script.now new) k) where
    pub IsKept-begins : (rest : Vec ℕ Global) → rest.items ≡ going (places_of t.script.now new k) → vec_capacity t.ready ≤ vec_capacity rest
        → IsKept t.script.now new k rest.items (vec_capacity rest)
    IsKept-begins rest ready enough = IsKept-new k rest ready enough
        (IsInPhase-least t.script.now new are-new advances.ready.kept.job k least)

    pub some-begin : going (places_of t.script.now new k) ≡ [] → ⊥
    some-begin = going-least t.script.now new are-new advances.ready.kept.job k least

-- ---- it has no more line in this phase, and the others are left

pub record Leaves (t : Inside) (r : ℕ) (w : Places) (i : ℕ) (p q : Program) (rest : Vec ℕ Global) : Type 0 where
  pub advances : Advances t r w i p q
  pub of : is_of_phase t.script.now t.phase (next_of q) ≡ false
  pub others : rest.items ≡ filter (λ j. not (j == r)) t.ready.items
  pub enough : vec_capacity t.ready ≤ vec_capacity rest

module _ {t : Inside} {r : ℕ} {w : Places} {i : ℕ} {p q : Program} {rest : Vec ℕ Global} (leaves : Leaves t r w i p q rest) where
  abbrev left : List Program
  left = slice_set t.programs.items r q

  others-go : rest.items ≡ going (places_of t.script.now left t.phase)
  others-go =
      let a = leaves.advances in
      let of = ap (is_of_phase t.script.now t.phase) (next-new a) ∙ leaves.of in
      leaves.others ∙ ap (filter (λ j. not (j == r))) a.ready.kept.ready
      ∙ sym (ap going (new-is a) ∙ going-leaves (old a) r (line a).0 (within a) (line a).1 of)

  -- there are others that go
  pub IsKept-leaves : (rest.items ≡ [] → ⊥) → IsKept t.script.now left t.phase rest.items (vec_capacity rest)
  IsKept-leaves some = IsKept-new leaves.advances t.phase rest others-go leaves.enough
      (IsInPhase-from_some (places_of t.script.now left t.phase) (none_earlier-new leaves.advances) (λ empty. some (others-go ∙ empty)))

  -- no client has a line left
  pub IsKept-ends : next_phases t.script.now left ≡ [] → IsKept t.script.now left t.phase rest.items (vec_capacity rest)
  IsKept-ends none = IsKept-new leaves.advances t.phase rest others-go leaves.enough
      (IsInPhase-none t.script.now left (are-new leaves.advances) leaves.advances.ready.kept.job t.phase none)

  -- where no other goes, the least phase of the next lines is later than this one
  pub least-later : (k : ℕ) → rest.items ≡ [] → IsLeast (next_phases t.script.now left) k → w.phase < k
  least-later k empty least =
      let first = Goes-least t.script.now left (are-new leaves.advances) leaves.advances.ready.kept.job k least in
      let from = none_earlier-new leaves.advances first.0 first.1 first.3.next in
      let now = ap (λ v. v.phase) leaves.advances.ready.view in
      elim (cases_eq t.phase k) [
        | inl is ↦
            let v = places_of t.script.now left t.phase in
            let here : Goes v first.0 first.1 = record { next = first.3.next; of_phase = first.3.of_phase ∙ sym is } in
            absurd (none-goes (sym others-go ∙ empty) first.2 here)
        | inr other ↦ omega (arith, first.3.of_phase)
      ]
