use Rattle.fs_types.proofs.Common.{◌≡◌, ℕ, zero, suc, ◌∙◌, List, replicate, slice_index, refl, sym, ap, subst, arith}
use Rattle.core_machine.specs.Vocabulary.{IsInPhase, places_of}
use Rattle.core_machine.proofs.Programs.NextLines.{length-programs, IsInPhase-first, phase-first}
use Rattle.core_machine.proofs.turns.Turns.new.Goals as goal

-- each place is the first
zero-at : (n r : ℕ) → slice_index (replicate n 0) r ≡ 0
zero-at zero r = refl
zero-at (suc n) zero = refl
zero-at (suc n) (suc r) = zero-at n r

pub invariant_of-result : goal.invariant_of-result
invariant_of-result c =
    let s = c.args.s.now in
    let ps = c.in_ok-programs.programs.items in
    let are = c.in_ok-programs.ensures.programs in
    let job = c.in_ok-programs.ensures.job in
    let none = rw c.deref.ensures.value at c.least_phase.ensures.none in
    let least = rw c.deref.ensures.value at c.least_phase.ensures.least in
    record {
      job = job;
      programs = are;
      within = λ r. (let start = ap (λ (xs : List ℕ). slice_index xs r) c.in_ok-programs.ensures.places ∙ zero-at s.shape.clients r in
          omega arith);
      ready = rw c.deref-2.ensures.value at c.fill_ready.ensures.going;
      room = omega (
        arith,
        length-programs s ps are,
        c.in_ok-ready.ensures.capacity,
        c.fill_ready.ensures.room,
        c.len.ensures,
        c.in_ok-programs.programs.ok.0,
      );
      phase = subst (λ k. IsInPhase (places_of s ps k)) (sym c.unwrap_or-phase.ensures)
          (IsInPhase-first s ps are c.least_phase.result job none least);
    }

pub returns-clause-phase : goal.returns-clause-phase
returns-clause-phase c = (invariant_of-result c).phase

pub returns-clause-empty : goal.returns-clause-empty
returns-clause-empty c =
    let s = c.args.s.now in
    let ps = c.in_ok-programs.programs.items in
    let are = c.in_ok-programs.ensures.programs in
    let least = rw c.deref.ensures.value at c.least_phase.ensures.least in
    rw c.unwrap_or-phase.ensures (phase-first s ps are c.least_phase.result c.in_ok-programs.ensures.job least)
