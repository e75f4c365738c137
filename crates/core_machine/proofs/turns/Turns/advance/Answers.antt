use Rattle.fs_types.proofs.Common.{◌∙◌, length, sym, ap, rules, arith, nat_tests, nil_from_length, filter_same}
use Rattle.core_machine.proofs.Programs.ProgramsKept.{IsReady, Advances, Leaves, ready-within, some-next, places-new, are-new, IsKept-stays}
use Rattle.core_machine.proofs.Programs.ProgramsKept.{IsKept-leaves, IsKept-ends, IsKept-begins, some-begin, least-later}
use Rattle.core_machine.proofs.turns.Turns.advance.Goals.{After-r, After-advance, After-retain}
use Rattle.core_machine.proofs.turns.Turns.advance.Goals as goal

ready : (c : After-r) → IsReady c.self.inside c.r.inside.0 c.args.self.now c.args.r
ready c = record { kept = c.self.invariant; view = c.self.view_is; rank = c.r.view_is; ready = c.requires }

pub index_mut-program-requires : goal.index_mut-program-requires
index_mut-program-requires c = omega (arith, ready-within (ready c), c.self.inside.programs.ok.0)

pub advance-requires : goal.advance-requires
advance-requires c = some-next (ready (goal.at.advance-requires c).After-r) c.index_mut-program.result.now c.index_mut-program.ensures.value

advances : (c : After-advance)
    → Advances c.self.inside c.r.inside.0 c.args.self.now c.args.r c.index_mut-program.result.now c.advance.new.self
advances c = record {
  ready = record { kept = c.self.invariant; view = c.self.view_is; rank = c.r.view_is; ready = c.requires };
  read = c.index_mut-program.ensures.value;
  answered = c.advance.ensures;
}

leaves : (c : After-retain)
    → Leaves c.self.inside c.r.inside.0 c.args.self.now c.args.r c.index_mut-program.result.now c.advance.new.self c.retain.new.self
leaves c = record {
  advances = record {
    ready = record { kept = c.self.invariant; view = c.self.view_is; rank = c.r.view_is; ready = c.requires };
    read = c.index_mut-program.ensures.value;
    answered = c.advance.ensures;
  };
  of = sym c.goes_in.ensures ∙ c.if-goes_in.false;
  others = filter_same _ _ _ (λ x b f' k. search rules) _ _ c.retain.ensures.filtered;
  enough = omega (arith, c.retain.ensures.capacity);
}

-- ---- the client stays

pub invariant_of-self : goal.invariant_of-self
invariant_of-self c = IsKept-stays (advances (goal.at.invariant_of-self c).After-advance) (sym c.goes_in.ensures ∙ c.if-goes_in.true)

pub returns-then-goes_in-clause-places : goal.returns-then-goes_in-clause-places
returns-then-goes_in-clause-places c = places-new (advances (goal.at.returns-then-goes_in-clause-places c).After-advance)

pub returns-then-goes_in-clause-phase : goal.returns-then-goes_in-clause-phase
returns-then-goes_in-clause-phase c = (invariant_of-self c).phase

-- ---- it leaves, and others go

pub invariant_of-self-then-not-is_empty : goal.invariant_of-self-then-not-is_empty
invariant_of-self-then-not-is_empty c =
    IsKept-leaves (leaves (goal.at.invariant_of-self-then-not-is_empty c).After-retain)
    (λ empty. (let none = ap length empty in absurd (grind (arith, nat_tests, c.if-not-is_empty.ensures, c.retain.new.self.ok.0))))

pub returns-then-not-is_empty-clause-places : goal.returns-then-not-is_empty-clause-places
returns-then-not-is_empty-clause-places c = places-new (advances (goal.at.returns-then-not-is_empty-clause-places c).After-advance)

pub returns-then-not-is_empty-clause-phase : goal.returns-then-not-is_empty-clause-phase
returns-then-not-is_empty-clause-phase c = (invariant_of-self-then-not-is_empty c).phase

-- ---- no client has a line left

pub invariant_of-self-in_default : goal.invariant_of-self-in_default
invariant_of-self-in_default c =
    IsKept-ends (leaves (goal.at.invariant_of-self-in_default c).After-retain) (rw c.deref.ensures.value at c.in_default.ensures.none)

pub returns-in_default-clause-places : goal.returns-in_default-clause-places
returns-in_default-clause-places c = places-new (advances (goal.at.returns-in_default-clause-places c).After-advance)

pub returns-in_default-clause-phase : goal.returns-in_default-clause-phase
returns-in_default-clause-phase c = (invariant_of-self-in_default c).phase

-- ---- a later phase begins

pub fill_ready-requires-clause-programs : goal.fill_ready-requires-clause-programs
fill_ready-requires-clause-programs c =
    rw c.deref-2.ensures.value (are-new (advances (goal.at.fill_ready-requires-clause-programs c).After-advance))

pub invariant_of-self-2 : goal.invariant_of-self-2
invariant_of-self-2 c =
    let least = rw c.deref.ensures.value at c.in-Some.ensures.least in
    IsKept-begins (advances (goal.at.invariant_of-self-2 c).After-advance) c.in-Some.phase least c.fill_ready.new.ready
    (rw c.deref-2.ensures.value at c.fill_ready.ensures.going) (omega (arith, c.fill_ready.ensures.room, c.retain.ensures.capacity))

pub returns-clause-places : goal.returns-clause-places
returns-clause-places c = places-new (advances (goal.at.returns-clause-places c).After-advance)

pub returns-clause-begins : goal.returns-clause-begins
returns-clause-begins c _ =
    let empty = nil_from_length c.retain.new.self.items (grind (arith, nat_tests, c.retain.new.self.ok.0)) in
    let least = rw c.deref.ensures.value at c.in-Some.ensures.least in
    least-later (leaves (goal.at.returns-clause-begins c).After-retain) c.in-Some.phase empty least

pub returns-clause-last : goal.returns-clause-last
returns-clause-last c empty =
    let least = rw c.deref.ensures.value at c.in-Some.ensures.least in
    absurd (some-begin (advances (goal.at.returns-clause-last c).After-advance) c.in-Some.phase least empty)

pub returns-clause-phase : goal.returns-clause-phase
returns-clause-phase c = (invariant_of-self-2 c).phase
