use Rattle.fs_types.proofs.Common.{◌≡◌, ◌∙◌, Some, sym, subst, arith, IsSome}
use Rattle.fs_script.specs.Vocabulary.{phase}
use Rattle.core_machine.specs.Vocabulary.{next_in}
use Rattle.core_machine.proofs.Programs.ProgramsKept.{IsReady, ready-within, some-next, line-ready}
use Rattle.core_machine.proofs.turns.Turns.next.Goals.{After-r, After-unwrap}
use Rattle.core_machine.proofs.turns.Turns.next.Goals as goal

ready : (c : After-r) → IsReady c.self.inside c.r.inside.0 c.args.self.now c.args.r
ready c = record { kept = c.self.invariant; view = c.self.view_is; rank = c.r.view_is; ready = c.requires }

pub index-requires : goal.index-requires
index-requires c = omega (arith, ready-within (ready (goal.at.index-requires c).After-r), c.self.inside.programs.ok.0)

pub unwrap-requires : goal.unwrap-requires
unwrap-requires c = subst IsSome (sym c.next.ensures) (some-next (ready (goal.at.unwrap-requires c).After-r) c.index.result.now
    c.index.ensures)

line : (c : After-unwrap) → IsReady c.self.inside c.r.inside.0 c.args.self.now c.args.r
    → (next_in c.args.self.now c.args.r ≡ Some c.unwrap.result) × (phase c.args.self.now.job c.unwrap.result ≡ c.args.self.now.phase)
line c here = line-ready here c.index.result.now c.index.ensures c.unwrap.result (sym c.next.ensures ∙ c.unwrap.ensures)

pub returns-clause-next : goal.returns-clause-next
returns-clause-next c = let here = goal.at.returns-clause-next c in (line here.After-unwrap (ready here.After-r)).0

pub returns-clause-of_phase : goal.returns-clause-of_phase
returns-clause-of_phase c = let here = goal.at.returns-clause-of_phase c in (line here.After-unwrap (ready here.After-r)).1
