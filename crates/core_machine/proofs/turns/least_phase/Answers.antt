use Rattle.fs_types.proofs.Common.{◌≡◌, ◌∙◌, [], min, sym, subst, rules, tests, IfNone, IfSome, reduce, option_map, YieldsList-from_slice}
use Rattle.fs_types.proofs.Common.{option_map_id, YieldsList-from_filter_map, min_from_yields_List}
use Rattle.fs_script.specs.Vocabulary.{phase}
use Rattle.core_machine.specs.Vocabulary.{Program, IsLeast, next_of, next_phases}
use Rattle.core_machine.proofs.Programs.LeastPhase.{none_least, IsLeast-from_reduce}
use Rattle.core_machine.proofs.turns.least_phase.Goals.{After-min}
use Rattle.core_machine.proofs.turns.least_phase.Goals as goal

least : (c : After-min) → reduce min (next_phases c.args.s.now c.args.programs.now) ≡ c.min.result
least c =
    let of_program = λ (p : Program). option_map (phase c.args.s.now) (next_of p) in
    let closure = c.filter_map.ensures.closure in
    sym (min_from_yields_List c.filter_map.result c.min.result c.min.ensures.ran
    (YieldsList-from_filter_map _ of_program (YieldsList-from_slice c.args.programs.now (cc)) closure (λ x r q k. search (rules, tests))))
    ∙ option_map_id c.min.result

pub returns-clause-none : goal.returns-clause-none
returns-clause-none c =
    let phases = next_phases c.args.s.now c.args.programs.now in
    subst (λ r. IfNone r (phases ≡ [])) (least c) (none_least phases)

pub returns-clause-least : goal.returns-clause-least
returns-clause-least c =
    let phases = next_phases c.args.s.now c.args.programs.now in
    subst (λ r. IfSome r (IsLeast phases)) (least c) (IsLeast-from_reduce phases)
