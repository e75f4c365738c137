use Rattle.fs_types.proofs.Common.{common_steps, ◌≡◌, ◌<◌, ◌∙◌, Some, length, map, sym, ap, arith, rules, map-set_same, on_ok_weaker}
use Rattle.fs_script.specs.Vocabulary.{op_at}
use Rattle.core_machine.specs.Vocabulary.{with_program_line}
use Rattle.core_machine.proofs.Programs.ProgramLines.{map-with_program_line}
use Rattle.core_machine.proofs.program.add_line.Goals.{In-Some-Op}
use Rattle.core_machine.proofs.program.add_line.Goals as goal

operation : (c : In-Some-Op) → op_at c.args.s.now c.args.n ≡ Some c.in-Some-Op.field-0-0
operation c = search rules

pub bounds-programs-rank-inside : goal.bounds-programs-rank-inside
bounds-programs-rank-inside c =
    let o = c.in-Some-Op.field-0-0 in
    omega (
      arith,
      c.rank.view_is,
      c.requires.job c.args.n o (operation (goal.at.bounds-programs-rank-inside c).In-Some-Op),
      c.requires.clients,
    )

pub returns-in-Some-Op-clause-lines : goal.returns-in-Some-Op-clause-lines
returns-in-Some-Op-clause-lines c =
    let o = c.in-Some-Op.field-0-0 in
    let ps = c.args.programs.now in
    let is = operation (goal.at.returns-in-Some-Op-clause-lines c).In-Some-Op in
    let within : c.rank.inside.0 < length ps = omega (arith, c.rank.view_is, c.requires.job c.args.n o is, c.requires.clients) in
    on_ok_weaker c.push.result
    (λ more. map-with_program_line c.args.n c.rank.inside.0 o ps c.index-programs-rank.result c.push.new.self c.rank.view_is within more
    ∙ ap (λ x. with_program_line c.args.n x (map (λ p. p.lines.items) ps)) (sym is))
    c.push.ensures.lines

pub returns-in-Some-Op-clause-places : goal.returns-in-Some-Op-clause-places
returns-in-Some-Op-clause-places c = grind (arith, common_steps, map-set_same)
