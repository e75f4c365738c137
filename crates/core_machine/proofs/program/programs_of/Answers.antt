use Rattle.fs_types.proofs.Common.{◌≡◌, ◌∙◌, ◌++◌, length, take, drop, map, replicate, ap, rules, arith, range_with_len, places}
use Rattle.core_machine.specs.Vocabulary.{Program}
use Rattle.core_machine.proofs.Programs.ProgramLines.{lines_before, map-lines_before-first, with_program_line-more}
use Rattle.core_machine.proofs.program.programs_of.Goals as goal

pub loop-n-init : goal.loop-n-init
loop-n-init c = record {
  lines =
      c.in_ok-programs.ensures.lines ∙ map-lines_before-first c.args.s.now c.client_count.result
      ∙ ap (λ k. map (lines_before c.args.s.now 2) (range_with_len 0 k)) c.client_count.ensures.count;
  places = c.in_ok-programs.ensures.places ∙ ap (λ k. replicate k 0) c.client_count.ensures.count;
}

pub loop-n-preserved : goal.loop-n-preserved
loop-n-preserved c =
    let new = c.add_line.new.programs in
    let items : take c.loop-n.programs.len (new ++ drop (length new) c.loop-n.programs.items) ≡ new = search (rules, places) in
    let lines = map (λ (p : Program). p.lines.items) in
    let places = map (λ (p : Program). p.place) in
    let kept = c.deref_mut.ensures.value in
    let more = with_program_line-more c.args.s.now c.loop-n.n _ (omega arith) (ap lines kept ∙ c.loop-n.invariant.lines) in
    record {
      lines = ap lines items ∙ c.in_ok-add_line.ensures.lines ∙ more;
      places = ap places items ∙ c.in_ok-add_line.ensures.places ∙ ap places kept ∙ c.loop-n.invariant.places;
    }
