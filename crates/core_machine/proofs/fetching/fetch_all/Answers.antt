use Rattle.std.proofs.Common.{◌∙◌, ap, sym}
use Rattle.fs_types.specs.Pieces.{Fragment}
use Rattle.core_machine.proofs.FetchedBytes.{HasBytes-more, in_memory}
use Rattle.core_machine.proofs.fetching.fetch_all.Goals as goal

pub fetch_run-requires-clause-held : goal.fetch_run-requires-clause-held
fetch_run-requires-clause-held g c =
    let need = c.requires.stand in (
      need.0,
      rw (c.loop-run.invariant.logs) (need.1 c.run.inside.piece c.in-Some.hold.now (sym c.in-Some.ensures)).1,
      rw (c.loop-run.invariant.logs) (in_memory need.0 c.args.logs.now c.in-Some.hold.now.rank need.2),
    )

pub fetch_run-requires-clause-piece : goal.fetch_run-requires-clause-piece
fetch_run-requires-clause-piece g c =
    (c.requires.stand.1 c.run.inside.piece c.in-Some.hold.now (sym c.in-Some.ensures)).0 ∙ ap (λ (f : Fragment). f.piece) c.run.view_is

pub loop-run-preserved : goal.loop-run-preserved
loop-run-preserved g c = record {
  bytes = λ s stand.
      HasBytes-more c.args.runs.now c.loop-run.run-index c.run-item.result c.loop-run-test.true c.run-item.is
      c.requires.runs.in_order s c.loop-run.bytes c.fetch_run.new.bytes c.fetch_run.auto.bytes
      (c.loop-run.invariant.bytes s stand) (c.fetch_run.ensures.put s
      (rw (c.loop-run.invariant.logs) (stand c.run.inside.piece c.in-Some.hold.now (sym c.in-Some.ensures)).1));
  logs = c.fetch_run.ensures.logs ∙ c.loop-run.invariant.logs;
}
