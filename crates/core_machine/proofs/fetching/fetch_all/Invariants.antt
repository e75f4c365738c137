use Rattle.std.proofs.Common.{◌≡◌, take}
use Rattle.fs_script.specs.Vocabulary.{Job}
use Rattle.piece_table.specs.PieceTable.{hold_of}
use Rattle.core_machine.specs.Fetching.{HasBytes}
use Rattle.core_machine.specs.Logs.{HoldsStand}
use Rattle.core_machine.proofs.fetching.fetch_all.Given as goal

abbrev pub invariant-loop-run : goal.invariant-loop-run
invariant-loop-run g l = record {
  bytes : (s : Job) → HoldsStand s l.initial.logs (hold_of l.found) → HasBytes s (take l.run-index l.runs) l.bytes;
  logs : l.logs ≡ l.initial.logs;
}
