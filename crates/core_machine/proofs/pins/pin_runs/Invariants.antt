use Rattle.std.proofs.Common.{take}
use Rattle.piece_table.specs.PieceTable.{hold_of}
use Rattle.client_map.specs.Kept.{pending_in}
use Rattle.core_machine.specs.Pins.{ArePins, either_hold, no_count}
use Rattle.core_machine.proofs.pins.pin_runs.Given as goal

abbrev pub invariant-loop-run : goal.invariant-loop-run
invariant-loop-run g l =
    ArePins no_count (either_hold (hold_of l.found) (pending_in l.client.pending l.p).hold_of) (take l.run-index l.runs) l.pins
    l.initial.logs l.logs
