use Rattle.std.proofs.Common.{drop}
use Rattle.piece_table.specs.PieceTable.{hold_of}
use Rattle.core_machine.specs.Pins.{ArePins, pin_count}
use Rattle.core_machine.proofs.pins.let_go.Given as goal

abbrev pub invariant-loop-run : goal.invariant-loop-run
invariant-loop-run g l = ArePins (pin_count l.initial.pins) (hold_of l.initial.pins) (drop l.run-index l.runs) l.pins l.initial.logs l.logs
