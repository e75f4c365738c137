use Rattle.fs_types.proofs.Common.{drop}
use Rattle.core_machine.specs.PathStates.{AreToldBut}
use Rattle.core_machine.proofs.run.tell.Given as goal

-- all clients know of each path but those of the lines that are left
abbrev pub invariant-loop-n : goal.invariant-loop-n
invariant-loop-n l = AreToldBut l.s (drop l.n-index l.changing) l.board l.books
