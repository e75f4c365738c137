-- The event of each operation is legal.
use Rattle.fs_script.specs.declared.line.Op.{Op}
use Rattle.fs_script.specs.declared.line.Op.TheVariants as ops
use Rattle.core_machine.specs.Doing.{Doing}
use Rattle.core_machine.specs.Step.{event_of}
use Rattle.core_machine.proofs.Legal.Event.{NextLine, now, IsLegalEvent, MayShow}
use Rattle.core_machine.proofs.Legal.Events.Create.{create-legal}
use Rattle.core_machine.proofs.Legal.Events.Open.{open-legal}
use Rattle.core_machine.proofs.Legal.Events.Write.{write-legal}
use Rattle.core_machine.proofs.Legal.Events.Sync.{sync-legal}
use Rattle.core_machine.proofs.Legal.Events.Read.{read-legal}
use Rattle.core_machine.proofs.Legal.Events.Size.{size-legal}
use Rattle.core_machine.proofs.Legal.Events.Trunc.{trunc-legal}
use Rattle.core_machine.proofs.Legal.Events.Laminate.{laminate-legal}
use Rattle.core_machine.proofs.Legal.Events.Unlink.{unlink-legal}
pub mod Create
pub mod Open
pub mod Write
pub mod Sync
pub mod Read
pub mod Size
pub mod Trunc
pub mod Laminate
pub mod Unlink

pub event_of-legal : (k : NextLine) (d : Doing) (op : Op) → MayShow k op d → IsLegalEvent k op (event_of k.job (now k) d op)
event_of-legal k d ops.Create may = create-legal k
event_of-legal k d ops.Open may = open-legal k
event_of-legal k d (ops.Write off text) may = write-legal k off text
event_of-legal k d ops.Sync may = sync-legal k
event_of-legal k d (ops.Read off len own) may = read-legal k off len own d may
event_of-legal k d ops.Size may = size-legal k
event_of-legal k d (ops.Trunc n) may = trunc-legal k n
event_of-legal k d ops.Laminate may = laminate-legal k
event_of-legal k d ops.Unlink may = unlink-legal k
