-- The event of a size is legal.
use Rattle.std.proofs.Common.{◌≡◌, ℕ, false, not, Some, None, is_some, refl, ap}
use Rattle.fs_types.specs.declared.answer.Answer.TheVariants as answers
use Rattle.fs_types.specs.PlainFile.{File}
use Rattle.fs_script.specs.declared.line.Op.TheVariants as ops
use Rattle.core_machine.specs.Events.Size.{size_over, size_event}
use Rattle.core_machine.proofs.Legal.Event.{NextLine, now, IsLegalEvent, MayPrint-last, kept, if_open-legal}

size_over-legal : (k : NextLine) (f : File ℕ) → (now k).file ≡ f → false ≡ not (now k).is_open
    → IsLegalEvent k ops.Size (size_over (now k) f)
size_over-legal k None is opened = kept (answers.NoEnt _) opened (MayPrint-last k) (refl, tt, ap is_some is) refl
size_over-legal k (Some f) is opened = kept (answers.Sized _ _ _) opened (MayPrint-last k) (refl, rw is (refl, refl)) refl

pub size-legal : (k : NextLine) → IsLegalEvent k ops.Size (size_event (now k))
size-legal k = if_open-legal k ops.Size _ refl (size_over-legal k (now k).file refl)
