-- The event of an unlink is legal.
use Rattle.fs_types.proofs.Common.{◌≡◌, ℕ, false, not, Some, None, is_some, refl, ap}
use Rattle.fs_script.specs.Vocabulary.{File}
use Rattle.core_machine.specs.Vocabulary.{unlink_over, unlink_event}
use Rattle.core_machine.proofs.Legal.Event.{NextLine, now, IsLegalEvent, MayPrint-last, kept, committed, if_open-legal}
use Rattle.fs_types.specs.declared.answer.Answer.TheVariants as answers
use Rattle.fs_script.specs.declared.line.Op.TheVariants as ops

unlink_over-legal : (k : NextLine) (f : File ℕ) → (now k).file ≡ f → false ≡ not (now k).is_open
    → IsLegalEvent k ops.Unlink (unlink_over (now k) f)
unlink_over-legal k None is opened = kept (answers.NoEnt _) opened (MayPrint-last k) (refl, tt, ap is_some is) refl
unlink_over-legal k (Some f) is opened = committed opened refl (ap is_some is)

pub unlink-legal : (k : NextLine) → IsLegalEvent k ops.Unlink (unlink_event (now k))
unlink-legal k = if_open-legal k ops.Unlink _ refl (unlink_over-legal k (now k).file refl)
