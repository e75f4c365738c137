-- The event of an open is legal.
use Rattle.std.proofs.Common.{◌≡◌, ℕ, Some, None, is_some, refl, ap}
use Rattle.fs_types.specs.declared.answer.Answer.TheVariants as answers
use Rattle.fs_types.specs.PlainFile.{File}
use Rattle.fs_script.specs.declared.line.Op.TheVariants as ops
use Rattle.core_machine.specs.Events.Open.{open_over, open_event}
use Rattle.core_machine.proofs.Legal.Event.{NextLine, now, IsLegalEvent, MayPrint-last, kept}

open_over-legal : (k : NextLine) (f : File ℕ) → (now k).file ≡ f → IsLegalEvent k ops.Open (open_over (now k) f)
open_over-legal k None is = kept (answers.NoEnt _) tt (MayPrint-last k) (refl, tt, ap is_some is) refl
open_over-legal k (Some f) is = kept (answers.Done _) tt (MayPrint-last k) (refl, ap is_some is) refl

pub open-legal : (k : NextLine) → IsLegalEvent k ops.Open (open_event (now k))
open-legal k = open_over-legal k (now k).file refl
