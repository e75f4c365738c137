-- The event of a create is legal.
use Rattle.fs_types.proofs.Common.{◌≡◌, ℕ, not, Some, None, is_some, refl, ap}
use Rattle.fs_script.specs.Vocabulary.{File}
use Rattle.core_machine.specs.Vocabulary.{create_over, create_event}
use Rattle.core_machine.proofs.Legal.Event.{NextLine, now, IsLegalEvent, MayPrint-last, kept, committed}
use Rattle.fs_types.specs.declared.answer.Answer.TheVariants as answers
use Rattle.fs_script.specs.declared.line.Op.TheVariants as ops

create_over-legal : (k : NextLine) (f : File ℕ) → (now k).file ≡ f → IsLegalEvent k ops.Create (create_over (now k) f)
create_over-legal k None is = committed tt refl (ap (λ f. not (is_some f)) is)
create_over-legal k (Some f) is = kept (answers.Exists _) tt (MayPrint-last k) (refl, ap is_some is) refl

pub create-legal : (k : NextLine) → IsLegalEvent k ops.Create (create_event (now k))
create-legal k = create_over-legal k (now k).file refl
