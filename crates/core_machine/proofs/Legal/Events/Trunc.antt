-- The event of a truncation is legal.
use Rattle.fs_types.proofs.Common.{◌≡◌, ℕ, false, not, Some, None, is_some, refl, ap, ◌∙◌, cond_both}
use Rattle.fs_script.specs.Vocabulary.{File, is_open_to_change, is_frozen}
use Rattle.core_machine.specs.Vocabulary.{trunc_over, trunc_event}
use Rattle.core_machine.proofs.Legal.Event.{NextLine, now, IsLegalEvent, MayPrint-last, kept, committed, if_open-legal}
use Rattle.fs_types.specs.declared.answer.Answer.TheVariants as answers
use Rattle.fs_script.specs.declared.line.Op.TheVariants as ops

trunc_over-legal : (k : NextLine) (n : ℕ) (f : File ℕ) → (now k).file ≡ f → false ≡ not (now k).is_open
    → IsLegalEvent k (ops.Trunc n) (trunc_over (now k) f)
trunc_over-legal k n None is opened = kept (answers.NoEnt _) opened (MayPrint-last k) (refl, tt, ap is_some is) refl
trunc_over-legal k n (Some f) is opened =
    cond_both f.frozen _ _ (IsLegalEvent k (ops.Trunc n))
    (λ frozen. kept (answers.ReadOnly _) opened (MayPrint-last k) (refl, tt, ap is_frozen is ∙ frozen) refl)
    (λ unfrozen. committed opened refl (ap is_open_to_change is ∙ ap not unfrozen))

pub trunc-legal : (k : NextLine) (n : ℕ) → IsLegalEvent k (ops.Trunc n) (trunc_event (now k))
trunc-legal k n = if_open-legal k (ops.Trunc n) _ refl (trunc_over-legal k n (now k).file refl)
