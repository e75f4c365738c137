-- The event of a lamination is legal.
use Rattle.fs_types.proofs.Common.{◌≡◌, ℕ, false, not, Some, None, is_some, refl, ap, ◌∙◌, cond_both}
use Rattle.fs_script.specs.Vocabulary.{File, is_open_to_change, is_frozen}
use Rattle.core_machine.specs.Vocabulary.{laminate_over, laminate_event}
use Rattle.core_machine.proofs.Legal.Event.{NextLine, now, IsLegalEvent, MayPrint-last, kept, committed, if_open-legal}
use Rattle.fs_types.specs.declared.answer.Answer.TheVariants as answers
use Rattle.fs_script.specs.declared.line.Op.TheVariants as ops

laminate_over-legal : (k : NextLine) (f : File ℕ) → (now k).file ≡ f → false ≡ not (now k).is_open
    → IsLegalEvent k ops.Laminate (laminate_over (now k) f)
laminate_over-legal k None is opened = kept (answers.NoEnt _) opened (MayPrint-last k) (refl, tt, ap is_some is) refl
laminate_over-legal k (Some f) is opened =
    cond_both f.frozen _ _ (IsLegalEvent k ops.Laminate)
    (λ frozen. kept (answers.ReadOnly _) opened (MayPrint-last k) (refl, tt, ap is_frozen is ∙ frozen) refl)
    (λ unfrozen. committed opened refl (ap is_open_to_change is ∙ ap not unfrozen))

pub laminate-legal : (k : NextLine) → IsLegalEvent k ops.Laminate (laminate_event (now k))
laminate-legal k = if_open-legal k ops.Laminate _ refl (laminate_over-legal k (now k).file refl)
