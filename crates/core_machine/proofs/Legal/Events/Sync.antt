-- The event of a sync is legal.
use Rattle.fs_types.proofs.Common.{◌≡◌, ℕ, false, not, Some, None, is_some, refl, ap, ◌∙◌, cond_both}
use Rattle.fs_script.specs.Vocabulary.{File, is_open_to_change, is_frozen, has_any}
use Rattle.core_machine.specs.Vocabulary.{sync_over, sync_event}
use Rattle.core_machine.proofs.Legal.Event.{NextLine, now, IsLegalEvent, MayPrint-last, kept, not_done, committed, if_open-legal}
use Rattle.fs_types.specs.declared.answer.Answer.TheVariants as answers
use Rattle.fs_script.specs.declared.line.Op.TheVariants as ops

sync_over-legal : (k : NextLine) (f : File ℕ) → (now k).file ≡ f → false ≡ not (now k).is_open
    → IsLegalEvent k ops.Sync (sync_over (now k) f)
sync_over-legal k None is opened =
    kept (answers.NoEnt _) opened (MayPrint-last k) (refl, tt, ap is_some is)
    (not_done ops.Sync (now k).pending (answers.NoEnt (now k).version) refl)
sync_over-legal k (Some f) is opened =
    cond_both (has_any (now k).pending) _ _ (IsLegalEvent k ops.Sync)
    (λ some. cond_both f.frozen _ _ (IsLegalEvent k ops.Sync)
    (λ frozen. kept (answers.ReadOnly _) opened (MayPrint-last k)
    (some, tt, ap is_frozen is ∙ frozen) (rw some))
    (λ unfrozen. committed opened some (ap is_open_to_change is ∙ ap not unfrozen)))
    (λ none. kept (answers.Done _) opened (MayPrint-last k)
    (rw none (refl, ap is_some is)) (rw none))

pub sync-legal : (k : NextLine) → IsLegalEvent k ops.Sync (sync_event (now k))
sync-legal k = if_open-legal k ops.Sync _ refl (sync_over-legal k (now k).file refl)
