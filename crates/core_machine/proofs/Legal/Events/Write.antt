-- The event of a write is legal.
use Rattle.fs_types.proofs.Common.{ltb-true, ltb-false, nat_lt, length, ◌+◌, ◌≤◌, ◌≡◌, ℕ, false, not, Some, None, is_some, refl, ap, ◌∙◌}
use Rattle.fs_types.proofs.Common.{cond_both}
use Rattle.fs_script.specs.Vocabulary.{File, is_open_to_change, is_frozen, Write, data_bytes, state, MayWrite, LONGEST_FILE, parts_of}
use Rattle.fs_script.specs.Payload.{write_of}
use Rattle.core_machine.specs.Vocabulary.{Op, Data, known_of, write_where_free, write_within, write_at_front, write_event}
use Rattle.core_machine.proofs.Legal.Event.{NextLine, now, view_then, IsLegalEvent, MayPrint-front, kept, if_open-legal}
use Rattle.fs_types.specs.declared.answer.Answer.TheVariants as answers
use Rattle.fs_script.specs.declared.line.Op.TheVariants as ops

module _ (k : NextLine) (off : ℕ) (text : Data) where
  abbrev op : Op
  op = ops.Write off text

  abbrev brings : Write
  brings = write_of off text

  abbrev file_at_front : File ℕ
  file_at_front = state k.job k.counted k.journal (now k).front

  write_where_free-legal : MayWrite (view_then k false) → off + length (data_bytes text) ≤ LONGEST_FILE → false ≡ not (now k).is_open
      → IsLegalEvent k op (write_where_free (parts_of k.job.shape.chunk (length (data_bytes text))) (now k))
  write_where_free-legal may ends opened =
      let need = parts_of k.job.shape.chunk (length (data_bytes text)) in
      cond_both (nat_lt (now k).free need) _ _ (IsLegalEvent k op)
      (λ few. kept (answers.NoSpace need (now k).free) opened tt (record {
        may_write = may;
        end = ends;
        need = refl;
        few = ltb-true (now k).free need few;
        within = k.within;
        held = k.held;
      }) refl)
      (λ _. kept (answers.Wrote need) opened tt (may, ends, refl) refl)

  write_within-legal : MayWrite (view_then k false) → false ≡ not (now k).is_open
      → IsLegalEvent k op (write_within k.job.shape.chunk (now k) brings)
  write_within-legal may opened =
      let end = off + length (data_bytes text) in
      cond_both (nat_lt LONGEST_FILE end) _ _ (IsLegalEvent k op)
      (λ past. kept answers.TooBig opened tt (may, ltb-true LONGEST_FILE end past) refl)
      (λ fits. write_where_free-legal may (ltb-false LONGEST_FILE end fits) opened)

  write_at_front-legal : (f : File ℕ) → file_at_front ≡ f → false ≡ not (now k).is_open → IsLegalEvent k op
      (write_at_front k.job.shape.chunk (record (now k) { at_front = known_of f }) brings)
  write_at_front-legal None is opened = kept (answers.NoEnt _) opened (MayPrint-front k) (refl, refl, ap is_some is) refl
  write_at_front-legal (Some f) is opened =
      cond_both f.frozen _ _ (IsLegalEvent k op)
      (λ frozen. kept (answers.ReadOnly _) opened (MayPrint-front k)
      (refl, refl, ap is_frozen is ∙ frozen) refl)
      (λ unfrozen. write_within-legal (ap is_open_to_change is ∙ ap not unfrozen) opened)

  pub write-legal : IsLegalEvent k op (write_event k.job.shape.chunk (now k) brings)
  write-legal = if_open-legal k op _ refl (write_at_front-legal file_at_front refl)
