-- The events of a read are legal: what it looks up is what its client sees now in its range, of the file alone or with its own
-- pending writes put over it, and it shows that in the end.
use Rattle.fs_types.proofs.Common.{◌≡◌, ℕ, Bool, false, not, List, map, length, Option, Some, None, is_some, refl, sym, ap, ◌∙◌}
use Rattle.fs_types.proofs.Common.{cond_both, take, drop, nat_lt}
use Rattle.std.proofs.lemmas.List.{take-map, drop-map}
use Rattle.fs_script.specs.Vocabulary.{bytes_of, marks_in, shown, File, Range, Mark, marked_byte, marked_bytes, range_of, runs, view_of}
use Rattle.core_machine.specs.Vocabulary.{Doing, Op, Reading, nothing, reading, shows, lookup_over, fetch_event, read_event}
use Rattle.core_machine.proofs.Legal.Event.{NextLine, now, view_then, IsLegalEvent, MayShow, MayPrint-last, kept, keeps, if_open-legal}
use Rattle.fs_types.specs.declared.answer.Answer.TheVariants as answers
use Rattle.fs_script.specs.declared.line.Op.TheVariants as ops
use Rattle.fs_script.proofs.CallerLemmas.{state-by_marks, view_of-by_marks, is_some-marks_at, is_some-view_of}

module _ (k : NextLine) (off len : ℕ) (own : Bool) where
  abbrev asks : Range
  asks = range_of off len own

  abbrev op : Op
  op = ops.Read off len own

  -- what its client sees of the file now, by the marks
  abbrev seen : File (Option Mark)
  seen = view_of k.job (marks_in k.job) own (now k).pending (now k).marks

  -- the bytes of that are what the table of answers asks for
  seen-bytes : marked_bytes k.job seen ≡ (view_then k false).sees own (now k).file
  seen-bytes =
      view_of-by_marks k.job own (now k).pending (now k).marks k.chunk
      ∙ ap (view_of k.job (bytes_of k.job) own (now k).pending) (state-by_marks k.job k.counted k.journal (now k).version k.chunk)

  -- the bytes that a range of the marks shows are those that the range of the bytes does
  shown-map : (marks : List (Option Mark)) → map (marked_byte k.job) (shown marks off len) ≡ shown (map (marked_byte k.job) marks) off len
  shown-map marks = sym (take-map (marked_byte k.job) len (drop off marks)) ∙ ap (take len) (sym (drop-map (marked_byte k.job) off marks))

  lookup_over-legal : (f : File (Option Mark)) → seen ≡ f → false ≡ not (now k).is_open → IsLegalEvent k op (lookup_over (now k) f asks)
  lookup_over-legal None is opened =
      let none = sym (is_some-marks_at k.job k.counted k.journal (now k).version k.chunk)
      ∙ sym (is_some-view_of k.job (marks_in k.job) own (now k).pending (now k).marks) ∙ ap is_some is in
      kept (answers.NoEnt _) opened (MayPrint-last k) (refl, tt, none) refl
  lookup_over-legal (Some f) is opened =
      let bytes = sym (ap (marked_bytes k.job) is) ∙ seen-bytes in (
        refl,
        keeps (shows _ (map (marked_byte k.job) (shown f.cells off len))) opened (MayPrint-last k)
            (rw (← bytes) (rw shown-map (record { count = refl; same = λ _. refl }))) refl,
      )

  fetch-legal : (d : Reading) → MayShow k op (reading d) → IsLegalEvent k op (fetch_event k.job d)
  fetch-legal d may =
      cond_both (nat_lt d.fetched (length (runs d.marks))) _ _ (IsLegalEvent k op) (λ _. (refl, may)) (λ _. (may, refl))

  pub read-legal : (d : Doing) → MayShow k op d → IsLegalEvent k op (read_event k.job (now k) d asks)
  read-legal nothing may = if_open-legal k op _ refl (lookup_over-legal seen refl)
  read-legal (reading d) may = fetch-legal d may
