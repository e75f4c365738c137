-- A truncation: its events, and what it makes of the file.
use Rattle.fs_types.proofs.Common.{◌≡◌, ℕ, ◌+◌, ◌≤◌, true, false, List, length, Some, None, IfSome, option_map, refl, sym, ap, ◌∙◌, subst}
use Rattle.fs_types.specs.Marks.{no_mark}
use Rattle.fs_types.specs.Overwrite.{cut}
use Rattle.fs_types.specs.declared.answer.Answer.TheVariants as answers
use Rattle.fs_types.specs.declared.push.Push.{Push}
use Rattle.fs_script.specs.Vocabulary.{Job, LONGEST_FILE, effect_of, marks_in, put_lines}
use Rattle.fs_script.specs.declared.line.Op.TheVariants as ops
use Rattle.span_list.proofs.CallerLemmas.{cut_ends, marks_of_fragments-cut}
use Rattle.piece_table.specs.HeldSpans.{AreGone, Cuts, PutsAll}
use Rattle.client_files.specs.declared.noted.Noted.{Noted}
use Rattle.client_map.specs.Kept.{pending_end}
use Rattle.owner_book.specs.Calls.{version}
use Rattle.owner_book.specs.Commits.{HasHolds}
use Rattle.owner_book.specs.Kept.{BookFile, BookPath, held_in}
use Rattle.owner_book.specs.Truncations.{AreDeadOfBoth, beside, with_size, with_truncation}
use Rattle.core_machine.specs.BookFiles.{IsFile, marks_of_file}
use Rattle.core_machine.specs.Event.{answered, committed_as}
use Rattle.core_machine.specs.Follows.{kept_event}
use Rattle.core_machine.specs.Kept.{AreSound, OwnedPath, file_marks, owned_of, pending_lines}
use Rattle.core_machine.specs.PendingWrites.{IsPushOf}
use Rattle.core_machine.specs.PlainHolds.{AreHeldPlain}
use Rattle.core_machine.specs.ClientPath.{ClientPath}
use Rattle.core_machine.specs.declared.plain_hold.PlainHold.{PlainHold}
use Rattle.core_machine.specs.declared.task.Task.TheVariants.{Idle}
use Rattle.core_machine.proofs.Commits.{holds-cut}
use Rattle.core_machine.proofs.EmptiedLines.{CommitsLine}
use Rattle.core_machine.proofs.PushedPending.{file_with, marks-pushed, pushed-is, puts-pushed, unfrozen-is, with_pushed, within-pushed}

-- ---- the events

module _ (s : Job) (x : OwnedPath) (k : ClientPath) (size : ℕ) where
  pub closed-trunc : k.is_open ≡ false → (free : ℕ) → kept_event s x k free Idle (ops.Trunc size) ≡ answered answers.BadF
  closed-trunc closed free = rw closed refl

  pub refused-trunc : k.is_open ≡ true → x.path.file ≡ None → (free : ℕ)
      → kept_event s x k free Idle (ops.Trunc size) ≡ answered (answers.NoEnt (version x.path))
  refused-trunc opened none free = rw (opened, none) refl

  pub frozen-trunc : (f : BookFile PlainHold) → k.is_open ≡ true → x.path.file ≡ Some f → f.frozen ≡ true → (free : ℕ)
      → kept_event s x k free Idle (ops.Trunc size) ≡ answered (answers.ReadOnly (version x.path))
  frozen-trunc f opened file frozen free = rw (opened, file, frozen) refl

-- ---- what is committed

-- line n put the push of what its client had pending over the file, and gave it so many bytes
module _ (s : Job) (n size : ℕ) (x y : BookPath PlainHold) (told : Noted) (k : ClientPath) (f : BookFile PlainHold) (push : Push PlainHold)
    (dead : List PlainHold) (sound : AreSound s (owned_of x told) k) (file : x.file ≡ Some f) (unfrozen : f.frozen ≡ false) (opened : k.is_open ≡ true)
    (limit : size ≤ LONGEST_FILE) (end : k.pending.end ≡ pending_end k.pending.held.fragments) (is_push : IsPushOf k.pending.held push)
    (changed : y ≡ with_truncation (λ h. h.piece) n push size x)
    (has : HasHolds (λ (h : PlainHold). true) (λ h. h.piece) (λ h. h.bytes) y) (gone : AreDeadOfBoth (λ h. h.piece) push x y dead) where
  is_file : IsFile f
  is_file = subst (λ o. IfSome o IsFile) file sound.written

  abbrev g : BookFile PlainHold
  g = with_size size (with_pushed push f)

  file_then : y.file ≡ Some g
  file_then = ap (λ (q : BookPath PlainHold). q.file) changed
      ∙ ap (option_map (λ (h : BookFile PlainHold). with_size size (with_pushed push h))) file

  event : (free : ℕ) → kept_event s (owned_of x told) k free Idle (ops.Trunc size) ≡ committed_as (length x.journal + 1)
  event free = rw (opened, file, unfrozen) refl

  marks-cut : marks_of_file g ≡ cut no_mark (put_lines s (marks_in s) (pending_lines k) (marks_of_file f)) size
  marks-cut = marks_of_fragments-cut size (with_pushed push f).held.fragments (with_pushed push f).size
      (within-pushed s k.pending push f sound.pending end is_file is_push)
      ∙ ap (λ ms. cut no_mark ms size) (marks-pushed s k.pending push f sound.pending end is_file is_push)

  marks : file_marks y.file ≡ effect_of s (marks_in s) (ops.Trunc size) (pending_lines k) (file_marks x.file)
  marks = ap file_marks file_then ∙ ap (file_with f.frozen) marks-cut
      ∙ sym (unfrozen-is f.frozen f.frozen (cut no_mark (put_lines s (marks_in s) (pending_lines k) (marks_of_file f)) size) (marks_of_file f)
      unfrozen)
      ∙ ap (λ o. effect_of s (marks_in s) (ops.Trunc size) (pending_lines k) (file_marks o)) (sym file)

  puts : PutsAll k.pending.held (held_in x.file) (with_pushed push f).held
  puts = subst (λ o. PutsAll k.pending.held (held_in o) (with_pushed push f).held) (sym file)
      (puts-pushed s k.pending push f sound.pending end is_file is_push)

  cuts : Cuts size (with_pushed push f).held (held_in y.file)
  cuts = subst (λ o. Cuts size (with_pushed push f).held (held_in o)) (sym file_then) (record { fragments = refl; holds = λ q. refl })

  pub commits-truncated : CommitsLine s n (ops.Trunc size) x y told k dead
  commits-truncated = record {
    event = event;
    lines = λ v. refl;
    opened = λ v. refl;
    journal = ap (λ (q : BookPath PlainHold). q.journal) changed;
    marks = marks;
    written = subst (λ o. IfSome o IsFile) (sym file_then) (record {
      are_held = subst (λ o. AreHeldPlain (held_in o)) file_then has;
      within = cut_ends size (with_pushed push f).held.fragments;
      most = limit;
    });
    empties = λ l none. record {
      emptied = none;
      holds = holds-cut k.pending.held (held_in x.file) sound.pending.are_held sound.apart (with_pushed push f).held puts size
          (held_in y.file) cuts has;
      are_gone = subst (λ over. AreGone (λ (h : PlainHold). h.piece) (beside over (held_in x.file)) (held_in y.file) dead)
          (pushed-is k.pending push is_push) gone;
    };
  }
