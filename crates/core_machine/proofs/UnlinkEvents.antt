-- An unlink: its events, and what it leaves of the path.
use Rattle.fs_types.proofs.Common.{◌≡◌, ℕ, ◌+◌, ◌++◌, true, false, List, length, Some, None, IfSome, if◌then◌else◌}
use Rattle.fs_types.proofs.Common.{nil_from_length, refl, sym, ap, ◌∙◌, subst}
use Rattle.fs_types.specs.declared.answer.Answer.TheVariants as answers
use Rattle.fs_script.specs.Vocabulary.{Job, effect_of, marks_in}
use Rattle.fs_script.specs.declared.line.Op.TheVariants as ops
use Rattle.piece_table.specs.HeldSpans.{AreGone, is_named}
use Rattle.client_files.specs.declared.noted.Noted.{Noted}
use Rattle.owner_book.specs.Calls.{version, without_file}
use Rattle.owner_book.specs.Commits.{AreDead}
use Rattle.owner_book.specs.Kept.{BookFile, BookPath, held_in}
use Rattle.core_machine.specs.BookFiles.{IsFile}
use Rattle.core_machine.specs.Event.{answered, committed_as}
use Rattle.core_machine.specs.Follows.{kept_event}
use Rattle.core_machine.specs.Kept.{AreSound, OwnedPath, file_hold, file_marks, owned_of, pending_lines}
use Rattle.core_machine.specs.PendingWrites.{IsNonePending}
use Rattle.core_machine.specs.ClientPath.{ClientPath, Pending}
use Rattle.core_machine.specs.declared.plain_hold.PlainHold.{PlainHold}
use Rattle.core_machine.specs.declared.task.Task.TheVariants.{Idle}
use Rattle.core_machine.proofs.Commits.{gone-beside, gone-unnamed, kept_held}
use Rattle.core_machine.proofs.EmptiedLines.{CommitsLine}

-- ---- the events

module _ (s : Job) (x : OwnedPath) (k : ClientPath) where
  pub closed-unlink : k.is_open ≡ false → (free : ℕ) → kept_event s x k free Idle ops.Unlink ≡ answered answers.BadF
  closed-unlink closed free = rw closed refl

  pub refused-unlink : k.is_open ≡ true → x.path.file ≡ None → (free : ℕ)
      → kept_event s x k free Idle ops.Unlink ≡ answered (answers.NoEnt (version x.path))
  refused-unlink opened none free = rw (opened, none) refl

-- ---- what is committed

-- line n took the file away, and what its client had pending was dropped
module _ (s : Job) (n : ℕ) (x y : BookPath PlainHold) (told : Noted) (k : ClientPath) (f : BookFile PlainHold) (p : Pending)
    (dead gone after : List PlainHold) (sound : AreSound s (owned_of x told) k) (file : x.file ≡ Some f) (opened : k.is_open ≡ true)
    (changed : y ≡ without_file n x) (of_file : AreDead (λ h. h.piece) x y dead) (nothing : IsNonePending p)
    (of_pending : AreGone (λ (h : PlainHold). h.piece) k.pending.held p.held gone) (both : after ≡ dead ++ gone) where
  none_then : y.file ≡ None
  none_then = ap (λ (q : BookPath PlainHold). q.file) changed

  event : (free : ℕ) → kept_event s (owned_of x told) k free Idle ops.Unlink ≡ committed_as (length x.journal + 1)
  event free = rw (opened, file) refl

  pub commits-unlinked : CommitsLine s n ops.Unlink x y told k after
  commits-unlinked = record {
    event = event;
    lines = λ v. refl;
    opened = λ v. refl;
    journal = ap (λ (q : BookPath PlainHold). q.journal) changed;
    marks = ap file_marks none_then ∙ ap (λ o. effect_of s (marks_in s) ops.Unlink (pending_lines k) (file_marks o)) (sym file);
    written = subst (λ o. IfSome o IsFile) (sym none_then) tt;
    empties = λ l none. record {
      emptied = none;
      holds = λ q. ap (λ o. file_hold o q) none_then
          ∙ sym (ap (λ o. if is_named (held_in o).fragments q then (kept_held (owned_of x told) k).hold_of q else None) none_then);
      are_gone = subst (λ all. AreGone (λ (h : PlainHold). h.piece) (kept_held (owned_of x told) k) (held_in y.file) all) (sym both)
          (gone-beside k.pending.held (held_in x.file) sound.pending.are_held sound.apart (held_in y.file) dead gone of_file
          (gone-unnamed k.pending.held p.held (held_in y.file) gone
          (nil_from_length p.held.fragments nothing.fragments ∙ sym (ap (λ o. (held_in o).fragments) none_then)) of_pending));
    };
  }
