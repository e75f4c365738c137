-- A sync that commits what is pending: what it makes of the file.
use Rattle.fs_types.proofs.Common.{◌≡◌, ℕ, ◌+◌, true, false, List, [], length, Some, None, IfSome}
use Rattle.fs_types.proofs.Common.{option_map, refl, sym, ap, ◌∙◌, subst}
use Rattle.fs_types.specs.declared.answer.Answer.TheVariants as answers
use Rattle.fs_types.specs.declared.attr.Attr.{Attr}
use Rattle.fs_types.specs.declared.push.Push.{Push}
use Rattle.slot_plain.specs.Log.{Log}
use Rattle.fs_script.specs.Vocabulary.{Job, effect_of, has_any, marks_in, put_lines}
use Rattle.fs_script.specs.declared.line.Op.TheVariants as ops
use Rattle.piece_table.specs.HeldSpans.{PutsAll}
use Rattle.client_files.specs.Noted.{later_of}
use Rattle.client_files.specs.declared.noted.Noted.{Noted}
use Rattle.client_map.specs.Kept.{pending_end}
use Rattle.owner_book.specs.Calls.{attr, version}
use Rattle.owner_book.specs.Commits.{AreDead, HasHolds, with_commit}
use Rattle.owner_book.specs.Kept.{BookFile, BookPath, held_in}
use Rattle.core_machine.specs.BookFiles.{IsFile, marks_of_file}
use Rattle.core_machine.specs.Event.{answered, committed_as}
use Rattle.core_machine.specs.Follows.{EndsLine, EventSound, kept_event}
use Rattle.core_machine.specs.Kept.{AreSound, OwnedPath, file_marks, owned_of, pending_lines}
use Rattle.core_machine.specs.PendingWrites.{IsPushOf}
use Rattle.core_machine.specs.PlainHolds.{AreHeldPlain}
use Rattle.core_machine.specs.ClientPath.{ClientPath}
use Rattle.core_machine.specs.declared.plain_hold.PlainHold.{PlainHold}
use Rattle.core_machine.specs.declared.task.Task.TheVariants.{Idle}
use Rattle.core_machine.proofs.Commits.{gone-put, holds-put}
use Rattle.core_machine.proofs.EmptiedLines.{CommitsLine, ends-quietly}
use Rattle.core_machine.proofs.EventsFollow.{ends-answered, notes-told, told-file}
use Rattle.core_machine.proofs.LetGo.{idle_kept}
use Rattle.core_machine.proofs.PushedPending.{file-pushed, file_with, marks-pushed, puts-pushed, unfrozen-is, with_pushed}

-- ---- the events

module _ (s : Job) (x : OwnedPath) (k : ClientPath) where
  pub closed-sync : k.is_open ≡ false → (free : ℕ) → kept_event s x k free Idle ops.Sync ≡ answered answers.BadF
  closed-sync closed free = rw closed refl

  pub refused-sync : k.is_open ≡ true → x.path.file ≡ None → (free : ℕ)
      → kept_event s x k free Idle ops.Sync ≡ answered (answers.NoEnt (version x.path))
  refused-sync opened none free = rw (opened, none) refl

  pub frozen-sync : (f : BookFile PlainHold) → k.is_open ≡ true → x.path.file ≡ Some f → f.frozen ≡ true → has_any (pending_lines k) ≡ true
      → (free : ℕ) → kept_event s x k free Idle ops.Sync ≡ answered (answers.ReadOnly (version x.path))
  frozen-sync f opened file frozen any free = rw (opened, file, any, frozen) refl

  empty-sync : (f : BookFile PlainHold) → k.is_open ≡ true → x.path.file ≡ Some f → pending_lines k ≡ [] → (free : ℕ)
      → kept_event s x k free Idle ops.Sync ≡ answered (answers.Done (version x.path))
  empty-sync f opened file none free = rw (opened, file, none) refl

  -- nothing is pending
  pub ends-empty : (n r : ℕ) (logs : List Log) → EventSound s n ops.Sync r (idle_kept x k logs) → (told : ℕ × Attr) (l : ClientPath)
      → told ≡ (version x.path, attr x.path) → told.1.exists ≡ true → k.is_open ≡ true → pending_lines k ≡ []
      → l ≡ record k { noted = later_of k.noted (record { version = told.0; attr = told.1 }) }
      → EndsLine s n ops.Sync x k logs x l logs (answers.Done told.0)
  ends-empty n r logs before told l same there opened none is =
      let f = told-file told x.path same there in
      ends-quietly s n ops.Sync r x k logs before x l (answers.Done told.0)
      (ends-answered s n ops.Sync x k l (answers.Done told.0)
      (λ free. empty-sync f.0 opened f.1 none free ∙ ap (λ (t : ℕ × Attr). answered (answers.Done t.0)) (sym same))
      (notes-told x k Idle (answers.Done told.0) told l.noted same (ap (λ (w : ClientPath). w.noted) is) refl)
      (ap (λ (w : ClientPath). w.is_open) is) (sym none) (ap (λ (w : ClientPath). w.pending) is) before.whole.sound)

-- ---- what is committed

-- line n put the push of what its client had pending over the file
module _ (s : Job) (n : ℕ) (x y : BookPath PlainHold) (told : Noted) (k : ClientPath) (f : BookFile PlainHold) (push : Push PlainHold)
    (dead : List PlainHold) (sound : AreSound s (owned_of x told) k) (file : x.file ≡ Some f) (unfrozen : f.frozen ≡ false) (opened : k.is_open ≡ true)
    (any : has_any (pending_lines k) ≡ true) (end : k.pending.end ≡ pending_end k.pending.held.fragments)
    (is_push : IsPushOf k.pending.held push)
    (changed : y ≡ with_commit (λ h. h.piece) n push x) (has : HasHolds (λ (h : PlainHold). true) (λ h. h.piece) (λ h. h.bytes) y)
    (gone : AreDead (λ h. h.piece) x y dead) where
  is_file : IsFile f
  is_file = subst (λ o. IfSome o IsFile) file sound.written

  file_then : y.file ≡ Some (with_pushed push f)
  file_then = ap (λ (q : BookPath PlainHold). q.file) changed ∙ ap (option_map (with_pushed push)) file

  event : (free : ℕ) → kept_event s (owned_of x told) k free Idle ops.Sync ≡ committed_as (length x.journal + 1)
  event free = rw (opened, file, any, unfrozen) refl

  marks : file_marks y.file ≡ effect_of s (marks_in s) ops.Sync (pending_lines k) (file_marks x.file)
  marks = ap file_marks file_then ∙ ap (file_with f.frozen) (marks-pushed s k.pending push f sound.pending end is_file is_push)
      ∙ sym (unfrozen-is f.frozen f.frozen (put_lines s (marks_in s) (pending_lines k) (marks_of_file f)) (marks_of_file f) unfrozen)
      ∙ ap (λ o. effect_of s (marks_in s) ops.Sync (pending_lines k) (file_marks o)) (sym file)

  puts : PutsAll k.pending.held (held_in x.file) (held_in y.file)
  puts = subst (λ o. PutsAll k.pending.held (held_in o) (held_in y.file)) (sym file)
      (subst (λ o. PutsAll k.pending.held f.held (held_in o)) (sym file_then)
      (puts-pushed s k.pending push f sound.pending end is_file is_push))

  pub commits-synced : CommitsLine s n ops.Sync x y told k dead
  commits-synced = record {
    event = event;
    lines = λ v. refl;
    opened = λ v. refl;
    journal = ap (λ (q : BookPath PlainHold). q.journal) changed;
    marks = marks;
    written = subst (λ o. IfSome o IsFile) (sym file_then) (file-pushed s k.pending push f sound.pending end is_file is_push
        (subst (λ o. AreHeldPlain (held_in o)) file_then has));
    empties = λ l none. record {
      emptied = none;
      holds = holds-put k.pending.held (held_in x.file) sound.pending.are_held sound.apart (held_in y.file) puts has;
      are_gone = gone-put k.pending.held (held_in x.file) sound.pending.are_held sound.apart (held_in y.file) puts has dead gone;
    };
  }
