-- Events that find a file as it is, and the one that makes it: an open, a size and a create.
use Rattle.fs_types.proofs.Common.{◌≡◌, ℕ, ◌+◌, ◌≤◌, true, false, length, Some, None, IfSome, is_some, refl, sym, ap, ◌∙◌, arith, subst}
use Rattle.fs_types.proofs.Common.{All-nil, List, Option, false≢true, length-map, length-map-range_with_len}
use Rattle.fs_types.specs.FragmentMarks.{mark_at}
use Rattle.fs_types.specs.Fragments.{end_of}
use Rattle.fs_types.specs.declared.answer.Answer.TheVariants as answers
use Rattle.fs_types.specs.declared.attr.Attr.{Attr}
use Rattle.fs_script.specs.Vocabulary.{Job, Mark, effect_of, marked_byte, marks_in}
use Rattle.fs_script.specs.declared.line.Op.TheVariants as ops
use Rattle.client_files.specs.Noted.{later_of}
use Rattle.client_files.specs.declared.noted.Noted.{Noted}
use Rattle.owner_book.specs.Calls.{attr, attr_in, created, version}
use Rattle.owner_book.specs.Kept.{BookPath}
use Rattle.owner_book.proofs.CallerLemmas.{holds-created}
use Rattle.core_machine.specs.BookFiles.{IsFile, marks_of_file}
use Rattle.core_machine.specs.ClientPath.{ClientPath, Pending}
use Rattle.core_machine.specs.Event.{answered, committed_as}
use Rattle.core_machine.specs.Follows.{EndsQuietly, kept_event}
use Rattle.core_machine.specs.Kept.{AreSound, OwnedPath, file_hold, file_marks, owned_of, pending_hold, pending_lines}
use Rattle.core_machine.specs.PendingWrites.{ArePending}
use Rattle.core_machine.specs.declared.plain_hold.PlainHold.{PlainHold}
use Rattle.core_machine.specs.declared.task.Task.TheVariants.{Idle}
use Rattle.core_machine.proofs.EventsFollow.{ends-committed, follows-committed, told-file, told-none}

-- ---- where the owner told the version now, and whether there is a file

module _ (s : Job) (x : OwnedPath) (k : ClientPath) (told : ℕ × Attr) (same : told ≡ (version x.path, attr x.path)) (free : ℕ) where
  pub open-there : told.1.exists ≡ true → kept_event s x k free Idle ops.Open ≡ answered (answers.Done told.0)
  open-there there =
      let f = told-file told x.path same there in
      let file = f.1 in
      rw file (ap (λ (t : ℕ × Attr). answered (answers.Done t.0)) (sym same))

  pub open-absent : told.1.exists ≡ false → kept_event s x k free Idle ops.Open ≡ answered (answers.NoEnt told.0)
  open-absent absent =
      let none = told-none told x.path same absent in
      rw none (ap (λ (t : ℕ × Attr). answered (answers.NoEnt t.0)) (sym same))

  -- a file has as many bytes as it has marks
  pub size-there : k.is_open ≡ true → told.1.exists ≡ true
      → kept_event s x k free Idle ops.Size ≡ answered (answers.Sized told.0 told.1.size told.1.frozen)
  size-there opened there =
      let f = told-file told x.path same there in
      let file = f.1 in
      let marks : List (Option Mark) = marks_of_file f.0 in
      let is : told ≡ (version x.path, attr_in (Some f.0)) = same ∙ ap (λ o. (version x.path, attr_in o)) file in
      rw (opened, file)
      (ap (λ n. answered (answers.Sized (version x.path) n f.0.frozen))
      (length-map marks (marked_byte s) ∙ length-map-range_with_len (mark_at f.0.held.fragments) 0 f.0.size)
      ∙ ap (λ (t : ℕ × Attr). answered (answers.Sized t.0 t.1.size t.1.frozen)) (sym is))

  pub size-absent : k.is_open ≡ true → told.1.exists ≡ false → kept_event s x k free Idle ops.Size ≡ answered (answers.NoEnt told.0)
  size-absent opened absent =
      let none = told-none told x.path same absent in
      rw (opened, none) (ap (λ (t : ℕ × Attr). answered (answers.NoEnt t.0)) (sym same))

  pub create-there : told.1.exists ≡ true → kept_event s x k free Idle ops.Create ≡ answered (answers.Exists told.0)
  create-there there =
      let f = told-file told x.path same there in
      let file = f.1 in
      rw file (ap (λ (t : ℕ × Attr). answered (answers.Exists t.0)) (sym same))

-- ---- where there is no file, a create makes one

module _ (s : Job) (n : ℕ) (x y : BookPath PlainHold) (told : Noted) (k l : ClientPath) (v : ℕ) (none : x.file ≡ None)
    (changed : y ≡ created n x) (shows : v ≡ version y)
    (is : l ≡ record k { is_open = true; noted = later_of k.noted (record { version = v; attr = attr (created n x) }) }) where
  event : (free : ℕ) → kept_event s (owned_of x told) k free Idle ops.Create ≡ committed_as (length x.journal + 1)
  event free = rw none refl

  pub ends-created : AreSound s (owned_of x told) k → EndsQuietly s n ops.Create (owned_of x told) k (owned_of y told) l (answers.Done v)
  ends-created sound =
      let journal = ap (λ (p : BookPath PlainHold). p.journal) changed in
      let same = ap attr (sym changed) in
      let pending = ap (λ (w : ClientPath). w.pending) is in
      record {
        ends = λ free. ends-committed s n ops.Create _ x y told k l v (event free) journal shows;
        follows = λ free. follows-committed s n ops.Create _ x y told k l v (event free) journal shows
            (ap (λ (p : BookPath PlainHold). file_marks p.file) changed
            ∙ sym (ap (λ o. effect_of s (marks_in s) ops.Create (pending_lines k) (file_marks o)) none))
            (ap (λ (w : ClientPath). w.noted) is ∙ (λ i. later_of k.noted (record { version = shows i; attr = same i })))
            (ap (λ (w : ClientPath). w.is_open) is) (ap pending_lines is)
            (λ q there. absurd (false≢true (sym (ap (λ (p : BookPath PlainHold). is_some (file_hold p.file q)) changed) ∙ there)))
            (λ q there. ap (λ (w : ClientPath). is_some (pending_hold w q)) (sym is) ∙ there);
        holds = record {
          files = λ q. ap (λ (p : BookPath PlainHold). file_hold p.file q) changed ∙ sym (ap (λ o. file_hold o q) none);
          pending = λ q. ap (λ (p : Pending). p.held.hold_of q) pending;
        };
        sound = record {
          written = subst (λ (p : BookPath PlainHold). IfSome p.file IsFile) (sym changed) (record {
            are_held = holds-created (λ (h : PlainHold). true) (λ h. h.piece) (λ h. h.bytes) n x;
            within = All-nil (λ g. end_of g ≤ 0);
            most = omega arith;
          });
          pending = subst (ArePending s) (sym pending) sound.pending;
          apart = λ q there. ap (λ (p : BookPath PlainHold). file_hold p.file q) changed;
        };
      }
