-- Lines of operations that leave nothing pending for their client: what is kept after them, and what they let go of.
use Rattle.fs_types.proofs.Common.{◌≡◌, ℕ, ◌+◌, ◌++◌, ◌∷◌, ◌||◌, [], true, false, if◌then◌else◌, List, length}
use Rattle.fs_types.proofs.Common.{All, IfSome, nil_from_length, refl, sym, ap, ◌∙◌, subst}
use Rattle.fs_types.proofs.Common.{Option, Some, None, is_some, false≢true, Err, IfOk, Ok, OnOk, Result}
use Rattle.std.proofs.Math.Bool.{and-false}
use Rattle.std.specs.List.{AllPairs}
use Rattle.fs_types.specs.declared.answer.Answer.{Answer}
use Rattle.fs_types.specs.declared.answer.Answer.TheVariants as answers
use Rattle.fs_types.specs.declared.attr.Attr.{Attr}
use Rattle.fs_types.specs.declared.want.Want.{Want}
use Rattle.slot_plain.specs.Log.{Log}
use Rattle.fs_script.specs.Operations.{opens_path}
use Rattle.fs_script.specs.AnswerKinds.{version_of}
use Rattle.fs_script.specs.Vocabulary.{Job, Piece, after_answer, effect_of, marks_in, opens}
use Rattle.fs_script.specs.declared.line.Op.{Op}
use Rattle.piece_table.specs.HeldSpans.{is_named}
use Rattle.client_files.specs.Kept.{KeptFiles, is_open_in, noted_in}
use Rattle.client_files.specs.Noted.{later_of}
use Rattle.client_files.specs.declared.noted.Noted.{Noted}
use Rattle.owner_book.specs.Calls.{attr, version}
use Rattle.owner_book.specs.Kept.{BookFile, BookPath, held_in}
use Rattle.owner_book.proofs.CallerLemmas.{holds-none}
use Rattle.owner_book.specs.declared.committed.Committed.{Committed}
use Rattle.core_machine.specs.BookFiles.{IsFile}
use Rattle.core_machine.specs.ClientPath.{ChangesOwn, ClientPath, Pending, own_of, pending_of}
use Rattle.core_machine.specs.Event.{Event, answered, committed_as}
use Rattle.core_machine.specs.Follows.{Ends, EndsLine, EndsQuietly, EventSound, kept_event}
use Rattle.core_machine.specs.Kept.{OwnedPath, file_hold, file_marks, noted_now, noted_of, owned_of, pending_hold, pending_lines}
use Rattle.core_machine.specs.Logs.{IsHeld, ReleasesAll, are_of_one_slot}
use Rattle.core_machine.specs.PendingWrites.{ArePending, DropsPending, IsNonePending}
use Rattle.core_machine.specs.PlainHolds.{AreHeldPlain}
use Rattle.core_machine.specs.declared.client.Client.{Client}
use Rattle.core_machine.specs.declared.plain_hold.PlainHold.{PlainHold}
use Rattle.core_machine.specs.declared.task.Task.TheVariants.{Idle}
use Rattle.core_machine.proofs.Commits.{Empties, gone-beside, gone-dropped, gone-none, holds-same, kept-before, leaves-emptied}
use Rattle.core_machine.proofs.EventsFollow as follow
use Rattle.core_machine.proofs.EventsFollow.{notes-none, notes-told, told-none}
use Rattle.core_machine.proofs.HeldPieces.{pending-none}
use Rattle.core_machine.proofs.LetGo.{LeavesKept, idle_kept, settle-gone, settle-same, slots-gone}
use Rattle.core_machine.proofs.Settled.{apart-gone, held-gone}

-- each piece of it has its hold
pub holds-there : (file : Option (BookFile PlainHold)) → IfSome file IsFile → AreHeldPlain (held_in file)
holds-there None file = holds-none (λ (h : PlainHold). true) (λ h. h.piece) (λ h. h.bytes)
holds-there (Some f) file = file.are_held

-- two changes of one path leave the others
pub elsewhere-then : (a b c : Client) (p : List ℕ) → ChangesOwn a b p → ChangesOwn b c p → ChangesOwn a c p
elsewhere-then a b c p first second = record {
  chunk = second.chunk ∙ first.chunk;
  files = λ q other. second.files q other ∙ first.files q other;
  pending = λ q other. second.pending q other ∙ first.pending q other;
}

-- what a client keeps for a path once what was pending there was taken, and a version was noted
pub own-taken : (old taken new : Client) (p : List ℕ) (lines : List ℕ) (m : Noted) → taken.files ≡ old.files
    → own_of new p [] ≡ record (own_of taken p []) { noted = later_of (noted_in taken.files p) m }
    → own_of new p [] ≡ record (own_of old p lines) { pending = pending_of taken p []; noted = later_of (noted_in old.files p) m }
own-taken old taken new p lines m same noted = noted ∙ ap (λ (files : KeptFiles). let k : ClientPath = record {
  is_open = is_open_in files p;
  pending = pending_of taken p [];
  noted = later_of (noted_in files p) m;
} in k) same

emptied : (l : ClientPath) (p : Pending) (q : Piece) → l.pending ≡ p → IsNonePending p → pending_hold l q ≡ None
emptied l p q is none = ap (λ (w : Pending). w.held.hold_of q) is ∙ none.holds q

-- ---- lines that commit nothing

module _ (s : Job) (n : ℕ) (op : Op) (r : ℕ) (x : OwnedPath) (k : ClientPath) (logs : List Log)
    (before : EventSound s n op r (idle_kept x k logs)) where
  -- no hold is let go of
  pub ends-quietly : (y : OwnedPath) (l : ClientPath) (a : Answer) → EndsQuietly s n op x k y l a → EndsLine s n op x k logs y l logs a
  ends-quietly y l a quiet = record {
    ends = quiet.ends;
    follows = quiet.follows;
    logs = λ c. settle-same s n c x y k l logs quiet.holds before.stand before.held;
    sound = quiet.sound;
  }

  -- the path wasn't open
  pub ends-closed : ((free : ℕ) → kept_event s x k free Idle op ≡ answered answers.BadF)
      → after_answer op answers.BadF n (pending_lines k) ≡ pending_lines k → EndsLine s n op x k logs x k logs answers.BadF
  ends-closed event lines = ends-quietly x k answers.BadF
      (follow.ends-answered s n op x k k answers.BadF event (notes-none x k Idle answers.BadF refl)
      (sym (ap (λ b. b || k.is_open) (and-false (opens_path op)))) lines refl before.whole.sound)

  -- it is refused by what its owner has of the path, and what was pending is dropped
  module _ (refused : ℕ → Answer) (told : ℕ × Attr) (at : List ℕ → ClientPath) (new : List Log)
      (same : told ≡ (version x.path, attr x.path))
      (event : (free : ℕ) → kept_event s x k free Idle op ≡ answered (refused (version x.path)))
      (lines : after_answer op (refused told.0) n (pending_lines k) ≡ []) (opened : opens op (refused told.0) ≡ false)
      (prints : version_of (refused told.0) ≡ Some told.0)
      (noted : at [] ≡ record k { pending = (at []).pending; noted = later_of k.noted (record { version = told.0; attr = told.1 }) })
      (drops : DropsPending k.pending (at []).pending logs new) where
    abbrev l : ClientPath
    l = at []

    file_held : AreHeldPlain (held_in x.path.file)
    file_held = holds-there x.path.file before.whole.sound.written

    refusal : (free : ℕ) → kept_event s x k free Idle op ≡ answered (refused told.0)
    refusal free = event free ∙ ap (λ (t : ℕ × Attr). answered (refused t.0)) (sym same)

    leaves : LeavesKept x x k l drops.gone
    leaves = leaves-emptied x k before.whole.sound.pending.are_held x l drops.gone (record {
      emptied = drops.none.holds;
      holds = holds-same k.pending.held (held_in x.path.file) before.whole.sound.pending.are_held before.whole.sound.apart file_held;
      are_gone = gone-beside k.pending.held (held_in x.path.file) before.whole.sound.pending.are_held before.whole.sound.apart
          (held_in x.path.file) [] drops.gone (gone-none (held_in x.path.file) file_held.named)
          (gone-dropped k.pending.held (held_in x.path.file) before.whole.sound.pending.are_held before.whole.sound.apart file_held
          l.pending.held drops.gone (nil_from_length l.pending.held.fragments drops.none.fragments) drops.are_gone);
    }) s logs before.stand

    dropped : EndsLine s n op x k logs x l new (refused told.0)
    dropped = record {
      ends = λ free. subst (λ e. Ends e false (refused told.0)) (sym (refusal free))
          (record { answer = refl; doing = refl; filling = refl });
      follows = λ free. follow.follows-noted s n op Idle (kept_event s x k free Idle op) x k l (refused told.0)
          (ap (λ (e : Event). e.commits) (event free))
          (notes-told x k Idle (refused told.0) told l.noted same (ap (λ (w : ClientPath). w.noted) noted) prints)
          (ap (λ (w : ClientPath). w.is_open) noted ∙ sym (ap (λ b. b || k.is_open) opened))
          (nil_from_length l.pending.lines drops.none.lines ∙ sym lines)
          (λ q there. absurd (false≢true (sym (ap is_some (drops.none.holds q)) ∙ there)));
      logs = λ c. settle-gone s x k logs before.stand x l drops.gone before.once leaves n c new before.held drops.logs;
      sound = record {
        written = before.whole.sound.written;
        pending = pending-none s l.pending drops.none;
        apart = λ q there. absurd (false≢true (sym (ap is_some (drops.none.holds q)) ∙ there));
      };
    }

    pub ends-refused : EndsLine s n op x k logs x (at (after_answer op (refused told.0) n (pending_lines k))) new (refused told.0)
    ends-refused = subst (λ ns. EndsLine s n op x k logs x (at ns) new (refused told.0)) (sym lines) dropped

-- ---- lines that were committed

-- line n, the operation op, was committed to the path x and made it y: it leaves nothing pending, and these holds went
pub record CommitsLine (s : Job) (n : ℕ) (op : Op) (x y : BookPath PlainHold) (told : Noted) (k : ClientPath)
    (gone : List PlainHold) : Type 0 where
  pub event : (free : ℕ) → kept_event s (owned_of x told) k free Idle op ≡ committed_as (length x.journal + 1)
  pub lines : (v : ℕ) → after_answer op (answers.Done v) n (pending_lines k) ≡ []
  pub opened : (v : ℕ) → opens op (answers.Done v) ≡ false
  pub journal : y.journal ≡ x.journal ++ n ∷ []
  pub marks : file_marks y.file ≡ effect_of s (marks_in s) op (pending_lines k) (file_marks x.file)
  pub written : IfSome y.file IsFile
  pub empties : (l : ClientPath) → ((q : Piece) → pending_hold l q ≡ None) → Empties (owned_of x told) (owned_of y told) k l gone

module _ (s : Job) (n : ℕ) (op : Op) (r : ℕ) (x y : BookPath PlainHold) (told : Noted) (k : ClientPath) (logs : List Log) (p : Pending)
    (done : Committed PlainHold) (before : EventSound s n op r (idle_kept (owned_of x told) k logs)) (nothing : IsNonePending p)
    (commits : CommitsLine s n op x y told k done.dead.items) where
  leaves-committed : (l : ClientPath) → l.pending ≡ p → LeavesKept (owned_of x told) (owned_of y told) k l done.dead.items
  leaves-committed l is = leaves-emptied (owned_of x told) k before.whole.sound.pending.are_held (owned_of y told) l done.dead.items
      (commits.empties l (λ q. emptied l p q is nothing)) s logs before.stand

  -- the holds that went may be let go of
  pub held-committed : All (IsHeld logs) done.dead.items
  held-committed = held-gone s logs done.dead.items (slots-gone s (owned_of x told) k logs before.stand (owned_of y told)
      (record k { pending = p }) done.dead.items before.once (leaves-committed (record k { pending = p }) refl))

  pub apart-committed : AllPairs (λ g h. are_of_one_slot g h ≡ false) done.dead.items
  apart-committed = apart-gone s logs done.dead.items (slots-gone s (owned_of x told) k logs before.stand (owned_of y told)
      (record k { pending = p }) done.dead.items before.once (leaves-committed (record k { pending = p }) refl))

  module _ (shows : done.v ≡ version y) (same : done.attr ≡ attr y) (at : List ℕ → ClientPath) (new : List Log) where
    abbrev now : ClientPath
    now = at []

    noted_is : noted_of done ≡ noted_now y
    noted_is = λ i. record { version = shows i; attr = same i }

    done-line : now ≡ record k { pending = p; noted = later_of k.noted (noted_of done) } → ReleasesAll done.dead.items logs new
        → EndsLine s n op (owned_of x told) k logs (owned_of y told) now new (answers.Done done.v)
    done-line is released = record {
      ends = λ free. follow.ends-committed s n op (kept_event s (owned_of x told) k free Idle op) x y told k now done.v (commits.event free)
          commits.journal shows;
      follows = λ free. follow.follows-committed s n op (kept_event s (owned_of x told) k free Idle op) x y told k now done.v
          (commits.event free) commits.journal shows commits.marks
          (ap (λ (w : ClientPath). w.noted) is ∙ ap (later_of k.noted) noted_is)
          (ap (λ (w : ClientPath). w.is_open) is ∙ sym (ap (λ b. b || k.is_open) (commits.opened done.v)))
          (ap pending_lines is ∙ nil_from_length p.lines nothing.lines ∙ sym (commits.lines done.v))
          (kept-before (owned_of x told) k before.whole.sound.pending.are_held (owned_of y told) now done.dead.items
          (commits.empties now none))
          (λ q there. absurd (false≢true (sym (ap is_some (none q)) ∙ there)));
      logs = λ c. settle-gone s (owned_of x told) k logs before.stand (owned_of y told) now done.dead.items before.once
          (leaves-committed now (ap (λ (w : ClientPath). w.pending) is)) n c new before.held released;
      sound = record {
        written = commits.written;
        pending = subst (ArePending s) (sym (ap (λ (w : ClientPath). w.pending) is)) (pending-none s p nothing);
        apart = λ q there. absurd (false≢true (sym (ap is_some (none q)) ∙ there));
      };
    } where
      none : (q : Piece) → pending_hold now q ≡ None
      none q = emptied now p q (ap (λ (w : ClientPath). w.pending) is) nothing

    pub ends-committed : (result : Result Answer Want) → IfOk result (λ a. a ≡ answers.Done done.v)
        → OnOk result (now ≡ record k { pending = p; noted = later_of k.noted (noted_of done) }) → ReleasesAll done.dead.items logs new
        → IfOk result (λ a. EndsLine s n op (owned_of x told) k logs (owned_of y told) (at (after_answer op a n (pending_lines k))) new a)
    ends-committed (Err e) answer is released = tt
    ends-committed (Ok a) answer is released =
        subst (λ b. EndsLine s n op (owned_of x told) k logs (owned_of y told) (at (after_answer op b n (pending_lines k))) new b) (sym answer)
        (subst (λ ns. EndsLine s n op (owned_of x told) k logs (owned_of y told) (at ns) new (answers.Done done.v)) (sym (commits.lines done.v))
        (done-line is released))
