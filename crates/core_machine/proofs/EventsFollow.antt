-- What is kept after an event: what its client notes of the path, and all else after one that commits nothing and one that commits.
use Rattle.fs_types.proofs.Common.{◌≡◌, ℕ, ◌+◌, ◌==◌, ◌≤◌, ◌||◌, ◌&&◌, ◌++◌, ◌∷◌, [], true, false, if◌then◌else◌, nat_le, length}
use Rattle.fs_types.proofs.Common.{Option, Some, None, is_some, refl, sym, ap, ◌∙◌, arith, cond_both, length_push, subst, false≢true}
use Rattle.fs_types.proofs.Common.{length-map-range_with_len}
use Rattle.fs_types.specs.FragmentMarks.{mark_at}
use Rattle.fs_types.specs.declared.answer.Answer.{Answer}
use Rattle.fs_types.specs.declared.answer.Answer.TheVariants as answers
use Rattle.fs_types.specs.declared.attr.Attr.{Attr}
use Rattle.fs_script.specs.Vocabulary.{Job, Piece, after_answer, at_least, effect_of, marks_in, opens, version_of}
use Rattle.fs_script.specs.declared.line.Op.{Op}
use Rattle.owner_book.specs.Calls.{attr, attr_in, version}
use Rattle.owner_book.specs.Kept.{BookFile, BookPath}
use Rattle.client_files.specs.Noted.{later_of}
use Rattle.client_files.specs.declared.noted.Noted.{Noted}
use Rattle.client_files.proofs.CallerLemmas.{version-later_of}
use Rattle.core_machine.specs.ClientPath.{ClientPath, Pending}
use Rattle.core_machine.specs.Event.{Event, answered, committed_as, known_of}
use Rattle.core_machine.specs.Follows.{Ends, Follows, EndsQuietly, Knows, KnowsLookedUp, LookedUpWithin, kept_event}
use Rattle.core_machine.specs.HoldsKept.{keeps}
use Rattle.core_machine.specs.Kept.{AreSound, OwnedPath, file_hold, file_marks, noted_now, owned_of, pending_hold}
use Rattle.core_machine.specs.Kept.{pending_lines}
use Rattle.core_machine.specs.PendingWrites.{ArePending}
use Rattle.core_machine.specs.declared.plain_hold.PlainHold.{PlainHold}
use Rattle.core_machine.specs.declared.task.Task.{Task}
use Rattle.core_machine.specs.declared.task.Task.TheVariants.{Idle}

-- ---- what a client notes

-- what a client has noted after an answer is of the greatest version that it saw, one of the journal, and says what is so of it
pub record Notes (x : OwnedPath) (k : ClientPath) (t : Task) (a : Answer) (m : Noted) : Type 0 where
  pub version : m.version ≡ at_least k.noted.version (version_of a)
  pub within : k.noted.version ≤ length x.path.journal → x.told.version ≤ length x.path.journal
      → LookedUpWithin t (length x.path.journal) → m.version ≤ length x.path.journal
  pub known : (at : ℕ → Attr) → Knows at x k → KnowsLookedUp at t → m.attr ≡ at m.version

-- what holds of two notes holds of the later
later-both : (P : Noted → Type 0) (m n : Noted) → P m → P n → P (later_of m n)
later-both P m n first second = cond_both (nat_le n.version m.version) m n P (λ _. first) (λ _. second)

-- what is known of a file are its attributes: it has as many bytes as it has marks
pub known-file : (o : Option (BookFile PlainHold)) → attr_in o ≡ known_of (file_marks o)
known-file None = refl
known-file (Some f) =
    λ i. record { exists = true; size = sym (length-map-range_with_len (mark_at f.held.fragments) 0 f.size) i; frozen = f.frozen }

-- of a path whose line commits nothing the same is noted
pub noted-kept : {s : Job} {n : ℕ} {op : Op} {t : Task} {e : Event} {x y : OwnedPath} {k l : ClientPath} {a : Answer}
    → Follows s n op t e x k y l a → e.commits ≡ false → noted_now y.path ≡ noted_now x.path
noted-kept {s} {n} {op} {t} {e} {x} {y} {k} follows none =
    let journal = follows.journal ∙ ap (λ b. if b then x.path.journal ++ n ∷ [] else x.path.journal) none in
    let marks = follows.marks
    ∙ ap (λ b. if b then effect_of s (marks_in s) op (pending_lines k) (file_marks x.path.file) else file_marks x.path.file) none in
    let known = known-file y.path.file ∙ ap known_of marks ∙ sym (known-file x.path.file) in
    λ i. record { version = length (journal i); attr = known i }

module _ (x : OwnedPath) (k : ClientPath) (t : Task) (a : Answer) where
  -- an answer that prints no version
  pub notes-none : version_of a ≡ None → Notes x k t a k.noted
  notes-none none = record {
    version = ap (at_least k.noted.version) (sym none);
    within = λ seen told looked. seen;
    known = λ at knows looked. knows.noted;
  }

  -- one that prints the version of what is noted then
  pub notes-later : (m : Noted) → version_of a ≡ Some m.version
      → (k.noted.version ≤ length x.path.journal → x.told.version ≤ length x.path.journal → LookedUpWithin t (length x.path.journal)
      → m.version ≤ length x.path.journal)
      → ((at : ℕ → Attr) → Knows at x k → KnowsLookedUp at t → m.attr ≡ at m.version) → Notes x k t a (later_of k.noted m)
  notes-later m shows within known = record {
    version = version-later_of k.noted m ∙ ap (at_least k.noted.version) (sym shows);
    within = λ seen told looked. later-both (λ n. n.version ≤ length x.path.journal) k.noted m seen (within seen told looked);
    known = λ at knows looked.
        later-both (λ n. n.attr ≡ at n.version) k.noted m knows.noted (known at knows looked);
  }

  -- the version now
  pub notes-now : version_of a ≡ Some (version x.path) → Notes x k t a (later_of k.noted (noted_now x.path))
  notes-now shows = notes-later (noted_now x.path) shows (λ seen told looked. omega arith) (λ at knows looked. known-file x.path.file ∙ knows.now)

  -- as the owner told it
  pub notes-told : (told : ℕ × Attr) (m : Noted) → told ≡ (version x.path, attr x.path)
      → m ≡ later_of k.noted (record { version = told.0; attr = told.1 }) → version_of a ≡ Some told.0 → Notes x k t a m
  notes-told told m same is shows =
      subst (Notes x k t a) (sym (is ∙ ap (λ (u : ℕ × Attr). later_of k.noted (record { version = u.0; attr = u.1 })) same))
      (notes-now (shows ∙ ap (λ (u : ℕ × Attr). Some u.0) same))

  -- the client's front
  pub notes-front : version_of a ≡ Some (later_of k.noted x.told).version → Notes x k t a (later_of k.noted (later_of k.noted x.told))
  notes-front shows = notes-later (later_of k.noted x.told) shows
      (λ seen told looked. later-both (λ n. n.version ≤ length x.path.journal) k.noted x.told seen told)
      (λ at knows looked. later-both (λ n. n.attr ≡ at n.version) k.noted x.told knows.noted knows.board)

-- ---- events that commit nothing

-- what was told of a path tells whether it has a file
pub told-none : (told : ℕ × Attr) (x : BookPath PlainHold) → told ≡ (version x, attr x) → told.1.exists ≡ false → x.file ≡ None
told-none told x same absent = by x.file refl
  where
    by : (o : Option (BookFile PlainHold)) → x.file ≡ o → x.file ≡ None
    by None is = is
    by (Some f) is = absurd (false≢true (sym absent ∙ ap (λ (t : ℕ × Attr). t.1.exists) same ∙ ap (λ o. (attr_in o).exists) is))

pub told-file : (told : ℕ × Attr) (x : BookPath PlainHold) → told ≡ (version x, attr x) → told.1.exists ≡ true
    → (f : BookFile PlainHold) × (x.file ≡ Some f)
told-file told x same there = by x.file refl
  where
    by : (o : Option (BookFile PlainHold)) → x.file ≡ o → (f : BookFile PlainHold) × (x.file ≡ Some f)
    by None is = absurd (false≢true (sym (ap (λ (t : ℕ × Attr). t.1.exists) same ∙ ap (λ o. (attr_in o).exists) is) ∙ there))
    by (Some f) is = (f, is)

-- and whether that is frozen
pub told-frozen : (told : ℕ × Attr) (x : BookPath PlainHold) (f : BookFile PlainHold) → told ≡ (version x, attr x) → x.file ≡ Some f
    → f.frozen ≡ told.1.frozen
told-frozen told x f same is = sym (ap (λ (t : ℕ × Attr). t.1.frozen) same ∙ ap (λ o. (attr_in o).frozen) is)

module _ (s : Job) (n : ℕ) (op : Op) (t : Task) (e : Event) (x : OwnedPath) (k l : ClientPath) (a : Answer) (commits : e.commits ≡ false)
    (notes : Notes x k t a l.noted) (opened : l.is_open ≡ (opens op a || k.is_open))
    (lines : pending_lines l ≡ after_answer op a n (pending_lines k)) where
  pub follows-kept : ((q : Piece) → is_some (pending_hold l q) ≡ true → (is_some (pending_hold k q) || e.fills && q.line == n) ≡ true)
      → Follows s n op t e x k x l a
  follows-kept pieces = record {
    journal = sym (ap (λ b. if b then x.path.journal ++ n ∷ [] else x.path.journal) commits);
    marks = sym (ap (λ b. if b then effect_of s (marks_in s) op (pending_lines k) (file_marks x.path.file) else file_marks x.path.file) commits);
    told = refl;
    opened = opened;
    pending = lines;
    version = notes.version;
    within = notes.within;
    known = notes.known;
    owned = λ q there. ap (λ b. b || is_some (pending_hold k q)) there;
    pieces = pieces;
  }

  -- nothing more is pending than was
  pub follows-noted : ((q : Piece) → is_some (pending_hold l q) ≡ true → is_some (pending_hold k q) ≡ true) → Follows s n op t e x k x l a
  follows-noted from = follows-kept (λ q there. ap (λ b. b || e.fills && q.line == n) (from q there))

-- where what is pending stays, what is kept is sound as before
pub same-sound : (s : Job) (x : OwnedPath) (k l : ClientPath) → l.pending ≡ k.pending → AreSound s x k → AreSound s x l
same-sound s x k l same sound = record {
  written = sound.written;
  pending = subst (ArePending s) (sym same) sound.pending;
  apart = λ q there. sound.apart q (ap (λ (p : Pending). is_some (p.held.hold_of q)) (sym same) ∙ there);
}

-- the line ends with an answer, and what is pending stays
module _ (s : Job) (n : ℕ) (op : Op) (x : OwnedPath) (k l : ClientPath) (a : Answer)
    (event : (free : ℕ) → kept_event s x k free Idle op ≡ answered a) (notes : Notes x k Idle a l.noted)
    (opened : l.is_open ≡ (opens op a || k.is_open)) (lines : after_answer op a n (pending_lines k) ≡ pending_lines k)
    (same : l.pending ≡ k.pending) where
  holds : (q : Piece) → pending_hold l q ≡ pending_hold k q
  holds q = ap (λ (p : Pending). p.held.hold_of q) same

  pub ends-answered : AreSound s x k → EndsQuietly s n op x k x l a
  ends-answered sound = record {
    ends = λ free. subst (λ e. Ends e false a) (sym (event free)) (record { answer = refl; doing = refl; filling = refl });
    follows = λ free. follows-noted s n op Idle (kept_event s x k free Idle op) x k l a (ap (λ (e : Event). e.commits) (event free)) notes
        opened (ap (λ (p : Pending). p.lines) same ∙ sym lines) (λ q there. ap is_some (sym (holds q)) ∙ there);
    holds = record { files = λ q. refl; pending = holds };
    sound = same-sound s x k l same sound;
  }

-- ---- events that commit their line

module _ (s : Job) (n : ℕ) (op : Op) (e : Event) (x y : BookPath PlainHold) (told : Noted) (k l : ClientPath) (v : ℕ)
    (event : e ≡ committed_as (length x.journal + 1)) (journal : y.journal ≡ x.journal ++ n ∷ []) (shows : v ≡ version y) where
  longer : version y ≡ length x.journal + 1
  longer = ap length journal ∙ length_push x.journal n

  pub ends-committed : Ends e false (answers.Done v)
  ends-committed = subst (λ f. Ends f false (answers.Done v)) (sym (event ∙ ap committed_as (sym (shows ∙ longer))))
      (record { answer = refl; doing = refl; filling = refl })

  pub follows-committed : file_marks y.file ≡ effect_of s (marks_in s) op (pending_lines k) (file_marks x.file)
      → l.noted ≡ later_of k.noted (noted_now y) → l.is_open ≡ (opens op (answers.Done v) || k.is_open)
      → pending_lines l ≡ after_answer op (answers.Done v) n (pending_lines k)
      → ((q : Piece) → is_some (file_hold y.file q) ≡ true → keeps (owned_of x told) k q ≡ true)
      → ((q : Piece) → is_some (pending_hold l q) ≡ true → is_some (pending_hold k q) ≡ true)
      → Follows s n op Idle e (owned_of x told) k (owned_of y told) l (answers.Done v)
  follows-committed marks noted opened lines owned from =
      let notes = subst (Notes (owned_of y told) k Idle (answers.Done v)) (sym noted)
      (notes-now (owned_of y told) k Idle (answers.Done v) (ap Some shows)) in
      record {
        journal = journal ∙ sym (ap (λ (f : Event). if f.commits then x.journal ++ n ∷ [] else x.journal) event);
        marks = marks
            ∙ sym (ap (λ (f : Event). if f.commits then effect_of s (marks_in s) op (pending_lines k) (file_marks x.file)
            else file_marks x.file) event);
        told = refl;
        opened = opened;
        pending = lines;
        version = notes.version;
        within = λ seen told looked. notes.within (omega (arith, seen, longer)) (omega (arith, told, longer)) tt;
        known = λ at knows looked. notes.known at knows tt;
        owned = owned;
        pieces = λ q there. ap (λ b. b || e.fills && q.line == n) (from q there);
      }
