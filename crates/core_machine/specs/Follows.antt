-- When an answer to a client's line, or that it has none yet, and what is kept after it, are those of the machine's event.
use Rattle.std.specs.Prelude.{◌≡◌, ◌≢◌, ℕ, ◌-◌, ◌^◌, ◌≤◌, ◌<◌, ◌==◌, Bool, true, false, ◌||◌, ◌&&◌, ◌∷◌, [], ◌++◌, List, length, Option}
use Rattle.std.specs.Prelude.{Some, None, IsSome, is_some}
use Rattle.std.specs.Prelude.{slice_set, if◌then◌else◌, slice_get}
use Rattle.slot_plain.specs.Log.{Log}
use Rattle.slot_plain.specs.Slots.{StoredPiece}
use Rattle.fs_script.specs.Vocabulary.{Answer, Job, Piece, marks_in, version_of, after_answer, effect_of, at_least, opens, asked}
use Rattle.fs_script.specs.declared.line.Op.{Op}
use Rattle.fs_types.specs.declared.attr.Attr.{Attr}
use Rattle.owner_book.specs.Calls.{attr}
use Rattle.owner_book.specs.Kept.{Book}
use Rattle.client_files.specs.Kept.{KeptBoard, told_in}
use Rattle.core_machine.specs.declared.plain_hold.PlainHold.{PlainHold}
use Rattle.core_machine.specs.ClientPath.{ChangesOwn, ClientPath, lines_then, own_of}
use Rattle.core_machine.specs.declared.client.Client.{Client}
use Rattle.core_machine.specs.declared.task.Task.{Task}
use Rattle.core_machine.specs.declared.task.Task.TheVariants.{Idle, Read}
use Rattle.core_machine.specs.Books.{ChangesPath, path_at}
use Rattle.core_machine.specs.Doing.{nothing}
use Rattle.core_machine.specs.Event.{Event, known_of}
use Rattle.core_machine.specs.Slots.{empty_slots}
use Rattle.core_machine.specs.Step.{event_of}
use Rattle.core_machine.specs.Kept.{AreSound, OwnedPath, file_marks, file_hold, kept_now, owned_of, pending_hold, pending_lines}
use Rattle.core_machine.specs.Logs.{AreFreeSlots, AreHeldSlots, AreInOneSlot, AreInMemory, HoldsStand, pieces_of, slot_in}
use Rattle.core_machine.specs.HoldsKept.{holds_kept, keeps}
use Rattle.core_machine.specs.Settling.{LogsFollow}
use Rattle.core_machine.specs.Task.{IsTask, doing_of, task_hold}

-- the event of an operation over what is kept, where so many slots of the client's log are free
abbrev pub kept_event : Job → OwnedPath → ClientPath → ℕ → Task → Op → Event
kept_event s x k free t op = event_of s (kept_now s x k free) (doing_of t) op

-- the version that a read under way looked up is one of so many
abbrev pub LookedUpWithin : Task → ℕ → Type 0
LookedUpWithin Idle versions = Unit {0}
LookedUpWithin (Read t) versions = t.version ≤ versions

-- and the attributes are those of the file at it, as `at` says of the versions
abbrev pub KnowsLookedUp : (ℕ → Attr) → Task → Type 0
KnowsLookedUp at Idle = Unit {0}
KnowsLookedUp at (Read t) = t.attr ≡ at t.version

-- the attributes that a read under way looked up, or those that one which begins finds
abbrev pub attr_seen : OwnedPath → Task → Attr
attr_seen x Idle = attr x.path
attr_seen x (Read t) = t.attr

-- a read under way has these attributes
abbrev pub HasAttr : Attr → Task → Type 0
HasAttr a Idle = Unit {0}
HasAttr a (Read t) = t.attr ≡ a

-- what was noted of each version, and the file now, are as `at` says of the versions
pub record Knows (at : ℕ → Attr) (x : OwnedPath) (k : ClientPath) : Type 0 where
  pub noted : k.noted.attr ≡ at k.noted.version
  pub board : x.told.attr ≡ at x.told.version
  pub now : known_of (file_marks x.path.file) ≡ at (length x.path.journal)

-- an event brings its line to its end with this answer, and puts the line's pieces into slots or doesn't
pub record Ends (e : Event) (fills : Bool) (a : Answer) : Type 0 where
  pub answer : e.answer ≡ Some a
  pub doing : e.doing ≡ nothing
  pub filling : e.fills ≡ fills

-- the same holds are kept of a path and by a client on it
pub record KeepsHolds (x : OwnedPath) (k : ClientPath) (y : OwnedPath) (l : ClientPath) : Type 0 where
  pub files : (q : Piece) → file_hold y.path.file q ≡ file_hold x.path.file q
  pub pending : (q : Piece) → pending_hold l q ≡ pending_hold k q

-- line n of a client, the operation op, had this event with this answer, while the client was in the midst of t; x and k are
-- what was kept for its path and for the client on it, and y and l what is kept after it
pub record Follows (s : Job) (n : ℕ) (op : Op) (t : Task) (e : Event) (x : OwnedPath) (k : ClientPath) (y : OwnedPath) (l : ClientPath)
    (a : Answer) : Type 0 where
  pub journal : y.path.journal ≡ (if e.commits then x.path.journal ++ n ∷ [] else x.path.journal)
  pub marks : file_marks y.path.file
      ≡ (if e.commits then effect_of s (marks_in s) op (pending_lines k) (file_marks x.path.file) else file_marks x.path.file)
  pub told : y.told ≡ x.told
  pub opened : l.is_open ≡ (opens op a || k.is_open)
  pub pending : pending_lines l ≡ after_answer op a n (pending_lines k)
  pub version : l.noted.version ≡ at_least k.noted.version (version_of a)
  pub within : k.noted.version ≤ length x.path.journal → x.told.version ≤ length x.path.journal
      → LookedUpWithin t (length x.path.journal) → l.noted.version ≤ length y.path.journal
  -- whatever the versions' files are, what was noted goes on saying it
  pub known : (at : ℕ → Attr) → Knows at y k → KnowsLookedUp at t → l.noted.attr ≡ at l.noted.version
  -- a piece is kept only where one was, or where the line itself wrote it
  pub owned : (q : Piece) → is_some (file_hold y.path.file q) ≡ true → keeps x k q ≡ true
  pub pieces : (q : Piece) → is_some (pending_hold l q) ≡ true → (is_some (pending_hold k q) || e.fills && q.line == n) ≡ true

-- without an answer nothing is kept otherwise than before, and nothing is committed or put into slots
pub record KeepsAll (e : Event) (x : OwnedPath) (k : ClientPath) (y : OwnedPath) (l : ClientPath) : Type 0 where
  pub commits : e.commits ≡ false
  pub fills : e.fills ≡ false
  pub owned : y ≡ x
  pub client : l ≡ k

-- what is kept after an event, by its answer
abbrev pub FollowsBy : Job → ℕ → Op → Task → Event → OwnedPath → ClientPath → OwnedPath → ClientPath → Option Answer → Type 0
FollowsBy s n op t e x k y l None = KeepsAll e x k y l
FollowsBy s n op t e x k y l (Some a) = Follows s n op t e x k y l a

-- each hold of the file, of what is pending and of what the client is in the midst of is of a slot that has its piece
pub record KeptStand (s : Job) (logs : List Log) (x : OwnedPath) (k : ClientPath) (t : Task) : Type 0 where
  pub files : HoldsStand s logs (file_hold x.path.file)
  pub pending : HoldsStand s logs (pending_hold k)
  pub pins : HoldsStand s logs (task_hold t)

-- all that an event of a client may change: what is kept for its path and for the client on it, what the client is in the midst
-- of, and the logs
pub record EventKept : Type 0 where
  pub owned : OwnedPath
  pub client : ClientPath
  pub task : Task
  pub logs : List Log

-- how many slots of client r's log are free
abbrev pub free_in : List Log → ℕ → ℕ
free_in logs r = length (empty_slots (pieces_of (slice_get logs r)))

-- the logs follow client r's line n, which fills slots or doesn't, and what is kept then is of slots that have its pieces once the
-- line's own are in theirs
pub record LogsSettle (s : Job) (n r : ℕ) (fills : Bool) (old new : EventKept) : Type 0 where
  pub logs : LogsFollow s n r fills (holds_kept old.owned old.client old.task) (holds_kept new.owned new.client new.task) old.logs new.logs
  pub stand : KeptStand s logs.filled new.owned new.client new.task

-- Line n, the operation op of a client in the midst of nothing, came to its end with this answer, put nothing into slots and let no
-- hold go: what is kept after it follows the event, and is sound.
pub record EndsQuietly (s : Job) (n : ℕ) (op : Op) (x : OwnedPath) (k : ClientPath) (y : OwnedPath) (l : ClientPath) (a : Answer) : Type 0 where
  pub ends : (free : ℕ) → Ends (kept_event s x k free Idle op) false a
  pub follows : (free : ℕ) → Follows s n op Idle (kept_event s x k free Idle op) x k y l a
  pub holds : KeepsHolds x k y l
  pub sound : AreSound s y l

-- Line n, the operation op of a client in the midst of nothing, came to its end with this answer and put nothing into slots: what is
-- kept after it and the logs follow the event, and what is kept is sound.
pub record EndsLine (s : Job) (n : ℕ) (op : Op) (x : OwnedPath) (k : ClientPath) (was : List Log) (y : OwnedPath) (l : ClientPath)
    (now : List Log) (a : Answer) : Type 0 where
  pub ends : (free : ℕ) → Ends (kept_event s x k free Idle op) false a
  pub follows : (free : ℕ) → Follows s n op Idle (kept_event s x k free Idle op) x k y l a
  pub logs : (r : ℕ) → LogsSettle s n r false
      (record { owned = x; client = k; task = Idle; logs = was }) (record { owned = y; client = l; task = Idle; logs = now })
  pub sound : AreSound s y l

-- line n of client r, the operation op, had its event with this answer, if it has one
pub record EventFollows (s : Job) (n : ℕ) (op : Op) (r : ℕ) (old new : EventKept) (a : Option Answer) : Type 0 where
  pub event : Event
  pub is : event ≡ kept_event s old.owned old.client (free_in old.logs r) old.task op
  pub answer : event.answer ≡ a
  pub doing : event.doing ≡ doing_of new.task
  pub attr : HasAttr (attr_seen old.owned old.task) new.task
  pub kept : FollowsBy s n op old.task event old.owned old.client new.owned new.client a
  pub settles : LogsSettle s n r event.fills old new

-- only a read is in the midst of its line
abbrev pub MayBeIn : Op → Task → Type 0
MayBeIn op Idle = Unit {0}
MayBeIn op (Read t) = IsSome (asked op)

-- what is kept for a path and a client, and what the client is in the midst of, is whole
pub record IsWhole (s : Job) (op : Op) (kept : EventKept) : Type 0 where
  pub sound : AreSound s kept.owned kept.client
  pub task : IsTask s kept.task
  pub midst : MayBeIn op kept.task

-- before an event of a read: all is whole, each hold is of a slot that has its piece, and the logs are in memory
pub record ReadSound (s : Job) (op : Op) (kept : EventKept) : Type 0 where
  pub whole : IsWhole s op kept
  pub stand : KeptStand s kept.logs kept.owned kept.client kept.task
  pub memory : AreInMemory s kept.logs

-- Before the event of line n of client r: all is whole, nothing of the line is kept yet or in a slot, and each hold is of a slot
-- that has its piece. No piece is in two slots, each slot that has one is held, though not so often that it couldn't be held
-- once more, and each that has none is free. The logs are in memory, and that of the client is there, under its rank.
pub record EventSound (s : Job) (n : ℕ) (op : Op) (r : ℕ) (kept : EventKept) : Type 0 where
  pub whole : IsWhole s op kept
  pub fresh : (q : Piece) → q.line ≡ n → keeps kept.owned kept.client q ≡ false
  pub unfilled : (q i : ℕ) (p : StoredPiece) → (slot_in kept.logs q i).piece ≡ Some p → p.id.line ≢ n
  pub stand : KeptStand s kept.logs kept.owned kept.client kept.task
  pub once : AreInOneSlot kept.logs
  pub held : AreHeldSlots kept.logs
  pub free : AreFreeSlots kept.logs
  pub few : (q i : ℕ) → (slot_in kept.logs q i).count < 2 ^ 64 - 1
  pub memory : AreInMemory s kept.logs
  pub log : r < length kept.logs
  pub rank : (log : Log) → slice_get kept.logs r ≡ Some log → log.rank ≡ r

-- ---- what is kept for a path in its owner's book, on the board, and by the clients

-- what is kept for path p, and client r's part, where these lines of the client are pending, with its task and log, is sound for its
-- operation
pub record IsSoundAt (p : List ℕ) (s : Job) (n : ℕ) (op : Op) (r : ℕ) (books : List (Book PlainHold)) (board : KeptBoard)
    (clients : List Client) (tasks : List Task) (logs : List Log) (lines : List ℕ) : Type 0 where
  pub client : Client
  pub beside : slice_get clients r ≡ Some client
  pub task : Task
  pub midst : slice_get tasks r ≡ Some task
  pub sound : EventSound s n op r (record {
    owned = owned_of (path_at books p) (told_in board p);
    client = own_of client p lines;
    task = task;
    logs = logs;
  })

-- line n of client r, the operation op on path p, had its event, and of what is kept for the path, by the client and of the logs
-- all follows; of the books and of the client's part the path alone changed
pub record FollowsAt (p : List ℕ) (s : Job) (n : ℕ) (op : Op) (r : ℕ) (books books' : List (Book PlainHold)) (board : KeptBoard)
    (clients clients' : List Client) (tasks tasks' : List Task) (logs logs' : List Log) (lines : List ℕ) (a : Option Answer) : Type 0 where
  pub was : Client
  pub now : Client
  pub beside : slice_get clients r ≡ Some was
  pub changed : clients' ≡ slice_set clients r now
  pub changes : ChangesPath books books' p (path_at books' p)
  pub elsewhere : ChangesOwn was now p
  pub task_was : Task
  pub task_now : Task
  pub midst : slice_get tasks r ≡ Some task_was
  pub goes_on : tasks' ≡ slice_set tasks r task_now
  pub follows : EventFollows s n op r
      (record { owned = owned_of (path_at books p) (told_in board p); client = own_of was p lines; task = task_was; logs = logs })
      (record {
        owned = owned_of (path_at books' p) (told_in board p);
        client = own_of now p (lines_then op n lines a);
        task = task_now;
        logs = logs';
      }) a
  pub whole : IsWhole s op (record {
    owned = owned_of (path_at books' p) (told_in board p);
    client = own_of now p (lines_then op n lines a);
    task = task_now;
    logs = logs';
  })
