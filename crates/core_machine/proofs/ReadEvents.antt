-- The events of a read, as the machine has them over what is kept.
use Rattle.fs_types.proofs.Common.{◌≡◌, ℕ, ◌+◌, ◌<◌, ◌≤◌, ◌∙◌, List, Option, Some, None, Bool, true, false, sym, ap, refl, subst}
use Rattle.fs_types.proofs.Common.{if◌then◌else◌, length, cond-true, cond-false, lt-ltb, le-ltb, nat_lt, none-some}
use Rattle.piece_table.specs.PieceTable.{Pieces, hold_of}
use Rattle.std.proofs.lemmas.List.{take_all}
use Rattle.fs_types.specs.Pieces.{Fragment}
use Rattle.slot_plain.specs.Log.{Log}
use Rattle.fs_script.specs.Vocabulary.{Answer, Job, Piece, Range, marks_in, range_of, runs, shown, view_of}
use Rattle.fs_script.specs.declared.line.Op.TheVariants as ops
use Rattle.fs_types.specs.declared.answer.Answer.TheVariants as answers
use Rattle.owner_book.specs.Calls.{attr, version}
use Rattle.owner_book.specs.Kept.{BookFile}
use Rattle.client_files.specs.Noted.{later_of}
use Rattle.client_files.specs.declared.noted.Noted.{Noted}
use Rattle.core_machine.specs.ClientPath.{ClientPath}
use Rattle.core_machine.specs.Kept.{OwnedPath}
use Rattle.core_machine.specs.declared.plain_hold.PlainHold.{PlainHold}
use Rattle.core_machine.specs.declared.task.ReadTask.{ReadTask}
use Rattle.core_machine.specs.declared.task.Task.{Task}
use Rattle.core_machine.specs.declared.task.Task.TheVariants.{Idle, Read}
use Rattle.core_machine.specs.Doing.{Reading, reading}
use Rattle.core_machine.specs.Event.{Event, PathNow, answered, goes_on_reading}
use Rattle.core_machine.specs.Events.Read.{lookup_over, shows}
use Rattle.core_machine.specs.Fetching.{HasBytes}
use Rattle.core_machine.specs.Follows.{EventFollows, EventKept, HasAttr, KeptStand, attr_seen, free_in, kept_event}
use Rattle.core_machine.specs.HoldsKept.{holds_kept, keeps}
use Rattle.core_machine.specs.Kept.{file_marks, kept_now, noted_now, pending_lines}
use Rattle.core_machine.specs.Logs.{AreHeldSlots, HoldsStand, stored_part}
use Rattle.core_machine.specs.Pins.{HaveSlots, no_count, pin_count}
use Rattle.core_machine.specs.Reads.{BeginsRead, marks_seen}
use Rattle.core_machine.specs.Settling.{Settles}
use Rattle.core_machine.specs.Task.{IsReadTask, doing_of, marks_of_task, reading_of}
use Rattle.core_machine.proofs.EventsFollow.{Notes, follows-noted, notes-later, notes-none, notes-now}
use Rattle.core_machine.proofs.FetchedBytes.{HasBytes-whole}
use Rattle.core_machine.proofs.SettledSlots.{Settles-agree, Settles-more, Settles-same}

-- what is noted at the end of a read: the version that it looked up
notes-shown : (x : OwnedPath) (k : ClientPath) (t : ReadTask) (bytes : List ℕ)
    → Notes x k (Read t) (shows t.version bytes) (later_of k.noted (record { version = t.version; attr = t.attr }))
notes-shown x k t bytes =
    notes-later x k (Read t) (shows t.version bytes) (let m : Noted = record { version = t.version; attr = t.attr } in m) refl
    (λ seen told looked. looked) (λ at knows looked. looked)

-- ---- an event of a read, by what the machine's event is

-- what is kept, with other logs and another task
abbrev pub kept : OwnedPath → ClientPath → Task → List Log → EventKept
kept x k t logs = record { owned = x; client = k; task = t; logs = logs }

module _ (s : Job) (n r off len : ℕ) (own : Bool) (x : OwnedPath) (k : ClientPath) (t : Task) (old new : List Log) where
  -- the line ends with an answer
  pub ends : (a : Answer) (m : Noted) → kept_event s x k (free_in old r) t (ops.Read off len own) ≡ answered a → Notes x k t a m
      → Settles (holds_kept x k t) (holds_kept x k Idle) old new → KeptStand s old x k t
      → EventFollows s n (ops.Read off len own) r (kept x k t old) (kept x (record k { noted = m }) Idle new) (Some a)
  ends a m is notes settles stand =
      let event : Event = kept_event s x k (free_in old r) t (ops.Read off len own) in
      record {
        event = event;
        is = refl;
        answer = ap (λ (e : Event). e.answer) is;
        doing = ap (λ (e : Event). e.doing) is;
        attr = tt;
        kept = follows-noted s n (ops.Read off len own) t event x k (record k { noted = m }) a (ap (λ (e : Event). e.commits) is) notes
            refl refl (λ q there. there);
        settles = record {
          logs = record { filled = old; fill = rw (ap (λ (e : Event). e.fills) is) refl; settles = rw (ap (λ (e : Event). e.fills) is) settles };
          stand = record { files = stand.files; pending = stand.pending; pins = λ q h none. absurd (none-some h none) };
        };
      }

  -- the line goes on
  pub goes_on : (d : Reading) (t' : Task) → kept_event s x k (free_in old r) t (ops.Read off len own) ≡ goes_on_reading d
      → reading d ≡ doing_of t' → HasAttr (attr_seen x t) t' → Settles (holds_kept x k t) (holds_kept x k t') old new → KeptStand s old x k t'
      → EventFollows s n (ops.Read off len own) r (kept x k t old) (kept x k t' new) None
  goes_on d t' is doing has settles stand =
      record {
        event = kept_event s x k (free_in old r) t (ops.Read off len own);
        is = refl;
        answer = ap (λ (e : Event). e.answer) is;
        doing = ap (λ (e : Event). e.doing) is ∙ doing;
        attr = has;
        kept = record {
          commits = ap (λ (e : Event). e.commits) is;
          fills = ap (λ (e : Event). e.fills) is;
          owned = refl;
          client = refl;
        };
        settles = record {
          logs = record { filled = old; fill = rw (ap (λ (e : Event). e.fills) is) refl; settles = rw (ap (λ (e : Event). e.fills) is) settles };
          stand = stand;
        };
      }

-- ---- the events

module _ (s : Job) (n r off len : ℕ) (own : Bool) (x : OwnedPath) (k : ClientPath) (old new : List Log) where
  abbrev seen_now : PathNow
  seen_now = kept_now s x k (free_in old r)

  abbrev asks : Range
  asks = range_of off len own

  -- where there is no file, no pending writes are seen either
  nothing-found : (b : Bool) → lookup_over seen_now (view_of s (marks_in s) b (pending_lines k) None) asks
      ≡ answered (answers.NoEnt (length x.path.journal))
  nothing-found true = refl
  nothing-found false = refl

  -- of a file that is there its marks are seen, alone or with the pending lines over them
  looked-up : (f : BookFile PlainHold) (b : Bool) → lookup_over seen_now (view_of s (marks_in s) b (pending_lines k) (file_marks (Some f))) asks
      ≡ goes_on_reading (record { version = length x.path.journal; marks = shown (marks_seen s b (pending_lines k) f) off len; fetched = 0 })
  looked-up f true = refl
  looked-up f false = refl

  -- the path isn't open
  pub EventFollows-closed : k.is_open ≡ false → AreHeldSlots old → KeptStand s old x k Idle
      → EventFollows s n (ops.Read off len own) r (kept x k Idle old) (kept x k Idle old) (Some answers.BadF)
  EventFollows-closed closed held stand =
      ends s n r off len own x k Idle old old answers.BadF k.noted (cond-false k.is_open _ _ closed)
      (notes-none x k Idle answers.BadF refl)
      (Settles-same (holds_kept x k Idle) old held) stand

  -- there is no file
  pub EventFollows-absent : k.is_open ≡ true → x.path.file ≡ None → AreHeldSlots old → KeptStand s old x k Idle
      → EventFollows s n (ops.Read off len own) r (kept x k Idle old)
      (kept x (record k { noted = later_of k.noted (noted_now x.path) }) Idle old) (Some (answers.NoEnt (length x.path.journal)))
  EventFollows-absent is_open absent held stand =
      ends s n r off len own x k Idle old old (answers.NoEnt (length x.path.journal)) _
      (cond-true k.is_open _ _ is_open
      ∙ ap (λ (f : Option (BookFile PlainHold)). lookup_over seen_now (view_of s (marks_in s) own (pending_lines k) (file_marks f)) asks) absent
      ∙ nothing-found own)
      (notes-now x k Idle (answers.NoEnt (version x.path)) refl) (Settles-same (holds_kept x k Idle) old held) stand

  -- a read begins, by holds each of which is of a slot that has its piece
  pub EventFollows-begun : (f : BookFile PlainHold) (hold_at : Piece → Option PlainHold) (t : ReadTask) → k.is_open ≡ true
      → x.path.file ≡ Some f → KeptStand s old x k Idle → HoldsStand s old hold_at
      → BeginsRead s (shown (marks_seen s own (pending_lines k) f) off len) (length x.path.journal) (attr x.path) hold_at t old new
      → EventFollows s n (ops.Read off len own) r (kept x k Idle old) (kept x k (Read t) new) None
  EventFollows-begun f hold_at t is_open there stand holds begins =
      goes_on s n r off len own x k Idle old new _ (Read t)
      (cond-true k.is_open _ _ is_open
      ∙ ap (λ (g : Option (BookFile PlainHold)). lookup_over seen_now (view_of s (marks_in s) own (pending_lines k) (file_marks g)) asks) there
      ∙ looked-up f own)
      (ap reading (sym begins.reading)) begins.attr
      (Settles-more (λ q. if keeps x k q then 1 else 0) no_count (pin_count t.pins) old new begins.slots)
      (record { files = stand.files; pending = stand.pending; pins = λ q h is. holds q h (begins.holds q h is) })

  module _ (t : ReadTask) (task : IsReadTask s t) (stand : KeptStand s old x k (Read t)) where
    -- one run more is fetched
    pub EventFollows-fetched : (t' : ReadTask) → t.fetched < length t.runs.items
        → reading_of t' ≡ record (reading_of t) { fetched = t.fetched + 1 } → t'.attr ≡ t.attr → t'.pins ≡ t.pins → AreHeldSlots old
        → EventFollows s n (ops.Read off len own) r (kept x k (Read t) old) (kept x k (Read t') old) None
    EventFollows-fetched t' left is has pins held =
        goes_on s n r off len own x k (Read t) old old _ (Read t')
        (cond-true (nat_lt t.fetched (length (runs (marks_of_task t)))) _ _ (rw task.runs_are (lt-ltb t.fetched (length t.runs.items) left)))
        (ap reading (sym is)) has
        (Settles-agree (holds_kept x k (Read t)) (holds_kept x k (Read t)) (holds_kept x k (Read t)) (holds_kept x k (Read t')) old old
        (λ q. refl) (λ q. ap (λ (p : Pieces PlainHold). (if keeps x k q then 1 else 0) + pin_count p q) pins)
        (Settles-same (holds_kept x k (Read t)) old held))
        (record {
          files = stand.files;
          pending = stand.pending;
          pins = λ q h there. stand.pins q h (ap (λ (p : Pieces PlainHold). hold_of p q) (sym pins) ∙ there);
        })

    -- all runs were fetched, and the bytes are shown
    pub EventFollows-shown : length t.runs.items ≤ t.fetched → Settles (pin_count t.pins) no_count old new
        → EventFollows s n (ops.Read off len own) r (kept x k (Read t) old)
        (kept x (record k { noted = later_of k.noted (record { version = t.version; attr = t.attr }) }) Idle new)
        (Some (shows t.version t.bytes.items))
    EventFollows-shown all settles =
        ends s n r off len own x k (Read t) old new (shows t.version t.bytes.items) _
        (cond-false (nat_lt t.fetched (length (runs (marks_of_task t)))) _ _ (rw task.runs_are (le-ltb t.fetched (length t.runs.items) all))
        ∙ ap (λ (bytes : List ℕ). answered (shows t.version bytes))
        (sym (HasBytes-whole s t.runs.items t.bytes.items (subst (λ (fs : List Fragment). HasBytes s fs t.bytes.items)
        (take_all t.fetched t.runs.items all) task.bytes))))
        (notes-shown x k t t.bytes.items)
        (Settles-more (λ q. if keeps x k q then 1 else 0) (pin_count t.pins) no_count old new settles) stand

-- the slots that holds which stand are of
pub HaveSlots-stand : (s : Job) (logs : List Log) (hold_at : Piece → Option PlainHold) → HoldsStand s logs hold_at → HaveSlots logs hold_at
HaveSlots-stand s logs hold_at stand q h is =
    let one = stand q h is in
    record { held = one.1.count; stored = stored_part s h.piece; piece = one.1.piece; id = one.0 }
