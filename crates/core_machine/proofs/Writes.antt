-- A write's events: where too few slots are free, and where it fills some; and what is kept follows it.
use Rattle.fs_types.proofs.Common.{◌≡◌, ℕ, ◌+◌, ◌++◌, ◌∷◌, [], ◌==◌, ◌||◌, ◌&&◌, ◌<◌, ◌≤◌, Bool, true, false, List, length, Some}
use Rattle.fs_types.proofs.Common.{is_some, if◌then◌else◌, cond, get_or, slice_get}
use Rattle.fs_types.proofs.Common.{refl, sym, ap, ◌∙◌, subst, arith, nat_lt, lt-ltb, le-ltb, ne_eqb, slice_get-get_or}
use Rattle.std.proofs.lemmas.Grind.{div_ceil_times}
use Rattle.slot_plain.specs.Log.{Log}
use Rattle.slot_plain.specs.Slots.{free_slots}
use Rattle.fs_types.specs.declared.answer.Answer.{Answer}
use Rattle.fs_types.specs.declared.answer.Answer.TheVariants as answers
use Rattle.fs_script.specs.Payload.{bytes_brought, data_bytes, write_at}
use Rattle.fs_script.specs.Vocabulary.{LONGEST_FILE, Job, Piece, after_answer, need, parts_of, version_of}
use Rattle.fs_script.specs.declared.line.Data.{Data}
use Rattle.fs_script.specs.declared.line.Op.{Op}
use Rattle.fs_script.specs.declared.line.Op.TheVariants as ops
use Rattle.client_files.specs.Kept.{KeptBoard, KeptFiles, at_front, is_open_in, may_write_in}
use Rattle.client_files.specs.Noted.{later_of}
use Rattle.client_files.specs.declared.may.May.{May}
use Rattle.client_files.specs.declared.may.May.TheVariants.{BadF, NoEnt, ReadOnly, Yes}
use Rattle.client_files.specs.declared.noted.Noted.{Noted}
use Rattle.core_machine.specs.ClientPath.{ClientPath}
use Rattle.core_machine.specs.Kept.{AreSound, OwnedPath}
use Rattle.core_machine.specs.declared.task.Task.TheVariants.{Idle}
use Rattle.core_machine.specs.Event.{Event, answered, wrote_into}
use Rattle.core_machine.specs.Follows.{Ends, EndsQuietly, Follows, free_in, kept_event}
use Rattle.core_machine.specs.Kept.{pending_hold, pending_lines}
use Rattle.core_machine.specs.Logs.{AreFreeSlots, AreHeldSlots, pieces_of}
use Rattle.core_machine.specs.Slots.{empty_slots}
use Rattle.core_machine.proofs.EventsFollow.{Notes, ends-answered, follows-kept, follows-noted, notes-front, notes-none}
use Rattle.core_machine.proofs.Filled.{empty-free}

-- no slot is needed for no bytes
pub need-nothing : (chunk : ℕ) → 0 < chunk → parts_of chunk 0 ≡ 0
need-nothing chunk some = let few = (div_ceil_times 0 chunk some).1 in grind arith

-- the slots that are free are those that the log counts
pub free-counted : (logs : List Log) (r i : ℕ) (d : Log) → i ≡ r → r < length logs → AreHeldSlots logs → AreFreeSlots logs
    → free_in logs r ≡ length (free_slots (get_or logs i d).slots)
free-counted logs r i d same within held free =
    let at = ap (slice_get logs) (sym same) ∙ slice_get-get_or logs i d (omega (arith, same, within)) in
    ap (λ o. length (empty_slots (pieces_of o))) at ∙ ap length (empty-free logs r (get_or logs i d) held free at)

-- what is pending after a write that was accepted
pub lines-some : (off : ℕ) (text : Data) (slots n : ℕ) (lines : List ℕ) → 0 < length (data_bytes text)
    → after_answer (ops.Write off text) (answers.Wrote slots) n lines ≡ lines ++ n ∷ []
lines-some off text slots n lines some =
    ap (λ b. cond b lines (lines ++ n ∷ [])) (ne_eqb (length (data_bytes text)) 0 (λ none. omega (arith, some, none)))

-- ---- whether the path may be written

-- what it says of a path whether it may be written: whether it is open, and whether there is a file at the front, frozen or not
abbrev pub Says : May → Bool → Bool → Bool → ℕ → Type 0
Says Yes opened exists frozen v = (opened ≡ true) × (exists ≡ true) × (frozen ≡ false)
Says BadF opened exists frozen v = opened ≡ false
Says (NoEnt w) opened exists frozen v = (opened ≡ true) × (exists ≡ false) × (w ≡ v)
Says (ReadOnly w) opened exists frozen v = (opened ≡ true) × (exists ≡ true) × (frozen ≡ true) × (w ≡ v)

pub may-says : (files : KeptFiles) (board : KeptBoard) (p : List ℕ) (m : May) → m ≡ may_write_in files board p
    → let n : Noted = at_front files board p in Says m (is_open_in files p) n.attr.exists n.attr.frozen n.version
may-says files board p m is =
    let n : Noted = at_front files board p in
    subst (λ m. Says m (is_open_in files p) n.attr.exists n.attr.frozen n.version) (sym is)
    (by (is_open_in files p) n.attr.exists n.attr.frozen n.version)
  where
    by : (opened exists frozen : Bool) (v : ℕ)
        → Says (if opened then if exists then if frozen then ReadOnly v else Yes else NoEnt v else BadF) opened exists frozen v
    by false exists frozen v = refl
    by true false frozen v = (refl, refl, refl)
    by true true false v = (refl, refl, refl)
    by true true true v = (refl, refl, refl, refl)

-- ---- writes that are refused

module _ (s : Job) (n : ℕ) (x : OwnedPath) (k : ClientPath) (off : ℕ) (text : Data) where
  abbrev front : Noted
  front = later_of k.noted x.told

  abbrev write : Op
  write = ops.Write off text

  pub ends-unopened : k.is_open ≡ false → AreSound s x k → EndsQuietly s n (ops.Write off text) x k x k answers.BadF
  ends-unopened closed =
      ends-answered s n write x k k answers.BadF (λ free. rw closed refl) (notes-none x k Idle answers.BadF refl) refl refl refl

  -- the client notes its front
  module _ (v : ℕ) (l : ClientPath) (opened : k.is_open ≡ true) (same : v ≡ (later_of k.noted x.told).version)
      (is : l ≡ record k { noted = later_of k.noted (later_of k.noted x.told) }) where
    noting : (a : Answer) → version_of a ≡ Some v → Notes x k Idle a l.noted
    noting a shows = subst (Notes x k Idle a) (sym (ap (λ (w : ClientPath). w.noted) is)) (notes-front x k Idle a (shows ∙ ap Some same))

    pub ends-absent : (later_of k.noted x.told).attr.exists ≡ false → AreSound s x k
        → EndsQuietly s n (ops.Write off text) x k x l (answers.NoEnt v)
    ends-absent absent =
        ends-answered s n write x k l (answers.NoEnt v) (λ free. rw (opened, absent) (ap (λ w. answered (answers.NoEnt w)) (sym same)))
        (noting (answers.NoEnt v) refl) (ap (λ (w : ClientPath). w.is_open) is) refl (ap (λ (w : ClientPath). w.pending) is)

    pub ends-frozen : (later_of k.noted x.told).attr.exists ≡ true → (later_of k.noted x.told).attr.frozen ≡ true → AreSound s x k
        → EndsQuietly s n (ops.Write off text) x k x l (answers.ReadOnly v)
    ends-frozen exists frozen =
        ends-answered s n write x k l (answers.ReadOnly v)
        (λ free. rw (opened, exists, frozen) (ap (λ w. answered (answers.ReadOnly w)) (sym same))) (noting (answers.ReadOnly v) refl)
        (ap (λ (w : ClientPath). w.is_open) is) refl (ap (λ (w : ClientPath). w.pending) is)

  -- it would end past the longest file
  pub ends-large : k.is_open ≡ true → (later_of k.noted x.told).attr.exists ≡ true → (later_of k.noted x.told).attr.frozen ≡ false
      → LONGEST_FILE < off + length (data_bytes text) → AreSound s x k → EndsQuietly s n (ops.Write off text) x k x k answers.TooBig
  ends-large opened exists unfrozen past =
      let long : nat_lt LONGEST_FILE (off + length (data_bytes text)) ≡ true = lt-ltb _ _ past in
      ends-answered s n write x k k answers.TooBig (λ free. rw (opened, exists, unfrozen, long) refl)
      (notes-none x k Idle answers.TooBig refl) refl refl refl

-- a write of data, of which the line brings these bytes, to a path that may be written
module _ (s : Job) (n : ℕ) (x : OwnedPath) (k : ClientPath) (off : ℕ) (text : Data) (free : ℕ)
    (line : write_at s n ≡ Some (record { at = off; bytes = data_bytes text })) (opened : k.is_open ≡ true)
    (exists : (later_of k.noted x.told).attr.exists ≡ true) (unfrozen : (later_of k.noted x.told).attr.frozen ≡ false)
    (fits : off + length (data_bytes text) ≤ LONGEST_FILE) where
  needs : need s n ≡ parts_of s.shape.chunk (length (data_bytes text))
  needs = ap (λ w. parts_of s.shape.chunk (length (bytes_brought w))) line

  abbrev event : Event
  event = kept_event s x k free Idle (ops.Write off text)

  refused-event : free < need s n → event ≡ answered (answers.NoSpace (need s n) free)
  refused-event few =
      let short : nat_lt LONGEST_FILE (off + length (data_bytes text)) ≡ false = le-ltb _ _ fits in
      let less : nat_lt free (parts_of s.shape.chunk (length (data_bytes text))) ≡ true = lt-ltb _ _ (omega (arith, needs, few)) in
      rw (opened, exists, unfrozen, short, less, needs) refl

  accepted-event : need s n ≤ free → event ≡ wrote_into (need s n)
  accepted-event enough =
      let short : nat_lt LONGEST_FILE (off + length (data_bytes text)) ≡ false = le-ltb _ _ fits in
      let less : nat_lt free (parts_of s.shape.chunk (length (data_bytes text))) ≡ false = le-ltb _ _ (omega (arith, needs, enough)) in
      rw (opened, exists, unfrozen, short, less, needs) refl

  pub ends-refused : (wanted unheld : ℕ) → wanted ≡ need s n → unheld ≡ free → free < need s n
      → Ends event false (answers.NoSpace wanted unheld)
  ends-refused wanted unheld same_need same_free few =
      let is : event ≡ answered (answers.NoSpace wanted unheld) =
      refused-event few ∙ ap (λ m. answered (answers.NoSpace m free)) (sym same_need)
      ∙ ap (λ m. answered (answers.NoSpace wanted m)) (sym same_free) in
      subst (λ e. Ends e false (answers.NoSpace wanted unheld)) (sym is) (record { answer = refl; doing = refl; filling = refl })

  pub follows-refused : (wanted unheld : ℕ) → free < need s n
      → Follows s n (ops.Write off text) Idle event x k x k (answers.NoSpace wanted unheld)
  follows-refused wanted unheld few =
      follows-noted s n (ops.Write off text) Idle event x k k (answers.NoSpace wanted unheld)
      (ap (λ (e : Event). e.commits) (refused-event few)) (notes-none x k Idle (answers.NoSpace wanted unheld) refl) refl refl (λ q there. there)

  module _ (slots : ℕ) (same : slots ≡ need s n) (enough : need s n ≤ free) where
    is_event : event ≡ wrote_into slots
    is_event = accepted-event enough ∙ ap wrote_into (sym same)

    pub ends-accepted : Ends event true (answers.Wrote slots)
    ends-accepted = subst (λ e. Ends e true (answers.Wrote slots)) (sym is_event) (record { answer = refl; doing = refl; filling = refl })

    pub follows-accepted : (l : ClientPath) → l.is_open ≡ k.is_open → l.noted ≡ k.noted
        → pending_lines l ≡ after_answer (ops.Write off text) (answers.Wrote slots) n (pending_lines k)
        → ((q : Piece) → is_some (pending_hold l q) ≡ true → (is_some (pending_hold k q) || q.line == n) ≡ true)
        → Follows s n (ops.Write off text) Idle event x k x l (answers.Wrote slots)
    follows-accepted l same_open same_noted lines from =
        follows-kept s n (ops.Write off text) Idle event x k l (answers.Wrote slots) (ap (λ (e : Event). e.commits) is_event)
        (subst (Notes x k Idle (answers.Wrote slots)) (sym same_noted) (notes-none x k Idle (answers.Wrote slots) refl)) same_open lines
        (λ q there. ap (λ (e : Event). is_some (pending_hold k q) || e.fills && q.line == n) is_event ∙ from q there)
