-- Where an event is answered NoSpace: by what it sees of its path, and so by what is held.
use Rattle.fs_types.proofs.Common.{◌≡◌, ℕ, ◌+◌, ◌≤◌, ◌<◌, Bool, true, false, nat_lt, cond, length, Option, Some, None}
use Rattle.fs_types.proofs.Common.{refl, sym, ap, ◌∙◌, inl, inr, ◌⊎◌, arith, lt-ltb, ltb-true, ltb-false, le-ltb, same_Some}
use Rattle.fs_types.specs.declared.answer.Answer.{Answer}
use Rattle.fs_types.specs.declared.answer.Answer.TheVariants as answers
use Rattle.fs_script.specs.declared.line.Op.TheVariants as ops
use Rattle.fs_script.specs.Payload.{bytes_brought, write_of}
use Rattle.fs_script.specs.Vocabulary.{File, Job, LONGEST_FILE, Mark, Range, Write, brought, has_any, parts_of, range_of, runs}
use Rattle.fs_script.specs.Vocabulary.{marks_in, view_of}
use Rattle.core_machine.specs.Vocabulary.{Data, Op, Doing, Reading, nothing, reading, Event, PathNow}
use Rattle.core_machine.specs.Vocabulary.{event_of, answered, committed_as, wrote_into, goes_on_reading, if_open, create_over, lookup_over}
use Rattle.core_machine.specs.Vocabulary.{fetch_event, laminate_over, sync_over, to_show, trunc_over, unlink_over}
use Rattle.core_machine.specs.Vocabulary.{write_where_free, write_within, write_at_front}
use Rattle.core_machine.specs.Events.Open.{open_over}
use Rattle.core_machine.specs.Events.Size.{size_over}
use Rattle.core_machine.specs.RunLaws.{AsksForSlots}

-- an event that is one of two is answered as that one is
by_case : (b : Bool) (e f : Event) (a : Option Answer) → (cond b e f).answer ≡ a
    → (b ≡ true) × (e.answer ≡ a) ⊎ (b ≡ false) × (f.answer ≡ a)
by_case true e f a is = inl (refl, is)
by_case false e f a is = inr (refl, is)

-- ---- what is answered NoSpace

module _ (w : PathNow) (needed left : ℕ) where
  abbrev IsRefused : Event → Type 0
  IsRefused e = e.answer ≡ Some (answers.NoSpace needed left)

  -- an operation that needs an open path has it
  opened-from : (e : Event) → IsRefused (if_open w e) → (w.is_open ≡ true) × IsRefused e
  opened-from e is = elim (by_case w.is_open e (answered answers.BadF) _ is) [
    | inl opened ↦ opened
    | inr closed ↦ absurd (cc closed.1)
  ]

  -- ---- operations that are never answered so

  create-never : (f : File ℕ) → IsRefused (create_over w f) → ⊥
  create-never None is = cc is
  create-never (Some f) is = cc is

  open-never : (f : File ℕ) → IsRefused (open_over w f) → ⊥
  open-never None is = cc is
  open-never (Some f) is = cc is

  size-never : (f : File ℕ) → IsRefused (size_over w f) → ⊥
  size-never None is = cc is
  size-never (Some f) is = cc is

  lookup-never : (f : File (Option Mark)) (x : Range) → IsRefused (lookup_over w f x) → ⊥
  lookup-never None x is = cc is
  lookup-never (Some f) x is = cc is

  fetch-never : (s : Job) (d : Reading) → IsRefused (fetch_event s d) → ⊥
  fetch-never s d is =
      elim (by_case (nat_lt d.fetched (length (runs d.marks))) (goes_on_reading (record d { fetched = d.fetched + 1 }))
      (answered (to_show s d)) _ is) [
        | inl more ↦ cc more.1
        | inr all ↦ cc all.1
      ]

  sync-never : (f : File ℕ) → IsRefused (sync_over w f) → ⊥
  sync-never None is = cc is
  sync-never (Some f) is =
      elim (by_case (has_any w.pending) (cond f.frozen (answered (answers.ReadOnly w.version)) (committed_as (w.version + 1)))
      (answered (answers.Done w.version)) _ is) [
        | inl waits ↦ elim (by_case f.frozen (answered (answers.ReadOnly w.version)) (committed_as (w.version + 1)) _ waits.1) [
          | inl frozen ↦ cc frozen.1
          | inr free ↦ cc free.1
        ]
        | inr none ↦ cc none.1
      ]

  trunc-never : (f : File ℕ) → IsRefused (trunc_over w f) → ⊥
  trunc-never None is = cc is
  trunc-never (Some f) is =
      elim (by_case f.frozen (answered (answers.ReadOnly w.version)) (committed_as (w.version + 1)) _ is) [
        | inl frozen ↦ cc frozen.1
        | inr free ↦ cc free.1
      ]

  laminate-never : (f : File ℕ) → IsRefused (laminate_over w f) → ⊥
  laminate-never None is = cc is
  laminate-never (Some f) is =
      elim (by_case f.frozen (answered (answers.ReadOnly w.version)) (committed_as (w.version + 1)) _ is) [
        | inl frozen ↦ cc frozen.1
        | inr free ↦ cc free.1
      ]

  unlink-never : (f : File ℕ) → IsRefused (unlink_over w f) → ⊥
  unlink-never None is = cc is
  unlink-never (Some f) is = cc is

  read-never : (s : Job) (d : Doing) (off len : ℕ) (own : Bool) → IsRefused (event_of s w d (ops.Read off len own)) → ⊥
  read-never s nothing off len own is =
      lookup-never (view_of s (marks_in s) own w.pending w.marks) (range_of off len own) (opened-from _ is).1
  read-never s (reading d) off len own is = fetch-never s d is

  -- ---- a write

  -- it is answered so where fewer slots are free than it needs
  free-from : (q : ℕ) → IsRefused (write_where_free q w) → (needed ≡ q) × (left ≡ w.free) × (w.free < q)
  free-from q is = elim (by_case (nat_lt w.free q) (answered (answers.NoSpace q w.free)) (wrote_into q) _ is) [
    | inl few ↦ (cc few.1, cc few.1, ltb-true w.free q few.0)
    | inr enough ↦ absurd (cc enough.1)
  ]

  within-from : (chunk : ℕ) (x : Write) → IsRefused (write_within chunk w x)
      → (x.at + length x.bytes ≤ LONGEST_FILE) × IsRefused (write_where_free (parts_of chunk (length x.bytes)) w)
  within-from chunk x is =
      let end = x.at + length x.bytes in
      elim (by_case (nat_lt LONGEST_FILE end) (answered answers.TooBig) (write_where_free (parts_of chunk (length x.bytes)) w) _ is) [
        | inl long ↦ absurd (cc long.1)
        | inr short ↦ (ltb-false LONGEST_FILE end short.0, short.1)
      ]

  front-from : (chunk : ℕ) (x : Write) → IsRefused (write_at_front chunk w x)
      → (w.at_front.exists ≡ true) × (w.at_front.frozen ≡ false) × IsRefused (write_within chunk w x)
  front-from chunk x is =
      let there = cond w.at_front.frozen (answered (answers.ReadOnly w.front)) (write_within chunk w x) in
      elim (by_case w.at_front.exists there (answered (answers.NoEnt w.front)) _ is) [
        | inl exists ↦
            elim (by_case w.at_front.frozen (answered (answers.ReadOnly w.front)) (write_within chunk w x) _ exists.1) [
              | inl frozen ↦ absurd (cc frozen.1)
              | inr unfrozen ↦ (exists.0, unfrozen.0, unfrozen.1)
            ]
        | inr none ↦ absurd (cc none.1)
      ]

  -- what an operation needs, where it asks for slots
  abbrev Lacks : ℕ → Op → Type 0
  Lacks chunk op = (needed ≡ parts_of chunk (length (bytes_brought (brought op)))) × (left ≡ w.free) × (w.free < needed)

  write-from : (s : Job) (d : Doing) (off : ℕ) (text : Data) → IsRefused (event_of s w d (ops.Write off text))
      → AsksForSlots w (ops.Write off text) × Lacks s.shape.chunk (ops.Write off text)
  write-from s d off text is =
      let x = write_of off text in
      let chunk = s.shape.chunk in
      let opened = opened-from (write_at_front chunk w x) is in
      let front = front-from chunk x opened.1 in
      let within = within-from chunk x front.2 in
      let free = free-from (parts_of chunk (length x.bytes)) within.1 in (
        record { write = x; brings = refl; opened = opened.0; there = front.0; unfrozen = front.1; within = within.0 },
        (free.0, free.1, omega (arith, free.0, free.2)),
      )

  -- so whatever is answered so asks for slots, and lacks them
  pub asks-from : (s : Job) (d : Doing) (op : Op) → IsRefused (event_of s w d op) → AsksForSlots w op × Lacks s.shape.chunk op
  asks-from s d ops.Create is = absurd (create-never w.file is)
  asks-from s d ops.Open is = absurd (open-never w.file is)
  asks-from s d (ops.Write off text) is = write-from s d off text is
  asks-from s d ops.Sync is = absurd (sync-never w.file (opened-from _ is).1)
  asks-from s d (ops.Read off len own) is = absurd (read-never s d off len own is)
  asks-from s d ops.Size is = absurd (size-never w.file (opened-from _ is).1)
  asks-from s d (ops.Trunc n) is = absurd (trunc-never w.file (opened-from _ is).1)
  asks-from s d ops.Laminate is = absurd (laminate-never w.file (opened-from _ is).1)
  asks-from s d ops.Unlink is = absurd (unlink-never w.file (opened-from _ is).1)

  -- ---- and back

  write-refused : (s : Job) (d : Doing) (off : ℕ) (text : Data) → AsksForSlots w (ops.Write off text)
      → Lacks s.shape.chunk (ops.Write off text) → IsRefused (event_of s w d (ops.Write off text))
  write-refused s d off text asks lacks =
      let x = write_of off text in
      let same : x ≡ asks.write = same_Some x asks.write asks.brings in
      let end : x.at + length x.bytes ≡ asks.write.at + length asks.write.bytes = ap (λ (y : Write). y.at + length y.bytes) same in
      let q = parts_of s.shape.chunk (length x.bytes) in
      let short : nat_lt LONGEST_FILE (x.at + length x.bytes) ≡ false = le-ltb LONGEST_FILE _ (omega (arith, asks.within, end)) in
      let few : nat_lt w.free q ≡ true = lt-ltb w.free q (omega (arith, lacks.0, lacks.2)) in
      let answer : Some (answers.NoSpace q w.free) ≡ Some (answers.NoSpace needed left) =
      ap (λ i. Some (answers.NoSpace i w.free)) (sym lacks.0) ∙ ap (λ i. Some (answers.NoSpace needed i)) (sym lacks.1) in
      rw (asks.opened, asks.there, asks.unfrozen, short, few) answer

  -- what asks for slots and lacks them is answered so
  pub refused-from : (s : Job) (d : Doing) (op : Op) → AsksForSlots w op → Lacks s.shape.chunk op → IsRefused (event_of s w d op)
  refused-from s d ops.Create asks lacks = absurd (cc asks.brings)
  refused-from s d ops.Open asks lacks = absurd (cc asks.brings)
  refused-from s d (ops.Write off text) asks lacks = write-refused s d off text asks lacks
  refused-from s d ops.Sync asks lacks = absurd (cc asks.brings)
  refused-from s d (ops.Read off len own) asks lacks = absurd (cc asks.brings)
  refused-from s d ops.Size asks lacks = absurd (cc asks.brings)
  refused-from s d (ops.Trunc n) asks lacks = absurd (cc asks.brings)
  refused-from s d ops.Laminate asks lacks = absurd (cc asks.brings)
  refused-from s d ops.Unlink asks lacks = absurd (cc asks.brings)
