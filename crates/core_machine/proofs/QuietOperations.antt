-- No event of an operation that is never committed commits its line.
use Rattle.std.specs.Prelude.{nat_lt}
use Rattle.fs_types.proofs.Common.{◌≡◌, ◌+◌, ◌∷◌, [], ℕ, Bool, Option, Some, None, true, false, if◌then◌else◌, length, refl}
use Rattle.fs_types.proofs.Common.{cond_both, true≢false}
use Rattle.fs_types.specs.declared.answer.Answer.TheVariants as answers
use Rattle.fs_script.specs.Vocabulary.{File, Job, LONGEST_FILE, Mark, Range, Write, commits, marks_in, parts_of, range_of, runs, view_of}
use Rattle.fs_script.specs.Payload.{write_of}
use Rattle.fs_script.specs.declared.line.Op.{Op}
use Rattle.fs_script.specs.declared.line.Op.TheVariants as ops
use Rattle.core_machine.specs.Events.Open.{open_over}
use Rattle.core_machine.specs.Events.Size.{size_over}
use Rattle.core_machine.specs.Step.{event_of}
use Rattle.core_machine.specs.Vocabulary.{Doing, Event, PathNow, Reading, answered, fetch_event, goes_on_reading, if_open, lookup_over, nothing}
use Rattle.core_machine.specs.Vocabulary.{reading, to_show, write_at_front, write_where_free, write_within, wrote_into}

-- one of two events that commit nothing
either : (b : Bool) (e f : Event) → e.commits ≡ false → f.commits ≡ false → (if b then e else f).commits ≡ false
either b e f first second = cond_both b e f (λ (x : Event). x.commits ≡ false) (λ _. first) (λ _. second)

where-open : (w : PathNow) (e : Event) → e.commits ≡ false → (if_open w e).commits ≡ false
where-open w e none = either w.is_open e (answered answers.BadF) none refl

open-quiet : (w : PathNow) (f : File ℕ) → (open_over w f).commits ≡ false
open-quiet w None = refl
open-quiet w (Some f) = refl

size-quiet : (w : PathNow) (f : File ℕ) → (size_over w f).commits ≡ false
size-quiet w None = refl
size-quiet w (Some f) = refl

look-quiet : (w : PathNow) (f : File (Option Mark)) (x : Range) → (lookup_over w f x).commits ≡ false
look-quiet w None x = refl
look-quiet w (Some f) x = refl

write-quiet : (chunk : ℕ) (w : PathNow) (x : Write) → (write_at_front chunk w x).commits ≡ false
write-quiet chunk w x =
    let need = parts_of chunk (length x.bytes) in
    let free = either (nat_lt w.free need) (answered (answers.NoSpace need w.free)) (wrote_into need) refl refl in
    let within = either (nat_lt LONGEST_FILE (x.at + length x.bytes)) (answered answers.TooBig) (write_where_free need w) refl free in
    either w.at_front.exists (if w.at_front.frozen then answered (answers.ReadOnly w.front) else write_within chunk w x)
    (answered (answers.NoEnt w.front))
    (either w.at_front.frozen (answered (answers.ReadOnly w.front)) (write_within chunk w x) refl within) refl

fetch-quiet : (s : Job) (d : Reading) → (fetch_event s d).commits ≡ false
fetch-quiet s d =
    either (nat_lt d.fetched (length (runs d.marks))) (goes_on_reading (record d { fetched = d.fetched + 1 })) (answered (to_show s d)) refl refl

-- an operation that isn't committed with a line pending never is
pub commits-nothing : (s : Job) (w : PathNow) (d : Doing) (op : Op) → commits op (0 ∷ []) ≡ false → (event_of s w d op).commits ≡ false
commits-nothing s w d ops.Create none = absurd (true≢false none)
commits-nothing s w d ops.Open none = open-quiet w w.file
commits-nothing s w d (ops.Write off text) none =
    where-open w (write_at_front s.shape.chunk w (write_of off text)) (write-quiet s.shape.chunk w (write_of off text))
commits-nothing s w d ops.Sync none = absurd (true≢false none)
commits-nothing s w nothing (ops.Read off len own) none =
    let x = range_of off len own in
    let sees = view_of s (marks_in s) x.own w.pending w.marks in
    where-open w (lookup_over w sees x) (look-quiet w sees x)
commits-nothing s w (reading d) (ops.Read off len own) none = fetch-quiet s d
commits-nothing s w d ops.Size none = where-open w (size_over w w.file) (size-quiet w w.file)
commits-nothing s w d (ops.Trunc n) none = absurd (true≢false none)
commits-nothing s w d ops.Laminate none = absurd (true≢false none)
commits-nothing s w d ops.Unlink none = absurd (true≢false none)
