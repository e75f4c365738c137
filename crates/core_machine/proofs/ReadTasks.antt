-- A read under way: as it begins, and once one run more was fetched.
use Rattle.std.specs.Prelude.{AllPairs}
use Rattle.fs_types.proofs.Common.{◌≡◌, ℕ, ◌+◌, ◌<◌, ◌≤◌, ◌∙◌, List, Option, Some, arith, refl, sym, ap, subst, length, take, get_or, All}
use Rattle.fs_types.proofs.Common.{if◌then◌else◌, replicate, slice_index, length-replicate, Vec, Global, length-map-range_with_len}
use Rattle.fs_types.specs.Fragments.{end_of}
use Rattle.fs_types.specs.FragmentMarks.{is_within, mark_at, mark_within, marks_of_fragments}
use Rattle.fs_types.specs.Marks.{Mark}
use Rattle.fs_types.specs.Pieces.{Fragment, Piece}
use Rattle.owner_book.specs.declared.looked.Looked.{Looked}
use Rattle.slot_plain.specs.Log.{Log}
use Rattle.fs_script.specs.Vocabulary.{Job, marked_byte, runs}
use Rattle.fs_script.proofs.CallerLemmas.{end-runs, in_order-runs}
use Rattle.core_machine.specs.declared.plain_hold.PlainHold.{PlainHold}
use Rattle.core_machine.specs.declared.task.ReadTask.{ReadTask}
use Rattle.core_machine.specs.Fetching.{AreFetchable, HasBytes}
use Rattle.core_machine.specs.Pins.{ArePins, no_count}
use Rattle.core_machine.specs.Reads.{BeginsRead, IsSeenIn}
use Rattle.core_machine.specs.Task.{IsReadTask, marks_of_task}
use Rattle.core_machine.proofs.FetchableRuns.{AreFetchable-runs, PinsRuns-pinned, marks-of_runs}
use Rattle.core_machine.proofs.FetchedBytes.{HasBytes-more, HasBytes-none}
use Rattle.core_machine.proofs.PinnedRuns.{pinned-hold}

-- a read that pinned the runs of what is seen of a range, and has zeros in place of all bytes, begins
pub BeginsRead-pinned : (s : Job) (marks : List (Option Mark)) (off len : ℕ) (hold_at : Piece → Option PlainHold) (seen : Looked PlainHold)
    (t : ReadTask) (was now : List Log) → IsSeenIn marks off len hold_at seen → t.version ≡ seen.v
    → t.fetched ≡ 0 → t.runs.items ≡ runs marks → t.bytes.items ≡ replicate (length marks) 0 → ArePins no_count hold_at t.runs.items t.pins was now
    → BeginsRead s marks seen.v t.attr hold_at t was now
BeginsRead-pinned s marks off len hold_at seen t was now is version_is none runs_is bytes_are pinned =
    let size : length t.bytes.items ≡ length marks = ap length bytes_are ∙ length-replicate (length marks) 0 in
    let same : marks_of_task t ≡ marks =
    ap (marks_of_fragments t.runs.items) size ∙ ap (λ (fs : List Fragment). marks_of_fragments fs (length marks)) runs_is
    ∙ marks-of_runs marks in
    let fetchable : AreFetchable hold_at (length marks) t.runs.items =
    subst (AreFetchable hold_at (length marks)) (sym runs_is) (AreFetchable-runs hold_at marks is.held) in
    let zeros : HasBytes s (take t.fetched t.runs.items) t.bytes.items =
    rw (none, bytes_are) (HasBytes-none s t.runs.items (length marks)) in
    record {
      reading = λ i. record { version = version_is i; marks = same i; fetched = none i };
      attr = refl;
      task = record {
        runs_are = ap runs same ∙ sym runs_is;
        pinned = PinsRuns-pinned hold_at no_count t.runs.items t.pins was now (length marks) is.theirs fetchable pinned;
        fetched = omega (arith, none);
        bytes = zeros;
      };
      holds = pinned-hold no_count hold_at t.runs.items t.pins was now pinned;
      slots = pinned.slots;
    }

module _ (s : Job) (t : ReadTask) (task : IsReadTask s t) where
  -- its runs are in order
  task-in_order : AllPairs (λ f g. end_of f ≤ g.at) t.runs.items
  task-in_order = subst (AllPairs (λ f g. end_of f ≤ g.at)) task.runs_are (in_order-runs (marks_of_task t))

  -- and within the bytes to show
  pub task-ends : All (λ f. end_of f ≤ length t.bytes.items) t.runs.items
  task-ends =
      let size = length-map-range_with_len (mark_at t.runs.items) 0 (length t.bytes.items) in
      subst (All (λ f. end_of f ≤ length t.bytes.items)) task.runs_are
      (subst (λ (n : ℕ). All (λ f. end_of f ≤ n) (runs (marks_of_task t))) size (end-runs (marks_of_task t)))

  -- it stays a read under way once the next run's bytes were put in their places
  pub IsReadTask-fetched : (f : Fragment) (b : Vec ℕ Global) → t.fetched < length t.runs.items → f ≡ get_or t.runs.items t.fetched f
      → length b.items ≡ length t.bytes.items
      → ((k : ℕ) → k < length t.bytes.items
      → slice_index b.items k ≡ (if is_within f k then marked_byte s (Some (mark_within f k)) else slice_index t.bytes.items k))
      → IsReadTask s (record t { fetched = t.fetched + 1; bytes = b })
  IsReadTask-fetched f b lt is same put = record {
    runs_are = rw same task.runs_are;
    pinned = task.pinned;
    fetched = omega (arith, lt);
    bytes = HasBytes-more t.runs.items t.fetched f lt is task-in_order s t.bytes.items b.items same task.bytes put;
  }
