-- A legal report of a job is printable, where the bytes that it shows are compared.
use Rattle.fs_types.proofs.Common.{◌≡◌, ℕ, ◌+◌, ◌^◌, ◌<◌, true, false, List, [], ◌∷◌, length, map, get_or, take, Some, IsSome, is_some}
use Rattle.fs_types.proofs.Common.{None, bytes_eq, Ordering, Less, Equal, Greater, refl, sym, ap, ◌∙◌, subst, All, arith, AllByRecursion}
use Rattle.fs_types.proofs.Common.{range_with_len, nat_cmp, is_lt, is_eq, slice_cmp, cond-true, cond-false, length-map, All-from_recursion}
use Rattle.fs_types.proofs.Common.{recursion_from_All, All-weaker, All-contains_itself, filter_passes, is_eq-slice_cmp, same_Some}
use Rattle.fs_types.proofs.Common.{bytes_eq-Decides, length-range_with_len, get_or-range_with_len}
use Rattle.fs_script.specs.Vocabulary.{Answer, FileState, IsPath, File, DIGEST_LIMIT, Job, op_at, Names, state, AreTold, Report, journal_of}
use Rattle.fs_script.specs.Vocabulary.{AreRising, file_state_of, IsLegal, answers_of, IsPrintableAnswer, IsPrintableLine}
use Rattle.fs_script.specs.Vocabulary.{IsPrintableJournal, IsPrintableState, IsPrintableFile, IsPrintable, IsPrintableSlots, SlotLine}
use Rattle.fs_script.specs.Vocabulary.{AreCounted}
use Rattle.fs_script.specs.Grammar.{IsJob}
use Rattle.fs_types.proofs.CallerLemmas.{answer_at-each}
use Rattle.fs_script.proofs.AnsweredLines.{rising-passing}
use Rattle.fs_script.proofs.Digests.{IsDigest-md5}
use Rattle.fs_script.proofs.FileBytes.{IsWithinLimits, IsWithinLimits-state}
use Rattle.fs_script.proofs.Jobs.{IsOpLine-from_job, op_at-within}
use Rattle.fs_script.proofs.PlainLists.{All-from_map, some_of}
use Rattle.fs_script.proofs.JournalLines.{journal-within}
use Rattle.fs_script.proofs.Reading.Headers.{few_each}
use Rattle.fs_script.proofs.PrintableAnswers.{IsPrintableAnswer-fits}

-- ---- each path has its journal

-- what is less isn't equal
not_equal : (o : Ordering) → is_lt o ≡ true → is_eq o ≡ false
not_equal Less h = refl
not_equal Equal h = cc
not_equal Greater h = cc

-- a path's journal is found behind that of a lesser path
found_behind : (j : List ℕ × List ℕ) (js ks : List (List ℕ × List ℕ))
    → AllByRecursion (λ q. is_lt (slice_cmp nat_cmp j.0 q) ≡ true) (map (λ k. k.0) ks)
    → AllByRecursion (λ k. journal_of js k.0 ≡ k.1) ks → AllByRecursion (λ k. journal_of (j ∷ js) k.0 ≡ k.1) ks
found_behind j js [] less found = tt
found_behind j js (k ∷ ks) less found =
    let other = sym (is_eq-slice_cmp j.0 k.0) ∙ not_equal (slice_cmp nat_cmp j.0 k.0) less.0 in
    let here = cond-false (bytes_eq j.0 k.0) j.1 (journal_of js k.0) other ∙ found.0 in
    (here, found_behind j js ks less.1 found.1)

-- where the paths rise, each journal is that of its path
journal_of-each : (js : List (List ℕ × List ℕ)) → AreRising (map (λ j. j.0) js) → AllByRecursion (λ j. journal_of js j.0 ≡ j.1) js
journal_of-each [] rising = tt
journal_of-each (j ∷ js) rising =
    let here = cond-true (bytes_eq j.0 j.0) j.1 (journal_of js j.0) ((bytes_eq-Decides j.0 j.0).1 refl) in
    (here, found_behind j js js rising.0 (journal_of-each js rising.1))

-- ---- the parts of a legal report

-- a path that the script names is a path
pub IsPath-named : (s : Job) (p : List ℕ) → IsJob s → Names s p → IsPath p
IsPath-named s p job named = subst IsPath named.on (IsOpLine-from_job s named.line named.op job named.is).path

-- what a file is printed as
IsPrintableState-file : (f : File ℕ) → IsWithinLimits f → IsPrintableState (file_state_of f)
IsPrintableState-file None within = tt
IsPrintableState-file (Some c) within = record { count = omega (arith, within.length); digest = IsDigest-md5 (take DIGEST_LIMIT c.cells) }

module _ (told : List ℕ) (s : Job) (R : Report) (job : IsJob s) (legal : IsLegal s R told) where
  -- each answer is to an operation, and is the one that is found there
  IsPrintableLine-legal : AreTold s told → (a : ℕ × Answer) → IsSome (op_at s a.0) → answers_of R a.0 ≡ Some a.1 → IsPrintableLine a
  IsPrintableLine-legal all a is_op found =
      let op = some_of (op_at s a.0) is_op in
      let J = journal_of R.journals op.0.path in
      let answered = legal.lines a.0 op.0 op.1 in
      let same = same_Some answered.answer a.1 (sym answered.given ∙ found) in
      let printable = IsPrintableAnswer-fits
      job all (legal.journals op.0.path) op.1 answered.fits in
      let within = op_at-within s a.0 op.0 op.1 in
      record { line = omega (arith, within.1, job.few); answer = subst IsPrintableAnswer same printable }

  answers_are_printable : AreTold s told → All IsPrintableLine R.answers
  answers_are_printable all k d below =
      let is_op = λ (n : ℕ). is_some (op_at s n) in
      let passes = filter_passes is_op (range_with_len 2 (length s.lines)) in
      let lines = subst (All (λ n. is_op n ≡ true)) (sym legal.shape.answers) passes in
      let ops = All-from_map (λ n. is_op n ≡ true) (λ (a : ℕ × Answer). a.0) R.answers lines in
      let rising = rising-passing is_op (length s.lines) 2 R.answers legal.shape.answers in
      let found = answer_at-each R.answers 2 rising in
      IsPrintableLine-legal all (get_or R.answers k d) (ops k d below) (found k d below)

  paths_are_paths : All IsPath (map (λ j. j.0) R.journals)
  paths_are_paths k d below =
      let ps = map (λ (j : List ℕ × List ℕ). j.0) R.journals in
      IsPath-named s (get_or ps k d) job (legal.shape.journals.named (get_or ps k d) (All-contains_itself ps k d below))

  journal_is_printable : (p : List ℕ) → AllByRecursion (λ n. n < 2 ^ 32) (journal_of R.journals p)
  journal_is_printable p =
      let J = journal_of R.journals p in
      let lines = journal-within s (answers_of R) p J (legal.journals p) in
      recursion_from_All (λ n. n < 2 ^ 32) J
      (All-weaker (λ n. n < 2 + length s.lines) (λ n. n < 2 ^ 32) (λ n within. omega (arith, job.few)) J lines)

  journals_are_printable : All IsPrintableJournal R.journals
  journals_are_printable k d below =
      let p = (get_or R.journals k d).0 in
      let each = journal_of-each R.journals legal.shape.journals.rising in
      let found = All-from_recursion (λ (j : List ℕ × List ℕ). journal_of R.journals j.0 ≡ j.1) R.journals each in
      record {
        path = All-from_map IsPath (λ (j : List ℕ × List ℕ). j.0) R.journals paths_are_paths k d below;
        lines = subst (λ ns. AllByRecursion (λ n. n < 2 ^ 32) ns) (found k d below) (journal_is_printable p);
      }

  files_are_printable : All IsPrintableFile R.files
  files_are_printable k d below =
      let paths = subst (All IsPath) (sym legal.shape.files) paths_are_paths in
      let final = λ (p : List ℕ). state s (answers_of R) (journal_of R.journals p) (length (journal_of R.journals p)) in
      let states = All-from_recursion (λ (f : List ℕ × FileState). f.1 ≡ file_state_of (final f.0)) R.files legal.files in
      let J = journal_of R.journals (get_or R.files k d).0 in
      let file = IsWithinLimits-state s job (answers_of R) J (length J) in
      record {
        path = All-from_map IsPath (λ (f : List ℕ × FileState). f.0) R.files paths k d below;
        state = subst IsPrintableState (sym (states k d below)) (IsPrintableState-file (state s (answers_of R) J (length J)) file);
      }

  -- clients are few, and no more slots are held or free than a client's log has
  slots_are_printable : All IsPrintableSlots R.slots
  slots_are_printable k d below =
      let count = s.shape.clients in
      let range : All (λ n. n < count) (range_with_len 0 count) = λ i e within.
      let size = length-range_with_len 0 count in
      let rank : get_or (range_with_len 0 count) i e < count = omega (arith, get_or-range_with_len 0 count i e (omega arith)) in
      rank in
      let ranks = subst (All (λ n. n < count)) (sym legal.shape.slots) range in
      let rank = All-from_map (λ n. n < count) (λ (l : SlotLine). l.rank) R.slots ranks k d below in
      let each = All-from_recursion (AreCounted s R) R.slots legal.slots k d below in
      let memory = few_each s.shape s.shape.shmem _ _ job.shape.some_client job.shape.memory in
      let spill = few_each s.shape s.shape.spill _ _ job.shape.some_client job.shape.spill in
      record {
        client = omega (arith, rank, job.shape.clients);
        held = omega (arith, each.whole, memory, spill);
        free = omega (arith, each.whole, memory, spill);
        faults = omega (arith, each.faults);
      }

-- ---- reports

pub IsPrintable-legal : {told : List ℕ} {s : Job} {R : Report} → IsJob s → AreTold s told → IsLegal s R told → IsPrintable R
IsPrintable-legal {told} {s} {R} job all legal = record {
  answers = recursion_from_All IsPrintableLine R.answers (answers_are_printable told s R job legal all);
  journals = recursion_from_All IsPrintableJournal R.journals (journals_are_printable told s R job legal);
  files = recursion_from_All IsPrintableFile R.files (files_are_printable told s R job legal);
  slots = recursion_from_All IsPrintableSlots R.slots (slots_are_printable told s R job legal);
  as_many = sym (length-map R.journals (λ j. j.0)) ∙ (ap length (sym legal.shape.files) ∙ length-map R.files (λ f. f.0));
}
