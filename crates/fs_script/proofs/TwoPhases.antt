-- Two clients round a barrier, worked out by hand: the phases and the fronts of their lines, what a line may print that knows
-- of the phase before, and a journal in which a later phase's line stands too early.
use Rattle.std.proofs.Common.{◌≡◌, ℕ, false, List, [], ◌∷◌, Some, refl, arith}
use Rattle.std.specs.Prelude.{codes}
use Rattle.fs_types.specs.declared.answer.Answer.{Answer}
use Rattle.fs_types.specs.declared.answer.Answer.TheVariants as answers
use Rattle.fs_types.specs.declared.answer.Body.TheVariants as bodies
use Rattle.fs_types.specs.AnswerList.{answer_at}
use Rattle.fs_script.specs.declared.line.Line.TheVariants as lines
use Rattle.fs_script.specs.declared.line.OpLine.{OpLine}
use Rattle.fs_script.specs.declared.line.Op.{Op}
use Rattle.fs_script.specs.declared.line.Op.TheVariants as ops
use Rattle.fs_script.specs.declared.line.Data.TheVariants.{Text}
use Rattle.fs_script.specs.Job.{Job, phase}
use Rattle.fs_script.specs.Pending.{Answering, pending}
use Rattle.fs_script.specs.Front.{front, seen}
use Rattle.fs_script.specs.Fits.{Fits}
use Rattle.fs_script.specs.Journal.{IsLegalJournal, committed}
use Rattle.fs_script.proofs.FiveLines.{path_a, on_a}

-- client 1 does this with path a
abbrev pub other_on_a : Op → OpLine
other_on_a op = record { rank = 1; path = path_a; op = op }

-- client 0 makes a file and commits to it, and client 1 opens it; after the barrier client 1 reads it, and commits to it
abbrev pub two_phases : Job
two_phases = record {
  shape = record { servers = 1; clients = 2; chunk = 64; shmem = 4; spill = 0 };
  lines =
      lines.Op (on_a ops.Create)
      ∷ lines.Op (on_a (ops.Write 0 (Text (codes "hi"))))
      ∷ lines.Op (on_a ops.Sync)
      ∷ lines.Op (other_on_a ops.Open)
      ∷ lines.Barrier
      ∷ lines.Op (other_on_a (ops.Read 0 2 false))
      ∷ lines.Op (other_on_a (ops.Write 0 (Text (codes "x"))))
      ∷ lines.Op (other_on_a ops.Sync)
      ∷ [];
}

-- the open came before the sync, so what client 1 saw by itself is version 1
abbrev pub two_answers : Answering
two_answers = answer_at (
    (2, answers.Done 1) ∷ (3, answers.Wrote 1) ∷ (4, answers.Done 2) ∷ (5, answers.Done 1)
    ∷ (7, answers.Shown 2 2 (bodies.Hex (codes "hi"))) ∷ (8, answers.Wrote 1) ∷ (9, answers.Done 3) ∷ [])

abbrev pub two_journal : List ℕ
two_journal = 2 ∷ 4 ∷ 9 ∷ []

open_is_of_the_first_phase : phase two_phases 5 ≡ 0
open_is_of_the_first_phase = refl

read_is_of_the_second : phase two_phases 7 ≡ 1
read_is_of_the_second = refl

-- ---- pending writes

-- what client 1 wrote stays pending up to its own sync, and client 0 has nothing pending then
own_write_pending : pending two_phases two_answers 1 path_a 9 ≡ 8 ∷ []
own_write_pending = refl

no_write_of_another_pending : pending two_phases two_answers 0 path_a 9 ≡ []
no_write_of_another_pending = refl

-- nor does the sync of client 0 empty what client 1 has pending, wherever it stands
abbrev pub sync_between : Job
sync_between = record {
  shape = two_phases.shape;
  lines =
      lines.Op (on_a ops.Create)
      ∷ lines.Op (other_on_a ops.Open)
      ∷ lines.Op (other_on_a (ops.Write 0 (Text (codes "x"))))
      ∷ lines.Op (on_a (ops.Write 0 (Text (codes "hi"))))
      ∷ lines.Op (on_a ops.Sync)
      ∷ [];
}

pending_past_another_sync : pending sync_between
    (answer_at ((2, answers.Done 1) ∷ (3, answers.Done 1) ∷ (4, answers.Wrote 1) ∷ (5, answers.Wrote 1) ∷ (6, answers.Done 2) ∷ []))
    1 path_a 7 ≡ 4 ∷ []
pending_past_another_sync = refl

-- ---- fronts

front_of_open : front two_phases two_answers two_journal 1 path_a 5 ≡ 0
front_of_open = refl

seen_before_read : seen two_phases two_answers 1 path_a 7 ≡ 1
seen_before_read = refl

-- the create and the sync were committed before the barrier
front_of_read : front two_phases two_answers two_journal 1 path_a 7 ≡ 2
front_of_read = refl

front_without_the_barrier_refused : front two_phases two_answers two_journal 1 path_a 7 ≡ seen two_phases two_answers 1 path_a 7 → ⊥
front_without_the_barrier_refused h = omega (arith, h)

-- ---- what the lines of client 1 may print

abbrev Fits-two : ℕ → OpLine → Answer → Type 0
Fits-two n o a = Fits [] two_phases two_answers two_journal n o a

-- the open may come before the create
open_before_create : Fits-two 5 (other_on_a ops.Open) (answers.NoEnt 0)
open_before_create = record {
  opened = tt;
  version = record { front = omega arith; length = omega arith; no_later = tt };
  answer = (refl, tt, refl);
}

-- but not after the sync of the next phase
open_of_a_later_phase_refused : Fits-two 5 (other_on_a ops.Open) (answers.Done 3) → ⊥
open_of_a_later_phase_refused h = omega (arith, h.version.no_later.1.1.0.phase)

read_of_both_commits : Fits-two 7 (other_on_a (ops.Read 0 2 false)) (answers.Shown 2 2 (bodies.Hex (codes "hi")))
read_of_both_commits = record {
  opened = refl;
  version = record {
    front = omega arith;
    length = omega arith;
    no_later = (record { phase = omega arith; own = λ _. omega arith }, (record { phase = omega arith; own = λ _. omega arith }, tt));
  };
  answer = record { count = refl; same = λ _. refl };
}

-- the empty file of version 1 is what client 1 saw before the barrier
read_before_the_barrier_refused : Fits-two 7 (other_on_a (ops.Read 0 2 false)) (answers.Shown 1 0 (bodies.Hex [])) → ⊥
read_before_the_barrier_refused h = omega (arith, h.version.front)

open_after_the_barrier_finds_a_file : Fits-two 7 (other_on_a ops.Open) (answers.NoEnt 0) → ⊥
open_after_the_barrier_finds_a_file h = omega (arith, h.version.front)

-- ---- a journal whose second line is of a later phase than its third, with the answers of that order

abbrev early_answers : Answering
early_answers = answer_at (
    (2, answers.Done 1) ∷ (3, answers.Wrote 1) ∷ (4, answers.Done 3) ∷ (5, answers.Done 1)
    ∷ (7, answers.Shown 1 0 (bodies.Hex [])) ∷ (8, answers.Wrote 1) ∷ (9, answers.Done 2) ∷ [])

sync_has_its_place : committed two_phases early_answers path_a 4 ≡ Some 3
sync_has_its_place = refl

later_phase_first_refused : IsLegalJournal two_phases early_answers path_a (2 ∷ 9 ∷ 4 ∷ []) → ⊥
later_phase_first_refused h = omega (arith, (h.entries 2 4 refl).phases 1 9 (omega arith) refl)
