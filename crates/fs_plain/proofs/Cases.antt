-- Blocks, attributes and fronts, worked out by hand.
use Rattle.std.proofs.Common.{◌≡◌, ℕ, List, [], ◌∷◌, Some, None, true, false, replicate, refl}
use Rattle.std.specs.Prelude.{codes}
use Rattle.fs_types.specs.declared.answer.Answer.TheVariants as answers
use Rattle.fs_types.specs.AnswerList.{answer_at}
use Rattle.fs_script.specs.declared.line.Line.TheVariants as lines
use Rattle.fs_script.specs.declared.line.Op.TheVariants as ops
use Rattle.fs_script.specs.Job.{Job}
use Rattle.fs_script.specs.Pending.{Answering}
use Rattle.fs_script.proofs.CallerLemmas.{path_a, on_a}
use Rattle.fs_plain.specs.Blocks.{is_blank, byte_at, first_bytes, byte_put}
use Rattle.fs_plain.specs.FrontByJournals.{front_at}
use Rattle.fs_plain.specs.KeptFile.{file_kept}
use Rattle.fs_plain.specs.FileAttributes.{attr_of, bytes_in}

-- ---- blocks

zeros_are_blank : is_blank (replicate 3 0) ≡ true
zeros_are_blank = refl

one_is_not : is_blank (0 ∷ 1 ∷ 0 ∷ []) ≡ false
one_is_not = refl

-- the second block begins with these three bytes
abbrev pub second_block : List (ℕ × List ℕ)
second_block = (1, 7 ∷ 8 ∷ 9 ∷ []) ∷ []

byte_of_a_kept_block : byte_at second_block 4098 ≡ 9
byte_of_a_kept_block = refl

byte_of_no_block : byte_at second_block 2 ≡ 0
byte_of_no_block = refl

bytes_of_the_first_block : first_bytes ((0, 7 ∷ 8 ∷ []) ∷ second_block) 4 ≡ 7 ∷ 8 ∷ 0 ∷ 0 ∷ []
bytes_of_the_first_block = refl

byte_put_over : byte_put 5 (1 ∷ 2 ∷ []) 6 9 ≡ 2
byte_put_over = refl

byte_before : byte_put 5 (1 ∷ 2 ∷ []) 4 9 ≡ 9
byte_before = refl

byte_behind : byte_put 5 (1 ∷ 2 ∷ []) 7 9 ≡ 9
byte_behind = refl

-- ---- what is told of a file

attr_of_none : attr_of (file_kept None) ≡ record { exists = false; size = 0; frozen = false }
attr_of_none = refl

attr_of_three_bytes :
    attr_of (file_kept (Some (record { bytes = codes "abc"; frozen = true }))) ≡ record { exists = true; size = 3; frozen = true }
attr_of_three_bytes = refl

bytes_of_none : bytes_in (file_kept None) ≡ []
bytes_of_none = refl

-- ---- fronts

-- client 0 creates a path and syncs it; after a barrier it syncs it again, and client 1 creates it too
abbrev pub job_with_barrier : Job
job_with_barrier = record {
  shape = record { servers = 1; clients = 2; chunk = 64; shmem = 4; spill = 0 };
  lines =
      lines.Op (on_a ops.Create)
      ∷ lines.Op (on_a ops.Sync)
      ∷ lines.Barrier
      ∷ lines.Op (on_a ops.Sync)
      ∷ lines.Op (record { rank = 1; path = path_a; op = ops.Create })
      ∷ [];
}

abbrev pub answers_round_barrier : Answering
answers_round_barrier = answer_at ((2, answers.Done 1) ∷ (3, answers.Done 3) ∷ [])

-- the first journal of the path counts
abbrev pub journals_round_barrier : List (List ℕ × List ℕ)
journals_round_barrier = (codes "/unifyfs/b", 2 ∷ 2 ∷ 2 ∷ []) ∷ (path_a, 2 ∷ 5 ∷ []) ∷ (path_a, []) ∷ []

seen_is_more : front_at job_with_barrier answers_round_barrier journals_round_barrier 5 ≡ 3
seen_is_more = refl

earlier_phase_is_more : front_at job_with_barrier answers_round_barrier journals_round_barrier 6 ≡ 1
earlier_phase_is_more = refl

barrier_has_no_front : front_at job_with_barrier answers_round_barrier journals_round_barrier 4 ≡ 0
barrier_has_no_front = refl
