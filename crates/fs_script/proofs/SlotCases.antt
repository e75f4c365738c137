-- The slots of a client's log, worked out by hand: a write that finds too few of them free, and what a report may say of them.
use Rattle.fs_types.specs.declared.answer.Answer.TheVariants as answers
use Rattle.fs_script.specs.declared.line.Line.TheVariants as lines
use Rattle.fs_script.specs.declared.line.Op.TheVariants as ops
use Rattle.fs_script.specs.declared.line.Data.TheVariants.{Pattern}
use Rattle.fs_script.proofs.FiveLines.{path_a, on_a, five_lines}
use Rattle.fs_script.proofs.TextCases.{five_report}
use Rattle.fs_script.specs.Vocabulary.{Answer, SlotLine, Fits, Job, accepted_before, Report, answers_of, AreCounted, SlotsAreCounted}
use Rattle.fs_script.specs.Vocabulary.{OpLine}
use Rattle.fs_types.proofs.Common.{◌≡◌, [], arith, refl, ◌∷◌, ℕ}

-- a log of three slots: a write takes two of them, so that another of two finds one free, and is refused
abbrev full_log : Job
full_log = record {
  shape = record { servers = 1; clients = 1; chunk = 64; shmem = 3; spill = 0 };
  lines =
      lines.Op (on_a ops.Create)
      ∷ lines.Op (on_a (ops.Write 0 (Pattern 7 65)))
      ∷ lines.Op (on_a (ops.Write 65 (Pattern 8 128)))
      ∷ lines.Op (on_a ops.Sync)
      ∷ [];
}

-- what is said of the slots of client 0
abbrev slots : ℕ → ℕ → ℕ → SlotLine
slots held free faults = record { rank = 0; held = held; free = free; faults = faults }

abbrev full_report : Report
full_report = record {
  answers = (2, answers.Done 1) ∷ (3, answers.Wrote 2) ∷ (4, answers.NoSpace 2 1) ∷ (5, answers.Done 2) ∷ [];
  journals = (path_a, 2 ∷ 5 ∷ []) ∷ [];
  files = [];
  slots = slots 2 1 0 ∷ [];
}

-- ---- a write that is refused

two_accepted_before : accepted_before full_log (answers_of full_report) 0 4 ≡ 2
two_accepted_before = refl

none_accepted_before_itself : accepted_before full_log (answers_of full_report) 0 3 ≡ 0
none_accepted_before_itself = refl

abbrev Fits-full : ℕ → OpLine → Answer → Type 0
Fits-full n o a = Fits [] full_log (answers_of full_report) (2 ∷ 5 ∷ []) n o a

write_lacks_space : Fits-full 4 (on_a (ops.Write 65 (Pattern 8 128))) (answers.NoSpace 2 1)
write_lacks_space = record {
  opened = refl;
  version = tt;
  answer = record { may_write = refl; end = omega arith; need = refl; few = omega arith; within = omega arith; held = omega arith };
}

-- two free slots are enough
write_has_space_refused : Fits-full 4 (on_a (ops.Write 65 (Pattern 8 128))) (answers.NoSpace 2 2) → ⊥
write_has_space_refused h = omega (arith, h.answer.few)

-- no earlier write holds the third slot
full_without_cause_refused : Fits-full 4 (on_a (ops.Write 65 (Pattern 8 128))) (answers.NoSpace 2 0) → ⊥
full_without_cause_refused h = omega (arith, h.answer.held)

-- nothing was accepted before the first write
first_write_refused : Fits-full 3 (on_a (ops.Write 0 (Pattern 7 65))) (answers.NoSpace 2 1) → ⊥
first_write_refused h = omega (arith, h.answer.held)

-- more are free than the log has
more_free_than_slots_refused : Fits-full 4 (on_a (ops.Write 0 (Pattern 8 640))) (answers.NoSpace 10 4) → ⊥
more_free_than_slots_refused h = omega (arith, h.answer.within)

-- ---- what is said of the slots

abbrev AreCounted-full : SlotLine → Type 0
AreCounted-full l = AreCounted full_log full_report l

-- the two pieces of the first write are live
two_held : AreCounted-full (slots 2 1 0)
two_held = record { whole = refl; least = omega arith; most = omega arith; faults = refl }

one_too_few_refused : AreCounted-full (slots 1 2 0) → ⊥
one_too_few_refused h = omega (arith, h.least)

one_too_many_refused : AreCounted-full (slots 3 0 0) → ⊥
one_too_many_refused h = omega (arith, h.most)

another_number_of_slots_refused : AreCounted-full (slots 2 2 0) → ⊥
another_number_of_slots_refused h = omega (arith, h.whole)

fault_without_a_device_refused : AreCounted-full (slots 2 1 1) → ⊥
fault_without_a_device_refused h = omega (arith, h.faults)

-- one piece of five bytes, in a log of four slots
five_lines_hold_one : SlotsAreCounted five_lines five_report
five_lines_hold_one = (record { whole = refl; least = omega arith; most = omega arith; faults = refl }, tt)
