-- Two more scripts, worked out by hand: writes of nothing and refused creates, and pending writes over each other and past the end.
use Rattle.fs_types.proofs.Common.{◌≡◌, ℕ, zero, suc, List, [], ◌∷◌, ◌++◌, Some, None, false, slice_get, Contains, refl, subst, arith}
use Rattle.fs_types.proofs.Common.{codes, none-some, same_Some}
use Rattle.fs_script.specs.Vocabulary.{Answer, answer_at, OpLine, Text, Job, phase, program, op_lines, Answering, pending_at, state, front}
use Rattle.fs_script.specs.Vocabulary.{is_open, Fits, committed, IsLegalEntry, IsLegalJournal}
use Rattle.fs_script.proofs.FiveLines.{path_a, on_a, five_shape}
use Rattle.fs_types.specs.declared.answer.Answer.TheVariants as answers
use Rattle.fs_types.specs.declared.answer.Body.TheVariants as bodies
use Rattle.fs_script.specs.declared.line.Line.TheVariants as lines
use Rattle.fs_script.specs.declared.line.Op.TheVariants as ops

-- ---- a write of nothing, a sync with nothing pending, and a create of what is there

abbrev pub empty_write : Job
empty_write = record {
  shape = five_shape;
  lines =
      lines.Op (on_a ops.Create)
      ∷ lines.Op (on_a (ops.Write 7 (Text [])))
      ∷ lines.Op (on_a ops.Sync)
      ∷ lines.Op (on_a ops.Create)
      ∷ [];
}

abbrev pub empty_answers : Answering
empty_answers = answer_at ((2, answers.Done 1) ∷ (3, answers.Wrote 0) ∷ (4, answers.Done 1) ∷ (5, answers.Exists 1) ∷ [])

nothing_pending : pending_at empty_write empty_answers 4 ≡ []
nothing_pending = refl

sync_commits_nothing : committed empty_write empty_answers path_a 4 ≡ None
sync_commits_nothing = refl

refused_create_commits_nothing : committed empty_write empty_answers path_a 5 ≡ None
refused_create_commits_nothing = refl

still_empty : state empty_write empty_answers (2 ∷ []) 1 ≡ Some (record { cells = []; frozen = false })
still_empty = refl

abbrev Fits-empty : ℕ → OpLine → Answer → Type 0
Fits-empty n o a = Fits [] empty_write empty_answers (2 ∷ []) n o a

empty_write_fits : Fits-empty 3 (on_a (ops.Write 7 (Text []))) (answers.Wrote 0)
empty_write_fits = record { opened = refl; version = tt; answer = (refl, omega arith, refl) }

idle_sync_fits : Fits-empty 4 (on_a ops.Sync) (answers.Done 1)
idle_sync_fits = record {
  opened = refl;
  version = record { front = omega arith; length = omega arith; no_later = (record { phase = omega arith; own = λ _. omega arith }, tt) };
  answer = (refl, refl);
}

refused_create_fits : Fits-empty 5 (on_a ops.Create) (answers.Exists 1)
refused_create_fits = record {
  opened = tt;
  version = record { front = omega arith; length = omega arith; no_later = (record { phase = omega arith; own = λ _. omega arith }, tt) };
  answer = (refl, refl);
}

empty_entries : (k n : ℕ) → slice_get {X = ℕ} (2 ∷ []) k ≡ Some n → IsLegalEntry empty_write empty_answers path_a (2 ∷ []) k n
empty_entries zero n at = subst (λ j. IsLegalEntry empty_write empty_answers path_a (2 ∷ []) 0 j) (same_Some 2 n at) (record {
  committed = refl;
  once = only;
  rising = λ i m below e mine. absurd (omega arith);
  phases = λ i m below e. absurd (omega arith);
  enabled = refl;
})
  where
    only : (i : ℕ) → slice_get {X = ℕ} (2 ∷ []) i ≡ Some 2 → i ≡ 0
    only zero e = refl
    only (suc i) e = absurd (none-some 2 e)
empty_entries (suc k) n at = absurd (none-some n at)

empty_whole : (n v : ℕ) → committed empty_write empty_answers path_a n ≡ Some v → Contains (2 ∷ []) n
empty_whole zero v h = absurd (none-some v h)
empty_whole (suc zero) v h = absurd (none-some v h)
empty_whole (suc (suc zero)) v h = (0, omega arith, refl)
empty_whole (suc (suc (suc zero))) v h = absurd (none-some v h)
empty_whole (suc (suc (suc (suc zero)))) v h = absurd (none-some v h)
empty_whole (suc (suc (suc (suc (suc zero))))) v h = absurd (none-some v h)
empty_whole (suc (suc (suc (suc (suc (suc n)))))) v h = absurd (none-some v h)

-- the create alone is its journal
empty_legal : IsLegalJournal empty_write empty_answers path_a (2 ∷ [])
empty_legal = record { entries = empty_entries; whole = empty_whole }

-- ---- pending writes over each other, and past the end

abbrev pub overlapping : Job
overlapping = record {
  shape = five_shape;
  lines =
      lines.Op (on_a ops.Create)
      ∷ lines.Op (on_a (ops.Write 0 (Text (codes "hello"))))
      ∷ lines.Op (on_a (ops.Write 3 (Text (codes "xyz"))))
      ∷ lines.Op (on_a ops.Sync)
      ∷ lines.Barrier
      ∷ lines.Op (on_a (ops.Write 10 (Text (codes "!"))))
      ∷ lines.Op (on_a ops.Sync)
      ∷ lines.Note
      ∷ lines.Op (on_a (ops.Read 4 100 false))
      ∷ [];
}

abbrev pub overlapping_answers : Answering
overlapping_answers = answer_at (
    (2, answers.Done 1) ∷ (3, answers.Wrote 1) ∷ (4, answers.Wrote 1) ∷ (5, answers.Done 2) ∷ (7, answers.Wrote 1) ∷ (8, answers.Done 3)
    ∷ (10, answers.Shown 3 7 (bodies.Hex (codes "yz" ++ 0 ∷ 0 ∷ 0 ∷ 0 ∷ codes "!"))) ∷ [])

abbrev pub overlapping_journal : List ℕ
overlapping_journal = 2 ∷ 5 ∷ 8 ∷ []

two_pending : pending_at overlapping overlapping_answers 5 ≡ 3 ∷ 4 ∷ []
two_pending = refl

later_over_earlier : state overlapping overlapping_answers overlapping_journal 2 ≡ Some (record { cells = codes "helxyz"; frozen = false })
later_over_earlier = refl

gap_of_zeros : state overlapping overlapping_answers overlapping_journal 3
    ≡ Some (record { cells = codes "helxyz" ++ 0 ∷ 0 ∷ 0 ∷ 0 ∷ codes "!"; frozen = false })
gap_of_zeros = refl

-- the barrier stands before line 7
phase_before : phase overlapping 5 ≡ 0
phase_before = refl

phase_after : phase overlapping 7 ≡ 1
phase_after = refl

-- so another client's first line in phase 1 knows of the two commits of phase 0
front_of_another : front overlapping overlapping_answers overlapping_journal 1 path_a 7 ≡ 2
front_of_another = refl

not_open_for_another : is_open overlapping overlapping_answers 1 path_a 7 ≡ false
not_open_for_another = refl

-- the barrier and the note are no operations
lines_of_operations : op_lines overlapping ≡ 2 ∷ 3 ∷ 4 ∷ 5 ∷ 7 ∷ 8 ∷ 10 ∷ []
lines_of_operations = refl

program_of_another : program overlapping 1 ≡ []
program_of_another = refl

gap_shown : Fits [] overlapping overlapping_answers overlapping_journal 10 (on_a (ops.Read 4 100 false))
    (answers.Shown 3 7 (bodies.Hex (codes "yz" ++ 0 ∷ 0 ∷ 0 ∷ 0 ∷ codes "!")))
gap_shown = record {
  opened = refl;
  version = record {
    front = omega arith;
    length = omega arith;
    no_later = (
      record { phase = omega arith; own = λ _. omega arith },
      (record { phase = omega arith; own = λ _. omega arith }, (record { phase = omega arith; own = λ _. omega arith }, tt)),
    );
  };
  answer = record { count = refl; same = λ _. refl };
}
