-- What the definitions refuse, at the script of five lines: a read of too old a version, a read with one byte changed,
-- and journals with a line twice, without a line, or out of order.
use Rattle.fs_types.proofs.Common.{◌≡◌, ℕ, zero, suc, ◌<◌, false, [], ◌∷◌, slice_index_or, refl, sym, inl, true≢false, arith, codes, same_Some}
use Rattle.fs_script.specs.Vocabulary.{answer_at, Text, Answering, IsLegalJournal}
use Rattle.fs_script.proofs.FiveLines.{path_a, on_a, five_lines, five_answers, Fits-five}
use Rattle.fs_types.specs.declared.answer.Answer.TheVariants as answers
use Rattle.fs_types.specs.declared.answer.Body.TheVariants as bodies
use Rattle.fs_script.specs.declared.line.Op.TheVariants as ops

-- the client saw version 2, so it can't find no file
no_file_refused : Fits-five 5 (on_a (ops.Read 1 3 false)) (answers.NoEnt 0) → ⊥
no_file_refused h = omega (arith, h.version.front)

-- nor the empty file of version 1
old_version_refused : Fits-five 5 (on_a (ops.Read 1 3 false)) (answers.Shown 1 0 (bodies.Hex [])) → ⊥
old_version_refused h = omega (arith, h.version.front)

third_byte : (a b x y : ℕ) → bodies.Hex (a ∷ b ∷ x ∷ []) ≡ bodies.Hex (a ∷ b ∷ y ∷ []) → x ≡ y
third_byte a b x y h = cc

changed_byte_refused : Fits-five 5 (on_a (ops.Read 1 3 false)) (answers.Shown 2 3 (bodies.Hex (codes "elm"))) → ⊥
changed_byte_refused h = omega (arith, third_byte 101 108 109 108 (h.answer.same (inl refl)))

wrong_count_refused : Fits-five 5 (on_a (ops.Read 1 3 false)) (answers.Shown 2 4 (bodies.Hex (codes "ell"))) → ⊥
wrong_count_refused h = omega (arith, h.answer.count)

-- the path is open
not_open_refused : Fits-five 5 (on_a (ops.Read 1 3 false)) answers.BadF → ⊥
not_open_refused h = true≢false h.opened

-- a version that isn't there yet
version_to_come_refused : Fits-five 5 (on_a (ops.Read 1 3 false)) (answers.Shown 3 3 (bodies.Hex (codes "ell"))) → ⊥
version_to_come_refused h = omega (arith, h.version.length)

-- five bytes fill one slot
wrong_slots_refused : Fits-five 3 (on_a (ops.Write 0 (Text (codes "hello")))) (answers.Wrote 2) → ⊥
wrong_slots_refused h = omega (arith, h.answer.2)

-- a sync of something pending prints the version that it made
wrong_version_refused : Fits-five 4 (on_a ops.Sync) (answers.Done 1) → ⊥
wrong_version_refused h = omega (arith, same_Some 2 4 h.answer)

twice_refused : IsLegalJournal five_lines five_answers path_a (2 ∷ 2 ∷ []) → ⊥
twice_refused h = omega (arith, (h.entries 0 2 refl).once 1 refl)

dropped_refused : IsLegalJournal five_lines five_answers path_a (2 ∷ []) → ⊥
dropped_refused h = let there = h.whole 4 2 refl in no_place there.0 there.1 there.2
  where
    no_place : (k : ℕ) → k < 1 → slice_index_or {A = ℕ} (2 ∷ []) k 4 ≡ 4 → ⊥
    no_place zero below same = omega arith
    no_place (suc k) below same = omega arith

swapped_refused : IsLegalJournal five_lines five_answers path_a (4 ∷ 2 ∷ []) → ⊥
swapped_refused h = omega (arith, same_Some 2 1 (h.entries 0 4 refl).committed)

-- also where the answers name the places of that order
abbrev swapped_answers : Answering
swapped_answers = answer_at ((2, answers.Done 2) ∷ (3, answers.Wrote 1) ∷ (4, answers.Done 1) ∷ [])

-- a client's later line doesn't come first
not_rising_refused : IsLegalJournal five_lines swapped_answers path_a (4 ∷ 2 ∷ []) → ⊥
not_rising_refused h = omega (arith, (h.entries 1 2 refl).rising 0 4 (omega arith) refl refl)

-- and nothing is committed to no file
no_file_to_sync_refused : IsLegalJournal five_lines swapped_answers path_a (4 ∷ 2 ∷ []) → ⊥
no_file_to_sync_refused h = true≢false (sym (h.entries 0 4 refl).enabled)
