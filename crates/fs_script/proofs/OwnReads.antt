-- Reads that show a client's own pending writes, worked out by hand: over a gap of zeros, over each other and the file, and past
-- the file's end; and plain reads of the same places, which don't show them.
use Rattle.fs_types.proofs.Common.{◌≡◌, ℕ, ◌++◌, List, [], ◌∷◌, length, Some, Bool, true, false, refl, inl, arith, codes}
use Rattle.fs_script.specs.Vocabulary.{answer_at, Text, Job, Answering, pending_at, state, IsInReach, Fits}
use Rattle.fs_script.proofs.FiveLines.{on_a, five_shape}
use Rattle.fs_script.proofs.TwoLives.{none_later}
use Rattle.fs_types.specs.declared.answer.Answer.TheVariants as answers
use Rattle.fs_types.specs.declared.answer.Body.TheVariants as bodies
use Rattle.fs_script.specs.declared.line.Line.TheVariants as lines
use Rattle.fs_script.specs.declared.line.Op.TheVariants as ops

-- four zeros and four bytes are committed; three writes are pending at line 8
abbrev own_writes : Job
own_writes = record {
  shape = five_shape;
  lines =
      lines.Op (on_a ops.Create)
      ∷ lines.Op (on_a (ops.Write 4 (Text (codes "efgh"))))
      ∷ lines.Op (on_a ops.Sync)
      ∷ lines.Op (on_a (ops.Write 2 (Text (codes "XYZ"))))
      ∷ lines.Op (on_a (ops.Write 3 (Text (codes "!"))))
      ∷ lines.Op (on_a (ops.Write 10 (Text (codes "k"))))
      ∷ lines.Op (on_a (ops.Read 0 20 true))
      ∷ [];
}

abbrev own_writes_answers : Answering
own_writes_answers = answer_at (
    (2, answers.Done 1) ∷ (3, answers.Wrote 1) ∷ (4, answers.Done 2) ∷ (5, answers.Wrote 1) ∷ (6, answers.Wrote 1) ∷ (7, answers.Wrote 1) ∷ [])

abbrev own_writes_journal : List ℕ
own_writes_journal = 2 ∷ 4 ∷ []

three_pending : pending_at own_writes own_writes_answers 8 ≡ 5 ∷ 6 ∷ 7 ∷ []
three_pending = refl

committed_file : state own_writes own_writes_answers own_writes_journal 2
    ≡ Some (record { cells = 0 ∷ 0 ∷ 0 ∷ 0 ∷ codes "efgh"; frozen = false })
committed_file = refl

-- a read of line 8 shows these bytes: so many at most from a place on, of the file alone or with what its client wrote over it
abbrev ShowsBytes : Bool → ℕ → ℕ → List ℕ → Type 0
ShowsBytes own off len bytes = Fits [] own_writes own_writes_answers own_writes_journal 8 (on_a (ops.Read off len own))
    (answers.Shown 2 (length bytes) (bodies.Hex bytes))

may_print : (own : Bool) (off len : ℕ) → IsInReach own_writes own_writes_answers own_writes_journal 8 (on_a (ops.Read off len own)) 2
may_print own off len = record {
  front = omega arith;
  length = omega arith;
  no_later = none_later own_writes 0 8 (2 ∷ 4 ∷ []) refl;
}

-- ---- its client's own writes

-- the later of two writes stands over the earlier, and both over zeros and bytes of the file
own_writes_over_the_file : ShowsBytes true 0 8 (0 ∷ 0 ∷ codes "X!Zfgh")
own_writes_over_the_file = record { opened = refl; version = may_print true 0 8; answer = record { count = refl; same = λ _. refl } }

own_write_past_the_end : ShowsBytes true 7 20 (codes "h" ++ 0 ∷ 0 ∷ codes "k")
own_write_past_the_end = record { opened = refl; version = may_print true 7 20; answer = record { count = refl; same = λ _. refl } }

own_write_past_the_end_is_counted : ShowsBytes true 7 20 (codes "h") → ⊥
own_write_past_the_end_is_counted h = omega (arith, h.answer.count)

pub first_byte : {a b : ℕ} {xs ys : List ℕ} → bodies.Hex (a ∷ xs) ≡ bodies.Hex (b ∷ ys) → a ≡ b
first_byte h = cc

own_writes_are_shown : ShowsBytes true 2 2 (0 ∷ 0 ∷ []) → ⊥
own_writes_are_shown h = omega (arith, first_byte (h.answer.same (inl refl)))

-- ---- the file alone

no_own_write_over_the_file : ShowsBytes false 0 20 (0 ∷ 0 ∷ 0 ∷ 0 ∷ codes "efgh")
no_own_write_over_the_file = record { opened = refl; version = may_print false 0 20; answer = record { count = refl; same = λ _. refl } }

no_own_write_past_the_end : ShowsBytes false 8 20 []
no_own_write_past_the_end = record { opened = refl; version = may_print false 8 20; answer = record { count = refl; same = λ _. refl } }

own_writes_are_not_shown : ShowsBytes false 2 2 (codes "X!") → ⊥
own_writes_are_not_shown h = omega (arith, first_byte (h.answer.same (inl refl)))
