-- The script of five lines, read, and its states, fronts and pending writes, worked out by hand.
use Rattle.std.proofs.Common.{◌≡◌, ℕ, ◌++◌, List, [], ◌∷◌, Some, None, Ok, zero, suc, ◌<◌, ◌≤◌, Contains, slice_get, false, refl, subst, arith}
use Rattle.std.specs.Prelude.{codes}
use Rattle.std.proofs.lemmas.Option.{none-some, same_Some}
use Rattle.fs_types.specs.declared.answer.Answer.{Answer}
use Rattle.fs_types.specs.declared.answer.Answer.TheVariants as answers
use Rattle.fs_types.specs.declared.answer.Body.TheVariants as bodies
use Rattle.fs_script.specs.declared.line.Line.TheVariants as lines
use Rattle.fs_script.specs.declared.line.Op.{Op}
use Rattle.fs_script.specs.declared.line.OpLine.{OpLine}
use Rattle.fs_script.specs.declared.shape.Shape.{Shape}
use Rattle.fs_script.specs.declared.line.Op.TheVariants as ops
use Rattle.fs_script.specs.declared.line.Data.TheVariants.{Text}
use Rattle.fs_script.specs.Job.{Job, rank_at, phase}
use Rattle.fs_script.specs.Pending.{Answering, pending_at}
use Rattle.fs_script.specs.Effect.{state}
use Rattle.fs_script.specs.Front.{front}
use Rattle.fs_script.specs.Fits.{Fits}
use Rattle.fs_script.specs.Journal.{committed, IsLegalEntry, IsLegalJournal}
use Rattle.fs_script.specs.Reading.Scripts.{job_of}
use Rattle.fs_types.specs.AnswerList.{answer_at}

abbrev pub path_a : List ℕ
path_a = codes "/unifyfs/a"

-- client 0 does this with path a
abbrev pub on_a : Op → OpLine
on_a op = record { rank = 0; path = path_a; op = op }

abbrev pub five_shape : Shape
five_shape = record { servers = 1; clients = 1; chunk = 64; shmem = 4; spill = 0 }

abbrev pub five_lines : Job
five_lines = record {
  shape = five_shape;
  lines =
      lines.Op (on_a ops.Create)
      ∷ lines.Op (on_a (ops.Write 0 (Text (codes "hello"))))
      ∷ lines.Op (on_a ops.Sync)
      ∷ lines.Op (on_a (ops.Read 1 3 false))
      ∷ [];
}

abbrev pub five_bytes : List ℕ
five_bytes = codes "unifyfs 1 servers=1 clients=1 chunk=64 shmem=4 spill=0" ++ 10 ∷ [] ++ codes "0 create /unifyfs/a" ++ 10 ∷ [] ++ codes "0 write /unifyfs/a 0 t:hello" ++ 10 ∷ []
    ++ codes "0 sync /unifyfs/a" ++ 10 ∷ [] ++ codes "0 read /unifyfs/a 1 3" ++ 10 ∷ []

five_bytes_read : job_of five_bytes ≡ Ok five_lines
five_bytes_read = refl

abbrev pub five_answers : Answering
five_answers = answer_at ((2, answers.Done 1) ∷ (3, answers.Wrote 1) ∷ (4, answers.Done 2) ∷ (5, answers.Shown 2 3 (bodies.Hex (codes "ell"))) ∷ [])

-- the create, and then the sync
abbrev pub five_journal : List ℕ
five_journal = 2 ∷ 4 ∷ []

nothing_at_first : state five_lines five_answers five_journal 0 ≡ None
nothing_at_first = refl

empty_after_create : state five_lines five_answers five_journal 1 ≡ Some (record { cells = []; frozen = false })
empty_after_create = refl

hello_after_sync : state five_lines five_answers five_journal 2 ≡ Some (record { cells = codes "hello"; frozen = false })
hello_after_sync = refl

one_pending : pending_at five_lines five_answers 4 ≡ 3 ∷ []
one_pending = refl

none_pending : pending_at five_lines five_answers 5 ≡ []
none_pending = refl

front_of_read : front five_lines five_answers five_journal 0 path_a 5 ≡ 2
front_of_read = refl

-- ---- each of the four answers fits

abbrev pub Fits-five : ℕ → OpLine → Answer → Type 0
Fits-five n o a = Fits [] five_lines five_answers five_journal n o a

create_fits : Fits-five 2 (on_a ops.Create) (answers.Done 1)
create_fits = record {
  opened = tt;
  version = record { front = omega arith; length = omega arith; no_later = (record { phase = omega arith; own = λ _. omega arith }, tt) };
  answer = refl;
}

write_fits : Fits-five 3 (on_a (ops.Write 0 (Text (codes "hello")))) (answers.Wrote 1)
write_fits = record { opened = refl; version = tt; answer = (refl, omega arith, refl) }

sync_fits : Fits-five 4 (on_a ops.Sync) (answers.Done 2)
sync_fits = record {
  opened = refl;
  version = record { front = omega arith; length = omega arith; no_later = (record { phase = omega arith; own = λ _. omega arith }, (record { phase = omega arith; own = λ _. omega arith }, tt)) };
  answer = refl;
}

read_fits : Fits-five 5 (on_a (ops.Read 1 3 false)) (answers.Shown 2 3 (bodies.Hex (codes "ell")))
read_fits = record {
  opened = refl;
  version = record { front = omega arith; length = omega arith; no_later = (record { phase = omega arith; own = λ _. omega arith }, (record { phase = omega arith; own = λ _. omega arith }, tt)) };
  answer = record { count = refl; same = λ _. refl };
}

-- ---- the journal is legal

five_entries : (k n : ℕ) → slice_get five_journal k ≡ Some n → IsLegalEntry five_lines five_answers path_a five_journal k n
five_entries zero n at = subst (λ j. IsLegalEntry five_lines five_answers path_a five_journal 0 j) (same_Some 2 n at) (record {
  committed = refl;
  once = create_once;
  rising = λ i m below e mine. absurd (omega arith);
  phases = λ i m below e. absurd (omega arith);
  enabled = refl;
})
  where
    create_once : (i : ℕ) → slice_get five_journal i ≡ Some 2 → i ≡ 0
    create_once zero e = refl
    create_once (suc zero) e = absurd (omega (arith, same_Some 4 2 e))
    create_once (suc (suc i)) e = absurd (none-some 2 e)
five_entries (suc zero) n at = subst (λ j. IsLegalEntry five_lines five_answers path_a five_journal 1 j) (same_Some 4 n at) (record {
  committed = refl;
  once = sync_once;
  rising = sync_rising;
  phases = sync_phases;
  enabled = refl;
})
  where
    sync_once : (i : ℕ) → slice_get five_journal i ≡ Some 4 → i ≡ 1
    sync_once zero e = absurd (omega (arith, same_Some 2 4 e))
    sync_once (suc zero) e = refl
    sync_once (suc (suc i)) e = absurd (none-some 4 e)

    sync_rising : (i m : ℕ) → i < 1 → slice_get five_journal i ≡ Some m → rank_at five_lines m ≡ rank_at five_lines 4 → m < 4
    sync_rising zero m below e mine = omega (arith, same_Some 2 m e)
    sync_rising (suc i) m below e mine = absurd (omega arith)

    sync_phases : (i m : ℕ) → i < 1 → slice_get five_journal i ≡ Some m → phase five_lines m ≤ phase five_lines 4
    sync_phases zero m below e = subst (λ j. phase five_lines j ≤ phase five_lines 4) (same_Some 2 m e) (omega arith)
    sync_phases (suc i) m below e = absurd (omega arith)
five_entries (suc (suc k)) n at = absurd (none-some n at)

five_whole : (n v : ℕ) → committed five_lines five_answers path_a n ≡ Some v → Contains five_journal n
five_whole zero v h = absurd (none-some v h)
five_whole (suc zero) v h = absurd (none-some v h)
five_whole (suc (suc zero)) v h = (0, omega arith, refl)
five_whole (suc (suc (suc zero))) v h = absurd (none-some v h)
five_whole (suc (suc (suc (suc zero)))) v h = (1, omega arith, refl)
five_whole (suc (suc (suc (suc (suc zero))))) v h = absurd (none-some v h)
five_whole (suc (suc (suc (suc (suc (suc n)))))) v h = absurd (none-some v h)

five_legal : IsLegalJournal five_lines five_answers path_a five_journal
five_legal = record { entries = five_entries; whole = five_whole }
