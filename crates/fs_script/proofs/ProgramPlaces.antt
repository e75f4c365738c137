-- A client's program: its lines rise, and each of the client's operations stands in it.
use Rattle.fs_types.proofs.Common.{common_steps, arith, ◌≡◌, ℕ, true, length, Option, Some, None, true≢false, eqb-true, refl, sym}
use Rattle.fs_types.proofs.Common.{slice_get, eq-eqb}
use Rattle.fs_script.specs.Vocabulary.{OpLine, Job, op_at, is_of_rank, program}
use Rattle.fs_script.proofs.Jobs.{op_at-within}
use Rattle.fs_script.proofs.PlainLists.{passes, passing-place}

-- ---- programs

-- it stands in its client's program
pub program-place : (s : Job) (n : ℕ) (o : OpLine) → op_at s n ≡ Some o → (k : ℕ) × (slice_get (program s o.rank) k ≡ Some n)
program-place s n o is = grind (arith, common_steps, op_at-within, passing-place, length, eq-eqb)

-- a line of client r is an operation of that client
pub of_rank : (r : ℕ) (o : Option OpLine) → is_of_rank r o ≡ true → (l : OpLine) × (o ≡ Some l) × (l.rank ≡ r)
of_rank r None h = absurd (true≢false (sym h))
of_rank r (Some o) h = (o, refl, eqb-true o.rank r h)

-- what stands there is an operation of that client
pub program-op : (s : Job) (r k n : ℕ) → slice_get (program s r) k ≡ Some n → (o : OpLine) × (op_at s n ≡ Some o) × (o.rank ≡ r)
program-op s r k n at = of_rank r (op_at s n) (passes (λ m. is_of_rank r (op_at s m)) 2 (length s.lines) k n at).0
