-- What a job within the limits says of each of its lines.
use Rattle.std.proofs.Common.{◌≡◌, ℕ, zero, suc, ◌+◌, ◌<◌, ◌≤◌, List, [], ◌∷◌, length, Option, None, Some, inl, subst, refl, arith}
use Rattle.std.specs.List.{slice_get, AllByRecursion}
use Rattle.std.proofs.lemmas.Option.{same_Some}
use Rattle.std.proofs.lemmas.List.FromFn.{length-map-range_with_len}
use Rattle.fs_script.specs.declared.shape.Shape.{Shape}
use Rattle.fs_script.specs.declared.line.Line.{Line}
use Rattle.fs_script.specs.declared.line.Line.TheVariants as lines
use Rattle.fs_script.specs.declared.line.OpLine.{OpLine}
use Rattle.fs_script.specs.declared.line.Op.{Op}
use Rattle.fs_script.specs.declared.line.Op.TheVariants as ops
use Rattle.fs_script.specs.declared.line.Data.{Data}
use Rattle.fs_script.specs.declared.line.Data.TheVariants.{Text, Pattern}
use Rattle.fs_script.specs.declared.limits.TheConstants.{TRANSFER_LIMIT, SPILL_SLOTS, SPILL_BYTES}
use Rattle.fs_script.specs.Job.{Job, operation, op_at}
use Rattle.fs_script.specs.Payload.{pattern_byte, data_bytes, brought, brought_in, bytes_brought, payload}
use Rattle.fs_script.specs.Fits.{AreTold}
use Rattle.fs_script.specs.Grammar.{IsJob, IsLine, IsData, IsOp, IsOpLine}
use Rattle.fs_script.proofs.Reading.Headers.{few_each}

at_head : (h : Shape) (l : Line) (o : OpLine) → IsLine h l → operation (Some l) ≡ Some o → IsOpLine h o
at_head h lines.Note o is e = absurd cc
at_head h lines.Barrier o is e = absurd cc
at_head h (lines.Op p) o is e = subst (IsOpLine h) (same_Some p o e) is

at_place : (h : Shape) (ls : List Line) (k : ℕ) (o : OpLine) → AllByRecursion (IsLine h) ls → operation (slice_get ls k) ≡ Some o → IsOpLine h o
at_place h [] k o all e = absurd cc
at_place h (l ∷ ls) zero o all e = at_head h l o all.0 e
at_place h (l ∷ ls) (suc k) o all e = at_place h ls k o all.1 e

at_line : (s : Job) (n : ℕ) (o : OpLine) → AllByRecursion (IsLine s.shape) s.lines → op_at s n ≡ Some o → IsOpLine s.shape o
at_line s zero o all e = absurd cc
at_line s (suc zero) o all e = absurd cc
at_line s (suc (suc k)) o all e = at_place s.shape s.lines k o all e

-- an operation of a job within the limits is within them
pub IsOpLine-from_job : (s : Job) (n : ℕ) (o : OpLine) → IsJob s → op_at s n ≡ Some o → IsOpLine s.shape o
IsOpLine-from_job s n o job e = at_line s n o job.lines e

slice_get-operation : (ls : List Line) (k : ℕ) (o : OpLine) → operation (slice_get ls k) ≡ Some o → k < length ls
slice_get-operation [] k o h = absurd cc
slice_get-operation (l ∷ ls) zero o h = omega arith
slice_get-operation (l ∷ ls) (suc k) o h = let later = slice_get-operation ls k o h in omega arith

-- an operation is a line of the script
pub op_at-within : (s : Job) (n : ℕ) (o : OpLine) → op_at s n ≡ Some o → (2 ≤ n) × (n < 2 + length s.lines)
op_at-within s zero o h = absurd cc
op_at-within s (suc zero) o h = absurd cc
op_at-within s (suc (suc k)) o h = let within = slice_get-operation s.lines k o h in (omega arith, omega arith)

-- ---- payloads

-- a payload has no more bytes than one line may move
pub length-data : (d : Data) → IsData d → length (data_bytes d) ≤ TRANSFER_LIMIT
length-data (Text bytes) is = is.1
length-data (Pattern seed len) is = omega (arith, length-map-range_with_len (pattern_byte seed) 0 len, is.1)

length-brought : (op : Op) → IsOp op → length (bytes_brought (brought op)) ≤ TRANSFER_LIMIT
length-brought ops.Create is = omega arith
length-brought ops.Open is = omega arith
length-brought (ops.Write off text) is = length-data text is.1
length-brought ops.Sync is = omega arith
length-brought (ops.Read off len own) is = omega arith
length-brought ops.Size is = omega arith
length-brought (ops.Trunc n) is = omega arith
length-brought ops.Laminate is = omega arith
length-brought ops.Unlink is = omega arith

-- no line writes more bytes than one line may move
pub length-payload : (s : Job) (n : ℕ) → IsJob s → length (payload s n) ≤ TRANSFER_LIMIT
length-payload s n job = by (op_at s n) refl
  where
    by : (o : Option OpLine) → op_at s n ≡ o → length (bytes_brought (brought_in o)) ≤ TRANSFER_LIMIT
    by None is = omega arith
    by (Some o) is = length-brought o.op (IsOpLine-from_job s n o job is).op

-- ---- spilling

-- while a job has no spill slots, every byte that is shown is compared
pub AreTold-from_job : (s : Job) (told : List ℕ) → IsJob s → AreTold s told
AreTold-from_job s told job =
    let few = few_each s.shape s.shape.spill SPILL_SLOTS SPILL_BYTES job.shape.some_client job.shape.spill in
    inl (omega (arith, few))
