-- No fault of reading is want of memory: each step gives a value, or a fault of the bytes.
use Rattle.std.proofs.Common.{◌≢◌, ℕ, ◌+◌, Bool, true, false, cond, List, [], ◌∷◌, Option, Some, None, Result, Ok, Err, ok_or, subst}
use Rattle.std.specs.Prelude.{IfErr, ⊤}
use Rattle.fs_script.specs.declared.shape.Shape.{Shape}
use Rattle.fs_script.specs.declared.line.Line.{Line}
use Rattle.fs_script.specs.declared.fault.ScriptFault.{ScriptFault}
use Rattle.fs_script.specs.declared.fault.ScriptFault.TheVariants as faults
use Rattle.fs_script.specs.declared.read.line_fault.LineFault.{LineFault}
use Rattle.fs_script.specs.declared.read.op_kind.OpKind.{OpKind}
use Rattle.fs_script.specs.declared.read.op_kind.OpKind.TheVariants as kinds
use Rattle.fs_script.specs.Reading.Steps.{◌>>=◌}
use Rattle.fs_script.specs.Reading.Headers.{shape_of_words}
use Rattle.fs_script.specs.Reading.Words.{data_of}
use Rattle.fs_script.specs.Reading.Lines.{op_of_kind, op_of_words, op_line_of, line_of}
use Rattle.fs_script.specs.Reading.Scripts.{fault_at, numbered, lines_from, job_of_lines, job_of}

-- the step gives a value, or a fault of this kind
record Faults {A E : Type 0} (P : E → Type 0) (r : Result A E) : Type 0 where
  kind : IfErr r P

module _ {E : Type 0} (P : E → Type 0) where
  value : {A : Type 0} (x : A) → Faults P (Ok x)
  value x = record { kind = tt }

  fault : (A : Type 0) (d : E) → P d → Faults {A = A} P (Err d)
  fault A d p = record { kind = p }

  bind : {A B : Type 0} (r : Result A E) (f : A → Result B E) → Faults P r → ((x : A) → Faults P (f x)) → Faults P (r >>= f)
  bind (Ok x) f first second = second x
  bind (Err d) f first second = record { kind = first.kind }

  branch : {A : Type 0} (b : Bool) (x y : Result A E) → Faults P x → Faults P y → Faults P (cond b x y)
  branch true x y p q = p
  branch false x y p q = q

  option : {A : Type 0} (o : Option A) (d : E) → P d → Faults P (ok_or o d)
  option (Some x) d p = value x
  option None d p = fault _ d p

ruleset steps = (value, fault, bind, branch, option, tt)

-- not want of memory
abbrev OfBytes : ScriptFault → Type 0
OfBytes faults.Want = ⊥
OfBytes f = ⊤

-- ---- line n

module _ (n : ℕ) where
  abbrev OfLine : LineFault → Type 0
  OfLine f = OfBytes (fault_at n f)

  payload : (word : List ℕ) → Faults OfLine (data_of word)
  payload word = search steps depth 12

  op : (kind : OpKind) (words : List (List ℕ)) → Faults OfLine (op_of_kind kind words)
  op kinds.Create words = search steps
  op kinds.Open words = search steps
  op kinds.Write words = search (steps, payload)
  op kinds.Sync words = search steps
  op kinds.Read words = search steps depth 12
  op kinds.ReadOwn words = search steps depth 12
  op kinds.Size words = search steps
  op kinds.Trunc words = search steps depth 12
  op kinds.Laminate words = search steps
  op kinds.Unlink words = search steps

  op_words : (words : List (List ℕ)) → Faults OfLine (op_of_words words)
  op_words [] = search steps
  op_words (name ∷ words) = search (steps, op)

  op_line : (h : Shape) (words : List (List ℕ)) → Faults OfLine (op_line_of h words)
  op_line h [] = search steps
  op_line h (first ∷ words) = search (steps, op_words)

  line : (h : Shape) (text : List ℕ) → Faults OfLine (line_of h text)
  line h text = search (steps, op_line)

  at_line : (r : Result Line LineFault) → Faults OfLine r → Faults OfBytes (numbered n r)
  at_line (Ok l) p = value _ l
  at_line (Err f) p = fault _ _ _ p.kind

-- ---- the script

lines : (h : Shape) (n : ℕ) (ts : List (List ℕ)) → Faults OfBytes (lines_from h n ts)
lines h n [] = search steps
lines h n (t ∷ ts) =
    bind _ _ _ (at_line n _ (line n h t)) (λ l. bind _ _ (λ ls. Ok (l ∷ ls)) (lines h (n + 1) ts) (λ ls. value _ _))

shape : (words : List (List ℕ)) → Faults OfBytes (shape_of_words words)
shape (a ∷ b ∷ c ∷ d ∷ e ∷ []) = search steps depth 12
shape words = search steps

job : (ts : List (List ℕ)) → Faults OfBytes (job_of_lines ts)
job [] = search steps
job (t ∷ ts) = search (steps, shape, lines)

pub reading_wants_no_memory : (bytes : List ℕ) → job_of bytes ≢ Err faults.Want
reading_wants_no_memory bytes e =
    let read : Faults OfBytes (job_of bytes) = search (steps, job) in
    subst (λ r. IfErr r OfBytes) e read.kind
