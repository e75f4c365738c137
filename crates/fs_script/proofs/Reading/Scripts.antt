-- A script is read exactly where it spells a job.
use Rattle.std.proofs.Common.{◌≡◌, ℕ, ◌+◌, ◌^◌, ◌<◌, ◌≤◌, Bool, true, false, cond, nat_lt, List, [], ◌∷◌, length, Result, Ok, Err, refl, inl, inr, ◌⊎◌, sym, ap, subst, ◌∙◌, arith}
use Rattle.std.specs.Prelude.{IfOk}
use Rattle.std.specs.List.{AllByRecursion}
use Rattle.std.proofs.lemmas.Bool.{le-ltb, ltb-false}
use Rattle.fs_script.specs.declared.limits.TheConstants.{LINE_LIMIT, SCRIPT_LIMIT}
use Rattle.fs_script.specs.declared.shape.Shape.{Shape}
use Rattle.fs_script.specs.declared.line.Line.{Line}
use Rattle.fs_script.specs.declared.fault.ScriptFault.{ScriptFault}
use Rattle.fs_script.specs.declared.fault.ScriptFault.TheVariants as faults
use Rattle.fs_script.specs.declared.read.line_fault.LineFault.{LineFault}
use Rattle.fs_script.specs.Job.{Job}
use Rattle.fs_script.specs.Grammar.{IsLine, IsJob, SpellLines, SpellJob, IsScript}
use Rattle.fs_script.specs.Reading.Tokens.{lines_of}
use Rattle.fs_script.specs.Reading.Headers.{header_of}
use Rattle.fs_script.specs.Reading.Lines.{line_of}
use Rattle.fs_script.specs.Reading.Scripts.{numbered, lines_from, lines_after_header, job_of_lines, job_of}
use Rattle.fs_script.specs.Returned.{Gives}
use Rattle.fs_script.proofs.Reading.Steps.{bind_ok, ok_is}
use Rattle.fs_script.proofs.Reading.Headers.{header_is_text, text_is_header}
use Rattle.fs_script.proofs.Reading.OpLines.{line_is_text, text_is_line}

-- a step behind a limit
within : {A E : Type 0} (limit n : ℕ) (d : E) (r : Result A E) (y : A) → cond (nat_lt limit n) (Err d) r ≡ Ok y → (n ≤ limit) × (r ≡ Ok y)
within limit n d r y e = by (nat_lt limit n) refl e
  where
    by : (b : Bool) → nat_lt limit n ≡ b → cond b (Err d) r ≡ Ok y → (n ≤ limit) × (r ≡ Ok y)
    by true is e = absurd cc
    by false is e = (ltb-false limit n is, e)

-- ---- the lines

numbered_is : (n : ℕ) (r : Result Line LineFault) (l : Line) → numbered n r ≡ Ok l → r ≡ Ok l
numbered_is n (Ok x) l e = cc
numbered_is n (Err f) l e = absurd cc

lines_are_spelled : (h : Shape) (n : ℕ) (ts : List (List ℕ)) (ls : List Line) → lines_from h n ts ≡ Ok ls → SpellLines h ls ts
lines_are_spelled h n [] ls e = subst (λ k. SpellLines h k []) (ok_is [] ls e) tt
lines_are_spelled h n (t ∷ ts) ls e =
    let a = bind_ok _ _ ls e in
    let b = bind_ok _ _ ls a.2 in
    let first = line_is_text h t a.0 (numbered_is n (line_of h t) a.0 a.1) in
    subst (λ k. SpellLines h k (t ∷ ts)) (ok_is (a.0 ∷ b.0) ls b.2) (first.0, first.1, lines_are_spelled h (n + 1) ts b.0 b.1)

spelled_lines_are_read : (h : Shape) (n : ℕ) (ls : List Line) (ts : List (List ℕ))
    → h.clients < 2 ^ 64 → SpellLines h ls ts → lines_from h n ts ≡ Ok ls
spelled_lines_are_read h n [] [] few s = refl
spelled_lines_are_read h n [] (t ∷ ts) few s = absurd s
spelled_lines_are_read h n (l ∷ ls) [] few s = absurd s
spelled_lines_are_read h n (l ∷ ls) (t ∷ ts) few s =
    rw (text_is_line h l t few s.0 s.1, spelled_lines_are_read h (n + 1) ls ts few s.2) refl

lines_fit : (h : Shape) (ls : List Line) (ts : List (List ℕ)) → SpellLines h ls ts → AllByRecursion (IsLine h) ls × (length ls ≡ length ts)
lines_fit h [] [] s = (tt, refl)
lines_fit h [] (t ∷ ts) s = absurd s
lines_fit h (l ∷ ls) [] s = absurd s
lines_fit h (l ∷ ls) (t ∷ ts) s =
    let rest = lines_fit h ls ts s.2 in
    ((s.0, rest.0), omega (arith, rest.1))

-- ---- the job

-- lines spell a job, and are few enough
record Spelled (ts : List (List ℕ)) (s : Job) : Type 0 where
  few : length ts ≤ LINE_LIMIT
  spelled : SpellJob s ts

job_is_spelled : (ts : List (List ℕ)) (s : Job) → job_of_lines ts ≡ Ok s → Spelled ts s
job_is_spelled [] s e = absurd cc
job_is_spelled (t ∷ ts) s e =
    let a = bind_ok _ _ s e in
    let b = bind_ok _ _ s a.2 in
    let w = within LINE_LIMIT (length ts + 1) faults.TooManyLines (lines_from a.0 2 ts) b.0 b.1 in
    let h = header_is_text t a.0 a.1 in
    subst (Spelled (t ∷ ts)) (ok_is (record { shape = a.0; lines = b.0 }) s b.2)
    (record { few = omega (arith, w.0); spelled = (h.0, h.1, lines_are_spelled a.0 2 ts b.0 w.1) })

spelled_job_is_read : (ts : List (List ℕ)) (s : Job) → length ts ≤ LINE_LIMIT → SpellJob s ts → job_of_lines ts ≡ Ok s
spelled_job_is_read [] s few h = absurd h
spelled_job_is_read (t ∷ ts) s few h =
    let clients : s.shape.clients < 2 ^ 64 = omega (arith, h.0.clients) in
    let count : nat_lt LINE_LIMIT (length ts + 1) ≡ false = le-ltb LINE_LIMIT (length ts + 1) (omega (arith, few)) in
    rw (h.1, text_is_header s.shape h.0, count, spelled_lines_are_read s.shape 2 s.lines ts clients h.2) refl

-- what is read is a script
pub job_is_script : (bytes : List ℕ) (s : Job) → job_of bytes ≡ Ok s → IsScript bytes s
job_is_script bytes s e =
    let w = within SCRIPT_LIMIT (length bytes) faults.TooLong (job_of_lines (lines_of bytes)) s e in
    let j = job_is_spelled (lines_of bytes) s w.1 in
    record { size = w.0; lines = j.few; spelled = j.spelled }

-- a script is read
pub script_is_job : (bytes : List ℕ) (s : Job) → IsScript bytes s → job_of bytes ≡ Ok s
script_is_job bytes s h =
    rw (le-ltb SCRIPT_LIMIT (length bytes) h.size) (spelled_job_is_read (lines_of bytes) s h.lines h.spelled)

spelled_fits : (ts : List (List ℕ)) (s : Job) → length ts ≤ LINE_LIMIT → SpellJob s ts → IsJob s
spelled_fits [] s few h = absurd h
spelled_fits (t ∷ ts) s few h =
    let f = lines_fit s.shape s.lines ts h.2 in
    record { shape = h.0; lines = f.0; few = omega (arith, f.1) }

-- a script is that of a job within the limits
pub script_fits : (bytes : List ℕ) (s : Job) → IsScript bytes s → IsJob s
script_fits bytes s h = spelled_fits (lines_of bytes) s h.lines h.spelled

-- a header and the lines after it, read, are a job within the limits
pub read_fits : (t : List ℕ) (ts : List (List ℕ)) (h : Shape) (ls : List Line)
    → header_of t ≡ Ok h → lines_after_header h ts ≡ Ok ls → IsJob (record { shape = h; lines = ls })
read_fits t ts h ls header after =
    let j = job_is_spelled (t ∷ ts) (record { shape = h; lines = ls }) (rw (header, after) refl) in
    spelled_fits (t ∷ ts) (record { shape = h; lines = ls }) j.few j.spelled

-- a script is that of one job
pub one_job : (bytes : List ℕ) (s t : Job) → IsScript bytes s → IsScript bytes t → s ≡ t
one_job bytes s t p q = ok_is s t (sym (script_is_job bytes s p) ∙ script_is_job bytes t q)

-- ---- what a reader that gives the job, unless memory runs out, says of scripts

module _ (bytes : List ℕ) where
  pub reads_scripts : (r : Result Job ScriptFault) → Gives faults.Want (λ s. s) r (job_of bytes) → IfOk r (λ s. IsScript bytes s)
  reads_scripts (Ok s) given = job_is_script bytes s given
  reads_scripts (Err f) given = tt

  pub reads_each_script : (r : Result Job ScriptFault) → Gives faults.Want (λ s. s) r (job_of bytes)
      → (s : Job) → IsScript bytes s → (r ≡ Ok s) ⊎ (r ≡ Err faults.Want)
  reads_each_script (Ok t) given s h = inl (sym given ∙ script_is_job bytes s h)
  reads_each_script (Err f) (inl want) s h = inr (ap Err want)
  reads_each_script (Err f) (inr fault) s h = let found = script_is_job bytes s h in absurd cc
