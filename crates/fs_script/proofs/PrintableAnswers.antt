-- An answer that fits a legal journal is printable, where the bytes that it shows are compared.
use Rattle.fs_types.proofs.Common.{◌≡◌, ℕ, Bool, ◌^◌, ◌<◌, nat_le, List, length, drop, Option, Some, None, sym, subst, arith, div-le_self}
use Rattle.fs_types.proofs.Common.{cond_both, leb-true, All-take, All-drop, recursion_from_All}
use Rattle.md5.specs.Md5.{md5}
use Rattle.fs_script.specs.Vocabulary.{Answer, Body, shown, File, OpLine, Op, Job, op_at, brought, Range, asked, Answering}
use Rattle.fs_script.specs.Vocabulary.{state, AreTold, LineView, line_view, Accepts, LacksSpace, ShowsAsked, Fits, body_of, IsLegalJournal}
use Rattle.fs_script.specs.Vocabulary.{IsPrintableBody, IsPrintableAnswer}
use Rattle.fs_types.specs.declared.limits.TheConstants.{HEX_LIMIT}
use Rattle.fs_script.specs.Grammar.{IsJob, IsOp}
use Rattle.fs_types.proofs.CallerLemmas.{length-shown}
use Rattle.fs_script.proofs.Digests.{IsDigest-md5}
use Rattle.fs_script.proofs.FileBytes.{AllBytes, IsWithinLimits, IsWithinLimits-state, IsWithinLimits-view_of}
use Rattle.fs_script.proofs.Jobs.{IsOpLine-from_job, length-data}
use Rattle.fs_script.proofs.JournalLines.{length-journal}
use Rattle.fs_types.specs.declared.answer.Answer.TheVariants as answers
use Rattle.fs_types.specs.declared.answer.Body.TheVariants as bodies
use Rattle.fs_script.specs.declared.line.Op.TheVariants as ops
use Rattle.fs_script.specs.Fits.{ShowsRange, IsSized}
use Rattle.fs_script.specs.Pending.{pending}
use Rattle.fs_script.specs.Payload.{data_bytes}

-- ---- slots

-- no write fills more slots than it has bytes
slots_are_few : (w : LineView) (op : Op) (slots : ℕ) → IsOp op → Accepts w (brought op) slots → slots < 2 ^ 32
slots_are_few w ops.Create slots is accepts = absurd accepts
slots_are_few w ops.Open slots is accepts = absurd accepts
slots_are_few w (ops.Write off text) slots is accepts = omega (arith, length-data text is.1, div-le_self (length (data_bytes text)) w.chunk)
slots_are_few w ops.Sync slots is accepts = absurd accepts
slots_are_few w (ops.Read off len own) slots is accepts = absurd accepts
slots_are_few w ops.Size slots is accepts = absurd accepts
slots_are_few w (ops.Trunc n) slots is accepts = absurd accepts
slots_are_few w ops.Laminate slots is accepts = absurd accepts
slots_are_few w ops.Unlink slots is accepts = absurd accepts

-- and a write that finds too few slots free needs no more
need_is_small : (w : LineView) (op : Op) (need free : ℕ) → IsOp op → LacksSpace w (brought op) need free → (need < 2 ^ 64) × (free < 2 ^ 64)
need_is_small w ops.Create need free is lacks = absurd lacks
need_is_small w ops.Open need free is lacks = absurd lacks
need_is_small w (ops.Write off text) need free is lacks =
    let few : need < 2 ^ 64 = omega (arith, length-data text is.1, div-le_self (length (data_bytes text)) w.chunk, lacks.need) in
    (few, omega (arith, lacks.few))
need_is_small w ops.Sync need free is lacks = absurd lacks
need_is_small w (ops.Read off len own) need free is lacks = absurd lacks
need_is_small w ops.Size need free is lacks = absurd lacks
need_is_small w (ops.Trunc n) need free is lacks = absurd lacks
need_is_small w ops.Laminate need free is lacks = absurd lacks
need_is_small w ops.Unlink need free is lacks = absurd lacks

-- ---- what a read shows

-- bytes are shown as they are, or by their digest
IsPrintableBody-body_of : (bytes : List ℕ) → AllBytes bytes → IsPrintableBody (body_of bytes)
IsPrintableBody-body_of bytes are =
    cond_both (nat_le (length bytes) HEX_LIMIT) (bodies.Hex bytes) (bodies.Md5 (md5 bytes)) IsPrintableBody
    (λ short. record { size = leb-true (length bytes) HEX_LIMIT short; bytes = recursion_from_All (λ b. b < 256) bytes are })
    (λ _. IsDigest-md5 bytes)

-- a range of a file has no more bytes than the file
range_is_printable : (compared : Type 0) (x : Range) (f : File ℕ) (n : ℕ) (body : Body)
    → compared → IsWithinLimits f → ShowsRange compared x f n body → (n < 2 ^ 64) × IsPrintableBody body
range_is_printable compared x None n body told within shows = absurd shows
range_is_printable compared x (Some f) n body told within shows =
    let range = shown f.cells x.off x.len in
    let rest = All-drop (λ b. b < 256) x.off f.cells within.bytes in
    let bytes = All-take (λ b. b < 256) x.len (drop x.off f.cells) rest in (
      omega (arith, shows.count, length-shown f.cells x.off x.len),
      subst IsPrintableBody (sym (shows.same told)) (IsPrintableBody-body_of range bytes),
    )

-- so is what is shown of what a client sees, where that is within the limits
asked_is_printable : (compared : Type 0) (w : LineView) (x : Option Range) (f : File ℕ) (n : ℕ) (body : Body)
    → compared → ((own : Bool) → IsWithinLimits (w.sees own f)) → ShowsAsked compared w x f n body → (n < 2 ^ 64) × IsPrintableBody body
asked_is_printable compared w None f n body told within shows = absurd shows
asked_is_printable compared w (Some x) f n body told within shows =
    range_is_printable compared x (w.sees x.own f) n body told (within x.own) shows

-- a file is no longer than the longest
size_is_printable : (f : File ℕ) (n : ℕ) (frozen : Bool) → IsWithinLimits f → IsSized f n frozen → n < 2 ^ 64
size_is_printable None n frozen within sized = absurd sized
size_is_printable (Some f) n frozen within sized = omega (arith, within.length, sized.0)

-- ---- each answer

-- versions count the lines of a journal, which are no more than those of the job
pub IsPrintableAnswer-fits : {told : List ℕ} {s : Job} {A : Answering} {J : List ℕ} {n : ℕ} {o : OpLine} {a : Answer}
    → IsJob s → AreTold s told → IsLegalJournal s A o.path J → op_at s n ≡ Some o → Fits told s A J n o a → IsPrintableAnswer a
IsPrintableAnswer-fits {told} {s} {A} {J} {n} {o} {a} job all legal is fits = by a fits
  where
    few : length J < 2 ^ 17
    few = omega (arith, length-journal s A o.path J legal, job.few)

    by : (b : Answer) → Fits told s A J n o b → IsPrintableAnswer b
    by (answers.Done v) fit = omega (arith, fit.version.length, few)
    by (answers.Wrote slots) fit = slots_are_few (line_view s A J n o) o.op slots (IsOpLine-from_job s n o job is).op fit.answer
    by (answers.Staged v m slots) fit = absurd fit.answer
    by (answers.Sized v m frozen) fit =
        (omega (arith, fit.version.length, few), size_is_printable (state s A J v) m frozen (IsWithinLimits-state s job A J v) fit.answer.1)
    by (answers.Shown v m body) fit =
        let file = IsWithinLimits-state s job A J v in
        let sees = λ (own : Bool). IsWithinLimits-view_of s job own (pending s A o.rank o.path n) (state s A J v) file in
        let range = asked_is_printable (AreTold s told) (line_view s A J n o) (asked o.op) (state s A J v) m body all sees fit.answer in
        record { version = omega (arith, fit.version.length, few); count = range.0; shown = range.1 }
    by answers.BadF fit = tt
    by (answers.Exists v) fit = omega (arith, fit.version.length, few)
    by (answers.NoEnt v) fit = omega (arith, fit.version.length, few)
    by (answers.ReadOnly v) fit = omega (arith, fit.version.length, few)
    by answers.TooBig fit = tt
    by (answers.TooBigAt v) fit = absurd fit.answer
    by (answers.NoSpace need free) fit = need_is_small (line_view s A J n o) o.op need free (IsOpLine-from_job s n o job is).op fit.answer
    by (answers.DevFault rank) fit = absurd fit.answer
