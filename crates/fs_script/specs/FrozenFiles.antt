-- What is committed to a frozen file: nothing but the unlink that takes it away.
use Rattle.std.specs.Prelude.{◌≡◌, ℕ, suc, List, Some}
use Rattle.std.specs.List.{slice_get}
use Rattle.fs_script.specs.declared.line.OpLine.{OpLine}
use Rattle.fs_script.specs.declared.line.Op.TheVariants.{Laminate, Unlink}
use Rattle.fs_script.specs.Job.{Job, op_at}
use Rattle.fs_script.specs.Pending.{Answering}
use Rattle.fs_script.specs.Journal.{IsLegalJournal}

-- the line that a legal journal has after a lamination is an unlink: so between the two nothing is committed
abbrev pub OnlyAnUnlinkFollows : Type 0
OnlyAnUnlinkFollows =
    (s : Job) (A : Answering) (p J : List ℕ) (k m n : ℕ) (o next : OpLine) → IsLegalJournal s A p J
    → slice_get J k ≡ Some m → op_at s m ≡ Some o → o.op ≡ Laminate
    → slice_get J (suc k) ≡ Some n → op_at s n ≡ Some next → next.op ≡ Unlink
