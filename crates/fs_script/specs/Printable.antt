-- Which reports are printable: each number fits the type that holds it, each byte is one, and each path is a path.
use Rattle.std.specs.Prelude.{◌≡◌, ℕ, ◌^◌, ◌<◌, ◌≤◌, List, length}
use Rattle.std.specs.List.{AllByRecursion}
use Rattle.fs_types.specs.declared.answer.Answer.{Answer}
use Rattle.fs_types.specs.declared.answer.Answer.TheVariants as answers
use Rattle.fs_types.specs.declared.answer.Body.{Body}
use Rattle.fs_types.specs.declared.answer.Body.TheVariants as bodies
use Rattle.fs_types.specs.declared.file_state.FileState.{FileState}
use Rattle.fs_types.specs.declared.file_state.FileState.TheVariants as states
use Rattle.fs_types.specs.declared.slot_line.SlotLine.{SlotLine}
use Rattle.fs_types.specs.declared.limits.TheConstants.{HEX_LIMIT}
use Rattle.fs_types.specs.PathText.{IsPath}
use Rattle.fs_script.specs.Report.{Report}

-- each is the number of a byte
abbrev pub AreBytes : List ℕ → Type 0
AreBytes bytes = AllByRecursion (λ b. b < 256) bytes

-- sixteen bytes
pub record IsDigest (digest : List ℕ) : Type 0 where
  pub size : length digest ≡ 16
  pub bytes : AreBytes digest

-- as many bytes as are printed as they are
pub record AreShownBytes (shown : List ℕ) : Type 0 where
  pub size : length shown ≤ HEX_LIMIT
  pub bytes : AreBytes shown

-- a body is bytes that are shown, or a digest
abbrev pub IsPrintableBody : Body → Type 0
IsPrintableBody (bodies.Hex bytes) = AreShownBytes bytes
IsPrintableBody (bodies.Md5 digest) = IsDigest digest

-- what a read shows: its version and its number of bytes have 64 bits
pub record IsPrintableRead (v n : ℕ) (body : Body) : Type 0 where
  pub version : v < 2 ^ 64
  pub count : n < 2 ^ 64
  pub shown : IsPrintableBody body

-- versions and numbers of bytes and of free slots have 64 bits; slots that a line fills, and clients, have 32
abbrev pub IsPrintableAnswer : Answer → Type 0
IsPrintableAnswer (answers.Done v) = v < 2 ^ 64
IsPrintableAnswer (answers.Wrote slots) = slots < 2 ^ 32
IsPrintableAnswer (answers.Staged v n slots) = (v < 2 ^ 64) × (n < 2 ^ 64) × (slots < 2 ^ 32)
IsPrintableAnswer (answers.Sized v n frozen) = (v < 2 ^ 64) × (n < 2 ^ 64)
IsPrintableAnswer (answers.Shown v n body) = IsPrintableRead v n body
IsPrintableAnswer answers.BadF = Unit {0}
IsPrintableAnswer (answers.Exists v) = v < 2 ^ 64
IsPrintableAnswer (answers.NoEnt v) = v < 2 ^ 64
IsPrintableAnswer (answers.ReadOnly v) = v < 2 ^ 64
IsPrintableAnswer answers.TooBig = Unit {0}
IsPrintableAnswer (answers.TooBigAt v) = v < 2 ^ 64
IsPrintableAnswer (answers.NoSpace need free) = (need < 2 ^ 64) × (free < 2 ^ 64)
IsPrintableAnswer (answers.DevFault rank) = rank < 2 ^ 32

-- an answer with its line, which has 32 bits
pub record IsPrintableLine (a : ℕ × Answer) : Type 0 where
  pub line : a.0 < 2 ^ 32
  pub answer : IsPrintableAnswer a.1

-- a journal with its path; its lines have 32 bits
pub record IsPrintableJournal (j : List ℕ × List ℕ) : Type 0 where
  pub path : IsPath j.0
  pub lines : AllByRecursion (λ n. n < 2 ^ 32) j.1

-- a file that is there: its length has 64 bits
pub record IsPrintableContent (n : ℕ) (md5 : List ℕ) : Type 0 where
  pub count : n < 2 ^ 64
  pub digest : IsDigest md5

-- a file that is there has such a length and digest
abbrev pub IsPrintableState : FileState → Type 0
IsPrintableState states.Gone = Unit {0}
IsPrintableState (states.Whole n frozen md5) = IsPrintableContent n md5
IsPrintableState (states.Unread n frozen rank) = (n < 2 ^ 64) × (rank < 2 ^ 32)

-- a file with its path
pub record IsPrintableFile (f : List ℕ × FileState) : Type 0 where
  pub path : IsPath f.0
  pub state : IsPrintableState f.1

-- the slots of a client, which has 32 bits; their numbers have 64
pub record IsPrintableSlots (l : SlotLine) : Type 0 where
  pub client : l.rank < 2 ^ 32
  pub held : l.held < 2 ^ 64
  pub free : l.free < 2 ^ 64
  pub faults : l.faults < 2 ^ 64

-- a report with as many journals as files, each part printable
pub record IsPrintable (R : Report) : Type 0 where
  pub answers : AllByRecursion IsPrintableLine R.answers
  pub journals : AllByRecursion IsPrintableJournal R.journals
  pub files : AllByRecursion IsPrintableFile R.files
  pub slots : AllByRecursion IsPrintableSlots R.slots
  pub as_many : length R.journals ≡ length R.files
