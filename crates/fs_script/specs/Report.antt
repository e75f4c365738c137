-- Reports, and which of them are legal for a job.
use Rattle.std.specs.Prelude.{◌≡◌, ℕ, ◌+◌, ◌≤◌, true, List, [], ◌∷◌, length, take, map, Some, None, if◌then◌else◌}
use Rattle.std.specs.List.{AllByRecursion, Contains, range_with_len}
use Rattle.std.specs.Str.{bytes_eq}
use Rattle.std.specs.Ordering.{nat_cmp, is_lt}
use Rattle.std.specs.Cmp.Lexicographic.{slice_cmp}
use Rattle.md5.specs.Md5.{md5}
use Rattle.fs_types.specs.declared.answer.Answer.{Answer}
use Rattle.fs_types.specs.declared.file_state.FileState.{FileState}
use Rattle.fs_types.specs.declared.file_state.FileState.TheVariants as states
use Rattle.fs_types.specs.declared.slot_line.SlotLine.{SlotLine}
use Rattle.fs_types.specs.AnswerList.{answer_at}
use Rattle.fs_types.specs.PlainFile.{File}
use Rattle.fs_script.specs.declared.limits.TheConstants.{DIGEST_LIMIT}
use Rattle.fs_script.specs.declared.line.OpLine.{OpLine}
use Rattle.fs_script.specs.Accepted.{accepted_pieces}
use Rattle.fs_script.specs.Job.{Job, op_at, op_lines, program, Names}
use Rattle.fs_script.specs.Pending.{Answering}
use Rattle.fs_script.specs.Effect.{state}
use Rattle.fs_script.specs.Fits.{Fits}
use Rattle.fs_script.specs.Journal.{IsLegalJournal}
use Rattle.fs_script.specs.Live.{live_or_pending}

-- what a job reports: the answers by line, by path the journals and the files, and the slots of each client's log
pub record Report : Type 0 where
  pub answers : List (ℕ × Answer)
  pub journals : List (List ℕ × List ℕ)
  pub files : List (List ℕ × FileState)
  pub slots : List SlotLine

-- the journal of a path, empty where there is none
abbrev pub journal_of : List (List ℕ × List ℕ) → List ℕ → List ℕ
journal_of [] p = []
journal_of (j ∷ js) p = if bytes_eq j.0 p then j.1 else journal_of js p

-- the paths rise in byte order
abbrev pub AreRising : List (List ℕ) → Type 0
AreRising [] = Unit {0}
AreRising (p ∷ ps) = AllByRecursion (λ q. is_lt (slice_cmp nat_cmp p q) ≡ true) ps × AreRising ps

-- these are the paths that the script names, in byte order
pub record ArePaths (s : Job) (ps : List (List ℕ)) : Type 0 where
  pub rising : AreRising ps
  pub named : (p : List ℕ) → Contains ps p → Names s p
  pub each : (p : List ℕ) → Names s p → Contains ps p

-- one answer for each operation, one journal and one file for each path that the script names, and the slots of each client
pub record HasShape (s : Job) (R : Report) : Type 0 where
  pub answers : map (λ a. a.0) R.answers ≡ op_lines s
  pub journals : ArePaths s (map (λ j. j.0) R.journals)
  pub files : map (λ f. f.0) R.files ≡ map (λ j. j.0) R.journals
  pub slots : map (λ l. l.rank) R.slots ≡ range_with_len 0 s.shape.clients

-- how a report shows a file
abbrev pub file_state_of : File ℕ → FileState
file_state_of None = states.Gone
file_state_of (Some f) = states.Whole (length f.cells) f.frozen (md5 (take DIGEST_LIMIT f.cells))

-- the answers of a report as a function from lines
abbrev pub answers_of : Report → Answering
answers_of R = answer_at R.answers

-- each file is the state of its path at the end of its journal
abbrev pub FilesAreStates : Job → Report → Type 0
FilesAreStates s R = AllByRecursion (λ f. f.1 ≡ file_state_of
    (state s (answers_of R) (journal_of R.journals f.0) (length (journal_of R.journals f.0)))) R.files

-- each slot of a client's log is held or free; as many are held at least as the client has live and pending pieces, and no
-- more than its accepted writes have pieces; no call on a device can fail yet
pub record AreCounted (s : Job) (R : Report) (l : SlotLine) : Type 0 where
  pub whole : l.held + l.free ≡ s.shape.shmem + s.shape.spill
  pub least : length (live_or_pending s (answers_of R) (journal_of R.journals) l.rank) ≤ l.held
  pub most : l.held ≤ accepted_pieces s (answers_of R) (program s l.rank)
  pub faults : l.faults ≡ 0

abbrev pub SlotsAreCounted : Job → Report → Type 0
SlotsAreCounted s R = AllByRecursion (AreCounted s R) R.slots

-- the answer to line n is there, and fits the journal of its path
pub record IsAnswered (told : List ℕ) (s : Job) (R : Report) (n : ℕ) (o : OpLine) : Type 0 where
  pub answer : Answer
  pub given : answers_of R n ≡ Some answer
  pub fits : Fits told s (answers_of R) (journal_of R.journals o.path) n o answer

-- a legal report of a job; told are the clients whose devices tell their bytes
pub record IsLegal (s : Job) (R : Report) (told : List ℕ) : Type 0 where
  pub shape : HasShape s R
  pub journals : (p : List ℕ) → IsLegalJournal s (answers_of R) p (journal_of R.journals p)
  pub lines : (n : ℕ) (o : OpLine) → op_at s n ≡ Some o → IsAnswered told s R n o
  pub files : FilesAreStates s R
  pub slots : SlotsAreCounted s R
