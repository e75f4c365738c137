-- The line that comes next, and when its event keeps its path legal: what the events of all
-- operations share.
use Rattle.fs_types.proofs.Common.{common_steps, ◌≡◌, ℕ, suc, ◌+◌, ◌≤◌, Bool, true, false, not, cond, List, [], ◌∷◌, ◌++◌, length, Option}
use Rattle.fs_types.proofs.Common.{Some, None, IfSome, IsTrue, add-one, refl, arith, cond_both, true≢false, sym, ◌<◌, ◌-◌}
use Rattle.fs_script.specs.Vocabulary.{Answer, Job, op_at, needs_open, commits, version_of, done_at, Answering, is_enabled, IsInReach}
use Rattle.fs_script.specs.Vocabulary.{AreTold, AgreesWithOpen, LineView, line_view, IsInTable, commit_of, IsLegalJournal, AllFit}
use Rattle.fs_script.specs.Vocabulary.{ComesNext, IsOfNoEarlierPhase, Piece, accepted_before}
use Rattle.core_machine.specs.Vocabulary.{OpLine, Op, Event, PathNow, if_open, path_now, Doing, nothing, reading, to_show, empty_slots}
use Rattle.fs_script.proofs.CallerLemmas.{slice_get-push_last, front-le-length_fit, IsInReach-now, IsInReach-made}
use Rattle.fs_types.specs.declared.answer.Answer.TheVariants as answers

-- a line that comes next for its client, where its path is legal so far by the answers that count
pub record NextLine : Type 0 where
  pub told : List ℕ
  pub job : Job
  pub counted : Answering
  -- of its path
  pub journal : List ℕ
  -- of its client
  pub log : List (Option Piece)
  pub number : ℕ
  pub line : OpLine
  pub is : op_at job number ≡ Some line
  pub next : ComesNext job counted number
  pub later : IsOfNoEarlierPhase job number journal
  pub legal : IsLegalJournal job counted line.path journal
  pub fit : AllFit told job counted line.path journal
  -- a slot has bytes, and those slots that are not free hold pieces of earlier writes
  pub chunk : 0 < job.shape.chunk
  pub within : length (empty_slots log) ≤ job.shape.shmem + job.shape.spill
  pub held : job.shape.shmem + job.shape.spill - length (empty_slots log) ≤ accepted_before job counted line.rank number

-- what it sees of its path
abbrev pub now : NextLine → PathNow
now k = path_now k.job k.counted k.journal k.log k.number k.line

-- the journal of its path after it, by whether it is committed
abbrev pub journal_then : NextLine → Bool → List ℕ
journal_then k committed = cond committed (k.journal ++ k.number ∷ []) k.journal

-- what its answer is checked against then
abbrev pub view_then : NextLine → Bool → LineView
view_then k committed = line_view k.job k.counted (journal_then k committed) k.number k.line

-- it may print version v then
abbrev pub MayPrint : NextLine → Bool → ℕ → Type 0
MayPrint k committed v = IsInReach k.job k.counted (journal_then k committed) k.number k.line v

-- were its operation op, this answer would keep its path legal
pub record IsLegalAnswer (k : NextLine) (op : Op) (a : Answer) (committed : Bool) : Type 0 where
  pub opened : AgreesWithOpen op (now k).is_open a
  pub version : IfSome (version_of a) (MayPrint k committed)
  pub answer : IsInTable (AreTold k.job k.told) (view_then k committed) op a
  pub commit : commit_of op (now k).pending a ≡ cond committed (Some (suc (length k.journal))) None
  pub enabled : committed ≡ true → is_enabled op (now k).file ≡ true

-- were its operation op, what its client is in the midst of would go on to keep its path legal: what a read under way shows in
-- the end, shown now
abbrev pub MayShow : NextLine → Op → Doing → Type 0
MayShow k op nothing = Unit {0}
MayShow k op (reading d) = IsLegalAnswer k op (to_show k.job d) false

-- an event that doesn't end the line commits nothing; after one that does the client is in the midst of nothing
abbrev pub IsLegalOutcome : NextLine → Op → Option Answer → Bool → Doing → Type 0
IsLegalOutcome k op None committed d = (committed ≡ false) × MayShow k op d
IsLegalOutcome k op (Some a) committed d = IsLegalAnswer k op a committed × (d ≡ nothing)

-- were its operation op, this event would keep its path legal
abbrev pub IsLegalEvent : NextLine → Op → Event → Type 0
IsLegalEvent k op e = IsLegalOutcome k op e.answer e.commits e.doing

-- ---- the versions that it may print

module _ (k : NextLine) where
  front-in_journal : (now k).front ≤ length k.journal
  front-in_journal = front-le-length_fit k.line.rank k.number k.fit

  MayPrint-from : (v : ℕ) → (now k).front ≤ v → v ≤ length k.journal → MayPrint k false v
  MayPrint-from v = IsInReach-now k.line v k.legal k.next k.is k.later

  pub MayPrint-front : MayPrint k false (now k).front
  MayPrint-front = MayPrint-from (now k).front (omega arith) front-in_journal

  pub MayPrint-last : MayPrint k false (now k).version
  MayPrint-last = MayPrint-from (now k).version front-in_journal (omega arith)

  MayPrint-new : MayPrint k true (suc (length k.journal))
  MayPrint-new = grind (arith, common_steps, IsInReach-made, front-in_journal)

-- ---- answers, by whether they commit

-- no answer but Done does
pub not_done : (op : Op) (q : List ℕ) (a : Answer) → done_at a ≡ None → commit_of op q a ≡ None
not_done op q a none = cond_both (commits op q) _ _ (λ v. v ≡ None) (λ _. none) (λ _. refl)

module _ {k : NextLine} {op : Op} where
  -- it commits nothing
  pub keeps : (a : Answer) → AgreesWithOpen op (now k).is_open a → IfSome (version_of a) (MayPrint k false)
      → IsInTable (AreTold k.job k.told) (view_then k false) op a → commit_of op (now k).pending a ≡ None → IsLegalAnswer k op a false
  keeps a opened version answer none = record {
    opened = opened;
    version = version;
    answer = answer;
    commit = none;
    enabled = λ e. absurd (true≢false (sym e));
  }

  -- so the event that ends with it is legal
  pub kept : (a : Answer) → AgreesWithOpen op (now k).is_open a → IfSome (version_of a) (MayPrint k false)
      → IsInTable (AreTold k.job k.told) (view_then k false) op a → commit_of op (now k).pending a ≡ None
      → IsLegalAnswer k op a false × (nothing ≡ nothing)
  kept a opened version answer none = (keeps a opened version answer none, refl)

  -- it commits the line, as the version after the last
  pub committed : AgreesWithOpen op (now k).is_open (answers.Done ((now k).version + 1))
      → commits op (now k).pending ≡ true → is_enabled op (now k).file ≡ true
      → IsLegalAnswer k op (answers.Done ((now k).version + 1)) true × (nothing ≡ nothing)
  committed opened commits_it enabled = (
    rw add-one (record {
      opened = opened;
      version = MayPrint-new k;
      answer = rw commits_it (slice_get-push_last k.journal k.number);
      commit = rw commits_it;
      enabled = λ _. enabled;
    }),
    refl,
  )

-- an operation that needs an open path; where it is open, no other answer is BadF
pub if_open-legal : (k : NextLine) (op : Op) (e : Event) → IsTrue (needs_open op)
    → (false ≡ not (now k).is_open → IsLegalEvent k op e) → IsLegalEvent k op (if_open (now k) e)
if_open-legal k op e needs opened = grind (arith, common_steps)
