-- The laws of jobs and their reports. A job is legal so far at each step, and its report is legal at the end, in
-- whatever way it is run; and the text of a legal report says what the report is.
use Rattle.std.specs.Prelude.{◌≡◌, ℕ, suc, true, List, [], ◌∷◌, ◌++◌, length, Some, None, codes}
use Rattle.fs_types.specs.declared.answer.Answer.{Answer}
use Rattle.fs_script.specs.declared.line.OpLine.{OpLine}
use Rattle.fs_script.specs.Job.{Job}
use Rattle.fs_script.specs.Pending.{Answering, pending}
use Rattle.fs_script.specs.Effect.{is_enabled, state}
use Rattle.fs_script.specs.Fits.{AreTold, Fits}
use Rattle.fs_script.specs.Grammar.{IsJob}
use Rattle.fs_script.specs.Printable.{IsPrintable}
use Rattle.fs_script.specs.Journal.{JournalsByPath, commit_by}
use Rattle.fs_script.specs.SoFar.{IsLegalSoFar, IsNextAnswer, Pushes}
use Rattle.fs_script.specs.Report.{Report, HasShape, FilesAreStates, SlotsAreCounted, IsLegal, answers_of, journal_of}
use Rattle.fs_script.specs.Text.{text, line_feed}

-- ---- jobs

-- before any answer, a job with empty journals is legal so far
abbrev pub NothingIsLegal : Type 0
NothingIsLegal = (told : List ℕ) (s : Job) (A : Answering) (journals : JournalsByPath)
    → ((n : ℕ) → A n ≡ None) → ((p : List ℕ) → journals p ≡ []) → IsLegalSoFar told s A journals

-- it stays so as an answer comes that commits nothing and fits
abbrev pub AnswersKeepJobsLegal : Type 0
AnswersKeepJobsLegal =
    (told : List ℕ) (s : Job) (A B : Answering) (journals : JournalsByPath) (n : ℕ) (o : OpLine) (a : Answer)
    → IsNextAnswer s A n o a B → IsLegalSoFar told s A journals → commit_by o.op (pending s B o.rank o.path n) (B n) ≡ None
    → Fits told s A (journals o.path) n o a → IsLegalSoFar told s B journals

-- and as one comes that commits its line, which is enabled, and fits in the journal with the line at its end
abbrev pub CommitsKeepJobsLegal : Type 0
CommitsKeepJobsLegal =
    (told : List ℕ) (s : Job) (A B : Answering) (journals after : JournalsByPath) (n : ℕ) (o : OpLine) (a : Answer)
    → IsNextAnswer s A n o a B → IsLegalSoFar told s A journals → Pushes journals o.path n after
    → commit_by o.op (pending s B o.rank o.path n) (B n) ≡ Some (suc (length (journals o.path)))
    → is_enabled o.op (state s A (journals o.path) (length (journals o.path))) ≡ true
    → Fits told s A (journals o.path ++ n ∷ []) n o a → IsLegalSoFar told s B after

-- with an answer to each operation, the files at the ends of the journals, and the slots counted, its report is legal
abbrev pub FinishedJobsAreLegal : Type 0
FinishedJobsAreLegal = (told : List ℕ) (s : Job) (R : Report) → HasShape s R → FilesAreStates s R → SlotsAreCounted s R
    → IsLegalSoFar told s (answers_of R) (journal_of R.journals) → IsLegal s R told

-- ---- the texts of printable reports

-- two printable reports with one text are one report
abbrev pub OnePrintableReport : Type 0
OnePrintableReport = (R S : Report) → IsPrintable R → IsPrintable S → text R ≡ text S → R ≡ S

-- no text of a printable report goes on after that of another
abbrev pub PrintableTextIsWhole : Type 0
PrintableTextIsWhole = (R S : Report) (more : List ℕ) → IsPrintable R → IsPrintable S → text R ++ more ≡ text S → more ≡ []

-- ---- the texts of legal reports, where the bytes that they show are compared

-- each number of a legal report fits the type that holds it, each byte is one, and each path is a path
abbrev pub LegalReportsArePrintable : Type 0
LegalReportsArePrintable = (told : List ℕ) (s : Job) (R : Report) → IsJob s → AreTold s told → IsLegal s R told → IsPrintable R

-- two legal reports of one job with one text are one report
abbrev pub OneLegalReport : Type 0
OneLegalReport = (told told' : List ℕ) (s : Job) (R S : Report)
    → IsJob s → AreTold s told → AreTold s told' → IsLegal s R told → IsLegal s S told' → text R ≡ text S → R ≡ S

-- each text ends with a line `end`
abbrev pub TextEnds : Type 0
TextEnds = (R : Report) → (lines : List ℕ) × (text R ≡ lines ++ codes "end" ++ line_feed)

-- no text of a legal report goes on after that of another legal report of the job
abbrev pub TextIsWhole : Type 0
TextIsWhole = (told told' : List ℕ) (s : Job) (R S : Report) (more : List ℕ)
    → IsJob s → AreTold s told → AreTold s told' → IsLegal s R told → IsLegal s S told' → text R ++ more ≡ text S → more ≡ []
