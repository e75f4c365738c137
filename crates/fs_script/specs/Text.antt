-- The text of a report.
use Rattle.std.specs.Prelude.{ℕ, Bool, true, false, List, [], ◌∷◌, ◌++◌, codes}
use Rattle.std.specs.List.{flat_map}
use Rattle.std.specs.Fmt.{decimal}
use Rattle.hex.specs.Hex.{encode_lower}
use Rattle.fs_types.specs.declared.answer.Answer.{Answer}
use Rattle.fs_types.specs.declared.answer.Answer.TheVariants as answers
use Rattle.fs_types.specs.declared.answer.Body.{Body}
use Rattle.fs_types.specs.declared.answer.Body.TheVariants as bodies
use Rattle.fs_types.specs.declared.file_state.FileState.{FileState}
use Rattle.fs_types.specs.declared.file_state.FileState.TheVariants as states
use Rattle.fs_types.specs.declared.slot_line.SlotLine.{SlotLine}
use Rattle.fs_script.specs.Grammar.{spaced}
use Rattle.fs_script.specs.Report.{Report}

-- the end of a line
abbrev pub line_feed : List ℕ
line_feed = 10 ∷ []

abbrev pub body_text : Body → List ℕ
body_text (bodies.Hex bytes) = codes "hex=" ++ encode_lower bytes
body_text (bodies.Md5 digest) = codes "md5=" ++ encode_lower digest

abbrev pub flag_text : Bool → List ℕ
flag_text false = codes "0"
flag_text true = codes "1"

abbrev pub answer_words : Answer → List (List ℕ)
answer_words (answers.Done v) = codes "ok" ∷ (codes "v=" ++ decimal v) ∷ []
answer_words (answers.Wrote slots) = codes "ok" ∷ (codes "slots=" ++ decimal slots) ∷ []
answer_words (answers.Staged v n slots) = codes "ok" ∷ (codes "v=" ++ decimal v) ∷ (codes "n=" ++ decimal n) ∷ (codes "slots=" ++ decimal slots) ∷ []
answer_words (answers.Sized v n frozen) = codes "ok" ∷ (codes "v=" ++ decimal v) ∷ (codes "n=" ++ decimal n) ∷ (codes "frozen=" ++ flag_text frozen) ∷ []
answer_words (answers.Shown v n body) = codes "ok" ∷ (codes "v=" ++ decimal v) ∷ (codes "n=" ++ decimal n) ∷ body_text body ∷ []
answer_words answers.BadF = codes "badf" ∷ []
answer_words (answers.Exists v) = codes "exists" ∷ (codes "v=" ++ decimal v) ∷ []
answer_words (answers.NoEnt v) = codes "noent" ∷ (codes "v=" ++ decimal v) ∷ []
answer_words (answers.ReadOnly v) = codes "readonly" ∷ (codes "v=" ++ decimal v) ∷ []
answer_words answers.TooBig = codes "toobig" ∷ []
answer_words (answers.TooBigAt v) = codes "toobig" ∷ (codes "v=" ++ decimal v) ∷ []
answer_words (answers.NoSpace need free) = codes "nospace" ∷ (codes "need=" ++ decimal need) ∷ (codes "free=" ++ decimal free) ∷ []
answer_words (answers.DevFault rank) = codes "devfault" ∷ (codes "r=" ++ decimal rank) ∷ []

-- the line of an answer
abbrev pub answer_line : ℕ × Answer → List ℕ
answer_line a = spaced (codes "L" ∷ decimal a.0 ∷ answer_words a.1) ++ line_feed

abbrev pub entry_text : ℕ → List ℕ
entry_text n = codes " " ++ decimal n

-- the line of a journal: the path, and each of its lines after a space
abbrev pub journal_line : List ℕ × List ℕ → List ℕ
journal_line j = codes "J " ++ j.0 ++ flat_map entry_text j.1 ++ line_feed

abbrev pub file_words : FileState → List (List ℕ)
file_words states.Gone = codes "none" ∷ []
file_words (states.Whole n frozen md5) = (codes "n=" ++ decimal n) ∷ (codes "frozen=" ++ flag_text frozen) ∷ (codes "md5=" ++ encode_lower md5) ∷ []
file_words (states.Unread n frozen rank) = (codes "n=" ++ decimal n) ∷ (codes "frozen=" ++ flag_text frozen) ∷ codes "devfault" ∷ (codes "r=" ++ decimal rank) ∷ []

-- the line of a file
abbrev pub file_line : List ℕ × FileState → List ℕ
file_line f = spaced (codes "F" ∷ f.0 ∷ file_words f.1) ++ line_feed

-- each journal, followed by the file at the same place
abbrev pub path_lines : List (List ℕ × List ℕ) → List (List ℕ × FileState) → List ℕ
path_lines [] fs = []
path_lines (j ∷ js) [] = []
path_lines (j ∷ js) (f ∷ fs) = journal_line j ++ file_line f ++ path_lines js fs

abbrev pub slot_words : SlotLine → List (List ℕ)
slot_words l = (codes "held=" ++ decimal l.held) ∷ (codes "free=" ++ decimal l.free) ∷ (codes "faults=" ++ decimal l.faults) ∷ []

-- the line of a client's slots
abbrev pub slot_line : SlotLine → List ℕ
slot_line l = spaced (codes "S" ∷ decimal l.rank ∷ slot_words l) ++ line_feed

-- the text of a report
abbrev pub text : Report → List ℕ
text R = flat_map answer_line R.answers ++ path_lines R.journals R.files ++ flat_map slot_line R.slots ++ codes "end" ++ line_feed
