-- A reader of the texts of printable reports: what stands on each line, word by word.
use Rattle.fs_types.proofs.Common.{ℕ, ◌==◌, List, [], ◌∷◌, drop, map, slice_index, if◌then◌else◌, result_unwrap_or, digits_value}
use Rattle.hex.specs.Hex.{decode_of}
use Rattle.fs_script.specs.Vocabulary.{Answer, Body, FileState, SlotLine, Report}
use Rattle.fs_script.proofs.TextParts.{cut_at}
use Rattle.fs_types.specs.declared.answer.Answer.TheVariants as answers
use Rattle.fs_types.specs.declared.answer.Body.TheVariants as bodies
use Rattle.fs_types.specs.declared.file_state.FileState.TheVariants as states

-- the number that a word spells
abbrev pub number : List ℕ → ℕ
number word = digits_value 10 word

-- the bytes whose hex text a word is
abbrev pub bytes_of_hex : List ℕ → List ℕ
bytes_of_hex word = result_unwrap_or (decode_of word) []

-- `hex=` or `md5=`, and hex text
abbrev pub read_body : List ℕ → Body
read_body word = if slice_index word 0 == 104 then bodies.Hex (bytes_of_hex (drop 4 word)) else bodies.Md5 (bytes_of_hex (drop 4 word))

-- the words of an answer after its line, where there are two of them
abbrev pub read_two : ℕ → List ℕ → Answer
read_two letter word =
    if letter == 101 then answers.Exists (number (drop 2 word))
    else if letter == 110 then answers.NoEnt (number (drop 2 word))
    else if letter == 114 then answers.ReadOnly (number (drop 2 word))
    else if letter == 116 then answers.TooBigAt (number (drop 2 word))
    else if letter == 100 then answers.DevFault (number (drop 2 word))
    else if slice_index word 0 == 115 then answers.Wrote (number (drop 6 word))
    else answers.Done (number (drop 2 word))

-- and where there are four
abbrev pub read_four : List ℕ → List ℕ → List ℕ → Answer
read_four v n last =
    if slice_index last 0 == 115 then answers.Staged (number (drop 2 v)) (number (drop 2 n)) (number (drop 6 last))
    else if slice_index last 0 == 102 then answers.Sized (number (drop 2 v)) (number (drop 2 n)) (slice_index last 7 == 49)
    else answers.Shown (number (drop 2 v)) (number (drop 2 n)) (read_body last)

-- the words of an answer after its line
abbrev pub read_answer : List (List ℕ) → Answer
read_answer [] = answers.BadF
read_answer (kind ∷ []) = if slice_index kind 0 == 98 then answers.BadF else answers.TooBig
read_answer (kind ∷ v ∷ []) = read_two (slice_index kind 0) v
read_answer (kind ∷ need ∷ free ∷ []) = answers.NoSpace (number (drop 5 need)) (number (drop 5 free))
read_answer (kind ∷ v ∷ n ∷ last ∷ rest) = read_four v n last

-- the words of a file after its path
abbrev pub read_state : List (List ℕ) → FileState
read_state [] = states.Gone
read_state (n ∷ []) = states.Gone
read_state (n ∷ frozen ∷ []) = states.Gone
read_state (n ∷ frozen ∷ md5 ∷ []) = states.Whole (number (drop 2 n)) (slice_index frozen 7 == 49) (bytes_of_hex (drop 4 md5))
read_state (n ∷ frozen ∷ fault ∷ rank ∷ rest) = states.Unread (number (drop 2 n)) (slice_index frozen 7 == 49) (number (drop 2 rank))

-- the words of a client's slots after the client
abbrev pub read_slots : ℕ → List (List ℕ) → SlotLine
read_slots rank [] = record { rank = rank; held = 0; free = 0; faults = 0 }
read_slots rank (held ∷ []) = record { rank = rank; held = 0; free = 0; faults = 0 }
read_slots rank (held ∷ free ∷ []) = record { rank = rank; held = 0; free = 0; faults = 0 }
read_slots rank (held ∷ free ∷ faults ∷ rest) =
    record { rank = rank; held = number (drop 5 held); free = number (drop 5 free); faults = number (drop 7 faults) }

-- nothing was answered, no path was named, and no client was there
abbrev pub empty_report : Report
empty_report = record { answers = []; journals = []; files = []; slots = [] }

-- a report with one more answer before its answers
abbrev pub with_answer : ℕ × Answer → Report → Report
with_answer a R = record R { answers = a ∷ R.answers }

-- a report with one more journal before its journals
abbrev pub with_journal : List ℕ × List ℕ → Report → Report
with_journal j R = record R { journals = j ∷ R.journals }

-- a report with one more file before its files
abbrev pub with_file : List ℕ × FileState → Report → Report
with_file f R = record R { files = f ∷ R.files }

-- a report with the slots of one more client before those of its clients
abbrev pub with_slots : SlotLine → Report → Report
with_slots l R = record R { slots = l ∷ R.slots }

-- a line of one word ends the report; the first letter of any other line says what it is
abbrev pub with_line : List (List ℕ) → Report → Report
with_line [] R = empty_report
with_line (kind ∷ []) R = empty_report
with_line (kind ∷ name ∷ rest) R =
    if slice_index kind 0 == 76 then with_answer (number name, read_answer rest) R
    else if slice_index kind 0 == 74 then with_journal (name, map number rest) R
    else if slice_index kind 0 == 83 then with_slots (read_slots (number name) rest) R
    else with_file (name, read_state rest) R

-- the report that some lines begin with
abbrev pub read_lines : List (List ℕ) → Report
read_lines [] = empty_report
read_lines (line ∷ lines) = with_line (cut_at 32 line) (read_lines lines)

-- the report that a text begins with
abbrev pub read : List ℕ → Report
read bytes = read_lines (cut_at 10 bytes)
