-- Reading the words of an operation, one by one. Each gives a value, or says what is wrong with its line.
use Rattle.std.specs.Prelude.{ℕ, nat_lt, nat_le, nat_eq, List, length, drop, codes, Option, Result, Ok, Err, ok_or, if◌then◌else◌}
use Rattle.std.specs.List.{list_all, starts_with}
use Rattle.fs_types.specs.declared.limits.TheConstants.{LONGEST_FILE}
use Rattle.fs_types.specs.PathText.{is_path}
use Rattle.fs_script.specs.TextBytes.{is_text_byte}
use Rattle.fs_script.specs.declared.limits.TheConstants.{TRANSFER_LIMIT}
use Rattle.fs_script.specs.declared.shape.Shape.{Shape}
use Rattle.fs_script.specs.declared.line.Data.{Data}
use Rattle.fs_script.specs.declared.line.Data.TheVariants.{Text, Pattern}
use Rattle.fs_script.specs.declared.fault.Reason.{Reason}
use Rattle.fs_script.specs.declared.fault.Reason.TheVariants as reasons
use Rattle.fs_script.specs.declared.read.line_fault.LineFault.{LineFault}
use Rattle.fs_script.specs.declared.read.line_fault.LineFault.TheVariants.{Bad, OverLimit}
use Rattle.fs_script.specs.Reading.Steps.{◌>>=◌}
use Rattle.fs_script.specs.Reading.Tokens.{tokens, two_tokens}
use Rattle.fs_script.specs.Reading.Numbers.{number_of}

-- the value, or a line that is bad for this reason
abbrev pub or_bad : {A : Type 0} → Reason → Option A → Result A LineFault
or_bad reason o = ok_or o (Bad reason)

-- a client of the job
abbrev pub rank_of : Shape → List ℕ → Result ℕ LineFault
rank_of h word = do
  r ← or_bad reasons.Rank (number_of word)
  if nat_lt r h.clients then Ok r else Err (Bad reasons.Rank)

abbrev pub path_of : List ℕ → Result (List ℕ) LineFault
path_of word = if is_path word then Ok word else Err (Bad reasons.Path)

-- a place in a file
abbrev pub place_of : List ℕ → Result ℕ LineFault
place_of word = or_bad reasons.Number (number_of word)

-- a number that is no more than the most
abbrev pub number_up_to : ℕ → List ℕ → Result ℕ LineFault
number_up_to most word = do
  n ← or_bad reasons.Number (number_of word)
  if nat_le n most then Ok n else Err OverLimit

-- how many bytes a read asks for
abbrev pub span_of : List ℕ → Result ℕ LineFault
span_of word = number_up_to TRANSFER_LIMIT word

-- how long a file is to be
abbrev pub length_of : List ℕ → Result ℕ LineFault
length_of word = number_up_to LONGEST_FILE word

-- x, where one line may move so many bytes
abbrev pub within_limit : {A : Type 0} → ℕ → A → Result A LineFault
within_limit len x = if nat_le len TRANSFER_LIMIT then Ok x else Err OverLimit

-- a payload that is written out
abbrev pub text_of : List ℕ → Result Data LineFault
text_of bytes = if list_all is_text_byte bytes then within_limit (length bytes) (Text bytes) else Err (Bad reasons.Data)

-- a payload that is computed, from its seed and its length
abbrev pub pattern_of : List (List ℕ) → Result Data LineFault
pattern_of words = do
  two ← or_bad reasons.Data (two_tokens words)
  seed ← or_bad reasons.Data (number_of two.0)
  len ← or_bad reasons.Data (number_of two.1)
  within_limit len (Pattern seed len)

-- the payload of a write; a colon stands between the seed and the length of one that is computed
abbrev pub data_of : List ℕ → Result Data LineFault
data_of word =
    if starts_with nat_eq word (codes "t:") then text_of (drop 2 word)
    else if starts_with nat_eq word (codes "p:") then pattern_of (tokens 58 (drop 2 word))
    else Err (Bad reasons.Data)
