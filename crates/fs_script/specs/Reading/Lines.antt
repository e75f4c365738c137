-- Reading a line. Its words are tried from the left, and the first bad one says what is wrong with the line: the client, the operation,
-- which a line of one word lacks, then how many words there are, and then each of the others. Only a last word has a limit, which is
-- tried once that word is well formed, and so after all words.
use Rattle.std.specs.Prelude.{ℕ, Bool, true, false, List, [], ◌∷◌, codes, Option, Some, None, Result, Ok, Err, if◌then◌else◌}
use Rattle.std.specs.Str.{bytes_eq}
use Rattle.fs_script.specs.declared.shape.Shape.{Shape}
use Rattle.fs_script.specs.declared.line.Line.{Line}
use Rattle.fs_script.specs.declared.line.Line.TheVariants as lines
use Rattle.fs_script.specs.declared.line.Op.{Op}
use Rattle.fs_script.specs.declared.line.Op.TheVariants as ops
use Rattle.fs_script.specs.declared.fault.Reason.TheVariants as reasons
use Rattle.fs_script.specs.declared.read.line_fault.LineFault.{LineFault}
use Rattle.fs_script.specs.declared.read.line_fault.LineFault.TheVariants.{Bad}
use Rattle.fs_script.specs.declared.read.op_kind.OpKind.{OpKind}
use Rattle.fs_script.specs.declared.read.op_kind.OpKind.TheVariants as kinds
use Rattle.fs_script.specs.Grammar.{is_note}
use Rattle.fs_script.specs.Reading.Steps.{◌>>=◌}
use Rattle.fs_script.specs.Reading.Tokens.{words_of, one_token, two_tokens, three_tokens}
use Rattle.fs_script.specs.Reading.Words.{or_bad, rank_of, path_of, place_of, span_of, length_of, data_of}

-- the operation of this name
abbrev pub kind_of : List ℕ → Option OpKind
kind_of word =
    if bytes_eq word (codes "create") then Some kinds.Create
    else if bytes_eq word (codes "open") then Some kinds.Open
    else if bytes_eq word (codes "write") then Some kinds.Write
    else if bytes_eq word (codes "sync") then Some kinds.Sync
    else if bytes_eq word (codes "read") then Some kinds.Read
    else if bytes_eq word (codes "readown") then Some kinds.ReadOwn
    else if bytes_eq word (codes "size") then Some kinds.Size
    else if bytes_eq word (codes "trunc") then Some kinds.Trunc
    else if bytes_eq word (codes "laminate") then Some kinds.Laminate
    else if bytes_eq word (codes "unlink") then Some kinds.Unlink
    else None

-- the path of an operation that has no other word
abbrev pub path_alone : List (List ℕ) → Result (List ℕ) LineFault
path_alone words = do
  word ← or_bad reasons.Words (one_token words)
  path_of word

-- a read and its path
abbrev pub read_of : Bool → List (List ℕ) → Result (List ℕ × Op) LineFault
read_of own words = do
  three ← or_bad reasons.Words (three_tokens words)
  path ← path_of three.0
  off ← place_of three.1
  len ← span_of three.2
  Ok (path, ops.Read off len own)

-- an operation of this kind and its path, from the words after its name
abbrev pub op_of_kind : OpKind → List (List ℕ) → Result (List ℕ × Op) LineFault
op_of_kind kinds.Create words = do
  path ← path_alone words
  Ok (path, ops.Create)
op_of_kind kinds.Open words = do
  path ← path_alone words
  Ok (path, ops.Open)
op_of_kind kinds.Write words = do
  three ← or_bad reasons.Words (three_tokens words)
  path ← path_of three.0
  off ← place_of three.1
  text ← data_of three.2
  Ok (path, ops.Write off text)
op_of_kind kinds.Sync words = do
  path ← path_alone words
  Ok (path, ops.Sync)
op_of_kind kinds.Read words = read_of false words
op_of_kind kinds.ReadOwn words = read_of true words
op_of_kind kinds.Size words = do
  path ← path_alone words
  Ok (path, ops.Size)
op_of_kind kinds.Trunc words = do
  two ← or_bad reasons.Words (two_tokens words)
  path ← path_of two.0
  n ← length_of two.1
  Ok (path, ops.Trunc n)
op_of_kind kinds.Laminate words = do
  path ← path_alone words
  Ok (path, ops.Laminate)
op_of_kind kinds.Unlink words = do
  path ← path_alone words
  Ok (path, ops.Unlink)

-- an operation and its path, from the words after the client
abbrev pub op_of_words : List (List ℕ) → Result (List ℕ × Op) LineFault
op_of_words [] = Err (Bad reasons.Op)
op_of_words (name ∷ words) = do
  kind ← or_bad reasons.Op (kind_of name)
  op_of_kind kind words

-- an operation of a client, from all words of its line
abbrev pub op_line_of : Shape → List (List ℕ) → Result Line LineFault
op_line_of h [] = Err (Bad reasons.Rank)
op_line_of h (first ∷ words) = do
  rank ← rank_of h first
  done ← op_of_words words
  Ok (lines.Op (record { rank = rank; path = done.0; op = done.1 }))

-- the line that a text says
abbrev pub line_of : Shape → List ℕ → Result Line LineFault
line_of h text =
    if is_note text then Ok lines.Note
    else if bytes_eq text (codes "barrier") then Ok lines.Barrier
    else op_line_of h (words_of text)
