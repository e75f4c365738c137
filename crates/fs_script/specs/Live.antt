-- Which pieces are wanted: a live piece has a byte in the present file of some path, and a pending one in what its client
-- wrote there and hasn't committed. Every list here that is counted has each piece once.
use Rattle.std.specs.Prelude.{ℕ, ◌+◌, Bool, false, not, ◌||◌, List, [], ◌∷◌, length, map, filter, filter_map, flat_map, bytes_eq}
use Rattle.std.specs.Prelude.{Option, Some, None}
use Rattle.std.specs.List.{range_with_len, list_any}
use Rattle.std.specs.Option.{option_map}
use Rattle.fs_types.specs.Fragments.{piece_eq}
use Rattle.fs_types.specs.Marks.{Mark}
use Rattle.fs_types.specs.Pieces.{Piece}
use Rattle.fs_script.specs.declared.line.Line.{Line}
use Rattle.fs_script.specs.Accepted.{need}
use Rattle.fs_script.specs.Job.{Job, operation, program}
use Rattle.fs_script.specs.FileMarks.{marks_put, present_marks}
use Rattle.fs_script.specs.Pending.{Answering, pending}
use Rattle.fs_script.specs.Journal.{JournalsByPath}

-- of the elements that are equal the first alone
abbrev pub each_once : {X : Type 0} → (X → X → Bool) → List X → List X
each_once eq [] = []
each_once eq (x ∷ xs) = x ∷ filter (λ y. not (eq x y)) (each_once eq xs)

-- ---- the pieces that marks are of

-- the piece of a mark
abbrev pub piece_of : Mark → Piece
piece_of m = record { line = m.line; part = m.part }

-- whether a place has a mark of this piece
abbrev pub is_of_piece : Piece → Option Mark → Bool
is_of_piece x None = false
is_of_piece x (Some m) = piece_eq (piece_of m) x

-- whether one of these marks is of a piece
abbrev pub bears : List (Option Mark) → Piece → Bool
bears marks x = list_any (is_of_piece x) marks

-- the pieces that these marks are of, each once, in the order in which they come
abbrev pub pieces_borne : List (Option Mark) → List Piece
pieces_borne marks = each_once piece_eq (filter_map (option_map piece_of) marks)

-- ---- live and pending pieces

-- the path of a line, if it is an operation
abbrev pub path_in : Line → Option (List ℕ)
path_in l = option_map (λ o. o.path) (operation (Some l))

-- the paths that the script names, each once
abbrev pub named_paths : Job → List (List ℕ)
named_paths s = each_once bytes_eq (filter_map path_in s.lines)

-- a piece is live where the present file of some path that the script names bears it
abbrev pub is_live : Job → Answering → JournalsByPath → Piece → Bool
is_live s A journals x = list_any (λ p. bears (present_marks s A (journals p)) x) (named_paths s)

-- the number of a line after all of the script
abbrev pub past_lines : Job → ℕ
past_lines s = length s.lines + 2

-- the marks of what client r has pending to path p after all that it was answered, put on an empty file
abbrev pub pending_marks : Job → Answering → ℕ → List ℕ → List (Option Mark)
pending_marks s A r p = marks_put s (pending s A r p (past_lines s))

-- a piece is pending for client r where this bears it for some path
abbrev pub is_pending : Job → Answering → ℕ → Piece → Bool
is_pending s A r x = list_any (λ p. bears (pending_marks s A r p) x) (named_paths s)

-- ---- how many

-- the pieces that line n writes, in order
abbrev pub pieces_of_line : Job → ℕ → List Piece
pieces_of_line s n = map (λ p. record { line = n; part = p }) (range_with_len 0 (need s n))

-- the pieces that client r writes, each once, accepted or not
abbrev pub pieces_by : Job → ℕ → List Piece
pieces_by s r = flat_map (pieces_of_line s) (program s r)

-- those of them that are live or pending: its length is their number
abbrev pub live_or_pending : Job → Answering → JournalsByPath → ℕ → List Piece
live_or_pending s A journals r = filter (λ x. is_live s A journals x || is_pending s A r x) (pieces_by s r)
