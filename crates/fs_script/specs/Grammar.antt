-- The grammar of scripts: which bytes spell a job, and the limits of a job.
use Rattle.std.specs.Prelude.{◌≡◌, ℕ, ◌+◌, ◌*◌, ◌%◌, ◌^◌, ◌<◌, ◌≤◌, ◌==◌, Bool, true, IsTrue, List, [], ◌∷◌, ◌++◌, length, codes, if◌then◌else◌}
use Rattle.std.specs.List.{join_with_byte, AllByRecursion}
use Rattle.std.specs.Fmt.{decimal}
use Rattle.fs_types.specs.declared.limits.TheConstants.{LONGEST_FILE}
use Rattle.fs_types.specs.PathText.{IsPath}
use Rattle.fs_script.specs.TextBytes.{AreTextBytes}
use Rattle.fs_script.specs.declared.limits.TheConstants.{SCRIPT_LIMIT, LINE_LIMIT, TRANSFER_LIMIT, SERVER_LIMIT, CLIENT_LIMIT, LEAST_CHUNK, MOST_CHUNK, CHUNK_UNIT, MEMORY_SLOTS, MEMORY_BYTES, SPILL_SLOTS, SPILL_BYTES}
use Rattle.fs_script.specs.declared.shape.Shape.{Shape}
use Rattle.fs_script.specs.declared.line.Line.{Line}
use Rattle.fs_script.specs.declared.line.Line.TheVariants as lines
use Rattle.fs_script.specs.declared.line.OpLine.{OpLine}
use Rattle.fs_script.specs.declared.line.Op.{Op}
use Rattle.fs_script.specs.declared.line.Op.TheVariants as ops
use Rattle.fs_script.specs.declared.line.Data.{Data}
use Rattle.fs_script.specs.declared.line.Data.TheVariants.{Text, Pattern}
use Rattle.fs_script.specs.Job.{Job}
use Rattle.fs_script.specs.Reading.Tokens.{lines_of}

-- ---- the header

-- words with a space between each two
abbrev pub spaced : List (List ℕ) → List ℕ
spaced words = join_with_byte 32 words

-- the words of a header with its numbers
abbrev pub shape_words : Shape → List (List ℕ)
shape_words h =
    (codes "servers=" ++ decimal h.servers)
    ∷ (codes "clients=" ++ decimal h.clients)
    ∷ (codes "chunk=" ++ decimal h.chunk)
    ∷ (codes "shmem=" ++ decimal h.shmem)
    ∷ (codes "spill=" ++ decimal h.spill)
    ∷ []

-- the header of a shape
abbrev pub header_text : Shape → List ℕ
header_text h = codes "unifyfs 1 " ++ spaced (shape_words h)

-- so many slots for each client are, over all clients, no more slots and no more bytes than these
pub record AreFew (h : Shape) (each most_slots most_bytes : ℕ) : Type 0 where
  pub slots : h.clients * each ≤ most_slots
  pub bytes : h.clients * each * h.chunk ≤ most_bytes

-- the numbers of a shape that a job may have
pub record IsShape (h : Shape) : Type 0 where
  pub some_server : 1 ≤ h.servers
  pub servers : h.servers ≤ SERVER_LIMIT
  pub some_client : 1 ≤ h.clients
  pub clients : h.clients ≤ CLIENT_LIMIT
  pub chunk_least : LEAST_CHUNK ≤ h.chunk
  pub chunk_most : h.chunk ≤ MOST_CHUNK
  pub chunk_whole : h.chunk % CHUNK_UNIT ≡ 0
  pub some_slot : 1 ≤ h.shmem + h.spill
  pub memory : AreFew h h.shmem MEMORY_SLOTS MEMORY_BYTES
  pub spill : AreFew h h.spill SPILL_SLOTS SPILL_BYTES

-- ---- the lines after it

abbrev pub data_text : Data → List ℕ
data_text (Text bytes) = codes "t:" ++ bytes
data_text (Pattern seed len) = codes "p:" ++ decimal seed ++ codes ":" ++ decimal len

-- the name of a read of a file alone, and of one that shows the client's own pending writes over it
abbrev pub read_word : Bool → List ℕ
read_word own = if own then codes "readown" else codes "read"

-- the words of an operation on a path, without its client
abbrev pub op_words : Op → List ℕ → List (List ℕ)
op_words ops.Create p = codes "create" ∷ p ∷ []
op_words ops.Open p = codes "open" ∷ p ∷ []
op_words (ops.Write off text) p = codes "write" ∷ p ∷ decimal off ∷ data_text text ∷ []
op_words ops.Sync p = codes "sync" ∷ p ∷ []
op_words (ops.Read off len own) p = read_word own ∷ p ∷ decimal off ∷ decimal len ∷ []
op_words ops.Size p = codes "size" ∷ p ∷ []
op_words (ops.Trunc n) p = codes "trunc" ∷ p ∷ decimal n ∷ []
op_words ops.Laminate p = codes "laminate" ∷ p ∷ []
op_words ops.Unlink p = codes "unlink" ∷ p ∷ []

-- the text of an operation: its client and its other words
abbrev pub op_text : OpLine → List ℕ
op_text o = spaced (decimal o.rank ∷ op_words o.op o.path)

-- the bytes that a write may bring
abbrev pub IsData : Data → Type 0
IsData (Text bytes) = AreTextBytes bytes × (length bytes ≤ TRANSFER_LIMIT)
IsData (Pattern seed len) = (seed < 2 ^ 64) × (len ≤ TRANSFER_LIMIT)

-- the numbers and bytes that an operation may have
abbrev pub IsOp : Op → Type 0
IsOp ops.Create = Unit {0}
IsOp ops.Open = Unit {0}
IsOp (ops.Write off text) = (off < 2 ^ 64) × IsData text
IsOp ops.Sync = Unit {0}
IsOp (ops.Read off len own) = (off < 2 ^ 64) × (len ≤ TRANSFER_LIMIT)
IsOp ops.Size = Unit {0}
IsOp (ops.Trunc n) = n ≤ LONGEST_FILE
IsOp ops.Laminate = Unit {0}
IsOp ops.Unlink = Unit {0}

-- an operation that a client of the job may do
pub record IsOpLine (h : Shape) (o : OpLine) : Type 0 where
  pub rank : o.rank < h.clients
  pub path : IsPath o.path
  pub op : IsOp o.op

-- a line that a job may have
abbrev pub IsLine : Shape → Line → Type 0
IsLine h lines.Note = Unit {0}
IsLine h lines.Barrier = Unit {0}
IsLine h (lines.Op o) = IsOpLine h o

-- a job within the limits
pub record IsJob (s : Job) : Type 0 where
  pub shape : IsShape s.shape
  pub lines : AllByRecursion (IsLine s.shape) s.lines
  pub few : length s.lines < LINE_LIMIT

-- ---- scripts

-- an empty line, or one that begins with `#`
abbrev pub is_note : List ℕ → Bool
is_note [] = true
is_note (b ∷ bs) = b == 35

-- this is a text of a line
abbrev pub IsTextOf : Line → List ℕ → Type 0
IsTextOf lines.Note text = IsTrue (is_note text)
IsTextOf lines.Barrier text = text ≡ codes "barrier"
IsTextOf (lines.Op o) text = text ≡ op_text o

-- these texts spell these lines, one by one
abbrev pub SpellLines : Shape → List Line → List (List ℕ) → Type 0
SpellLines h [] [] = Unit {0}
SpellLines h [] (t ∷ ts) = ⊥
SpellLines h (l ∷ ls) [] = ⊥
SpellLines h (l ∷ ls) (t ∷ ts) = IsLine h l × IsTextOf l t × SpellLines h ls ts

-- these texts are the header and the lines of a job
abbrev pub SpellJob : Job → List (List ℕ) → Type 0
SpellJob s [] = ⊥
SpellJob s (t ∷ ts) = IsShape s.shape × (t ≡ header_text s.shape) × SpellLines s.shape s.lines ts

-- these bytes are the script of a job
pub record IsScript (bytes : List ℕ) (s : Job) : Type 0 where
  pub size : length bytes ≤ SCRIPT_LIMIT
  pub lines : length (lines_of bytes) ≤ LINE_LIMIT
  pub spelled : SpellJob s (lines_of bytes)
