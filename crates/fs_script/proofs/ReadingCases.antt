-- Scripts inside and outside the grammar that reading decides by computing.
use Rattle.std.proofs.Common.{◌≡◌, ℕ, ◌++◌, true, false, List, [], ◌∷◌, length, Some, None, Ok, Err, refl}
use Rattle.std.specs.Prelude.{codes}
use Rattle.fs_script.specs.declared.fault.ScriptFault.TheVariants as faults
use Rattle.fs_script.specs.declared.fault.Reason.{Reason}
use Rattle.fs_script.specs.declared.fault.Reason.TheVariants as reasons
use Rattle.fs_script.specs.declared.line.Line.TheVariants as lines
use Rattle.fs_script.specs.declared.line.Op.{Op}
use Rattle.fs_script.specs.declared.line.Op.TheVariants as ops
use Rattle.fs_script.specs.declared.line.Data.TheVariants.{Pattern}
use Rattle.fs_script.specs.declared.read.line_fault.LineFault.TheVariants.{Bad, OverLimit}
use Rattle.fs_script.specs.declared.shape.Shape.{Shape}
use Rattle.fs_script.specs.Job.{Job}
use Rattle.fs_script.specs.Payload.{data_bytes, pattern_byte}
use Rattle.fs_script.specs.Reading.Numbers.{number_of}
use Rattle.fs_script.specs.Reading.Headers.{header_of}
use Rattle.fs_script.specs.Reading.Lines.{line_of}
use Rattle.fs_script.specs.Reading.Scripts.{lines_after_header, job_of}
use Rattle.fs_script.proofs.FiveLines.{path_a}

-- ---- numbers

zero_is_a_number : number_of (codes "0") ≡ Some 0
zero_is_a_number = refl

leading_zero : number_of (codes "01") ≡ None
leading_zero = refl

no_digits : number_of [] ≡ None
no_digits = refl

sign : number_of (codes "+1") ≡ None
sign = refl

greatest_number : number_of (codes "18446744073709551615") ≡ Some 18446744073709551615
greatest_number = refl

one_more : number_of (codes "18446744073709551616") ≡ None
one_more = refl

-- ---- a job of two clients

abbrev two_header : List ℕ
two_header = codes "unifyfs 1 servers=2 clients=2 chunk=64 shmem=4 spill=0"

abbrev two_shape : Shape
two_shape = record { servers = 2; clients = 2; chunk = 64; shmem = 4; spill = 0 }

abbrev two_bytes : List ℕ
two_bytes =
    two_header ++ codes "\n# both clients\n0 create /unifyfs/a\nbarrier\n1 write /unifyfs/a 8 p:7:4\n\n1 read /unifyfs/a 0 16777216"

abbrev two_job : Job
two_job = record {
  shape = two_shape;
  lines =
      lines.Note
      ∷ lines.Op (record { rank = 0; path = path_a; op = ops.Create })
      ∷ lines.Barrier
      ∷ lines.Op (record { rank = 1; path = path_a; op = ops.Write 8 (Pattern 7 4) })
      ∷ lines.Note
      ∷ lines.Op (record { rank = 1; path = path_a; op = ops.Read 0 16777216 false })
      ∷ [];
}

two_clients_read : job_of two_bytes ≡ Ok two_job
two_clients_read = refl

pattern_of_seven : data_bytes (Pattern 7 4) ≡ 7 ∷ 38 ∷ 69 ∷ 100 ∷ []
pattern_of_seven = refl

-- the seed is 255 modulo 256
pattern_of_greatest_seed : data_bytes (Pattern 18446744073709551615 3) ≡ 255 ∷ 30 ∷ 61 ∷ []
pattern_of_greatest_seed = refl

-- a block has 256 bytes: 255 + 31 * 255 is 31 * 256 + 224, and 255 + 31 * 256 + 1 is 32 * 256
last_byte_of_first_block : pattern_byte 18446744073709551615 255 ≡ 224
last_byte_of_first_block = refl

first_byte_of_second_block : pattern_byte 18446744073709551615 256 ≡ 0
first_byte_of_second_block = refl

-- ---- headers

abbrev IsBadHeader : List ℕ → Type 0
IsBadHeader line = header_of line ≡ Err faults.BadHeader

abbrev IsOverLimit : List ℕ → Type 0
IsOverLimit line = header_of line ≡ Err (faults.OverLimit 1)

another_edition : IsBadHeader (codes "unifyfs 2 servers=1 clients=1 chunk=64 shmem=4 spill=0")
another_edition = refl

number_with_leading_zero : IsBadHeader (codes "unifyfs 1 servers=1 clients=1 chunk=064 shmem=4 spill=0")
number_with_leading_zero = refl

word_missing : IsBadHeader (codes "unifyfs 1 servers=1 clients=1 chunk=64 shmem=4")
word_missing = refl

too_many_clients : IsOverLimit (codes "unifyfs 1 servers=1 clients=65 chunk=64 shmem=4 spill=0")
too_many_clients = refl

no_client : IsOverLimit (codes "unifyfs 1 servers=1 clients=0 chunk=64 shmem=4 spill=0")
no_client = refl

chunk_not_of_eights : IsOverLimit (codes "unifyfs 1 servers=1 clients=1 chunk=68 shmem=4 spill=0")
chunk_not_of_eights = refl

slots_of_all_clients : IsOverLimit (codes "unifyfs 1 servers=1 clients=2 chunk=64 shmem=32769 spill=0")
slots_of_all_clients = refl

spill_slots : IsOverLimit (codes "unifyfs 1 servers=1 clients=1 chunk=64 shmem=4 spill=1")
spill_slots = refl

-- the header's form comes before its limits
form_before_limits : IsBadHeader (codes "unifyfs 1 servers=0 clients=1 chunk=64 shmem=4 spill=x")
form_before_limits = refl

-- ---- lines

abbrev IsBadLine : Reason → List ℕ → Type 0
IsBadLine reason line = line_of two_shape line ≡ Err (Bad reason)

abbrev IsPastLimit : List ℕ → Type 0
IsPastLimit line = line_of two_shape line ≡ Err OverLimit

rank_of_no_client : IsBadLine reasons.Rank (codes "2 create /unifyfs/a")
rank_of_no_client = refl

rank_before_the_others : IsBadLine reasons.Rank (codes "x remove a")
rank_before_the_others = refl

operation_missing : IsBadLine reasons.Op (codes "0")
operation_missing = refl

no_such_operation : IsBadLine reasons.Op (codes "0 remove /unifyfs/a")
no_such_operation = refl

path_missing : IsBadLine reasons.Words (codes "0 create")
path_missing = refl

space_at_end : IsBadLine reasons.Words (codes "0 create /unifyfs/a ")
space_at_end = refl

two_spaces : IsBadLine reasons.Words (codes "0 create  /unifyfs/a")
two_spaces = refl

no_path : IsBadLine reasons.Path (codes "0 create /unifyfs/../a")
no_path = refl

number_with_sign : IsBadLine reasons.Number (codes "0 read /unifyfs/a +1 5")
number_with_sign = refl

number_before_payload : IsBadLine reasons.Number (codes "0 write /unifyfs/a 00 hello")
number_before_payload = refl

no_payload : IsBadLine reasons.Data (codes "0 write /unifyfs/a 0 hello")
no_payload = refl

length_missing : IsBadLine reasons.Data (codes "0 write /unifyfs/a 0 p:7")
length_missing = refl

read_too_long : IsPastLimit (codes "0 read /unifyfs/a 0 16777217")
read_too_long = refl

pattern_too_long : IsPastLimit (codes "0 write /unifyfs/a 0 p:0:4294967299")
pattern_too_long = refl

-- ---- a read with own writes, a cut, a lamination and an unlink

abbrev Reads : List ℕ → Op → Type 0
Reads line op = line_of two_shape line ≡ Ok (lines.Op (record { rank = 0; path = path_a; op = op }))

own_read : Reads (codes "0 readown /unifyfs/a 7 16777216") (ops.Read 7 16777216 true)
own_read = refl

own_read_too_long : IsPastLimit (codes "0 readown /unifyfs/a 7 16777217")
own_read_too_long = refl

own_read_without_length : IsBadLine reasons.Words (codes "0 readown /unifyfs/a 7")
own_read_without_length = refl

longest_cut : Reads (codes "0 trunc /unifyfs/a 1099511627776") (ops.Trunc 1099511627776)
longest_cut = refl

cut_too_long : IsPastLimit (codes "0 trunc /unifyfs/a 1099511627777")
cut_too_long = refl

-- one past the greatest number is none
cut_to_no_number : IsBadLine reasons.Number (codes "0 trunc /unifyfs/a 18446744073709551616")
cut_to_no_number = refl

cut_to_a_word : IsBadLine reasons.Number (codes "0 trunc /unifyfs/a x")
cut_to_a_word = refl

cut_without_length : IsBadLine reasons.Words (codes "0 trunc /unifyfs/a")
cut_without_length = refl

cut_with_a_word_more : IsBadLine reasons.Words (codes "0 trunc a x 1")
cut_with_a_word_more = refl

path_before_length : IsBadLine reasons.Path (codes "0 trunc a x")
path_before_length = refl

rank_before_words : IsBadLine reasons.Rank (codes "2 trunc /unifyfs/a")
rank_before_words = refl

laminated : Reads (codes "0 laminate /unifyfs/a") ops.Laminate
laminated = refl

lamination_with_a_word_more : IsBadLine reasons.Words (codes "0 laminate /unifyfs/a x")
lamination_with_a_word_more = refl

unlinked : Reads (codes "0 unlink /unifyfs/a") ops.Unlink
unlinked = refl

unlink_with_a_word_more : IsBadLine reasons.Words (codes "0 unlink /unifyfs/a x")
unlink_with_a_word_more = refl

-- ---- the order of the faults of a script

nothing : job_of [] ≡ Err faults.BadHeader
nothing = refl

header_alone : job_of two_header ≡ Ok (record { shape = two_shape; lines = [] })
header_alone = refl

header_and_line_feed : job_of (two_header ++ 10 ∷ []) ≡ Ok (record { shape = two_shape; lines = [] })
header_and_line_feed = refl

first_of_two_bad : job_of (two_header ++ codes "\n0 remove a\n2 sync a") ≡ Err (faults.BadLine 2 reasons.Op)
first_of_two_bad = refl

limit_before_bad : job_of (two_header ++ codes "\n\n0 read /unifyfs/a 0 16777217\nx") ≡ Err (faults.OverLimit 3)
limit_before_bad = refl

bad_before_limit : job_of (two_header ++ codes "\n\nx\n0 read /unifyfs/a 0 16777217") ≡ Err (faults.BadLine 3 reasons.Rank)
bad_before_limit = refl

cut_past_the_limit : job_of (two_header ++ codes "\n\n0 trunc /unifyfs/a 1099511627777") ≡ Err (faults.OverLimit 3)
cut_past_the_limit = refl

header_before_lines : job_of (codes "unifyfs 1 servers=1 clients=65 chunk=64 shmem=4 spill=0\nx") ≡ Err (faults.OverLimit 1)
header_before_lines = refl

too_many_lines : (h : Shape) (ts : List (List ℕ)) → length ts ≡ 65536 → lines_after_header h ts ≡ Err faults.TooManyLines
too_many_lines h ts e = rw e refl
