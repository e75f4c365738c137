-- Numbers: decimal, below 2 ^ 64, with no sign and no leading zero.
use Rattle.std.specs.Prelude.{ℕ, ◌^◌, ◌==◌, Bool, ◌&&◌, ◌||◌, not, nat_lt, List, length, Option, Some, None, slice_index, if◌then◌else◌}
use Rattle.std.specs.Str.{all_ascii_digits}
use Rattle.std.specs.Str.Parse.{digits_value}

-- digits, of which the first is 0 only where it is the only one
abbrev pub is_numeral : List ℕ → Bool
is_numeral bytes = all_ascii_digits bytes && nat_lt 0 (length bytes) && (length bytes == 1 || not (slice_index bytes 0 == 48))

-- the number below 2 ^ 64 that the bytes spell
abbrev pub number_of : List ℕ → Option ℕ
number_of bytes = if is_numeral bytes && nat_lt (digits_value 10 bytes) (2 ^ 64) then Some (digits_value 10 bytes) else None
