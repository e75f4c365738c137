-- Bytes that are kept by blocks: a block that isn't kept is one of zeros.
use Rattle.std.specs.Prelude.{◌≡◌, ℕ, ◌+◌, ◌-◌, ◌/◌, ◌%◌, ◌≤◌, ◌==◌, ◌&&◌, nat_le, nat_lt, Bool, false, if◌then◌else◌}
use Rattle.std.specs.Prelude.{List, length, map, slice_index, Option, Some, None}
use Rattle.std.specs.List.{list_all, range_with_len}
use Rattle.std.specs.Map.{lookup}
use Rattle.std.specs.Ordering.{nat_cmp}
use Rattle.std.specs.BTreeMap.{is_at}
use Rattle.fs_plain.specs.declared.limits.TheConstants.{BLOCK}

-- no byte but 0
abbrev pub is_blank : List ℕ → Bool
is_blank bytes = list_all (λ b. b == 0) bytes

-- a block that is kept is whole, and isn't one of zeros alone
pub record IsBlock (bytes : List ℕ) : Type 0 where
  pub length : length bytes ≡ BLOCK
  pub some : is_blank bytes ≡ false

-- byte i of a block, 0 where none is kept
abbrev pub byte_in : Option (List ℕ) → ℕ → ℕ
byte_in None i = 0
byte_in (Some bytes) i = slice_index bytes i

-- byte k of the blocks, each kept with its number
abbrev pub byte_at : List (ℕ × List ℕ) → ℕ → ℕ
byte_at blocks k = byte_in (lookup (is_at (nat_cmp (k / BLOCK))) blocks) (k % BLOCK)

-- the first n bytes of the blocks
abbrev pub first_bytes : List (ℕ × List ℕ) → ℕ → List ℕ
first_bytes blocks n = map (byte_at blocks) (range_with_len 0 n)

-- from byte n on there is none but 0
abbrev pub AreZerosFrom : List (ℕ × List ℕ) → ℕ → Type 0
AreZerosFrom blocks n = (k : ℕ) → n ≤ k → byte_at blocks k ≡ 0

-- what stands at place k once these bytes are put from place at on, where another byte was
abbrev pub byte_put : ℕ → List ℕ → ℕ → ℕ → ℕ
byte_put at bytes k was = if nat_le at k && nat_lt k (at + length bytes) then slice_index bytes (k - at) else was

-- each place before n keeps what it had, and no byte but 0 stands from there on
abbrev pub KeepsBytesBefore : ℕ → (ℕ → ℕ) → (ℕ → ℕ) → Type 0
KeepsBytesBefore n old new = (k : ℕ) → new k ≡ (if nat_lt k n then old k else 0)

-- these bytes are put from place at on over what each place had, and every other place keeps what it had
abbrev pub PutsBytes : ℕ → List ℕ → (ℕ → ℕ) → (ℕ → ℕ) → Type 0
PutsBytes at bytes old new = (k : ℕ) → new k ≡ byte_put at bytes k (old k)
