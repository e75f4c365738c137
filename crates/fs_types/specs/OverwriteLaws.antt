-- The laws of overwriting, cutting and showing: how long a list is then, and what stands at each of its places.
-- Each law takes the blank, so that it is said once for bytes and for marks; past the end of a list stands the blank.
use Rattle.std.specs.Prelude.{◌≡◌, ℕ, ◌+◌, ◌-◌, ◌<◌, max, min, ◌&&◌, nat_le, nat_lt, List, [], length, slice_index_or, if◌then◌else◌}
use Rattle.fs_types.specs.Overwrite.{put, cut, shown}

-- what is put stands where it was put, and every other place has what it had
abbrev pub PutsByPlace : {X : Type 0} → X → Type 0
PutsByPlace {X} blank = (xs : List X) (off : ℕ) (ys : List X) (k : ℕ) → slice_index_or (put blank xs off ys) k blank
    ≡ (if nat_le off k && nat_lt k (off + length ys) then slice_index_or ys (k - off) blank else slice_index_or xs k blank)

-- a list in which something is put reaches at least to its end
abbrev pub PutsToEnd : {X : Type 0} → X → Type 0
PutsToEnd {X} blank = (xs : List X) (off : ℕ) (ys : List X) → 0 < length ys
    → length (put blank xs off ys) ≡ max (length xs) (off + length ys)

-- putting nothing changes nothing, also past the end
abbrev pub PutsNothing : {X : Type 0} → X → Type 0
PutsNothing {X} blank = (xs : List X) (off : ℕ) → put blank xs off [] ≡ xs

-- each place that a cut leaves has what it had
abbrev pub CutsByPlace : {X : Type 0} → X → Type 0
CutsByPlace {X} blank = (xs : List X) (n k : ℕ) → k < n → slice_index_or (cut blank xs n) k blank ≡ slice_index_or xs k blank

-- a list that was cut to n places has n places
abbrev pub CutsToLength : {X : Type 0} → X → Type 0
CutsToLength {X} blank = (xs : List X) (n : ℕ) → length (cut blank xs n) ≡ n

-- place k of what is shown is place off + k of the list
abbrev pub ShowsByPlace : {X : Type 0} → X → Type 0
ShowsByPlace {X} blank = (xs : List X) (off len k : ℕ) → k < len
    → slice_index_or (shown xs off len) k blank ≡ slice_index_or xs (off + k) blank

-- at most len places are shown, and none past the end
abbrev pub ShowsWithin : {X : Type 0} → X → Type 0
ShowsWithin {X} blank = (xs : List X) (off len : ℕ) → length (shown xs off len) ≡ min len (length xs - off)

-- what putting does
pub record OverwritesByPlace {X : Type 0} (blank : X) : Type 0 where
  pub place : PutsByPlace blank
  pub length : PutsToEnd blank
  pub nothing : PutsNothing blank

-- what cutting does
pub record CutsFirstPlaces {X : Type 0} (blank : X) : Type 0 where
  pub place : CutsByPlace blank
  pub length : CutsToLength blank

-- what showing does
pub record ShowsRange {X : Type 0} (blank : X) : Type 0 where
  pub place : ShowsByPlace blank
  pub length : ShowsWithin blank
