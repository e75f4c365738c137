-- Plain files: none, or a list of what stands at each place, and whether it is frozen.
use Rattle.std.specs.Prelude.{ℕ, ◌+◌, Bool, false, not, nat_le, List, length, Option, Some, None, if◌then◌else◌}
use Rattle.fs_types.specs.declared.limits.TheConstants.{LONGEST_FILE}
use Rattle.fs_types.specs.Overwrite.{put}

-- a file that is there: what stands at each of its places, and whether it is frozen
pub record Content (X : Type 0) : Type 0 where
  pub cells : List X
  pub frozen : Bool

-- a file, or none
abbrev pub File : Type 0 → Type 0
File X = Option (Content X)

-- ys written over xs from off on; what would end past the longest file changes nothing
abbrev pub written : {X : Type 0} → X → List X → ℕ → List X → List X
written blank xs off ys = if nat_le (off + length ys) LONGEST_FILE then put blank xs off ys else xs

-- a file that is there and isn't frozen
abbrev pub is_open_to_change : {X : Type 0} → File X → Bool
is_open_to_change None = false
is_open_to_change (Some f) = not f.frozen

-- a file that is there and is frozen
abbrev pub is_frozen : {X : Type 0} → File X → Bool
is_frozen None = false
is_frozen (Some f) = f.frozen
