-- The laws of paths and names.
use Rattle.std.specs.Prelude.{◌≡◌, ℕ, ◌<◌, ◌≤◌, List, length, ◌++◌, All, IsTrue}
use Rattle.std.specs.List.{join_with_byte}
use Rattle.fs_types.specs.declared.limits.TheConstants.{LONGEST_PATH}
use Rattle.fs_types.specs.PathText.{IsPath, is_component, mount_point}
use Rattle.fs_types.specs.NameText.{IsName}

-- neither a control character nor a space, and below 127
abbrev pub IsVisible : ℕ → Type 0
IsVisible b = (32 < b) × (b < 127)

-- a path has at least 10 bytes, and no more than the longest
abbrev pub PathsHaveBounds : Type 0
PathsHaveBounds = (bytes : List ℕ) → IsPath bytes → (10 ≤ length bytes) × (length bytes ≤ LONGEST_PATH)

-- a path is within the grammar of names
abbrev pub PathsAreNames : Type 0
PathsAreNames = (bytes : List ℕ) → IsPath bytes → IsName bytes

-- a name has at least one byte, and no more than the longest path
abbrev pub NamesHaveBounds : Type 0
NamesHaveBounds = (bytes : List ℕ) → IsName bytes → (1 ≤ length bytes) × (length bytes ≤ LONGEST_PATH)

-- each byte of a name is visible, so no name has a space or an end of line
abbrev pub NamesAreVisible : Type 0
NamesAreVisible = (bytes : List ℕ) → IsName bytes → All IsVisible bytes

-- the bytes are the mount point, and then one or more components with a slash between each two
abbrev pub IsMountedText : List ℕ → Type 0
IsMountedText bytes =
    (parts : List (List ℕ)) × (0 < length parts) × All (λ part. IsTrue (is_component part)) parts
    × (bytes ≡ mount_point ++ join_with_byte 47 parts)

-- a path is such a text no longer than the longest
abbrev pub PathsAreMountedTexts : Type 0
PathsAreMountedTexts = (bytes : List ℕ) → IsPath bytes → IsMountedText bytes

-- such a text no longer than the longest is a path
abbrev pub MountedTextsArePaths : Type 0
MountedTextsArePaths = (bytes : List ℕ) → IsMountedText bytes → length bytes ≤ LONGEST_PATH → IsPath bytes
