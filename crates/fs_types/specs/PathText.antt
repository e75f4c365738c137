-- The grammar of paths: `/unifyfs/`, and then components with a slash between each two.
use Rattle.std.specs.Prelude.{ℕ, Bool, ◌&&◌, ◌||◌, ◌==◌, nat_eq, nat_le, not, List, length, drop, codes, IsTrue}
use Rattle.std.specs.List.{slice_split, list_all, starts_with}
use Rattle.std.specs.Str.{bytes_eq}
use Rattle.fs_types.specs.declared.limits.TheConstants.{LONGEST_PATH}

-- what every path begins with
abbrev pub mount_point : List ℕ
mount_point = codes "/unifyfs/"

-- a number from the low to the high, both included
abbrev pub is_between : ℕ → ℕ → ℕ → Bool
is_between low high b = nat_le low b && nat_le b high

-- `A` to `Z`, `a` to `z`, `0` to `9`, `.`, `_` and `-`
abbrev pub is_name_character : ℕ → Bool
is_name_character b = is_between 65 90 b || is_between 97 122 b || is_between 48 57 b || b == 46 || b == 95 || b == 45

-- one or more of these characters, but neither `.` nor `..`
abbrev pub is_component : List ℕ → Bool
is_component c = not (length c == 0) && list_all is_name_character c && not (bytes_eq c (codes ".")) && not (bytes_eq c (codes ".."))

-- the parts of a text between its slashes
abbrev pub between_slashes : List ℕ → List (List ℕ)
between_slashes bytes = slice_split (λ b. b == 47) bytes

-- a text of at most 255 bytes that begins with the mount point, each part of the rest a component
abbrev pub is_path : List ℕ → Bool
is_path bytes = nat_le (length bytes) LONGEST_PATH && starts_with nat_eq bytes mount_point && list_all is_component
    (between_slashes (drop 9 bytes))

-- the bytes are within the grammar of paths
abbrev pub IsPath : List ℕ → Type 0
IsPath bytes = IsTrue (is_path bytes)
