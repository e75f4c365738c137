-- The grammar of names: of the files that stage-in reads and stage-out writes.
use Rattle.std.specs.Prelude.{ℕ, Bool, ◌&&◌, ◌||◌, ◌==◌, nat_eq, nat_le, not, List, length, codes, IsTrue}
use Rattle.std.specs.List.{list_all, starts_with}
use Rattle.fs_types.specs.declared.limits.TheConstants.{LONGEST_PATH}
use Rattle.fs_types.specs.PathText.{is_name_character}

-- a character of a path's components, or a slash
abbrev pub is_name_part : ℕ → Bool
is_name_part b = is_name_character b || b == 47

-- 1 to 255 of these characters, the first not `-`
abbrev pub is_name : List ℕ → Bool
is_name bytes = not (length bytes == 0) && nat_le (length bytes) LONGEST_PATH && not (starts_with nat_eq bytes (codes "-")) && list_all
    is_name_part bytes

-- the bytes are within the grammar of names
abbrev pub IsName : List ℕ → Type 0
IsName bytes = IsTrue (is_name bytes)
