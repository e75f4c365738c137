-- What is kept of journals, seen as a list of paths with their lines.
use Rattle.std.specs.Prelude.{ℕ, List, map}
use Rattle.fs_plain.specs.declared.journals.Journal.{Journal}

-- a path with the lines of its journal
abbrev pub entry_of : Journal → List ℕ × List ℕ
entry_of j = (j.path, j.lines.items)

abbrev pub entries_of : List Journal → List (List ℕ × List ℕ)
entries_of js = map entry_of js
