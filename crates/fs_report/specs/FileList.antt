-- What is kept of files, seen as a list of paths with their files.
use Rattle.std.specs.Prelude.{ℕ, List, map}
use Rattle.fs_types.specs.declared.file_state.FileState.{FileState}
use Rattle.fs_report.specs.declared.file_list.FileEntry.{FileEntry}

-- a path with its file
abbrev pub file_entry_of : FileEntry → List ℕ × FileState
file_entry_of f = (f.path, f.state)

abbrev pub file_entries_of : List FileEntry → List (List ℕ × FileState)
file_entries_of fs = map file_entry_of fs
