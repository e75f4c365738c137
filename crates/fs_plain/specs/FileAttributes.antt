-- What is told of a plain file.
use Rattle.std.specs.Prelude.{ℕ, true, false, List, length, [], Some, None}
use Rattle.fs_types.specs.declared.attr.Attr.{Attr}
use Rattle.fs_types.specs.PlainFile.{File}

-- its bytes, and none where there is no file
abbrev pub bytes_in : File ℕ → List ℕ
bytes_in None = []
bytes_in (Some f) = f.cells

-- its attributes
abbrev pub attr_of : File ℕ → Attr
attr_of None = record { exists = false; size = 0; frozen = false }
attr_of (Some f) = record { exists = true; size = length f.cells; frozen = f.frozen }
