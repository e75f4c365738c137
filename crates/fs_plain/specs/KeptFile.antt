-- What is kept of a plain file, seen as the file.
use Rattle.std.specs.Prelude.{ℕ, Option, Some, None}
use Rattle.fs_types.specs.PlainFile.{File}
use Rattle.fs_plain.specs.declared.plain_file.SparseFile.{SparseFile}

abbrev pub file_kept : Option SparseFile → File ℕ
file_kept None = None
file_kept (Some c) = Some (record { cells = c.bytes; frozen = c.frozen })
