-- How often what is kept for a path, and for a client there, holds a piece.
use Rattle.std.specs.Prelude.{ℕ, ◌+◌, Bool, ◌||◌, is_some, if◌then◌else◌}
use Rattle.fs_script.specs.Vocabulary.{Piece}
use Rattle.core_machine.specs.ClientPath.{ClientPath}
use Rattle.core_machine.specs.declared.task.Task.{Task}
use Rattle.core_machine.specs.Kept.{OwnedPath, file_hold, pending_hold}
use Rattle.core_machine.specs.Task.{task_hold}

-- the file of a path, or what a client wrote to it and hasn't committed, has a piece
abbrev pub keeps : OwnedPath → ClientPath → Piece → Bool
keeps x k q = is_some (file_hold x.path.file q) || is_some (pending_hold k q)

-- how often the two and what the client is in the midst of hold a piece
abbrev pub holds_kept : OwnedPath → ClientPath → Task → Piece → ℕ
holds_kept x k t q = (if keeps x k q then 1 else 0) + (if is_some (task_hold t q) then 1 else 0)
