-- What a run reports of a path, as an entry of a report.
use Rattle.std.specs.Prelude.{ℕ, List}
use Rattle.fs_types.specs.declared.file_state.FileState.{FileState}
use Rattle.core_run.specs.declared.run.PathReport.{PathReport}

-- a path with its journal, and with its file
abbrev pub journal_entry : PathReport → List ℕ × List ℕ
journal_entry p = (p.path, p.journal.items)

abbrev pub file_entry : PathReport → List ℕ × FileState
file_entry p = (p.path, p.state)
