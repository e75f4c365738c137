use Rattle.std.proofs.Common.{◌≡◌, ◌++◌, take}
use Rattle.fs_script.specs.Text.{path_lines}
use Rattle.fs_report.proofs.paths.append_paths.Given as goal

-- the first journals and files so far
abbrev pub invariant-loop-i : goal.invariant-loop-i
invariant-loop-i l = l.out.items ≡ l.fn.out.items ++ path_lines (take l.i l.journals) (take l.i l.files)
