-- The gfids of the paths of a script's lines, by line.
use Rattle.std.specs.Prelude.{◌≡◌, ℕ, ◌-◌, List, map, Option, Some, None, slice_get}
use Rattle.placement.specs.Placement.{gfid}
use Rattle.fs_script.specs.Job.{Job, op_at, operation}
use Rattle.fs_script.specs.declared.line.Line.{Line}
use Rattle.fs_script.specs.declared.line.OpLine.{OpLine}

-- the gfid of an operation's path; 0 where there is no operation
abbrev pub gfid_in : Option OpLine → ℕ
gfid_in None = 0
gfid_in (Some o) = gfid o.path

-- those of the paths of these lines
abbrev pub gfids_of : List Line → List ℕ
gfids_of ls = map (λ l. gfid_in (operation (Some l))) ls

-- for each line n that is an operation the gfid of its path is kept; line 2 comes first, since line 1 is the header
pub record AreGfids (s : Job) (gfids : List ℕ) : Type 0 where
  pub each : (n : ℕ) (o : OpLine) → op_at s n ≡ Some o → slice_get gfids (n - 2) ≡ Some (gfid o.path)
