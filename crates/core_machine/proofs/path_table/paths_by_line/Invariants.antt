use Rattle.fs_types.proofs.Common.{◌≡◌, ◌-◌, map, take}
use Rattle.placement.specs.Placement.{gfid}
use Rattle.core_machine.specs.Vocabulary.{gfids_of, texts, paths_of}
use Rattle.core_machine.proofs.path_table.paths_by_line.Given as goal

-- the paths and the gfids are those of the lines before line n, and the gfid of each path is known
abbrev pub invariant-loop-n : goal.invariant-loop-n
invariant-loop-n l = (texts l.paths.keys ≡ paths_of (take (l.n - 2) l.s.lines)) × (l.known.items ≡ map gfid (texts l.paths.keys))
    × (l.by_line.items ≡ gfids_of (take (l.n - 2) l.s.lines))
