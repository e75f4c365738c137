-- The paths of a job's lines and their gfids, worked out by hand.
use Rattle.fs_types.proofs.Common.{◌≡◌, ℕ, List, [], ◌∷◌, refl}
use Rattle.placement.specs.Placement.{gfid}
use Rattle.fs_script.proofs.CallerLemmas.{path_a}
use Rattle.core_machine.specs.Vocabulary.{Line, gfids_of, paths_of}
use Rattle.core_machine.proofs.TwoClients.{two_clients}
use Rattle.fs_script.specs.declared.line.Line.TheVariants as lines
use Rattle.fs_script.specs.declared.line.Op.TheVariants as ops

-- four operations on one path name it once
one_path : paths_of two_clients.lines ≡ path_a ∷ []
one_path = refl

-- an operation on one path, a barrier, and operations on another path and on the first one
abbrev two_paths : List ℕ → List ℕ → List Line
two_paths p q =
    lines.Op (record { rank = 0; path = p; op = ops.Create })
    ∷ lines.Barrier
    ∷ lines.Op (record { rank = 0; path = q; op = ops.Create })
    ∷ lines.Op (record { rank = 1; path = p; op = ops.Size })
    ∷ []

-- each has the gfid of its own path, and the barrier has 0
gfid_of_each_line : (p q : List ℕ) → gfids_of (two_paths p q) ≡ gfid p ∷ 0 ∷ gfid q ∷ gfid p ∷ []
gfid_of_each_line p q = refl
