-- What is kept of the clients' programs, and what it says of their turns.
use Rattle.std.specs.Prelude.{◌≡◌, ℕ, ◌≤◌, List, All, Contains, [], ◌∷◌, ◌++◌, length, map, slice_index, slice_index_or, slice_set, Option}
use Rattle.std.specs.Prelude.{Some, None, slice_get, filter_map, option_map}
use Rattle.std.specs.List.{range_with_len}
use Rattle.fs_script.specs.declared.line.OpLine.{OpLine}
use Rattle.fs_script.specs.Vocabulary.{Job, phase, program}
use Rattle.core_machine.specs.declared.program.Program.{Program}
use Rattle.core_machine.specs.LegalSoFar.{HasClients}
use Rattle.core_machine.specs.Turns.{Places, going, IsInPhase}

-- the line that is done next, if there is one
abbrev pub next_of : Program → Option ℕ
next_of p = slice_get p.lines.items p.place

-- the phases of the lines that are done next
abbrev pub next_phases : Job → List Program → List ℕ
next_phases s ps = filter_map (λ p. option_map (phase s) (next_of p)) ps

-- k is the least of the numbers
pub record IsLeast (xs : List ℕ) (k : ℕ) : Type 0 where
  pub there : Contains xs k
  pub least : All (λ x. k ≤ x) xs

-- the programs' lines with line n at the end of its client's, if it is an operation
abbrev pub with_program_line : ℕ → Option OpLine → List (List ℕ) → List (List ℕ)
with_program_line n None ls = ls
with_program_line n (Some o) ls = slice_set ls o.rank (slice_index_or ls o.rank [] ++ n ∷ [])

-- one for each client, with its lines
abbrev pub ArePrograms : Job → List Program → Type 0
ArePrograms s ps = map (λ p. p.lines.items) ps ≡ map (program s) (range_with_len 0 s.shape.clients)

abbrev pub places_of : Job → List Program → ℕ → Places
places_of s ps k = record { job = s; places = map (λ p. p.place) ps; phase = k }

-- what is kept of the turns in phase k: the programs, each done up to a place in it, and the clients that go, with room
-- for all
pub record IsKept (s : Job) (ps : List Program) (k : ℕ) (ranks : List ℕ) (capacity : ℕ) : Type 0 where
  pub job : HasClients s
  pub programs : ArePrograms s ps
  pub within : (r : ℕ) → slice_index (map (λ p. p.place) ps) r ≤ length (program s r)
  pub ready : ranks ≡ going (places_of s ps k)
  pub room : s.shape.clients ≤ capacity
  pub phase : IsInPhase (places_of s ps k)
