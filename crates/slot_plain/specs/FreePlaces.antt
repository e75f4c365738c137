-- Which places of a list of flags are free, in order.
use Rattle.std.specs.Prelude.{ℕ, suc, Bool, true, false, List, [], ◌∷◌}

-- the numbers of the places that are free, rising, where the first place has the number n
abbrev pub free_from : ℕ → List Bool → List ℕ
free_from n [] = []
free_from n (true ∷ rest) = n ∷ free_from (suc n) rest
free_from n (false ∷ rest) = free_from (suc n) rest

-- the numbers of the places that are free, the lowest first
abbrev pub free_places : List Bool → List ℕ
free_places flags = free_from 0 flags
