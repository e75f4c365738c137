-- Lists whose places hold something, or a blank where nobody put anything: what overwriting, cutting
-- and showing them gives. Bytes with the blank 0 are one case, and marks with no mark as the blank another.
use Rattle.std.specs.Prelude.{ℕ, ◌+◌, ◌-◌, List, [], ◌∷◌, ◌++◌, length, take, drop, replicate}

-- the list, with blanks after it where it has fewer than n places
abbrev pub extended : {X : Type 0} → X → List X → ℕ → List X
extended blank xs n = xs ++ replicate (n - length xs) blank

-- ys put over xs from place off on, and blanks in a gap before them; putting nothing changes nothing
abbrev pub put : {X : Type 0} → X → List X → ℕ → List X → List X
put blank xs off [] = xs
put blank xs off (y ∷ ys) = take off (extended blank xs off) ++ (y ∷ ys) ++ drop (off + length (y ∷ ys)) xs

-- the first n places, with blanks where there are fewer
abbrev pub cut : {X : Type 0} → X → List X → ℕ → List X
cut blank xs n = take n (extended blank xs n)

-- the places from off on, at most len of them
abbrev pub shown : {X : Type 0} → List X → ℕ → ℕ → List X
shown xs off len = take len (drop off xs)
