-- Texts as tokens, cut where a byte stands: the lines of a script, and the words of a line.
use Rattle.std.specs.Prelude.{◌≡◌, ℕ, ◌<◌, ◌==◌, List, [], ◌∷◌, length, Option, Some, None, if◌then◌else◌}
use Rattle.std.specs.List.{slice_split}

-- the tokens of a text, between the places where this byte stands
abbrev pub tokens : ℕ → List ℕ → List (List ℕ)
tokens separator text = slice_split (λ b. b == separator) text

-- the tokens of a text that is left, where one is
abbrev pub tokens_left : ℕ → Option (List ℕ) → List (List ℕ)
tokens_left separator None = []
tokens_left separator (Some text) = tokens separator text

-- without an empty one at the end
abbrev pub without_empty_end : List (List ℕ) → List (List ℕ)
without_empty_end [] = []
without_empty_end (l ∷ []) = if length l == 0 then [] else l ∷ []
without_empty_end (l ∷ m ∷ ls) = l ∷ without_empty_end (m ∷ ls)

-- the lines of a text: a line feed ends each, and the last may lack it
abbrev pub lines_of : List ℕ → List (List ℕ)
lines_of text = without_empty_end (tokens 10 text)

-- a line comes first in the text, and what is left of the text is shorter
abbrev pub BeginsWithLine : List ℕ → List ℕ → List ℕ → Type 0
BeginsWithLine text line rest = (lines_of text ≡ line ∷ lines_of rest) × (length rest < length text)

-- the words of a line, between single spaces
abbrev pub words_of : List ℕ → List (List ℕ)
words_of line = tokens 32 line

-- the token, where there is one and no other
abbrev pub one_token : List (List ℕ) → Option (List ℕ)
one_token [] = None
one_token (a ∷ []) = Some a
one_token (a ∷ b ∷ rest) = None

-- the tokens, where there are two
abbrev pub two_tokens : List (List ℕ) → Option (List ℕ × List ℕ)
two_tokens [] = None
two_tokens (a ∷ []) = None
two_tokens (a ∷ b ∷ []) = Some (a, b)
two_tokens (a ∷ b ∷ c ∷ rest) = None

-- the tokens, where there are three
abbrev pub three_tokens : List (List ℕ) → Option (List ℕ × List ℕ × List ℕ)
three_tokens [] = None
three_tokens (a ∷ []) = None
three_tokens (a ∷ b ∷ []) = None
three_tokens (a ∷ b ∷ c ∷ []) = Some (a, b, c)
three_tokens (a ∷ b ∷ c ∷ d ∷ rest) = None
