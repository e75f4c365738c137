-- The definitions at single values.
use Rattle.std.proofs.Common.{◌≡◌, ℕ, List, [], ◌∷◌, Some, None, refl}
use Rattle.fs_types.specs.Pieces.{Fragment, Piece}
use Rattle.span_list.specs.Spans.{rest_before, rest_from, cut_fragments, put_fragment, next_fragment}

abbrev piece : ℕ → Piece
piece line = record { line = line; part = 0 }

abbrev frag : ℕ → ℕ → ℕ → ℕ → Fragment
frag at len line from = record { at = at; len = len; piece = piece line; from = from }

-- 10 bytes from place 20 on, and 5 behind a gap
abbrev two : List Fragment
two = frag 20 10 1 3 ∷ frag 32 5 2 0 ∷ []

before_its_begin : rest_before 20 (frag 20 10 1 3) ≡ []
before_its_begin = refl

before_its_middle : rest_before 24 (frag 20 10 1 3) ≡ frag 20 4 1 3 ∷ []
before_its_middle = refl

before_its_end : rest_before 30 (frag 20 10 1 3) ≡ frag 20 10 1 3 ∷ []
before_its_end = refl

before_a_place_behind : rest_before 31 (frag 20 10 1 3) ≡ frag 20 10 1 3 ∷ []
before_a_place_behind = refl

from_its_begin : rest_from 20 (frag 20 10 1 3) ≡ frag 20 10 1 3 ∷ []
from_its_begin = refl

from_a_place_before : rest_from 19 (frag 20 10 1 3) ≡ frag 20 10 1 3 ∷ []
from_a_place_before = refl

-- the byte at place 24 is byte 7 of its piece
from_its_middle : rest_from 24 (frag 20 10 1 3) ≡ frag 24 6 1 7 ∷ []
from_its_middle = refl

from_its_last_byte : rest_from 29 (frag 20 10 1 3) ≡ frag 29 1 1 12 ∷ []
from_its_last_byte = refl

from_its_end : rest_from 30 (frag 20 10 1 3) ≡ []
from_its_end = refl

put_over_the_middle : put_fragment (frag 24 2 9 0) two ≡ frag 20 4 1 3 ∷ frag 24 2 9 0 ∷ frag 26 4 1 9 ∷ frag 32 5 2 0 ∷ []
put_over_the_middle = refl

put_over_both : put_fragment (frag 28 6 9 0) two ≡ frag 20 8 1 3 ∷ frag 28 6 9 0 ∷ frag 34 3 2 2 ∷ []
put_over_both = refl

put_over_all : put_fragment (frag 0 40 9 0) two ≡ frag 0 40 9 0 ∷ []
put_over_all = refl

put_into_the_gap : put_fragment (frag 30 2 9 0) two ≡ frag 20 10 1 3 ∷ frag 30 2 9 0 ∷ frag 32 5 2 0 ∷ []
put_into_the_gap = refl

put_in_front : put_fragment (frag 18 2 9 0) two ≡ frag 18 2 9 0 ∷ two
put_in_front = refl

put_into_none : put_fragment (frag 18 2 9 0) [] ≡ frag 18 2 9 0 ∷ []
put_into_none = refl

cut_the_middle : cut_fragments 35 two ≡ frag 20 10 1 3 ∷ frag 32 3 2 0 ∷ []
cut_the_middle = refl

cut_in_the_gap : cut_fragments 31 two ≡ frag 20 10 1 3 ∷ []
cut_in_the_gap = refl

cut_to_nothing : cut_fragments 20 two ≡ []
cut_to_nothing = refl

cut_past_the_end : cut_fragments 37 two ≡ two
cut_past_the_end = refl

next_before : next_fragment 0 two ≡ Some (frag 20 10 1 3)
next_before = refl

next_within : next_fragment 29 two ≡ Some (frag 20 10 1 3)
next_within = refl

next_at_the_end : next_fragment 30 two ≡ Some (frag 32 5 2 0)
next_at_the_end = refl

next_past : next_fragment 37 two ≡ None
next_past = refl
