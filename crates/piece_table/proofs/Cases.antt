-- The definitions at single values.
use Rattle.std.proofs.Common.{◌≡◌, ℕ, true, false, ◌||◌, List, [], ◌∷◌, Option, Some, None, refl, cond}
use Rattle.std.proofs.Common.{⊎_elim, ◌⊎◌, Bool, lit<}
use Rattle.fs_types.proofs.Common.{All, All-nil, All-cons, Contains, Contains-append_left, Contains-append_right, Contains-push, inl, inr}
use Rattle.fs_types.proofs.Common.{sym, ap, ◌∙◌, subst, same_Some, none-some, true≢false, get_or, arith}
use Rattle.std.specs.Option.{option_or}
use Rattle.span_list.proofs.CallerLemmas.{AllPairs-one, AllPairs-append}
use Rattle.fs_types.specs.Fragments.{piece_eq}
use Rattle.fs_types.specs.Pieces.{Fragment, Piece}
use Rattle.piece_table.specs.HeldSpans.{AreGone, Cuts, HandsOver, HasRoom, Held, is_named, kept_with, put_fragments}
use Rattle.piece_table.specs.PieceTable.{Pieces, hold_of, number_of}
use Rattle.piece_table.specs.Ranges.{covered, ending_count, ends_under, reaching}
use Rattle.piece_table.proofs.Tables.{same_piece}
use Rattle.span_list.specs.Spans.{cut_fragments, put_fragment}

abbrev piece : ℕ → Piece
piece line = record { line = line; part = 0 }

abbrev frag : ℕ → ℕ → ℕ → ℕ → Fragment
frag at len line from = record { at = at; len = len; piece = piece line; from = from }

-- 10 bytes of line 1 from place 20 on, 5 of line 2 behind a gap, and 6 more of line 1
abbrev three : List Fragment
three = frag 20 10 1 0 ∷ frag 32 5 2 0 ∷ frag 37 6 1 17 ∷ []

covered_by_all : covered 20 43 three ≡ three
covered_by_all = refl

covered_at_its_ends : covered 32 37 three ≡ frag 32 5 2 0 ∷ []
covered_at_its_ends = refl

one_byte_short : covered 32 36 three ≡ []
one_byte_short = refl

one_byte_late : covered 33 43 three ≡ frag 37 6 1 17 ∷ []
one_byte_late = refl

reaching_past_the_middle : reaching 22 25 three ≡ frag 20 10 1 0 ∷ []
reaching_past_the_middle = refl

not_past_its_begin : reaching 20 25 three ≡ []
not_past_its_begin = refl

not_past_its_end : reaching 22 30 three ≡ []
not_past_its_end = refl

ending_behind_the_first : ending_count 30 43 three ≡ 2
ending_behind_the_first = refl

ending_at_the_first_end : ending_count 29 30 three ≡ 1
ending_at_the_first_end = refl

ending_one_byte_short : ending_count 30 36 three ≡ 0
ending_one_byte_short = refl

-- the first of these takes no last byte, and the second those of all three
ending_under_two : ends_under (frag 22 4 8 0 ∷ frag 26 20 9 0 ∷ []) three ≡ 3
ending_under_two = refl

named_twice : is_named three (piece 1) ≡ true
named_twice = refl

not_named : is_named three (piece 3) ≡ false
not_named = refl

other_part_not_named : is_named three (record { line = 2; part = 1 }) ≡ false
other_part_not_named = refl

-- the later of two that are put stands over the earlier
put_two : put_fragments (frag 22 4 8 0 ∷ frag 36 2 9 0 ∷ []) three
    ≡ frag 20 2 1 0 ∷ frag 22 4 8 0 ∷ frag 26 4 1 6 ∷ frag 32 4 2 0 ∷ frag 36 2 9 0 ∷ frag 38 5 1 18 ∷ []
put_two = refl

-- two fragments name line 1, and one line 2; their holds are numbers here
abbrev table : Pieces ℕ
table = record { entries = (piece 1, record { number = 2; hold = 11 }) ∷ (piece 2, record { number = 1; hold = 12 }) ∷ []; spare = 0 }

number_there : number_of table (piece 1) ≡ 2
number_there = refl

number_elsewhere : number_of table (piece 3) ≡ 0
number_elsewhere = refl

hold_there : hold_of table (piece 2) ≡ Some 12
hold_there = refl

hold_elsewhere : hold_of table (piece 3) ≡ None
hold_elsewhere = refl

-- two more pieces fit into this one
abbrev roomy : Pieces ℕ
roomy = record { entries = table.entries; spare = 2 }

-- room for two puts is room for four fragments and for two pieces
room_for_two : HasRoom 2 (kept_with three 4 roomy)
room_for_two = record { fragments = omega arith; pieces = omega arith }

one_fragment_too_few : HasRoom 2 (kept_with three 3 roomy) → ⊥
one_fragment_too_few room = omega (arith, room.fragments)

one_piece_too_few : HasRoom 3 (kept_with three 6 roomy) → ⊥
one_piece_too_few room = omega (arith, room.pieces)

-- ---- which holds come out; a hold is its piece here
abbrev hold_at : Piece → Piece → Option Piece
hold_at p q = cond (piece_eq p q) (Some p) None

-- line 1 from place 0 on, and line 2 behind it
abbrev two_held : Held Piece
two_held = record {
  fragments = frag 0 4 1 0 ∷ frag 4 4 2 0 ∷ [];
  hold_of = λ q. option_or (hold_at (piece 1) q) (hold_at (piece 2) q);
}

-- line 3 over all of line 1 and half of line 2
abbrev one_gone : Held Piece
one_gone = record {
  fragments = put_fragment (frag 0 6 3 0) two_held.fragments;
  hold_of = λ q. option_or (hold_at (piece 2) q) (hold_at (piece 3) q);
}

-- line 3 over both
abbrev both_gone : Held Piece
both_gone = record { fragments = put_fragment (frag 0 8 3 0) two_held.fragments; hold_of = hold_at (piece 3) }

what_is_left : one_gone.fragments ≡ frag 0 6 3 0 ∷ frag 6 2 2 2 ∷ []
what_is_left = refl

first_is_gone : is_named one_gone.fragments (piece 1) ≡ false
first_is_gone = refl

second_is_named : is_named one_gone.fragments (piece 2) ≡ true
second_is_named = refl

-- each of the two pieces has its own hold, and no other has one
held_two : (q h : Piece) → two_held.hold_of q ≡ Some h → ((q ≡ piece 1) × (h ≡ piece 1)) ⊎ ((q ≡ piece 2) × (h ≡ piece 2))
held_two q h = by (piece_eq (piece 1) q) refl (piece_eq (piece 2) q) refl
  where
    by : (a : Bool) → piece_eq (piece 1) q ≡ a → (b : Bool) → piece_eq (piece 2) q ≡ b
        → option_or (cond a (Some (piece 1)) None) (cond b (Some (piece 2)) None) ≡ Some h
        → ((q ≡ piece 1) × (h ≡ piece 1)) ⊎ ((q ≡ piece 2) × (h ≡ piece 2))
    by true first b second is = inl (sym (same_piece (piece 1) q first), sym (same_Some (piece 1) h is))
    by false first true second is = inr (sym (same_piece (piece 2) q second), sym (same_Some (piece 2) h is))
    by false first false second is = absurd (none-some h is)

-- the bytes from place 4 on go, and with them line 2 and its hold
cut_between : cut_fragments 4 two_held.fragments ≡ frag 0 4 1 0 ∷ []
cut_between = refl

cuts_between : Cuts 4 two_held (record { fragments = frag 0 4 1 0 ∷ []; hold_of = hold_at (piece 1) })
cuts_between = record { fragments = refl; holds = λ q. by (piece_eq (piece 1) q) (hold_at (piece 2) q) }
  where
    by : (first : Bool) (second : Option Piece)
        → cond first (Some (piece 1)) None ≡ cond (first || false) (option_or (cond first (Some (piece 1)) None) second) None
    by true second = refl
    by false second = refl

-- of line 2 two bytes stay, and its hold
cuts_within : Cuts 6 two_held (record { fragments = frag 0 4 1 0 ∷ frag 4 2 2 0 ∷ []; hold_of = two_held.hold_of })
cuts_within = record { fragments = refl; holds = λ q. by (piece_eq (piece 1) q) (piece_eq (piece 2) q) }
  where
    either : Bool → Bool → Option Piece
    either first second = option_or (cond first (Some (piece 1)) None) (cond second (Some (piece 2)) None)

    by : (first second : Bool) → either first second ≡ cond (first || (second || false)) (either first second) None
    by true second = refl
    by false true = refl
    by false false = refl

-- the hold of line 1 comes out, and that of line 2 stays
gone_one : AreGone (λ h. h) two_held one_gone (piece 1 ∷ [])
gone_one = record {
  held = All-cons (λ h. two_held.hold_of h ≡ Some h) (piece 1) [] refl (All-nil (λ h. two_held.hold_of h ≡ Some h));
  unnamed = All-cons (λ h. is_named one_gone.fragments h ≡ false) (piece 1) [] refl (All-nil (λ h. is_named one_gone.fragments h ≡ false));
  each = λ q h was unnamed. ⊎_elim
      (λ first. subst (Contains (piece 1 ∷ [])) (sym first.1) (Contains-push [] (piece 1)))
      (λ second. absurd (true≢false (sym (ap (is_named one_gone.fragments) second.0) ∙ unnamed)))
      (held_two q h was);
  once = AllPairs-one (λ g h. piece_eq g h ≡ false) (piece 1);
}

-- both come out
gone_both : AreGone (λ h. h) two_held both_gone (piece 1 ∷ piece 2 ∷ [])
gone_both = record {
  held = All-cons (λ h. two_held.hold_of h ≡ Some h) (piece 1) (piece 2 ∷ []) refl
      (All-cons (λ h. two_held.hold_of h ≡ Some h) (piece 2) [] refl (All-nil (λ h. two_held.hold_of h ≡ Some h)));
  unnamed = All-cons (λ h. is_named both_gone.fragments h ≡ false) (piece 1) (piece 2 ∷ []) refl
      (All-cons (λ h. is_named both_gone.fragments h ≡ false) (piece 2) [] refl (All-nil (λ h. is_named both_gone.fragments h ≡ false)));
  each = λ q h was unnamed. ⊎_elim
      (λ first. subst (Contains (piece 1 ∷ piece 2 ∷ [])) (sym first.1)
      (Contains-append_left (piece 1 ∷ []) (piece 2 ∷ []) (piece 1) (Contains-push [] (piece 1))))
      (λ second. subst (Contains (piece 1 ∷ piece 2 ∷ [])) (sym second.1)
      (Contains-append_right (piece 1 ∷ []) (piece 2 ∷ []) (piece 2) (Contains-push [] (piece 2))))
      (held_two q h was);
  once = AllPairs-append (λ g h. piece_eq g h ≡ false) (piece 1 ∷ []) (piece 2 ∷ [])
      (AllPairs-one (λ g h. piece_eq g h ≡ false) (piece 1)) (AllPairs-one (λ g h. piece_eq g h ≡ false) (piece 2))
      (All-cons (λ g. All (λ h. piece_eq g h ≡ false) (piece 2 ∷ [])) (piece 1) []
      (All-cons (λ h. piece_eq (piece 1) h ≡ false) (piece 2) [] refl (All-nil (λ h. piece_eq (piece 1) h ≡ false)))
      (All-nil (λ g. All (λ h. piece_eq g h ≡ false) (piece 2 ∷ []))));
}

-- it goes to the end of a list
handed : HandsOver (λ h. h) two_held one_gone (piece 9 ∷ []) (piece 9 ∷ piece 1 ∷ [])
handed = (piece 1 ∷ [], refl, gone_one)

-- none is left out, and none goes out that is named
not_left_out : AreGone (λ h. h) two_held both_gone (piece 1 ∷ []) → ⊥
not_left_out are =
    let second = are.each (piece 2) (piece 2) refl refl in
    true≢false (ap (λ h. piece_eq h (piece 1)) (only (piece 1) (piece 2) second))
  where
    only : (p q : Piece) → Contains (p ∷ []) q → p ≡ q
    only p q there =
        let first : there.0 ≡ 0 = omega (arith, there.1) in
        ap (λ k. get_or (p ∷ []) k q) (sym first) ∙ there.2

not_while_named : AreGone (λ h. h) two_held one_gone (piece 1 ∷ piece 2 ∷ []) → ⊥
not_while_named are = true≢false (are.unnamed 1 (piece 1) (lit< tt))
