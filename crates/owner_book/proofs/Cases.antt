-- The definitions at single values.
use Rattle.fs_types.proofs.Common.{◌≡◌, ℕ, Bool, true, false, List, [], ◌∷◌, All-cons, All-nil, Option, Some, None, if◌then◌else◌, refl}
use Rattle.fs_types.proofs.Common.{filter, map, none-some, take, arith, true≢false}
use Rattle.std.proofs.Common.{lit<}
use Rattle.fs_types.specs.Fragments.{piece_eq}
use Rattle.fs_types.specs.Marks.{Mark}
use Rattle.fs_types.specs.Pieces.{Fragment, Piece}
use Rattle.fs_types.specs.PlainFile.{File}
use Rattle.fs_types.specs.declared.hold.Hold as hold
use Rattle.fs_types.specs.declared.mem_hold.MemHold.{MemHold}
use Rattle.owner_book.specs.declared.book_no.BookNo.TheVariants.{Exists, NoEnt, ReadOnly}
use Rattle.piece_table.specs.HeldSpans.{AreGone, Held, pushed}
use Rattle.owner_book.specs.Commits.{laid_over, size_after}
use Rattle.owner_book.specs.Calls.{change_refusal, create_refusal, no_file_refusal, without_file}
use Rattle.owner_book.specs.Journals.{Deed, Entry, creation, addition, truncation, lamination, removal, can_be_done, deed_after, file_after}
use Rattle.owner_book.specs.Kept.{BookPath, none_held}
use Rattle.owner_book.specs.LookupLaws.{stands_in}
use Rattle.owner_book.specs.Lookups.{IsPinOf, Pins, parts_in, pieces_named}
use Rattle.owner_book.specs.Truncations.{beside, cut_off}

abbrev piece : ℕ → Piece
piece line = record { line = line; part = 0 }

abbrev frag : ℕ → ℕ → ℕ → ℕ → Fragment
frag at len line from = record { at = at; len = len; piece = piece line; from = from }

abbrev mark : ℕ → ℕ → Mark
mark line place = record { line = line; part = 0; place = place }

-- 4 bytes of line 3, a gap, 3 bytes of line 4, and 2 more of line 3
abbrev three : List Fragment
three = frag 0 4 3 0 ∷ frag 6 3 4 0 ∷ frag 9 2 3 4 ∷ []

parts_of_a_range : parts_in 2 8 three ≡ frag 2 2 3 2 ∷ frag 6 2 4 0 ∷ []
parts_of_a_range = refl

no_parts_in_a_gap : parts_in 4 6 three ≡ []
no_parts_in_a_gap = refl

no_parts_of_no_place : parts_in 2 2 three ≡ []
no_parts_of_no_place = refl

those_in_a_range : filter (stands_in 2 8) three ≡ frag 0 4 3 0 ∷ frag 6 3 4 0 ∷ []
those_in_a_range = refl

none_in_a_gap : filter (stands_in 4 6) three ≡ []
none_in_a_gap = refl

each_piece_once : pieces_named three ≡ piece 3 ∷ piece 4 ∷ []
each_piece_once = refl

no_piece_of_no_fragment : pieces_named [] ≡ []
no_piece_of_no_fragment = refl

as_far_as_the_furthest : size_after 10 three ≡ 11
as_far_as_the_furthest = refl

no_shorter_than_before : size_after 20 three ≡ 20
no_shorter_than_before = refl

-- a file, 2 bytes of it, and 1 over the second and another behind a gap
two_commits : file_after (record { line = 2; deed = creation } ∷ record { line = 4; deed = addition (frag 0 2 3 0 ∷ []) }
    ∷ record { line = 7; deed = addition (frag 1 1 5 0 ∷ frag 3 1 6 0 ∷ []) } ∷ [])
    ≡ Some (record { cells = Some (mark 3 0) ∷ Some (mark 5 0) ∷ None ∷ Some (mark 6 0) ∷ []; frozen = false })
two_commits = refl

-- ---- a path over two lives

-- 4 bytes of line 3; 4 of line 5 put over their end, and 5 bytes kept; 7 kept, of which nobody wrote 2; 2 kept; and none. Then the
-- file is removed, and a later one is made.
abbrev lives : List Entry
lives =
    record { line = 2; deed = creation } ∷ record { line = 4; deed = addition (frag 0 4 3 0 ∷ []) }
    ∷ record { line = 6; deed = truncation (frag 2 4 5 0 ∷ []) 5 } ∷ record { line = 7; deed = truncation [] 7 }
    ∷ record { line = 8; deed = truncation [] 2 } ∷ record { line = 9; deed = truncation [] 0 }
    ∷ record { line = 10; deed = removal } ∷ record { line = 11; deed = truncation [] 3 } ∷ record { line = 12; deed = creation } ∷ []

abbrev after : ℕ → File (Option Mark)
after n = file_after (take n lives)

abbrev file_with : List (Option Mark) → File (Option Mark)
file_with cells = Some (record { cells = cells; frozen = false })

before_all_lines : after 0 ≡ None
before_all_lines = refl

cut_after_a_push : after 3 ≡ file_with (Some (mark 3 0) ∷ Some (mark 3 1) ∷ Some (mark 5 0) ∷ Some (mark 5 1) ∷ Some (mark 5 2) ∷ [])
cut_after_a_push = refl

extended_past_its_end : after 4
    ≡ file_with (Some (mark 3 0) ∷ Some (mark 3 1) ∷ Some (mark 5 0) ∷ Some (mark 5 1) ∷ Some (mark 5 2) ∷ None ∷ None ∷ [])
extended_past_its_end = refl

cut_in_the_middle : after 5 ≡ file_with (Some (mark 3 0) ∷ Some (mark 3 1) ∷ [])
cut_in_the_middle = refl

cut_to_nothing : after 6 ≡ file_with []
cut_to_nothing = refl

removed_file : after 7 ≡ None
removed_file = refl

no_file_to_cut : after 8 ≡ None
no_file_to_cut = refl

made_again : after 9 ≡ file_with []
made_again = refl

-- ---- frozen files

abbrev each_deed : List Deed
each_deed = creation ∷ addition [] ∷ truncation [] 0 ∷ lamination [] ∷ removal ∷ []

abbrev frozen_file : File (Option Mark)
frozen_file = Some (record { cells = Some (mark 3 0) ∷ []; frozen = true })

frozen_file_stays : deed_after frozen_file (truncation [] 0) ≡ frozen_file
frozen_file_stays = refl

frozen_file_is_removed : deed_after frozen_file removal ≡ None
frozen_file_is_removed = refl

frozen_file_is_not_written : deed_after frozen_file (addition (frag 0 1 7 0 ∷ [])) ≡ frozen_file
frozen_file_is_not_written = refl

frozen_file_is_not_frozen_again : deed_after frozen_file (lamination (frag 0 1 7 0 ∷ [])) ≡ frozen_file
frozen_file_is_not_frozen_again = refl

-- a byte is put, and the file is frozen
frozen_after_a_push : deed_after (file_with []) (lamination (frag 0 1 3 0 ∷ [])) ≡ frozen_file
frozen_after_a_push = refl

no_file_to_freeze : deed_after None (lamination (frag 0 1 3 0 ∷ [])) ≡ None
no_file_to_freeze = refl

-- a frozen file can only be removed; one that isn't can be changed, but not be made
deeds_on_a_frozen_file : map (can_be_done frozen_file) each_deed ≡ false ∷ false ∷ false ∷ false ∷ true ∷ []
deeds_on_a_frozen_file = refl

deeds_on_a_file : map (can_be_done (file_with [])) each_deed ≡ false ∷ true ∷ true ∷ true ∷ true ∷ []
deeds_on_a_file = refl

deeds_on_no_file : map (can_be_done None) each_deed ≡ true ∷ false ∷ false ∷ false ∷ false ∷ []
deeds_on_no_file = refl

-- at a path whose journal has three lines each change of a frozen file is refused at version 3, and no removal is; of one that isn't
-- frozen neither is; and where there is none both are
abbrev path_with : Bool → BookPath MemHold
path_with frozen = record { journal = 2 ∷ 4 ∷ 6 ∷ []; file = Some (record { size = 1; frozen = frozen; held = none_held }) }

frozen_file_is_read_only : change_refusal (path_with true) ≡ Some (ReadOnly 3)
frozen_file_is_read_only = refl

frozen_file_may_be_removed : no_file_refusal (path_with true) ≡ None
frozen_file_may_be_removed = refl

frozen_file_may_not_be_made : create_refusal (path_with true) ≡ Some (Exists 3)
frozen_file_may_not_be_made = refl

other_file_may_be_changed : change_refusal (path_with false) ≡ None
other_file_may_be_changed = refl

no_file_may_be_changed : change_refusal (without_file 7 (path_with true)) ≡ Some (NoEnt 4)
no_file_may_be_changed = refl

-- where there is no file, nothing is put
no_file : file_after (record { line = 4; deed = addition (frag 0 2 3 0 ∷ []) } ∷ []) ≡ None
no_file = refl

-- ---- pins

abbrev mem : hold.Ghosts MemHold
mem = record { is_ready = λ h. true; piece = λ h. h.piece; bytes = λ h. h.bytes; room = λ h. h.room; Place = Unit {0}; place = λ _. tt }

abbrev hold_with : ℕ → Option ℕ → MemHold
hold_with line room = record { piece = piece line; bytes = 8; room = room }

-- the hold of line 3 has room for one pin, and that of line 4 has none
abbrev kept : Held MemHold
kept = record {
  fragments = three;
  hold_of = λ q. if piece_eq (piece 3) q then Some (hold_with 3 (Some 1)) else if piece_eq (piece 4) q then Some (hold_with 4 (Some 0)) else None;
}

like_the_first : IsPinOf mem kept (hold_with 3 (Some 0))
like_the_first = (hold_with 3 (Some 1), refl, record { ready = refl; piece = refl; bytes = refl; place = refl })

-- the piece with room has a pin, and the one without is bare
a_pin_and_a_bare_piece : Pins mem kept (piece 3 ∷ piece 4 ∷ []) (hold_with 3 (Some 0) ∷ []) (piece 4 ∷ [])
a_pin_and_a_bare_piece = record {
  without = refl;
  pinned = refl;
  each = All-cons (IsPinOf mem kept) (hold_with 3 (Some 0)) [] like_the_first (All-nil (IsPinOf mem kept));
}

-- a piece that has no hold has no pin
no_pin_without_a_hold : Pins mem kept (piece 7 ∷ []) (hold_with 7 None ∷ []) [] → ⊥
no_pin_without_a_hold pins = let pin = pins.each 0 (hold_with 7 None) (lit< tt) in none-some pin.0 pin.1

-- ---- cuts

-- of line 4 two bytes are left, and its hold
cut_within_a_piece : (cut_off 8 kept).fragments ≡ frag 0 4 3 0 ∷ frag 6 2 4 0 ∷ []
cut_within_a_piece = refl

hold_of_what_is_left : (cut_off 8 kept).hold_of (piece 4) ≡ Some (hold_with 4 (Some 0))
hold_of_what_is_left = refl

no_hold_of_what_is_gone : (cut_off 6 kept).hold_of (piece 4) ≡ None
no_hold_of_what_is_gone = refl

-- two bytes of line 9, behind the others
abbrev behind : Held MemHold
behind = pushed (λ h. h.piece) (frag 20 2 9 0 ∷ []) (hold_with 9 None ∷ [])

-- The hold of what was put past the size may not be left out, nor be handed out while a byte is left.
not_left_out : AreGone (λ h. h.piece) (beside behind kept) (cut_off 20 (laid_over behind kept)) [] → ⊥
not_left_out are = let there = are.each (piece 9) (hold_with 9 None) refl refl in omega (arith, there.1)

not_while_named : AreGone (λ h. h.piece) (beside behind kept) (cut_off 21 (laid_over behind kept)) (hold_with 9 None ∷ []) → ⊥
not_while_named are = true≢false (are.unnamed 0 (hold_with 9 None) (lit< tt))
