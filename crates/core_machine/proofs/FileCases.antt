-- The definitions of files as fragments and of their runs at single values.
use Rattle.fs_types.proofs.Common.{◌≡◌, ℕ, false, [], ◌∷◌, Some, None, refl}
use Rattle.fs_script.specs.Vocabulary.{Fragment, Piece, runs, shown}
use Rattle.owner_book.specs.Kept.{BookFile}
use Rattle.owner_book.specs.Lookups.{parts_in}
use Rattle.core_machine.specs.BookFiles.{marks_of_file}
use Rattle.core_machine.specs.ReadRuns.{joined_from, with_last}
use Rattle.core_machine.specs.declared.plain_hold.PlainHold.{PlainHold}

abbrev piece : ℕ → Piece
piece line = record { line = line; part = 0 }

abbrev frag : ℕ → ℕ → ℕ → ℕ → Fragment
frag at len line from = record { at = at; len = len; piece = piece line; from = from }

-- 2 bytes of line 3, 1 byte of line 5 behind a gap, and a zero at the end
abbrev file : BookFile PlainHold
file = record { size = 5; frozen = false; held = record { fragments = frag 0 2 3 4 ∷ frag 3 1 5 0 ∷ []; hold_of = λ _. None } }

marks_of_each_place : marks_of_file file
    ≡ Some (record { line = 3; part = 0; place = 4 }) ∷ Some (record { line = 3; part = 0; place = 5 }) ∷ None
    ∷ Some (record { line = 5; part = 0; place = 0 }) ∷ None ∷ []
marks_of_each_place = refl

-- a read from place 1 on fetches the second byte of the first fragment, and the other one
runs_from_the_middle : runs (shown (marks_of_file file) 1 9) ≡ frag 0 1 3 5 ∷ frag 2 1 5 0 ∷ []
runs_from_the_middle = refl

no_runs_past_the_end : runs (shown (marks_of_file file) 5 9) ≡ []
no_runs_past_the_end = refl

-- the parts of that range, which stand in the file, make these runs
joined_from_the_middle : joined_from 1 (parts_in 1 10 file.held.fragments) ≡ frag 0 1 3 5 ∷ frag 2 1 5 0 ∷ []
joined_from_the_middle = refl

-- of three parts the second goes on where the first ends, and the third stands behind a gap
joined_up_to_the_gap : joined_from 2 (frag 2 2 3 4 ∷ frag 4 3 3 6 ∷ frag 9 1 3 11 ∷ []) ≡ frag 0 5 3 4 ∷ frag 7 1 3 11 ∷ []
joined_up_to_the_gap = refl

goes_on_in_the_next : with_last (frag 0 2 3 4 ∷ []) (frag 2 3 3 6) ≡ frag 0 5 3 4 ∷ []
goes_on_in_the_next = refl

stops_at_another_byte : with_last (frag 0 2 3 4 ∷ []) (frag 2 3 3 7) ≡ frag 0 2 3 4 ∷ frag 2 3 3 7 ∷ []
stops_at_another_byte = refl

stops_at_another_piece : with_last (frag 0 2 3 4 ∷ []) (frag 2 3 5 6) ≡ frag 0 2 3 4 ∷ frag 2 3 5 6 ∷ []
stops_at_another_piece = refl

stops_at_a_gap : with_last (frag 0 2 3 4 ∷ []) (frag 3 3 3 6) ≡ frag 0 2 3 4 ∷ frag 3 3 3 6 ∷ []
stops_at_a_gap = refl
