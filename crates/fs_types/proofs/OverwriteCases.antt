-- Overwriting, cutting and showing at single values, worked out by hand.
use Rattle.fs_types.proofs.Common.{◌≡◌, ℕ, List, [], ◌∷◌, ◌++◌, Option, Some, codes, refl}
use Rattle.fs_types.specs.Marks.{Mark, mark_of, marks_of, no_mark}
use Rattle.fs_types.specs.Overwrite.{put, cut, shown}

abbrev put_bytes : List ℕ → ℕ → List ℕ → List ℕ
put_bytes xs off ys = put 0 xs off ys

abbrev cut_bytes : List ℕ → ℕ → List ℕ
cut_bytes xs n = cut 0 xs n

put_over_the_middle : put_bytes (codes "hello") 1 (codes "ub") ≡ codes "hublo"
put_over_the_middle = refl

put_at_the_start : put_bytes (codes "hello") 0 (codes "j") ≡ codes "jello"
put_at_the_start = refl

put_over_the_end : put_bytes (codes "hello") 4 (codes "ium") ≡ codes "hellium"
put_over_the_end = refl

put_right_after_the_end : put_bytes (codes "ab") 2 (codes "c") ≡ codes "abc"
put_right_after_the_end = refl

put_past_the_end_leaves_a_gap : put_bytes (codes "ab") 4 (codes "c") ≡ codes "ab" ++ 0 ∷ 0 ∷ codes "c"
put_past_the_end_leaves_a_gap = refl

put_in_an_empty_list : put_bytes [] 2 (codes "c") ≡ 0 ∷ 0 ∷ codes "c"
put_in_an_empty_list = refl

put_nothing : put_bytes (codes "ab") 9 [] ≡ codes "ab"
put_nothing = refl

cut_shorter : cut_bytes (codes "hello") 2 ≡ codes "he"
cut_shorter = refl

cut_longer : cut_bytes (codes "he") 4 ≡ codes "he" ++ 0 ∷ 0 ∷ []
cut_longer = refl

cut_to_nothing : cut_bytes (codes "hello") 0 ≡ []
cut_to_nothing = refl

shown_in_the_middle : shown (codes "hello") 1 3 ≡ codes "ell"
shown_in_the_middle = refl

shown_up_to_the_end : shown (codes "hello") 3 9 ≡ codes "lo"
shown_up_to_the_end = refl

shown_past_the_end : shown (codes "hello") 7 2 ≡ []
shown_past_the_end = refl

shown_of_length_0 : shown (codes "hello") 1 0 ≡ []
shown_of_length_0 = refl

-- ---- the same over marks, in parts of 2 bytes

-- the mark of a byte that a line wrote
abbrev mark : ℕ → ℕ → Option Mark
mark line i = Some (mark_of 2 line i)

-- five bytes of line 3
abbrev five_marks : List (Option Mark)
five_marks = marks_of 2 3 5

-- the last byte of five is alone in part 2
last_mark : mark 3 4 ≡ Some (record { line = 3; part = 2; place = 0 })
last_mark = refl

marks_over_the_middle : put no_mark five_marks 1 (marks_of 2 4 2) ≡ mark 3 0 ∷ mark 4 0 ∷ mark 4 1 ∷ mark 3 3 ∷ mark 3 4 ∷ []
marks_over_the_middle = refl

marks_past_the_end : put no_mark (marks_of 2 3 1) 3 (marks_of 2 4 1) ≡ mark 3 0 ∷ no_mark ∷ no_mark ∷ mark 4 0 ∷ []
marks_past_the_end = refl

no_marks_put : put no_mark (marks_of 2 3 1) 3 (marks_of 2 4 0) ≡ marks_of 2 3 1
no_marks_put = refl

marks_cut_longer : cut no_mark (marks_of 2 3 1) 2 ≡ mark 3 0 ∷ no_mark ∷ []
marks_cut_longer = refl

marks_shown : shown five_marks 3 9 ≡ mark 3 3 ∷ mark 3 4 ∷ []
marks_shown = refl
