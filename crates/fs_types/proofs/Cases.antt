-- The definitions at single values.
use Rattle.fs_types.proofs.Common.{◌≡◌, true, false, [], ◌∷◌, Some, None, codes, refl}
use Rattle.fs_types.specs.AnswerList.{answer_at, put_answer}
use Rattle.fs_types.specs.NameText.{is_name}
use Rattle.fs_types.specs.PathText.{is_path}
use Rattle.fs_types.specs.Room.{is_at_most, lowered}
use Rattle.fs_types.specs.declared.answer.Answer.TheVariants.{BadF, TooBig}

path_of_one_component : is_path (codes "/unifyfs/a") ≡ true
path_of_one_component = refl

path_of_all_characters : is_path (codes "/unifyfs/a.b/C_9-/...") ≡ true
path_of_all_characters = refl

no_parent : is_path (codes "/unifyfs/a/../b") ≡ false
no_parent = refl

no_empty_component : is_path (codes "/unifyfs//a") ≡ false
no_empty_component = refl

no_path_of_the_mount_point : is_path (codes "/unifyfs/") ≡ false
no_path_of_the_mount_point = refl

name_with_slashes : is_name (codes "../dir//x-y") ≡ true
name_with_slashes = refl

no_option : is_name (codes "-in") ≡ false
no_option = refl

put_in_the_middle : put_answer 3 TooBig ((2, BadF) ∷ (4, BadF) ∷ []) ≡ (2, BadF) ∷ (3, TooBig) ∷ (4, BadF) ∷ []
put_in_the_middle = refl

put_at_the_end : put_answer 5 TooBig ((2, BadF) ∷ (4, BadF) ∷ []) ≡ (2, BadF) ∷ (4, BadF) ∷ (5, TooBig) ∷ []
put_at_the_end = refl

put_over : put_answer 2 TooBig ((2, BadF) ∷ (4, BadF) ∷ []) ≡ (2, TooBig) ∷ (4, BadF) ∷ []
put_over = refl

found : answer_at ((2, BadF) ∷ (4, TooBig) ∷ []) 4 ≡ Some TooBig
found = refl

not_found : answer_at ((2, BadF) ∷ (4, TooBig) ∷ []) 3 ≡ None
not_found = refl

room_that_was_asked_for : is_at_most (Some 3) 3 ≡ true
room_that_was_asked_for = refl

room_for_one_pin_more : is_at_most (Some 3) 2 ≡ false
room_for_one_pin_more = refl

room_without_end : is_at_most None 18446744073709551615 ≡ false
room_without_end = refl

room_after_a_pin : lowered 2 (Some 7) ≡ Some 4
room_after_a_pin = refl

no_less_room_without_end : lowered 2 None ≡ None
no_less_room_without_end = refl
