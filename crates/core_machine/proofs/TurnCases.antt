-- Whose turn it may be in a job of two clients with a barrier between their lines, worked out by hand; and phases that don't begin.
use Rattle.fs_types.proofs.Common.{◌≡◌, [], ◌∷◌, Some, None, refl, arith}
use Rattle.core_machine.specs.Vocabulary.{IsInPhase, Places, next_in, going}
use Rattle.core_machine.proofs.TwoClients.{two_clients}

-- client 1 has a line, which is of a later phase
start : going (record { job = two_clients; places = 0 ∷ 0 ∷ []; phase = 0 }) ≡ 0 ∷ []
start = refl

-- after client 0's first line nobody goes in this phase, and both go in the next one
end_of_phase : going (record { job = two_clients; places = 1 ∷ 0 ∷ []; phase = 0 }) ≡ []
end_of_phase = refl

next_phase : going (record { job = two_clients; places = 1 ∷ 0 ∷ []; phase = 1 }) ≡ 0 ∷ 1 ∷ []
next_phase = refl

line_of_first : next_in (record { job = two_clients; places = 1 ∷ 0 ∷ []; phase = 1 }) 0 ≡ Some 4
line_of_first = refl

line_of_second : next_in (record { job = two_clients; places = 1 ∷ 0 ∷ []; phase = 1 }) 1 ≡ Some 5
line_of_second = refl

-- client 1 goes first, and then has no line left
second_done : going (record { job = two_clients; places = 1 ∷ 1 ∷ []; phase = 1 }) ≡ 0 ∷ []
second_done = refl

-- at the end neither has a line, and neither goes
abbrev end : Places
end = record { job = two_clients; places = 3 ∷ 1 ∷ []; phase = 1 }

none_go : going end ≡ []
none_go = refl

none_left_to_first : next_in end 0 ≡ None
none_left_to_first = refl

none_left_to_second : next_in end 1 ≡ None
none_left_to_second = refl

-- at first phase 1 hasn't begun, since client 0's next line is of phase 0; and after that line no later one than phase 1 begins
not_begun : IsInPhase (record { job = two_clients; places = 0 ∷ 0 ∷ []; phase = 1 }) → ⊥
not_begun is = let low = is.none_earlier 0 2 refl in omega (arith, low)

not_skipped : IsInPhase (record { job = two_clients; places = 1 ∷ 0 ∷ []; phase = 2 }) → ⊥
not_skipped is = let low = is.none_earlier 1 5 refl in omega (arith, low)
