-- The definitions at single values.
use Rattle.std.proofs.Common.{◌≡◌, ℕ, List, [], ◌∷◌, Option, Some, refl}
use Rattle.fs_types.specs.Marks.{Mark}
use Rattle.fs_types.specs.Pieces.{Fragment}
use Rattle.client_map.specs.Kept.{pending_end}
use Rattle.client_map.specs.PendingWrites.{Deed, addition, taking, marks_of_writes, pending_writes}
use Rattle.client_map.specs.Writes.{Write, part_count, parts_of}

abbrev write : ℕ → ℕ → ℕ → Write
write line off len = record { line = line; off = off; len = len }

abbrev part : ℕ → ℕ → ℕ → ℕ → Fragment
part at len line k = record { at = at; len = len; piece = record { line = line; part = k }; from = 0 }

-- nine bytes in parts of at most four
cut_into_three : parts_of 4 (write 3 10 9) ≡ part 10 4 3 0 ∷ part 14 4 3 1 ∷ part 18 1 3 2 ∷ []
cut_into_three = refl

-- eight bytes fill two parts, and leave none for a third
cut_into_two : part_count 4 (write 3 10 8) ≡ 2
cut_into_two = refl

end_of_the_longest : pending_end (part 0 9 3 0 ∷ part 4 2 3 1 ∷ []) ≡ 9
end_of_the_longest = refl

-- ---- what is pending

abbrev a : List ℕ
a = 97 ∷ []

abbrev b : List ℕ
b = 98 ∷ []

-- three bytes to a, one over the second of them, and one to b, between which what was pending on a is taken or isn't
abbrev deeds : List Deed
deeds = addition a (write 1 0 3) ∷ addition b (write 2 0 1) ∷ addition a (write 3 1 1) ∷ []

abbrev taken : List Deed
taken = addition a (write 1 0 3) ∷ addition b (write 2 0 1) ∷ taking a ∷ addition a (write 3 1 1) ∷ []

both_pending : pending_writes deeds a ≡ write 1 0 3 ∷ write 3 1 1 ∷ []
both_pending = refl

one_since_the_take : pending_writes taken a ≡ write 3 1 1 ∷ []
one_since_the_take = refl

another_path_keeps_its_own : pending_writes taken b ≡ write 2 0 1 ∷ []
another_path_keeps_its_own = refl

abbrev mark : ℕ → ℕ → ℕ → Option Mark
mark line k place = Some (record { line = line; part = k; place = place })

-- the later write stands over the earlier, whose third byte is the first of its second part
later_over_earlier : marks_of_writes 2 (write 1 0 3 ∷ write 3 1 1 ∷ []) ≡ mark 1 0 0 ∷ mark 3 0 0 ∷ mark 1 1 0 ∷ []
later_over_earlier = refl

-- in the other order nothing is left of the shorter one
shorter_one_covered : marks_of_writes 2 (write 3 1 1 ∷ write 1 0 3 ∷ []) ≡ mark 1 0 0 ∷ mark 1 0 1 ∷ mark 1 1 0 ∷ []
shorter_one_covered = refl
