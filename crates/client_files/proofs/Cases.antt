-- The definitions at single values.
use Rattle.fs_types.proofs.Common.{◌≡◌, ◌≤◌, ◌<◌, ℕ, true, false, List, [], ◌∷◌, Contains, arith, inl, inr, refl, codes}
use Rattle.fs_types.proofs.Common.{ap, sym, true≢false, slice_index_or, zero, suc}
use Rattle.std.proofs.Common.{lit<}
use Rattle.client_files.specs.Deeds.{Deed, opening, noting, telling, last_told, IsGreatest, IsGreatestNoted}
use Rattle.client_files.specs.Kept.{may_write_at, untouched, with_note, with_open}
use Rattle.client_files.specs.Noted.{later_of, unseen}
use Rattle.client_files.specs.declared.may.May.TheVariants.{Yes, NoEnt, ReadOnly}
use Rattle.client_files.specs.declared.noted.Noted.{Noted}

-- a version with a file of so many bytes, with a frozen file of 5, and with none
abbrev file : ℕ → ℕ → Noted
file v size = record { version = v; attr = record { exists = true; size = size; frozen = false } }

abbrev frozen : ℕ → Noted
frozen v = record { version = v; attr = record { exists = true; size = 5; frozen = true } }

abbrev gone : ℕ → Noted
gone v = record { version = v; attr = record { exists = false; size = 0; frozen = false } }

-- ---- what is noted

later_is_the_greater : later_of (file 4 7) (gone 6) ≡ gone 6
later_is_the_greater = refl

lower_is_not_later : later_of (gone 6) (file 4 7) ≡ gone 6
lower_is_not_later = refl

first_stays_at_one_version : later_of (file 4 7) (frozen 4) ≡ file 4 7
first_stays_at_one_version = refl

greatest_of_three : (with_note (file 5 9) (with_note (gone 6) (with_note (file 4 7) untouched))).noted ≡ gone 6
greatest_of_three = refl

opened_keeps_what_was_noted : with_open (with_note (file 4 7) untouched) ≡ record { is_open = true; noted = file 4 7 }
opened_keeps_what_was_noted = refl

noted_keeps_whether_open : with_note (file 4 7) (with_open untouched) ≡ record { is_open = true; noted = file 4 7 }
noted_keeps_whether_open = refl

-- ---- whether an open path may be written

nothing_is_written : may_write_at unseen ≡ NoEnt 0
nothing_is_written = refl

file_is_written : may_write_at (file 4 7) ≡ Yes
file_is_written = refl

frozen_is_not_written : may_write_at (frozen 8) ≡ ReadOnly 8
frozen_is_not_written = refl

unlinked_is_not_written : may_write_at (gone 6) ≡ NoEnt 6
unlinked_is_not_written = refl

-- ---- what the front can't be

abbrev a : List ℕ
a = codes "/unifyfs/a"

-- version 4 was noted, then 6
abbrev two : List Deed
two = opening a ∷ noting a (file 4 7) ∷ noting a (gone 6) ∷ []

lower_note_is_not_the_greatest : IsGreatestNoted two a (file 4 7) → ⊥
lower_note_is_not_the_greatest is =
    let noted : Contains two (noting a (gone 6)) = (2, lit< tt, refl) in
    let below : 6 ≤ 4 = is.greatest (gone 6) noted in
    omega arith

-- then all were told of version 7, after they had been told of 8
abbrev then_told : List Deed
then_told = telling a (gone 8) ∷ opening a ∷ noting a (file 4 7) ∷ noting a (gone 6) ∷ telling a (file 7 0) ∷ []

last_of_two_tellings : last_told then_told a ≡ file 7 0
last_of_two_tellings = refl

nothing_was_told_of_another : last_told then_told (codes "/unifyfs/b") ≡ unseen
nothing_was_told_of_another = refl

front_below_the_board : IsGreatest then_told a (gone 6) → ⊥
front_below_the_board is = let below : 7 ≤ 6 = is.board in omega arith

-- versions that differ are not one
apart : (m n : Noted) → (m.version ≡ n.version → ⊥) → m ≡ n → ⊥
apart m n differ same = differ (ap (λ x. x.version) same)

file_was_not_noted : (k : ℕ) → k < 3 → slice_index_or two k (noting a (file 6 7)) ≡ noting a (file 6 7) → ⊥
file_was_not_noted zero short is = cc
file_was_not_noted (suc zero) short is = apart (file 4 7) (file 6 7) (omega arith) cc
file_was_not_noted (suc (suc zero)) short is = true≢false (let same : gone 6 ≡ file 6 7 = cc in sym (ap (λ n. n.attr.exists) same))
file_was_not_noted (suc (suc (suc k))) short is = omega arith

attributes_of_another_version : IsGreatest two a (file 6 7) → ⊥
attributes_of_another_version is = elim is.said [
  | inl none ↦ apart (file 6 7) unseen (omega arith) none
  | inr said ↦ elim said [
    | inl told ↦ apart (file 6 7) unseen (omega arith) told
    | inr noted ↦ file_was_not_noted noted.0 noted.1 noted.2
  ]
]
