-- The cells of a device of four bytes, worked out by hand.
use Rattle.std.proofs.Common.{ℕ, List, [], ◌∷◌, replicate, refl, subst, lit<, All}
use Rattle.std.specs.Prelude.{Option, None, Some, IsSome, slice_range}
use Rattle.std.proofs.lemmas.List.Elements.{All-cons, All-nil}
use Rattle.std.proofs.lemmas.Option.{same_Some}
use Rattle.fs_dev.specs.SpillDev.{Wrote, LeftOpen, WasWritten, HoldsAt}

abbrev fresh : List (Option ℕ)
fresh = replicate 4 None

-- 7 and 8 from place 1 on
abbrev written : List (Option ℕ)
written = None ∷ Some 7 ∷ Some 8 ∷ None ∷ []

first_write : Wrote 1 (7 ∷ 8 ∷ []) (Some fresh) (Some written)
first_write = refl

-- a write over the end of the first, up to the end of the device
write_over_the_end : Wrote 2 (9 ∷ 10 ∷ []) (Some written) (Some (None ∷ Some 7 ∷ Some 9 ∷ Some 10 ∷ []))
write_over_the_end = refl

write_at_the_start : Wrote 0 (5 ∷ []) (Some written) (Some (Some 5 ∷ Some 7 ∷ Some 8 ∷ None ∷ []))
write_at_the_start = refl

write_untold : Wrote 0 (5 ∷ []) None None
write_untold = refl

-- a write of two bytes that failed at the first of them
failed_write : LeftOpen 1 2 (Some written) (Some (None ∷ None ∷ Some 8 ∷ None ∷ []))
failed_write = (None ∷ Some 8 ∷ [], refl, refl)

-- a write one place off is none
write_one_off : ¬ Wrote 1 (7 ∷ 8 ∷ []) (Some fresh) (Some (None ∷ None ∷ Some 7 ∷ Some 8 ∷ []))
write_one_off w = cc w

-- what was written is read, and nothing else
read_of_both : HoldsAt 1 (7 ∷ 8 ∷ []) (Some written)
read_of_both = refl

read_of_the_second : HoldsAt 2 (8 ∷ []) (Some written)
read_of_the_second = refl

read_untold : HoldsAt 2 (0 ∷ []) None
read_untold = tt

zeros_are_not_read : ¬ HoldsAt 1 (0 ∷ 0 ∷ []) (Some written)
zeros_are_not_read w = cc w

-- a read asks that each of its bytes was written
both_were_written : WasWritten 1 2 (Some written)
both_were_written cells is =
    subst (λ (held : List (Option ℕ)). All IsSome (slice_range held 1 3)) (same_Some written cells is)
    (All-cons IsSome (Some 7) (Some 8 ∷ []) refl (All-cons IsSome (Some 8) [] refl (All-nil IsSome)))

first_was_not_written : ¬ WasWritten 0 2 (Some written)
first_was_not_written w = cc (w written refl 0 None (lit< tt))
