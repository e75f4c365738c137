-- Which words are commands, by computing.
use Rattle.std.proofs.Common.{◌≡◌, [], ◌∷◌, Some, None, refl}
use Rattle.std.specs.Prelude.{codes}
use Rattle.top_call.specs.declared.words.Command.TheVariants.{Sim}
use Rattle.top_call.specs.CommandWords.{command_of}

sim_zero : command_of (codes "sim" ∷ codes "0" ∷ []) ≡ Some (Sim 0)
sim_zero = refl

sim_greatest : command_of (codes "sim" ∷ codes "18446744073709551615" ∷ []) ≡ Some (Sim 18446744073709551615)
sim_greatest = refl

seed_with_leading_zero : command_of (codes "sim" ∷ codes "01" ∷ []) ≡ None
seed_with_leading_zero = refl

no_seed : command_of (codes "sim" ∷ []) ≡ None
no_seed = refl

signed_seed : command_of (codes "sim" ∷ codes "-1" ∷ []) ≡ None
signed_seed = refl

too_great : command_of (codes "sim" ∷ codes "18446744073709551616" ∷ []) ≡ None
too_great = refl

no_words : command_of [] ≡ None
no_words = refl

three_words : command_of (codes "sim" ∷ codes "0" ∷ codes "0" ∷ []) ≡ None
three_words = refl

other_word : command_of (codes "load" ∷ codes "1001" ∷ []) ≡ None
other_word = refl

option : command_of (codes "--sim" ∷ codes "0" ∷ []) ≡ None
option = refl
