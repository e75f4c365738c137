-- The command that the words after the program's name say.
use Rattle.std.specs.Prelude.{ℕ, List, [], ◌∷◌, codes, Option, None, option_map, if◌then◌else◌}
use Rattle.std.specs.Str.{bytes_eq}
use Rattle.fs_script.specs.Reading.Numbers.{number_of}
use Rattle.top_call.specs.declared.words.Command.{Command}
use Rattle.top_call.specs.declared.words.Command.TheVariants.{Sim}

-- exactly `sim` and a number
abbrev pub command_of : List (List ℕ) → Option Command
command_of (name ∷ seed ∷ []) =
    if bytes_eq name (codes "sim") then option_map Sim (number_of seed) else None
command_of words = None
