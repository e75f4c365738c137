-- Payloads that stand in the script itself.
use Rattle.std.specs.Prelude.{ℕ, Bool, ◌&&◌, nat_le, List, IsTrue}
use Rattle.std.specs.List.{list_all}

-- a printable byte, and no space
abbrev pub is_text_byte : ℕ → Bool
is_text_byte b = nat_le 33 b && nat_le b 126

abbrev pub AreTextBytes : List ℕ → Type 0
AreTextBytes bytes = IsTrue (list_all is_text_byte bytes)
