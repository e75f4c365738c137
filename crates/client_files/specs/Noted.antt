-- Versions of a path with the attributes of its file there, and which of two is the later.
use Rattle.std.specs.Prelude.{nat_le, false, if◌then◌else◌}
use Rattle.client_files.specs.declared.noted.Noted.{Noted}

-- what is known of a path of which nothing was said: it has no file at version 0
abbrev pub unseen : Noted
unseen = record { version = 0; attr = record { exists = false; size = 0; frozen = false } }

-- the one of the greater version, and the first where both are of the same
abbrev pub later_of : Noted → Noted → Noted
later_of a b = if nat_le b.version a.version then a else b
