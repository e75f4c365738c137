-- What a client keeps of paths, what all were told of them, and what follows for a path at the client's front.
use Rattle.std.specs.Prelude.{ℕ, Bool, true, false, List, unwrap_or, if◌then◌else◌}
use Rattle.client_files.specs.declared.file_path.FilePath.{FilePath}
use Rattle.client_files.specs.declared.may.May.{May}
use Rattle.client_files.specs.declared.may.May.TheVariants.{Yes, BadF, NoEnt, ReadOnly}
use Rattle.client_files.specs.declared.noted.Noted.{Noted}
use Rattle.client_files.specs.Noted.{later_of, unseen}
use Rattle.client_files.specs.PathMap.{Entries, entry_at}

-- what is kept of a client's paths, each under its bytes
abbrev pub KeptFiles : Type 0
KeptFiles = Entries FilePath

-- what is kept of the paths of which all clients were told, each under its bytes
abbrev pub KeptBoard : Type 0
KeptBoard = Entries Noted

-- a path on which the client did nothing
abbrev pub untouched : FilePath
untouched = record { is_open = false; noted = unseen }

-- what a client keeps of a path
unfoldable pub path_in : KeptFiles → List ℕ → FilePath
path_in files p = unwrap_or (entry_at files p) untouched

-- whether the client has opened it
abbrev pub is_open_in : KeptFiles → List ℕ → Bool
is_open_in files p = (path_in files p).is_open

-- the greatest version that the client noted of it, with the attributes of its file there
abbrev pub noted_in : KeptFiles → List ℕ → Noted
noted_in files p = (path_in files p).noted

-- what all clients were told of a path last
unfoldable pub told_in : KeptBoard → List ℕ → Noted
told_in board p = unwrap_or (entry_at board p) unseen

-- what a client knows of a path at its front: the later of what it noted and what all were told
abbrev pub at_front : KeptFiles → KeptBoard → List ℕ → Noted
at_front files board p = later_of (noted_in files p) (told_in board p)

-- a path once it was opened
abbrev pub with_open : FilePath → FilePath
with_open x = record { is_open = true; noted = x.noted }

-- a path once a version was noted: of the two versions the greater stays, with its attributes
abbrev pub with_note : Noted → FilePath → FilePath
with_note n x = record { is_open = x.is_open; noted = later_of x.noted n }

-- whether an open path of which this is known at the front may be written, and if not, why
abbrev pub may_write_at : Noted → May
may_write_at n = if n.attr.exists then if n.attr.frozen then ReadOnly n.version else Yes else NoEnt n.version

-- whether a client may write a path, and if not, why
abbrev pub may_write_in : KeptFiles → KeptBoard → List ℕ → May
may_write_in files board p = if is_open_in files p then may_write_at (at_front files board p) else BadF
