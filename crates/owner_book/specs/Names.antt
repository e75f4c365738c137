-- What a file is known by.
use Rattle.std.specs.Prelude.{ℕ, Bool, ◌&&◌, List, nat_eq}
use Rattle.std.specs.Str.{bytes_eq}
use Rattle.owner_book.specs.declared.file_key.FileKey.{FileKey}

-- two files have one gfid and one path
abbrev pub same_file : ℕ → List ℕ → ℕ → List ℕ → Bool
same_file g q gfid p = nat_eq g gfid && bytes_eq q p

-- the key is of this gfid and this path
abbrev pub names_key : ℕ → List ℕ → FileKey → Bool
names_key gfid p k = same_file gfid p k.gfid k.path.items
