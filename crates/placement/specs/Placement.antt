-- Which number names a file, which server owns it, which server is on a client's node, and which servers are whose children.
use Rattle.std.specs.Prelude.{ℕ, ◌+◌, ◌-◌, ◌*◌, ◌%◌, nat_lt, List, Option, Some, None, if◌then◌else◌}
use Rattle.md5.specs.Md5.{md5}
use Rattle.byteorder.specs.Endian.{big_number}

-- the number in the first eight bytes of a digest, the highest first
abbrev pub gfid_of_digest : List ℕ → ℕ
gfid_of_digest digest = big_number 8 digest

-- that of the digest of the whole path
abbrev pub gfid : List ℕ → ℕ
gfid path = gfid_of_digest (md5 path)

-- the server that owns the file with this number, one of so many
abbrev pub owner : ℕ → ℕ → ℕ
owner gfid servers = gfid % servers

-- the server on a client's node, one of so many
abbrev pub node : ℕ → ℕ → ℕ
node rank servers = rank % servers

-- how far a server is from the root, when the servers are counted from the root on and round
abbrev pub distance_of : ℕ → ℕ → ℕ → ℕ
distance_of root servers at = (at + (servers - root)) % servers

-- child i of a server, in the tree of an arity over all servers that has this root: the server that is arity times as far from the
-- root, and i further, where that is below the number of servers; else there is none
abbrev pub child_of : ℕ → ℕ → ℕ → ℕ → ℕ → Option ℕ
child_of root at arity servers i =
    let distance = arity * distance_of root servers at + i in
    if nat_lt distance servers then Some ((root + distance) % servers) else None
