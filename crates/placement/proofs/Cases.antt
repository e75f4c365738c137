-- The definitions at single values.
use Rattle.std.proofs.Common.{◌≡◌, ℕ, List, [], ◌∷◌, Some, None, refl}
use Rattle.placement.specs.Placement.{child_of, distance_of, gfid_of_digest, owner, node}

-- the MD5 digest of the bytes `abc`
abbrev digest_of_abc : List ℕ
digest_of_abc = 0x90 ∷ 0x01 ∷ 0x50 ∷ 0x98 ∷ 0x3c ∷ 0xd2 ∷ 0x4f ∷ 0xb0 ∷ 0xd6 ∷ 0x96 ∷ 0x3f ∷ 0x7d ∷ 0x28 ∷ 0xe1 ∷ 0x7f ∷ 0x72 ∷ []

gfid_of_abc : gfid_of_digest digest_of_abc ≡ 0x900150983cd24fb0
gfid_of_abc = refl

owner_of_abc : owner (gfid_of_digest digest_of_abc) 4 ≡ 0
owner_of_abc = refl

-- clients go round the servers
node_of_client_5 : node 5 4 ≡ 1
node_of_client_5 = refl

-- five servers in a binary tree whose root is server 3: its children are 4 and 0, and those of 4 are 1 and 2
distance_of_the_root : distance_of 3 5 3 ≡ 0
distance_of_the_root = refl

distance_round_the_last : distance_of 3 5 1 ≡ 3
distance_round_the_last = refl

first_child_of_the_root : child_of 3 3 2 5 1 ≡ Some 4
first_child_of_the_root = refl

second_child_of_the_root : child_of 3 3 2 5 2 ≡ Some 0
second_child_of_the_root = refl

first_child_of_4 : child_of 3 4 2 5 1 ≡ Some 1
first_child_of_4 = refl

second_child_of_4 : child_of 3 4 2 5 2 ≡ Some 2
second_child_of_4 = refl

server_0_has_no_child : child_of 3 0 2 5 1 ≡ None
server_0_has_no_child = refl

-- with an arity of 3 the second server has one child alone
first_child_of_three : child_of 3 4 3 5 1 ≡ Some 2
first_child_of_three = refl

no_second_child_of_three : child_of 3 4 3 5 2 ≡ None
no_second_child_of_three = refl

-- one server is a root without a child
one_server : child_of 0 0 2 1 1 ≡ None
one_server = refl
