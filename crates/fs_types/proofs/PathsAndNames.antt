-- Paths and names in other words.
use Rattle.fs_types.proofs.Common.{◌≡◌, ℕ, ◌+◌, ◌<◌, ◌≤◌, ◌==◌, nat_eq, nat_le, true, false, ◌&&◌, not, List, [], ◌∷◌, ◌++◌, length, drop}
use Rattle.fs_types.proofs.Common.{refl, sym, ap, ◌∙◌, subst, arith, All, codes, leb-true, and_parts, and_from, nat_tests, Decides-eqb}
use Rattle.fs_types.proofs.Common.{common_steps, starts_is, All-weaker, list_all-append, AllPass-from_list_all, list_all-from_AllPass}
use Rattle.fs_types.proofs.Common.{join_with_byte-slice_split, length-slice_split, slice_split_at, slice_split_none, bytes_eq, list_all}
use Rattle.fs_types.proofs.Common.{join_with_byte, starts_with}
use Rattle.fs_types.specs.PathText.{IsPath, is_component, is_name_character, between_slashes, mount_point}
use Rattle.fs_types.specs.NameText.{IsName, is_name_part}
use Rattle.fs_types.specs.PathLaws.{IsMountedText, IsVisible}

-- a length that is not 0
some_from_test : (n : ℕ) → not (n == 0) ≡ true → 1 ≤ n
some_from_test n h = grind (arith, nat_tests)

-- the three tests of a path
path_tests : (bytes : List ℕ) → IsPath bytes →
    (length bytes ≤ 255) × (bytes ≡ mount_point ++ drop 9 bytes) × (list_all is_component (between_slashes (drop 9 bytes)) ≡ true)
path_tests bytes h =
    let outer = and_parts (nat_le (length bytes) 255 && starts_with nat_eq bytes mount_point)
    (list_all is_component (between_slashes (drop 9 bytes))) h in
    let inner = and_parts (nat_le (length bytes) 255) (starts_with nat_eq bytes mount_point) outer.0 in (
      leb-true (length bytes) 255 inner.0,
      (starts_is Decides-eqb bytes mount_point (starts_with nat_eq bytes mount_point) refl).0 inner.1,
      outer.1,
    )

-- a text whose parts are components isn't empty
rest_not_empty : (rest : List ℕ) → list_all is_component (between_slashes rest) ≡ true → 1 ≤ length rest
rest_not_empty [] h = cc
rest_not_empty (x ∷ xs) h = omega arith

-- a path has 10 to 255 bytes
pub path_bounds : (bytes : List ℕ) → IsPath bytes → (10 ≤ length bytes) × (length bytes ≤ 255)
path_bounds bytes h =
    let tests = path_tests bytes h in
    let some = rest_not_empty (drop 9 bytes) tests.2 in
    let whole : length bytes ≡ 9 + length (drop 9 bytes) = grind (arith, common_steps, ap length tests.1) in
    (omega arith, tests.0)

-- a character of a component is one of a name
part_of_character : (b : ℕ) → is_name_character b ≡ true → is_name_part b ≡ true
part_of_character b h = grind arith

-- a character of a name is visible
visible_part : (b : ℕ) → is_name_part b ≡ true → IsVisible b
visible_part b h = grind (arith, nat_tests)

-- a character of a component is no slash
no_slash : (b : ℕ) → is_name_character b ≡ true → (b == 47) ≡ false
no_slash b h = grind (arith, nat_tests)

-- the characters of a component
component_characters : (part : List ℕ) → is_component part ≡ true → All (λ b. is_name_character b ≡ true) part
component_characters part h =
    let some = not (length part == 0) in
    let characters = list_all is_name_character part in
    let not_one = not (bytes_eq part (codes ".")) in
    let first = and_parts (some && characters && not_one) (not (bytes_eq part (codes ".."))) h in
    let second = and_parts (some && characters) not_one first.0 in
    AllPass-from_list_all is_name_character part (and_parts some characters second.0).1

-- the characters of a component are those of names
component_parts : (part : List ℕ) → is_component part ≡ true → list_all is_name_part part ≡ true
component_parts part h =
    list_all-from_AllPass is_name_part part (All-weaker (λ b. is_name_character b ≡ true) (λ b. is_name_part b ≡ true) part_of_character
    part (component_characters part h))

-- components with slashes between them are text of a name
joined_parts : (parts : List (List ℕ)) → list_all is_component parts ≡ true → list_all is_name_part (join_with_byte 47 parts) ≡ true
joined_parts [] h = refl
joined_parts (x ∷ []) h = component_parts x (and_parts (is_component x) true h).0
joined_parts (x ∷ y ∷ parts) h =
    let tests = and_parts (is_component x) (list_all is_component (y ∷ parts)) h in
    list_all-append is_name_part x (47 ∷ join_with_byte 47 (y ∷ parts))
    ∙ and_from (list_all is_name_part x) (list_all is_name_part (join_with_byte 47 (y ∷ parts))) (component_parts x tests.0)
    (joined_parts (y ∷ parts) tests.1)

-- the tests of a name
name_from_tests : (bytes : List ℕ) → 1 ≤ length bytes → length bytes ≤ 255 → starts_with nat_eq bytes (codes "-") ≡ false
    → list_all is_name_part bytes ≡ true → IsName bytes
name_from_tests bytes some short first parts = grind (arith, nat_tests)

-- the tests of a name, the other way
name_tests : (bytes : List ℕ) → IsName bytes → (1 ≤ length bytes) × (length bytes ≤ 255) × (list_all is_name_part bytes ≡ true)
name_tests bytes h =
    let some = not (length bytes == 0) in
    let short = nat_le (length bytes) 255 in
    let first = not (starts_with nat_eq bytes (codes "-")) in
    let outer = and_parts (some && short && first) (list_all is_name_part bytes) h in
    let middle = and_parts (some && short) first outer.0 in
    let inner = and_parts some short middle.0 in
    (some_from_test (length bytes) inner.0, leb-true (length bytes) 255 inner.1, outer.1)

-- a path is within the grammar of names
pub name_from_path : (bytes : List ℕ) → IsPath bytes → IsName bytes
name_from_path bytes h =
    let tests = path_tests bytes h in
    let rest = drop 9 bytes in
    let joined = join_with_byte-slice_split 47 rest in
    let parts = subst (λ text. list_all is_name_part text ≡ true) joined (joined_parts (between_slashes rest) tests.2) in
    let short = subst (λ text. length text ≤ 255) tests.1 tests.0 in
    subst (λ text. IsName text) (sym tests.1) (name_from_tests (mount_point ++ rest) (omega arith) short refl parts)

-- a name has 1 to 255 bytes
pub name_bounds : (bytes : List ℕ) → IsName bytes → (1 ≤ length bytes) × (length bytes ≤ 255)
name_bounds bytes h = let tests = name_tests bytes h in (tests.0, tests.1)

-- each byte of a name, and so of a path, is visible
pub name_is_visible : (bytes : List ℕ) → IsName bytes → All IsVisible bytes
name_is_visible bytes h =
    All-weaker (λ b. is_name_part b ≡ true) IsVisible visible_part bytes (AllPass-from_list_all is_name_part bytes (name_tests bytes h).2)

-- each byte of a path is visible
pub path_is_visible : (bytes : List ℕ) → IsPath bytes → All IsVisible bytes
path_is_visible bytes h = name_is_visible bytes (name_from_path bytes h)

-- a path is the mount point, and then components with a slash between each two
pub mounted_from_path : (bytes : List ℕ) → IsPath bytes → IsMountedText bytes
mounted_from_path bytes h =
    let tests = path_tests bytes h in
    let rest = drop 9 bytes in
    let count = length-slice_split (λ b. b == 47) rest in (
      between_slashes rest,
      omega arith,
      AllPass-from_list_all is_component (between_slashes rest) tests.2,
      tests.1 ∙ ap (λ text. mount_point ++ text) (sym (join_with_byte-slice_split 47 rest)),
    )

-- components that are joined by slashes are cut there again
split_joined : (parts : List (List ℕ)) → 0 < length parts → list_all is_component parts ≡ true
    → between_slashes (join_with_byte 47 parts) ≡ parts
split_joined [] l h = absurd (omega arith)
split_joined (x ∷ []) l h =
    slice_split_none (λ b. b == 47) x (All-weaker (λ b. is_name_character b ≡ true) (λ b. (b == 47) ≡ false) no_slash x
    (component_characters x (and_parts (is_component x) true h).0))
split_joined (x ∷ y ∷ parts) l h =
    let tests = and_parts (is_component x) (list_all is_component (y ∷ parts)) h in
    slice_split_at (λ b. b == 47) x 47 (join_with_byte 47 (y ∷ parts))
    (All-weaker (λ b. is_name_character b ≡ true) (λ b. (b == 47) ≡ false) no_slash x (component_characters x tests.0)) refl
    ∙ ap (λ more. x ∷ more) (split_joined (y ∷ parts) (omega arith) tests.1)

-- the mount point, and components with slashes between them, are a path
mounted_path : (parts : List (List ℕ)) → 0 < length parts → list_all is_component parts ≡ true
    → length (mount_point ++ join_with_byte 47 parts) ≤ 255 → IsPath (mount_point ++ join_with_byte 47 parts)
mounted_path parts l h s =
    let split = split_joined parts l h in
    and_from (nat_le (length (mount_point ++ join_with_byte 47 parts)) 255 && true)
    (list_all is_component (between_slashes (join_with_byte 47 parts)))
    (grind (arith, nat_tests)) (ap (λ ps. list_all is_component ps) split ∙ h)

-- and such a text of at most 255 bytes is a path
pub path_from_mounted : (bytes : List ℕ) → IsMountedText bytes → length bytes ≤ 255 → IsPath bytes
path_from_mounted bytes m s =
    subst (λ text. IsPath text) (sym m.3) (mounted_path m.0 m.1 (list_all-from_AllPass is_component m.0 m.2)
    (subst (λ text. length text ≤ 255) m.3 s))

-- what a function's attribute cites
pub ruleset mounted_texts = (mounted_from_path, path_from_mounted)
