-- What a client did since it began, and what its files and the front of a path have to do with that.
use Rattle.std.specs.Prelude.{◌≡◌, ◌≤◌, ◌⊎◌, ◌↔◌, ℕ, List, [], ◌∷◌, ◌++◌, fold, Contains, IsTrue, if◌then◌else◌}
use Rattle.std.specs.Str.{bytes_eq}
use Rattle.client_files.specs.Kept.{KeptBoard, KeptFiles, at_front, is_open_in, noted_in, path_in, told_in, untouched, with_note, with_open}
use Rattle.client_files.specs.Noted.{unseen}
use Rattle.client_files.specs.PathMap.{Changes, IsAsBefore}
use Rattle.client_files.specs.declared.noted.Noted.{Noted}

-- a client opened a path, or noted a version of one with the attributes of its file there; or all clients were told of one
pub data Deed : Type 0 where
  opening : List ℕ → Deed
  noting : List ℕ → Noted → Deed
  telling : List ℕ → Noted → Deed

-- what was told last of a path, after one deed more
abbrev pub told_after : List ℕ → Noted → Deed → Noted
told_after q n (opening p) = n
told_after q n (noting p m) = n
told_after q n (telling p m) = if bytes_eq q p then m else n

-- what was told last of a path
abbrev pub last_told : List Deed → List ℕ → Noted
last_told deeds q = fold (told_after q) unseen deeds

-- of the versions of a path that were noted none is greater than this, and it was noted, unless none was
pub record IsGreatestNoted (deeds : List Deed) (p : List ℕ) (n : Noted) : Type 0 where
  pub greatest : (m : Noted) → Contains deeds (noting p m) → m.version ≤ n.version
  pub noted : (n ≡ unseen) ⊎ Contains deeds (noting p n)

-- files and a board are what these deeds make of them: open are the paths that were opened, of each the greatest version is
-- noted, and the board has what was told last
pub record StandsFor (deeds : List Deed) (files : KeptFiles) (board : KeptBoard) : Type 0 where
  pub opened : (p : List ℕ) → IsTrue (is_open_in files p) ↔ Contains deeds (opening p)
  pub noted : (p : List ℕ) → IsGreatestNoted deeds p (noted_in files p)
  pub told : (p : List ℕ) → told_in board p ≡ last_told deeds p

-- nothing was done
abbrev pub NewStands : Type 0
NewStands =
    (files : KeptFiles) (board : KeptBoard) → ((p : List ℕ) → path_in files p ≡ untouched) → ((p : List ℕ) → told_in board p ≡ unseen)
    → StandsFor [] files board

-- one deed more, which opened a path
abbrev pub OpenedStands : Type 0
OpenedStands =
    (deeds : List Deed) (old new : KeptFiles) (board : KeptBoard) (p : List ℕ)
    → Changes (path_in old) (path_in new) p (with_open (path_in old p))
    → StandsFor deeds old board → StandsFor (deeds ++ opening p ∷ []) new board

-- one deed more, which noted a version
abbrev pub NotedStands : Type 0
NotedStands =
    (deeds : List Deed) (old new : KeptFiles) (board : KeptBoard) (p : List ℕ) (n : Noted)
    → Changes (path_in old) (path_in new) p (with_note n (path_in old p))
    → StandsFor deeds old board → StandsFor (deeds ++ noting p n ∷ []) new board

-- one deed more, which told all clients
abbrev pub ToldStands : Type 0
ToldStands =
    (deeds : List Deed) (files : KeptFiles) (old new : KeptBoard) (p : List ℕ) (n : Noted) → Changes (told_in old) (told_in new) p n
    → StandsFor deeds files old → StandsFor (deeds ++ telling p n ∷ []) files new

-- no deed more, since memory ran out
abbrev pub SameStands : Type 0
SameStands =
    (deeds : List Deed) (old new : KeptFiles) (before after : KeptBoard) → IsAsBefore (path_in old) (path_in new)
    → IsAsBefore (told_in before) (told_in after) → StandsFor deeds old before → StandsFor deeds new after

-- a path that was opened is open, whatever was done since
abbrev pub StaysOpen : Type 0
StaysOpen =
    (deeds since : List Deed) (files : KeptFiles) (board : KeptBoard) (p : List ℕ) → StandsFor (deeds ++ since) files board → Contains deeds (opening p)
    → IsTrue (is_open_in files p)

-- of what was noted of a path, and of what was told last, no version is greater than this one, and it was noted or told with
-- these attributes, unless nothing was
pub record IsGreatest (deeds : List Deed) (p : List ℕ) (n : Noted) : Type 0 where
  pub noted : (m : Noted) → Contains deeds (noting p m) → m.version ≤ n.version
  pub board : (last_told deeds p).version ≤ n.version
  pub said : (n ≡ unseen) ⊎ ((n ≡ last_told deeds p) ⊎ Contains deeds (noting p n))

-- what is known of a path at the front is of the greatest version
abbrev pub FrontIsGreatest : Type 0
FrontIsGreatest =
    (deeds : List Deed) (files : KeptFiles) (board : KeptBoard) (p : List ℕ) → StandsFor deeds files board
    → IsGreatest deeds p (at_front files board p)
