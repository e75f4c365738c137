-- Fragments with the holds of the pieces that they name: what putting some over others gives, and which holds no fragment
-- needs any more.
use Rattle.std.specs.Prelude.{◌≡◌, ℕ, ◌+◌, ◌*◌, ◌≤◌, Bool, false, IsTrue, List, ◌++◌, fold, find, All, AllPairs, Contains, Option, Some}
use Rattle.std.specs.Prelude.{None, is_some, if◌then◌else◌}
use Rattle.std.specs.List.{list_any}
use Rattle.fs_types.specs.Fragments.{piece_eq, fragment_count}
use Rattle.fs_types.specs.Pieces.{Piece, Fragment}
use Rattle.span_list.specs.Spans.{AreSpans, put_fragment, cut_fragments}
use Rattle.piece_table.specs.PieceTable.{Pieces, HoldSet, hold_of, number_of}

-- fragments, and for each piece its hold, where some fragment names it
pub record Held (H : Type 0) : Type 0 where
  pub fragments : List Fragment
  pub hold_of : Piece → Option H

-- some fragment names a piece
abbrev pub is_named : List Fragment → Piece → Bool
is_named fs q = list_any (λ f. piece_eq f.piece q) fs

-- the hold of a piece while some fragment of these names it
abbrev pub while_named : {H : Type 0} → List Fragment → (Piece → Option H) → Piece → Option H
while_named fs hold_of q = if is_named fs q then hold_of q else None

-- one fragment with its hold was put over the others: the piece of the fragment has that hold, and every other piece its own
-- while some fragment names it
pub record Puts {H : Type 0} (f : Fragment) (h : H) (old new : Held H) : Type 0 where
  pub fragments : new.fragments ≡ put_fragment f old.fragments
  pub holds : (q : Piece) → new.hold_of q ≡ (if piece_eq q f.piece then Some h else while_named new.fragments old.hold_of q)

-- the fragments of one list put over others in its order
abbrev pub put_fragments : List Fragment → List Fragment → List Fragment
put_fragments over fs = fold (λ us f. put_fragment f us) fs over

-- all fragments of another were put over these, in order, with their holds
pub record PutsAll {H : Type 0} (over old new : Held H) : Type 0 where
  pub fragments : new.fragments ≡ put_fragments over.fragments old.fragments
  pub holds : (q : Piece) → new.hold_of q
      ≡ (if is_named over.fragments q then over.hold_of q else while_named new.fragments old.hold_of q)

-- these are the holds of the pieces that no fragment names any more, each once
pub record AreGone {H : Type 0} (piece : H → Piece) (old new : Held H) (gone : List H) : Type 0 where
  pub held : All (λ h. old.hold_of (piece h) ≡ Some h) gone
  pub unnamed : All (λ h. is_named new.fragments (piece h) ≡ false) gone
  pub each : (q : Piece) (h : H) → old.hold_of q ≡ Some h → is_named new.fragments q ≡ false → Contains gone h
  pub once : AllPairs (λ g h. piece_eq (piece g) (piece h) ≡ false) gone

-- the holds that no fragment needs any more were added to a list
abbrev pub HandsOver : {H : Type 0} → (H → Piece) → Held H → Held H → List H → List H → Type 0
HandsOver {H} piece old new before after = (gone : List H) × (after ≡ before ++ gone) × AreGone piece old new gone

-- a fragment lies in the piece that it names, where that has a hold
abbrev pub LiesIn : {H : Type 0} → (H → ℕ) → (Piece → Option H) → Fragment → Type 0
LiesIn {H} byte_count hold_of f = (h : H) → hold_of f.piece ≡ Some h → f.from + f.len ≤ byte_count h

-- each piece that is named has a ready hold of its own in which its fragments lie, and no other piece has one
pub record AreHeld {H : Type 0} (is_ready : H → Bool) (piece_of : H → Piece) (byte_count : H → ℕ) (x : Held H) : Type 0 where
  pub spans : AreSpans x.fragments
  pub named : (q : Piece) → is_some (x.hold_of q) ≡ is_named x.fragments q
  pub piece : (q : Piece) (h : H) → x.hold_of q ≡ Some h → piece_of h ≡ q
  pub ready : (q : Piece) (h : H) → x.hold_of q ≡ Some h → IsTrue (is_ready h)
  pub within : All (LiesIn byte_count x.hold_of) x.fragments

-- what is kept: fragments in order of place, how many more of them fit without taking memory, and a table of the pieces that
-- they name
pub record Kept (H : Type 0) : Type 0 where
  pub fragments : List Fragment
  pub spare : ℕ
  pub pieces : Pieces H

abbrev pub kept_with : {H : Type 0} → List Fragment → ℕ → Pieces H → Kept H
kept_with fragments spare pieces = record { fragments = fragments; spare = spare; pieces = pieces }

-- what is kept where no more fragments fit
abbrev pub kept : {H : Type 0} → List Fragment → Pieces H → Kept H
kept fragments pieces = kept_with fragments 0 pieces

-- so many fragments of new pieces can be put without taking memory: each adds a piece, and at most two fragments
pub record HasRoom {H : Type 0} (n : ℕ) (x : Kept H) : Type 0 where
  pub fragments : 2 * n ≤ x.spare
  pub pieces : n ≤ x.pieces.spare

-- what is kept as fragments with holds
abbrev pub held : {H : Type 0} → Kept H → Held H
held x = record { fragments = x.fragments; hold_of = hold_of x.pieces }

-- the fragments are in order, the pieces that have a hold are those that some fragment names, and the table counts the
-- fragments of each: this is so whatever the holds are
pub record IsCounted {H : Type 0} (x : Kept H) : Type 0 where
  pub spans : AreSpans x.fragments
  pub named : (q : Piece) → is_some (hold_of x.pieces q) ≡ is_named x.fragments q
  pub numbers : (q : Piece) → number_of x.pieces q ≡ fragment_count q x.fragments

-- one piece has another hold, where it has one: its number stays, the fragments, their room, and all other pieces
pub record SetsHold {H : Type 0} (p : Piece) (h : H) (old new : Kept H) : Type 0 where
  pub fragments : new.fragments ≡ old.fragments
  pub spare : new.spare ≡ old.spare
  pub pieces : HoldSet p h old.pieces new.pieces

-- what a push has: its fragments, and the holds of the pieces that they name
abbrev pub pushed : {H : Type 0} → (H → Piece) → List Fragment → List H → Held H
pushed piece frags holds = record { fragments = frags; hold_of = λ q. find (λ h. piece_eq (piece h) q) holds }

-- what is left of fragments with holds once the bytes from a place on are dropped: each piece that is named still has its hold
pub record Cuts {H : Type 0} (size : ℕ) (old new : Held H) : Type 0 where
  pub fragments : new.fragments ≡ cut_fragments size old.fragments
  pub holds : (q : Piece) → new.hold_of q ≡ while_named new.fragments old.hold_of q
