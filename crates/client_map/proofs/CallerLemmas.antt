-- What a caller cites of maps: the crates above import from here alone.

-- what a line writes is told by the holds of its parts
pub use Rattle.client_map.proofs.WriteParts.{write_of-parts}
-- when it may be added, and which mark stands at each place then, where all ends, and which hold each piece has
pub use Rattle.client_map.proofs.Added.{AreOfParts, part-holds, may-add, marks-added, holds-added}
-- all fragments that are pending end by the last end, which is the first such place, and within the longest file
pub use Rattle.client_map.proofs.Ends.{pending_end-ends, pending_end-least, pending_end-in_file}
-- what is pending on the path of a change, and on every other
pub use Rattle.client_map.proofs.Paths.{at-changed, at-other}
use Rattle.fs_types.proofs.Common.{◌≡◌, ℕ, ◌≤◌, Bool, List, Some, IsTrue, refl, sym, subst, cond_both, arith, none-some, bytes_eq}
use Rattle.fs_types.specs.Fragments.{end_of}
use Rattle.fs_types.specs.Pieces.{Piece}
use Rattle.span_list.proofs.CallerLemmas.{AllPairs-nil}
use Rattle.piece_table.specs.HeldSpans.{AreHeld, Held}
use Rattle.piece_table.proofs.CallerLemmas.{held-anew}
use Rattle.client_map.specs.Calls.{AllHaveHolds, Changes, IsAsBefore}
use Rattle.client_map.specs.HoldLends.{with_hold}
use Rattle.client_map.specs.Kept.{MapKept, nothing_pending, pending_in}

module _ {H : Type 0} (is_ready : H → Bool) (piece : H → Piece) (byte_count : H → ℕ) where
  -- where nothing is pending no piece has a hold
  holds-nothing : AreHeld is_ready piece byte_count nothing_pending
  holds-nothing = record {
    spans = record { each = λ k d below. absurd (omega (arith, below)); in_order = AllPairs-nil (λ f g. end_of f ≤ g.at) };
    named = λ q. refl;
    piece = λ q h is. absurd (none-some h is);
    ready = λ q h is. absurd (none-some h is);
    within = λ k d below. absurd (omega (arith, below));
  }

  -- the paths of a new map have their holds
  pub holds-new : (map : MapKept H) → ((q : List ℕ) → pending_in map q ≡ nothing_pending) → AllHaveHolds is_ready piece byte_count map
  holds-new map none q = subst (AreHeld is_ready piece byte_count) (sym (none q)) holds-nothing

  -- and those of a map that is as it was, or in which one path changed to one that has its own
  pub holds-same : (old new : MapKept H) → IsAsBefore old new → AllHaveHolds is_ready piece byte_count old
      → AllHaveHolds is_ready piece byte_count new
  holds-same old new same all q = subst (AreHeld is_ready piece byte_count) (sym (same.paths q)) (all q)

  pub holds-changed : (old new : MapKept H) (p : List ℕ) (x : Held H) → Changes old new p x → AreHeld is_ready piece byte_count x
      → AllHaveHolds is_ready piece byte_count old → AllHaveHolds is_ready piece byte_count new
  holds-changed old new p x changes has all q =
      subst (AreHeld is_ready piece byte_count) (sym (changes.paths q))
      (cond_both (bytes_eq q p) x (pending_in old q) (AreHeld is_ready piece byte_count) (λ _. has) (λ _. all q))

  -- as one has of which all was taken
  pub holds-taken : (old new : MapKept H) (p : List ℕ) → Changes old new p nothing_pending → AllHaveHolds is_ready piece byte_count old
      → AllHaveHolds is_ready piece byte_count new
  holds-taken old new p changes all = holds-changed old new p nothing_pending changes holds-nothing all

  -- and one of which a hold was lent has its own where the one that came back is ready, and of the same piece and bytes
  pub holds-lent : (old new : MapKept H) (p : List ℕ) (id : Piece) (h w : H) → Changes old new p (with_hold id w (pending_in old p))
      → (pending_in old p).hold_of id ≡ Some h → IsTrue (is_ready w) → piece w ≡ piece h → byte_count w ≡ byte_count h
      → AllHaveHolds is_ready piece byte_count old → AllHaveHolds is_ready piece byte_count new
  holds-lent old new p id h w changes there ready same_piece same_bytes all =
      holds-changed old new p (with_hold id w (pending_in old p)) changes
      (held-anew is_ready piece byte_count id h w (pending_in old p) there ready same_piece same_bytes (all p)) all
