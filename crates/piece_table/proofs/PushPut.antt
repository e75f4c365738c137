-- A push that is put over fragments with holds.
use Rattle.fs_types.proofs.Common.{◌≡◌, ℕ, ◌+◌, ◌^◌, ◌<◌, Bool, true, List, Option, Some, None, IsTrue, is_some, refl, sym, ap, ◌∙◌}
use Rattle.fs_types.proofs.Common.{All, cond-true, false≢true, get_or}
use Rattle.std.specs.List.{find}
use Rattle.std.specs.Option.{option_or}
use Rattle.fs_types.specs.Fragments.{AreHeldFragments, fragment_count, held_pieces}
use Rattle.fs_types.specs.Pieces.{Fragment, Piece}
use Rattle.fs_types.specs.declared.limits.TheConstants.{LONGEST_FILE}
use Rattle.piece_table.specs.HeldSpans.{Held, Kept, PutsAll, is_named, pushed}
use Rattle.piece_table.specs.PieceTable.{Pieces, number_of, hold_of}
use Rattle.piece_table.proofs.AllPut.{AreMerged}
use Rattle.piece_table.proofs.Entered.{is_of}
use Rattle.piece_table.proofs.Holds.{IsKept}
use Rattle.piece_table.proofs.Pushed.{find-All, find-own, find-passes, holds_named, pushed_held}
use Rattle.piece_table.proofs.Tables.{same_piece}

-- a table with the pieces of a push, which are new to it
pub merged-push : {H : Type 0} (is_ready : H → Bool) (piece : H → Piece) (bytes : H → ℕ) (old : Kept H) (frags : List Fragment)
    (holds : List H) (merged : Pieces H) → IsKept is_ready piece bytes old
    → AreHeldFragments LONGEST_FILE frags (held_pieces piece bytes holds) → All (λ h. IsTrue (is_ready h)) holds
    → All (λ h. bytes h < 2 ^ 32) holds → All (λ h. hold_of old.pieces (piece h) ≡ None) holds
    → ((q : Piece) → number_of merged q ≡ number_of old.pieces q + fragment_count q frags)
    → ((q : Piece) → hold_of merged q ≡ option_or (find (is_of piece q) holds) (hold_of old.pieces q))
    → AreMerged is_ready piece bytes old (pushed piece frags holds) merged
merged-push {H} is_ready piece bytes old frags holds merged is_kept well ready short new numbers merges = record {
  is_kept = is_kept;
  over_held = pushed_held piece bytes is_ready frags holds well ready short;
  apart = λ q. apart q (find (is_of piece q) holds) refl;
  holds = merges;
  numbers = numbers;
}
  where
    apart : (q : Piece) (o : Option H) → find (is_of piece q) holds ≡ o → is_some o ≡ true → hold_of old.pieces q ≡ None
    apart q None is some = absurd (false≢true some)
    apart q (Some h) is some =
        ap (hold_of old.pieces) (sym (same_piece (piece h) q (find-passes (is_of piece q) holds h is)))
        ∙ find-All (λ g. hold_of old.pieces (piece g) ≡ None) (is_of piece q) holds h new is

-- the holds of a push that was put are those of its pieces
pub own_holds : {H : Type 0} (is_ready : H → Bool) (piece : H → Piece) (bytes : H → ℕ) (old new : Held H) (frags : List Fragment)
    (holds : List H) → AreHeldFragments LONGEST_FILE frags (held_pieces piece bytes holds) → PutsAll (pushed piece frags holds) old new
    → All (λ h. new.hold_of (piece h) ≡ Some h) holds
own_holds is_ready piece bytes old new frags holds well puts k d inside =
    let q : Piece = piece (get_or holds k d) in
    puts.holds q ∙ cond-true (is_named frags q) _ _ (holds_named piece bytes is_ready frags holds well k d inside)
    ∙ find-own piece bytes is_ready frags holds well k d inside
