-- What is seen of a range, as the runs that a read of it fetches, and that they can be fetched.
use Rattle.fs_types.proofs.Common.{◌≡◌, ℕ, ◌+◌, ◌<◌, ◌≤◌, ◌^◌, List, length, All, Option, arith, sym, subst}
use Rattle.fs_types.specs.Pieces.{Piece}
use Rattle.owner_book.specs.declared.looked.Looked.{Looked}
use Rattle.fs_script.specs.Vocabulary.{Mark, runs}
use Rattle.core_machine.specs.declared.plain_hold.PlainHold.{PlainHold}
use Rattle.core_machine.specs.Fetching.{AreFetchable}
use Rattle.core_machine.specs.ReadRuns.{joined_from}
use Rattle.core_machine.specs.Reads.{IsSeenIn}
use Rattle.core_machine.proofs.FetchableRuns.{AreFetchable-runs}
use Rattle.core_machine.proofs.JoinedParts.{joined-runs, spans-behind}

module _ (marks : List (Option Mark)) (off len : ℕ) (hold_at : Piece → Option PlainHold) (seen : Looked PlainHold)
    (is : IsSeenIn marks off len hold_at seen) where
  -- the fragments stand in the range, within the longest file
  pub seen-behind : All (λ f. off ≤ f.at) seen.frags.items
  seen-behind = spans-behind seen.frags.items off is.spans is.before

  pub seen-small : All (λ f. f.at + f.len < 2 ^ 64) seen.frags.items
  seen-small k d within = let end = (is.spans.each k d within).in_file in omega (arith, end)

  -- the runs that they make are those of the marks, and can be fetched
  pub seen-runs : joined_from off seen.frags.items ≡ runs marks
  seen-runs = joined-runs marks off seen.frags.items is.spans is.before is.shows

  pub seen-fetchable : AreFetchable hold_at (length marks) (joined_from off seen.frags.items)
  seen-fetchable = subst (AreFetchable hold_at (length marks)) (sym seen-runs) (AreFetchable-runs hold_at marks is.held)
