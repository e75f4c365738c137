use Rattle.fs_types.proofs.Common.{true}
use Rattle.owner_book.specs.Commits.{AllHaveHolds}
use Rattle.owner_book.proofs.tests.lives.assert_calls.Given as goal

-- each path has its holds
abbrev pub invariant-loop-case : goal.invariant-loop-case
invariant-loop-case g l = AllHaveHolds (λ _. true) (λ h. h.piece) (λ h. h.bytes) l.book
