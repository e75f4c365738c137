use Rattle.fs_types.proofs.Common.{◌≡◌, take}
use Rattle.owner_book.specs.Commits.{size_after}
use Rattle.owner_book.proofs.owned_file.size_after.Given as goal

-- the size is that after the fragments so far
abbrev pub invariant-loop-f : goal.invariant-loop-f
invariant-loop-f l = l.size ≡ size_after l.initial.size (take l.f-index l.frags)
