use Rattle.fs_types.proofs.Common.{◌≡◌, ◌++◌, ◌-◌}
use Rattle.owner_book.specs.Lookups.{parts_in}
use Rattle.owner_book.proofs.looking.parts.Given as goal

-- the parts so far, and those from the place on, are all
abbrev pub invariant-loop-part : goal.invariant-loop-part
invariant-loop-part g l =
    l.parts.items ++ parts_in l.at l.to l.held.fragments ≡ parts_in l.initial.at l.to l.held.fragments

abbrev pub decreases-loop-part : goal.decreases-loop-part
decreases-loop-part g l = l.to - l.at
