use Rattle.owner_book.proofs.Named.{pieces-in_range, pins-in_range}
use Rattle.owner_book.proofs.Parts.{parts-in_range}
use Rattle.owner_book.proofs.laws.lookups_find_each_piece_of_their_range_once.Goals as goal

pub returns-clause-parts : goal.returns-clause-parts
returns-clause-parts g c = parts-in_range

pub returns-clause-pieces : goal.returns-clause-pieces
returns-clause-pieces g c = pieces-in_range

pub returns-clause-pins : goal.returns-clause-pins
returns-clause-pins g c = pins-in_range g.H.Hold
