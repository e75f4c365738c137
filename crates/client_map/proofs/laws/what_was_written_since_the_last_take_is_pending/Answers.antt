use Rattle.client_map.proofs.Standing.{added-stands, lent-stands, new-stands, same-stands, taken-stands, taking-empties}
use Rattle.client_map.proofs.laws.what_was_written_since_the_last_take_is_pending.Goals as goal

pub returns-clause-none : goal.returns-clause-none
returns-clause-none g c = new-stands

pub returns-clause-added : goal.returns-clause-added
returns-clause-added g c = added-stands g.H.Hold.piece

pub returns-clause-taken : goal.returns-clause-taken
returns-clause-taken g c = taken-stands

pub returns-clause-emptied : goal.returns-clause-emptied
returns-clause-emptied g c = taking-empties

pub returns-clause-lent : goal.returns-clause-lent
returns-clause-lent g c = lent-stands

pub returns-clause-same : goal.returns-clause-same
returns-clause-same g c = same-stands
