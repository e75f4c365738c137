use Rattle.owner_book.proofs.SameState.{lent-stands, looked-stands, replica-shows}
use Rattle.owner_book.proofs.States.{committed-stands, created-stands, frozen-by_the_last, laminated-stands, none-stands, truncated-stands, unlinked-stands}
use Rattle.owner_book.proofs.laws.files_are_states_of_their_journals.Goals as goal

pub returns-clause-none : goal.returns-clause-none
returns-clause-none g c = none-stands

pub returns-clause-created : goal.returns-clause-created
returns-clause-created g c = created-stands

pub returns-clause-committed : goal.returns-clause-committed
returns-clause-committed g c = committed-stands g.H.Hold.piece

pub returns-clause-truncated : goal.returns-clause-truncated
returns-clause-truncated g c = truncated-stands g.H.Hold.piece

pub returns-clause-laminated : goal.returns-clause-laminated
returns-clause-laminated g c = laminated-stands g.H.Hold.piece

pub returns-clause-frozen : goal.returns-clause-frozen
returns-clause-frozen g c = frozen-by_the_last

pub returns-clause-unlinked : goal.returns-clause-unlinked
returns-clause-unlinked g c = unlinked-stands

pub returns-clause-looked : goal.returns-clause-looked
returns-clause-looked g c = looked-stands g.H.Hold

pub returns-clause-lent : goal.returns-clause-lent
returns-clause-lent g c = lent-stands

pub returns-clause-replicated : goal.returns-clause-replicated
returns-clause-replicated g c = replica-shows g.H.Hold
