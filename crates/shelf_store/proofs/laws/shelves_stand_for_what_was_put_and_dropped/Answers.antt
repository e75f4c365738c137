use Rattle.shelf_store.proofs.Stands.{dropped-stands, lent-stands, put-stands}
use Rattle.shelf_store.proofs.laws.shelves_stand_for_what_was_put_and_dropped.Goals as goal

pub returns-clause-put : goal.returns-clause-put
returns-clause-put g c = put-stands

pub returns-clause-dropped : goal.returns-clause-dropped
returns-clause-dropped g c = dropped-stands

pub returns-clause-lent : goal.returns-clause-lent
returns-clause-lent g c = lent-stands
