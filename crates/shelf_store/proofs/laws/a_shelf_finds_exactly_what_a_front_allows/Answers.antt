use Rattle.shelf_store.proofs.Fronts.{finds-the_greatest, finds-what_is_allowed}
use Rattle.shelf_store.proofs.laws.a_shelf_finds_exactly_what_a_front_allows.Goals as goal

pub returns-clause-allowed : goal.returns-clause-allowed
returns-clause-allowed g c = finds-what_is_allowed

pub returns-clause-greatest : goal.returns-clause-greatest
returns-clause-greatest g c = finds-the_greatest
