use Rattle.client_files.proofs.Stands.{front-is-greatest}
use Rattle.client_files.proofs.laws.the_front_is_the_greatest_version.Goals as goal

pub returns : goal.returns
returns c = front-is-greatest
