use Rattle.client_files.proofs.PathMaps.{when-lent}
use Rattle.client_files.proofs.path_map.PathMap.set.Goals as goal

pub returns-in-Some-clause-set : goal.returns-in-Some-clause-set
returns-in-Some-clause-set g c = when-lent c.get_mut.result c.in-Some.there c.in-Some.is (c.get_mut.follows.holds c.args.value)
