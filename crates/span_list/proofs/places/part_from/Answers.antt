use Rattle.fs_types.proofs.Common.{arith, append-nil}
use Rattle.span_list.proofs.Positions.{rests_from}
use Rattle.span_list.proofs.places.part_from.Goals as goal

pub returns-in-Some-clause-part : goal.returns-in-Some-clause-part
returns-in-Some-clause-part c = grind (arith, append-nil, rests_from c.args.at c.args.frags.now c.requires)

pub returns-in-None-clause-part : goal.returns-in-None-clause-part
returns-in-None-clause-part c = grind (arith, rests_from c.args.at c.args.frags.now c.requires)
