use Rattle.fs_types.proofs.Common.{arith, append-nil}
use Rattle.std.proofs.lemmas.List.{take_rest}
use Rattle.span_list.proofs.Positions.{rests_before}
use Rattle.span_list.proofs.places.part_before.Goals as goal

pub returns-in-Some-clause-part : goal.returns-in-Some-clause-part
returns-in-Some-clause-part c = grind (arith, take_rest, append-nil, rests_before c.args.at c.args.frags.now c.requires)

pub returns-in-None-clause-part : goal.returns-in-None-clause-part
returns-in-None-clause-part c = grind (arith, take_rest, rests_before c.args.at c.args.frags.now c.requires)
