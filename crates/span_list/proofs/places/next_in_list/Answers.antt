use Rattle.fs_types.proofs.Common.{arith}
use Rattle.std.proofs.lemmas.List.{take_rest}
use Rattle.span_list.proofs.Positions.{next_fragment_is}
use Rattle.span_list.proofs.places.next_in_list.Goals as goal

pub returns : goal.returns
returns c = grind (arith, take_rest, next_fragment_is c.args.at c.args.frags.now)
