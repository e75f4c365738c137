use Rattle.std.proofs.Common.{arith}
use Rattle.span_list.proofs.PlainLists.{splice-splice}
use Rattle.span_list.proofs.replacing.replace.Goals as goal

pub returns-clause-items : goal.returns-clause-items
returns-clause-items c = grind (arith, splice-splice)
