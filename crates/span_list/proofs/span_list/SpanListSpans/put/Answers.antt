use Rattle.fs_types.proofs.Common.{rules}
use Rattle.span_list.proofs.Parts.{AreSpans-put}
use Rattle.span_list.proofs.span_list.SpanListSpans.put.Goals as goal

pub invariant_of-self-2 : goal.invariant_of-self-2
invariant_of-self-2 c = search (rules, AreSpans-put c.args.f c.args.self.now.frags.items)
