use Rattle.fs_types.proofs.Common.{rules}
use Rattle.span_list.proofs.Parts.{AreSpans-cut}
use Rattle.span_list.proofs.span_list.SpanListSpans.cut.Goals as goal

pub invariant_of-self : goal.invariant_of-self
invariant_of-self c = search (rules, AreSpans-cut c.args.size c.args.self.now.frags.items c.args.self.now.are_spans)
