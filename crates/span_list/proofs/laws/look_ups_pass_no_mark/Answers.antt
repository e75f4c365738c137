use Rattle.span_list.proofs.NextFragments.{mark_at-before_next, mark_at-in_next, mark_at-after_last}
use Rattle.span_list.proofs.laws.look_ups_pass_no_mark.Goals as goal

pub returns : goal.returns
returns c = record { before = mark_at-before_next; within = mark_at-in_next; none = mark_at-after_last }
