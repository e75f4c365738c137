use Rattle.std.proofs.Common.{append_assoc}
use Rattle.top_call.proofs.refusal.append_over_limit.Goals as goal

pub returns : goal.returns
returns c = rw (c.in_ok-push.ensures.items, c.in_ok-append_number.ensures, c.from.ensures, c.line.view_is) (simp append_assoc)
