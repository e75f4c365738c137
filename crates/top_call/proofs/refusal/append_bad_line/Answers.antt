use Rattle.std.proofs.Common.{append_assoc}
use Rattle.top_call.proofs.refusal.append_bad_line.Goals as goal

pub returns : goal.returns
returns c =
    rw (
      c.in_ok-push.ensures.items,
      c.in_ok-extend_from_slice-2.ensures.items,
      c.reason_text.ensures,
      c.in_ok-extend_from_slice.ensures.items,
      c.in_ok-append_number.ensures,
      c.from.ensures,
      c.line.view_is,
    )
    (simp append_assoc)
