use Rattle.span_list.proofs.Marks.{mark_at-put, mark_at-cut}
use Rattle.span_list.proofs.laws.putting_and_cutting_are_by_place.Goals as goal

pub returns : goal.returns
returns c = record { put = mark_at-put; cut = mark_at-cut }
