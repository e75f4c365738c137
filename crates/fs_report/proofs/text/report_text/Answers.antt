use Rattle.fs_report.proofs.TextLemmas.{text-of_parts}
use Rattle.fs_report.proofs.text.report_text.Goals as goal

pub returns : goal.returns
returns c =
    rw (
      c.in_ok-extend_from_slice.ensures.items,
      c.in_ok-append_slots.ensures,
      c.in_ok-append_paths.ensures,
      c.in_ok-append_answers.ensures,
      c.new-out.ensures.items,
    ) (text-of_parts c.args.r.now)
