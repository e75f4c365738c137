use Rattle.std.specs.Fmt.{decimal}
use Rattle.fs_script.specs.Text.{flag_text}
use Rattle.fs_report.proofs.TextLemmas.{unread_text}
use Rattle.fs_report.proofs.paths.append_state.Goals as goal

pub returns-in_ok-append_number-in-Unread-2 : goal.returns-in_ok-append_number-in-Unread-2
returns-in_ok-append_number-in-Unread-2 c =
    rw (c.in-Unread.is, c.in_ok-append_number-in-Unread-2.ensures, c.from.ensures, ← c.rank.view_is, c.in_ok-append_flag-in-Unread.ensures, c.in_ok-append_number-in-Unread.ensures)
    (unread_text c.args.out.now.items (decimal c.in-Unread.n) (flag_text c.in-Unread.frozen) (decimal c.rank.inside.0))
