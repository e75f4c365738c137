use Rattle.std.specs.Fmt.{decimal}
use Rattle.fs_script.specs.Text.{flag_text}
use Rattle.fs_report.proofs.TextLemmas.{sized_text}
use Rattle.fs_report.proofs.answers.append_answer.Goals as goal

pub returns-in_ok-append_flag-in-Sized : goal.returns-in_ok-append_flag-in-Sized
returns-in_ok-append_flag-in-Sized c =
    rw (c.in-Sized.is, ← c.v-in-Sized.view_is, c.in_ok-append_flag-in-Sized.ensures, c.in_ok-append_number-in-Sized-2.ensures, c.in_ok-append_number-in-Sized.ensures)
    (sized_text c.args.out.now.items (decimal c.v-in-Sized.inside.0) (decimal c.in-Sized.n) (flag_text c.in-Sized.frozen))
