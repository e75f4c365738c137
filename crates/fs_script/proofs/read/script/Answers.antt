use Rattle.std.proofs.Common.{sym}
use Rattle.fs_script.specs.Reading.Tokens.{lines_of}
use Rattle.fs_script.proofs.Reading.Scripts.{read_fits}
use Rattle.fs_script.proofs.read.script.Goals as goal

pub new-requires : goal.new-requires
new-requires c =
    let first = c.in_ok-first.first.now in
    let others = lines_of c.in_ok-first.others.now in
    read_fits first others c.in_ok-shape.shape c.in_ok-lines.lines.items (sym c.in_ok-shape.ensures) c.in_ok-lines.ensures
