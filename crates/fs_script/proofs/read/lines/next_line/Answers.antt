use Rattle.std.proofs.Common.{◌+◌, length, ◌<◌, arith, length-drop}
use Rattle.std.proofs.lemmas.List.{take_rest}
use Rattle.std.proofs.lemmas.Bool.Decides.{nat_tests}
use Rattle.fs_script.proofs.Lines.{first_token, first_line, last_line}
use Rattle.fs_script.proofs.read.lines.next_line.Goals as goal

pub returns-in-Some : goal.returns-in-Some
returns-in-Some c =
    let bs = c.args.text.now in
    let i = c.in-Some.end in
    let f = first_token 10 bs i (cc c.in-Some.ensures) in
    rw (take_rest bs (i + 1)) (first_line bs i (cc c.in-Some.ensures), omega (arith, f.within, length-drop (i + 1) bs))

pub returns-in-None-2 : goal.returns-in-None-2
returns-in-None-2 c =
    let some : 0 < length c.args.text.now = grind (arith, nat_tests, c.if-is_empty.ensures) in
    (last_line c.args.text.now (cc c.in-None-2.ensures) some, some)
