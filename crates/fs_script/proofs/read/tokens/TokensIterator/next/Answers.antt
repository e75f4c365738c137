use Rattle.std.proofs.Common.{◌+◌, sym, ap, ◌∙◌, length, rules}
use Rattle.std.proofs.lemmas.List.{take_rest}
use Rattle.fs_script.proofs.Lines.{first_token, last_token}
use Rattle.fs_script.proofs.read.tokens.TokensIterator.next.Goals as goal

pub returns-in-Some-clause-steps : goal.returns-in-Some-clause-steps
returns-in-Some-clause-steps c =
    let text = c.in_ok-text.text.now in
    let was = rw c.in_ok-text.was at c.self.view_is in
    let first = first_token c.self.inside.separator text c.in-Some.end (cc c.in-Some.ensures) in
    rw (take_rest text (c.in-Some.end + 1)) (sym was ∙ first.tokens)

pub returns-in-Some-clause-goes : goal.returns-in-Some-clause-goes
returns-in-Some-clause-goes c =
    let text = c.in_ok-text.text.now in
    let was = rw c.in_ok-text.was at c.self.view_is in
    let first = first_token c.self.inside.separator text c.in-Some.end (cc c.in-Some.ensures) in
    let shorter = ap length (sym was ∙ first.tokens) in
    rw (take_rest text (c.in-Some.end + 1)) (search rules)

pub returns-in-None-clause-steps : goal.returns-in-None-clause-steps
returns-in-None-clause-steps c =
    let was = rw c.in_ok-text.was at c.self.view_is in
    sym was ∙ last_token c.self.inside.separator c.in_ok-text.text.now (cc c.in-None.ensures)

pub returns-in-None-clause-goes : goal.returns-in-None-clause-goes
returns-in-None-clause-goes c =
    let was = rw c.in_ok-text.was at c.self.view_is in
    let shorter = ap length (sym was ∙ last_token c.self.inside.separator c.in_ok-text.text.now (cc c.in-None.ensures)) in
    search rules
