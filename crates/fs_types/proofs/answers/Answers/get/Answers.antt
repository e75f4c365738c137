use Rattle.fs_types.proofs.Common.{None, ap, arith}
use Rattle.fs_types.proofs.Tables.{in_order, answer_at-table, answer_at-listed_below}
use Rattle.fs_types.proofs.answers.Answers.get.Goals as goal

pub returns-in_err-place-clause-answer : goal.returns-in_err-place-clause-answer
returns-in_err-place-clause-answer c =
    let none = answer_at-listed_below c.self.inside.table.items 1 c.line.inside.0 (omega (arith, c.in_err-place.ensures)) in
    let list = ap (λ g. g.list) c.self.view_is in
    let is_none = c.from_residual.ensures in
    cc

pub returns-in_err-get-clause-answer : goal.returns-in_err-get-clause-answer
returns-in_err-get-clause-answer c =
    let table = c.self.inside.table.items in
    let at = answer_at-table table c.line.inside.0 c.in_ok-place.place (omega (arith, c.in_ok-place.ensures))
    (omega (arith, c.in_ok-place.ensures)) in
    let list = ap (λ g. g.list) c.self.view_is in
    let past = c.in_err-get.ensures.lookup.4 (omega arith) None in
    let is_none = c.from_residual-in_err-get.ensures in
    cc

pub returns-clause-answer : goal.returns-clause-answer
returns-clause-answer c =
    let table = c.self.inside.table.items in
    let at = answer_at-table table c.line.inside.0 c.in_ok-place.place (omega (arith, c.in_ok-place.ensures))
    (omega (arith, c.in_ok-place.ensures)) in
    let list = ap (λ g. g.list) c.self.view_is in
    let got = c.in_ok-get.ensures.lookup.4 (omega arith) None in
    let was = c.as_ref.ensures.value in
    cc

pub returns-in_err-place-clause-rising : goal.returns-in_err-place-clause-rising
returns-in_err-place-clause-rising c = (in_order c.self.inside.table.items c.args.self.now c.self.view_is).rising

pub returns-in_err-place-clause-within : goal.returns-in_err-place-clause-within
returns-in_err-place-clause-within c = (in_order c.self.inside.table.items c.args.self.now c.self.view_is).within

pub returns-in_err-get-clause-rising : goal.returns-in_err-get-clause-rising
returns-in_err-get-clause-rising c = (in_order c.self.inside.table.items c.args.self.now c.self.view_is).rising

pub returns-in_err-get-clause-within : goal.returns-in_err-get-clause-within
returns-in_err-get-clause-within c = (in_order c.self.inside.table.items c.args.self.now c.self.view_is).within

pub returns-clause-rising : goal.returns-clause-rising
returns-clause-rising c = (in_order c.self.inside.table.items c.args.self.now c.self.view_is).rising

pub returns-clause-within : goal.returns-clause-within
returns-clause-within c = (in_order c.self.inside.table.items c.args.self.now c.self.view_is).within
