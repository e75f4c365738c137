use Rattle.fs_types.proofs.Common.{◌-◌, ◌<◌, length, ap, refl, rules}
use Rattle.fs_types.proofs.Tables.{listed-set_table}
use Rattle.fs_types.proofs.answers.Answers.set.Goals as goal

pub returns-clause-list : goal.returns-clause-list
returns-clause-list c =
    let n = c.line.inside.0 in
    let table = c.self.inside.table.items in
    let place : n - 1 < length table = search rules in
    let put = listed-set_table table n (n - 1) c.args.a (search rules) refl place in
    let list = ap (λ g. g.list) c.self.view_is in
    cc
