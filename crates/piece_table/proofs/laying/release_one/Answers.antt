use Rattle.fs_types.proofs.Common.{sym, ◌∙◌, None, cond-true}
use Rattle.piece_table.specs.PieceTable.{hold_of}
use Rattle.piece_table.proofs.Tables.{unnumbered}
use Rattle.piece_table.proofs.Releases.{Thins-one, one_less, ComesOut-kept, ComesOut-one}
use Rattle.piece_table.proofs.laying.release_one.Goals as goal

pub returns-in-Some-clause-thins : goal.returns-in-Some-clause-thins
returns-in-Some-clause-thins g c =
    Thins-one c.args.pieces.now c.less.new.self c.args.p c.requires.there c.less.ensures.numbers c.less.ensures.holds
    (unnumbered c.less.new.self.entries c.less.ensures.counted)

pub returns-in-Some-clause-out : goal.returns-in-Some-clause-out
returns-in-Some-clause-out g c =
    let last = sym c.in-Some.ensures.last in
    let is = sym (c.in-Some.ensures.out ∙ cond-true _ (hold_of c.args.pieces.now c.args.p) None last) in
    rw c.push_reserved.ensures.items
    (ComesOut-one c.args.pieces.now c.less.new.self c.args.p c.requires.there c.less.ensures.numbers c.less.ensures.holds
    g.H.Hold.piece c.in-Some.hold last is (c.requires.theirs c.args.p c.in-Some.hold is) c.args.dead.now.items)

pub returns-in_default-clause-thins : goal.returns-in_default-clause-thins
returns-in_default-clause-thins g c =
    Thins-one c.args.pieces.now c.less.new.self c.args.p c.requires.there c.less.ensures.numbers c.less.ensures.holds
    (unnumbered c.less.new.self.entries c.less.ensures.counted)

pub returns-in_default-clause-out : goal.returns-in_default-clause-out
returns-in_default-clause-out g c =
    ComesOut-kept c.args.pieces.now c.less.new.self c.args.p c.requires.there c.less.ensures.numbers c.less.ensures.holds
    g.H.Hold.piece (sym c.in_default.ensures.last) c.args.dead.now.items

pub returns-in-Some-clause-numbers : goal.returns-in-Some-clause-numbers
returns-in-Some-clause-numbers g c =
    one_less c.args.pieces.now c.less.new.self c.args.p c.requires.there c.less.ensures.numbers c.less.ensures.holds

pub returns-in_default-clause-numbers : goal.returns-in_default-clause-numbers
returns-in_default-clause-numbers g c =
    one_less c.args.pieces.now c.less.new.self c.args.p c.requires.there c.less.ensures.numbers c.less.ensures.holds
