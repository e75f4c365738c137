use Rattle.fs_types.proofs.Common.{◌≡◌, false, is_some, ◌∙◌, arith, ne_eqb, cond-false, ℕ}
use Rattle.piece_table.proofs.Discounted.{discounted, kept_holds, more_than_once}
use Rattle.piece_table.proofs.pushing.discount_all.Goals as goal

pub loop-p-preserved : goal.loop-p-preserved
loop-p-preserved g c =
    let so_far = c.loop-p.invariant in
    let two = more_than_once c.args.pieces.now c.loop-p.pieces c.less.new.self c.args.less.now c.loop-p.p-index c.p-item.result
    c.loop-p-test.true c.p-item.is c.requires.stays so_far.numbers in
    let none : is_some c.less.result ≡ false =
    c.less.ensures.last ∙ ne_eqb _ 1 (λ one. let no : ⊥ = omega (arith, one, two) in no) in
    record {
      numbers = discounted c.args.pieces.now c.loop-p.pieces c.less.new.self c.args.less.now c.loop-p.p-index c.p-item.result
          c.loop-p-test.true c.p-item.is c.requires.stays so_far.numbers c.less.ensures.numbers c.less.ensures.holds;
      holds = λ q. kept_holds c.args.pieces.now c.loop-p.pieces c.less.new.self c.args.less.now c.loop-p.p-index c.p-item.result
          c.loop-p-test.true c.p-item.is c.requires.stays so_far.numbers c.less.ensures.numbers c.less.ensures.holds q
          ∙ so_far.holds q;
      len = omega (arith, c.less.ensures.len, cond-false {A = ℕ} (is_some c.less.result) 1 0 none, so_far.len);
    }
