use Rattle.std.proofs.Common.{◌≡◌, ◌∙◌, sym, ap, Some, true, arith}
use Rattle.std.specs.Str.Parse.{digits_value}
use Rattle.std.proofs.lemmas.List.{take_all}
use Rattle.fs_script.proofs.Number.{is_step, number_is, number_too_great}
use Rattle.fs_script.specs.Reading.Numbers.{is_numeral}
use Rattle.fs_script.proofs.read.number.read_number.Goals as goal

pub returns-in_err-checked_mul : goal.returns-in_err-checked_mul
returns-in_err-checked_mul c =
    let numeral : is_numeral c.args.word.now ≡ true = cc in
    let step = is_step c.args.word.now c.loop-b.b-index numeral c.loop-b-test.true in
    c.from_residual.ensures ∙ sym (number_too_great c.args.word.now (omega (arith, step, c.in_err-checked_mul.ensures, c.loop-b.invariant.value)))

pub overflow_sub-b : goal.overflow_sub-b
overflow_sub-b c =
    let numeral : is_numeral c.args.word.now ≡ true = cc in
    (is_step c.args.word.now c.loop-b.b-index numeral c.loop-b-test.true).low

pub returns-in_err-value : goal.returns-in_err-value
returns-in_err-value c =
    let numeral : is_numeral c.args.word.now ≡ true = cc in
    let step = is_step c.args.word.now c.loop-b.b-index numeral c.loop-b-test.true in
    c.from_residual-in_err-value.ensures ∙ sym (number_too_great c.args.word.now (omega (arith, step, c.in_err-value.ensures, c.in_ok-checked_mul.ensures, c.from.ensures, c.loop-b.invariant.value)))

pub loop-b-preserved : goal.loop-b-preserved
loop-b-preserved c =
    let numeral : is_numeral c.args.word.now ≡ true = cc in
    let step = is_step c.args.word.now c.loop-b.b-index numeral c.loop-b-test.true in
    record {
      value = omega (arith, step, c.in_ok-value.ensures, c.in_ok-checked_mul.ensures, c.from.ensures, c.loop-b.invariant.value);
      fits = omega (arith, c.in_ok-value.ensures);
    }

pub returns : goal.returns
returns c =
    let w = c.args.word.now in
    let numeral : is_numeral w ≡ true = cc in
    let whole = c.loop-b.invariant.value ∙ ap (λ l. digits_value 10 l) (take_all c.loop-b.b-index w (omega arith)) in
    ap Some whole ∙ sym (number_is w numeral (omega (arith, whole, c.loop-b.invariant.fits)))
