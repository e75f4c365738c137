use Rattle.fs_types.proofs.Common.{◌≡◌, ◌∙◌, List, sym, ap, arith, slice_get}
use Rattle.fs_script.specs.Vocabulary.{Line, Job, line_at}
use Rattle.fs_script.proofs.LineAt.{line_at_place, copied_is}
use Rattle.fs_script.proofs.script.Script.line.Goals as goal

pub returns : goal.returns
returns c =
    let s : Job = c.args.self.now in
    let lines = ap (λ (x : Job). x.lines) c.self.view_is in
    let k = c.in_ok-index.index in
    let found = copied_is c.deref.result.now k c.get.result c.get.ensures.lookup in
    let place : line_at s c.args.n ≡ slice_get s.lines k =
    line_at_place s c.args.n k (omega (arith, c.in_ok-index.ensures, c.n.view_is)) (omega (arith, c.in_ok-index.ensures, c.n.view_is))
    in
    found ∙ ap (λ (xs : List Line). slice_get xs k) (c.deref.ensures.value ∙ lines) ∙ sym place
