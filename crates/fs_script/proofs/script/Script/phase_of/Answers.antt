use Rattle.fs_types.proofs.Common.{◌≡◌, ℕ, ◌+◌, ◌-◌, ◌∙◌, List, length, min, take, count_by, get_or, ap, arith, take_min}
use Rattle.fs_types.proofs.Common.{get_or-map-range_with_len, length-map-range_with_len}
use Rattle.fs_script.specs.Vocabulary.{Line, Job, is_barrier, phase}
use Rattle.fs_script.proofs.script.Script.phase_of.Goals as goal

pub index-requires : goal.index-requires
index-requires c =
    let lines = c.self.inside.lines.items in
    let sized = ap length c.self.invariant.1 ∙ length-map-range_with_len (λ k. count_by is_barrier (take k lines)) 0 (length lines + 1) in
    omega (arith, c.self.inside.phases.ok.0, c.self.inside.lines.ok.0)

pub returns : goal.returns
returns c =
    let lines = c.self.inside.lines.items in
    let before = λ (k : ℕ). count_by is_barrier (take k lines) in
    let x = c.index.result.now in
    let k = c.min.result in
    let place : k ≡ min (c.args.n - 2) (length lines) = omega (arith, c.self.inside.lines.ok.0, c.n.view_is) in
    let kept = c.index.ensures ∙ ap (λ (xs : List ℕ). get_or xs k x) c.self.invariant.1 in
    kept ∙ get_or-map-range_with_len before 0 (length lines + 1) k k x (omega arith) (omega arith)
    ∙ ap before place ∙ ap (λ (ls : List Line). count_by is_barrier ls) (take_min (c.args.n - 2) lines)
    ∙ ap (λ (s : Job). phase s c.args.n) c.self.view_is
