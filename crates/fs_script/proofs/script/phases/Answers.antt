use Rattle.fs_types.proofs.Common.{◌≡◌, ℕ, ◌+◌, ◌<◌, ◌∙◌, Bool, true, false, List, length, cond, take, count_by, get_or, sym, ap, refl}
use Rattle.fs_types.proofs.Common.{arith, from_bool, fold_more, map-range_with_len_more}
use Rattle.fs_script.specs.Vocabulary.{Line, is_barrier}
use Rattle.fs_script.proofs.script.phases.Goals.{After-from-phase}
use Rattle.fs_script.proofs.script.phases.Goals as goal

from_bool-cond : (b : Bool) → from_bool b ≡ cond b 1 0
from_bool-cond true = refl
from_bool-cond false = refl

-- one line more
count-more : (lines : List Line) (i : ℕ) (line : Line) → i < length lines → line ≡ get_or lines i line
    → count_by is_barrier (take i lines) + from_bool (is_barrier line) ≡ count_by is_barrier (take (i + 1) lines)
count-more lines i line lt is =
    let count = λ (n : ℕ) (l : Line). n + cond (is_barrier l) 1 0 in
    let before = count_by is_barrier (take i lines) in
    ap (λ n. before + n) (from_bool-cond (is_barrier line)) ∙ ap (count before) is ∙ sym (fold_more count 0 lines i line lt)

-- the phase after one more line
next-phase : (c : After-from-phase) → c.loop-line.phase + c.from-phase.result
    ≡ count_by is_barrier (take (c.loop-line.line-index + 1) c.args.lines.now)
next-phase c =
    let more = count-more c.args.lines.now c.loop-line.line-index c.line-item.result (omega arith) c.line-item.is in
    omega (arith, more, c.loop-line.invariant.phase, c.from-phase.ensures, ap from_bool c.is_barrier.ensures)

pub loop-line-preserved : goal.loop-line-preserved
loop-line-preserved c =
    let i = c.loop-line.line-index in
    let before = λ (k : ℕ). count_by is_barrier (take k c.args.lines.now) in
    let phase = next-phase (goal.at.loop-line-preserved c).After-from-phase in
    record {
      table = c.in_ok-push-2.ensures.items ∙ (cc) ∙ sym (map-range_with_len_more before 0 (i + 1) (i + 1) (omega arith));
      phase = phase;
    }
