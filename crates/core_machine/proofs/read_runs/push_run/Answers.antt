-- Where the last run goes on in the new one it is made longer; otherwise the new one stands behind it.
use Rattle.fs_types.proofs.Common.{arith, refl, sym, ap, ◌∙◌, ◌++◌, ◌∷◌, [], length, cases_lt, inl, inr, false≢true}
use Rattle.core_machine.proofs.LastRuns.{with_last-joined, with_last-apart, with_last-none}
use Rattle.core_machine.proofs.read_runs.push_run.Goals as goal
use Rattle.core_machine.proofs.read_runs.push_run.Goals.{in-Some+else-goes_on, in_default}

pub returns-then-goes_on : goal.returns-then-goes_on
returns-then-goes_on c =
    let there = c.in-Some.ensures.variant.0 refl in
    let is = rw (← c.last.view_is) at c.in-Some.ensures.value in
    let on = rw (← c.last.view_is, ← c.f.view_is) at c.if-goes_on.ensures in
    rw (← c.f.view_is) (with_last-joined _ _ _ _ (omega (arith, there)) is (sym on))

pub returns : goal.returns
returns c = c.in_ok-push.ensures.items ∙ elim c.match-last_mut.branch [
  | in-Some+else-goes_on w ↦
      let there = w.in-Some.ensures.variant.0 refl in
      ap (λ v. v.items ++ c.args.f ∷ []) w.runs-is
      ∙ with_last-apart _ _ _ _ (omega (arith, there)) w.in-Some.ensures.value (sym w.if-goes_on.ensures)
  | in_default w ↦ ap (λ v. v.items ++ c.args.f ∷ []) w.runs-is ∙ with_last-none _ _
      (elim (cases_lt 0 (length c.args.runs.now.items)) [
        | inl some ↦ absurd (false≢true (w.in_default.ensures.variant.1 (omega (arith, some))))
        | inr none ↦ omega (arith, none)
      ])
]
