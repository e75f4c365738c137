-- A run under picks comes to one end, so it has one report.
use Rattle.std.proofs.Common.{◌≡◌, ℕ, zero, suc, ◌≤◌, List, [], sym, ap, subst, ◌∙◌, arith, inl, inr}
use Rattle.std.proofs.Math.Nat.{eq-or-lt_of_le}
use Rattle.std.proofs.lemmas.Bool.{cases_lt}
use Rattle.fs_script.specs.Job.{Job}
use Rattle.fs_script.specs.Report.{Report}
use Rattle.core_machine.specs.Moment.{Moment, ready}
use Rattle.core_machine.specs.MomentReport.{report_of}
use Rattle.core_run.specs.PickedRun.{pick_at, picked, after_turn_of, moment_after, IsReportUnder}
use Rattle.core_run.proofs.FirstMoments.{one_first}

-- where no client is ready the run stays
at_end : (m : Moment) (pick : ℕ) → ready m ≡ [] → after_turn_of m (picked pick (ready m)) ≡ m
at_end m pick ended = ap (λ clients. after_turn_of m (picked pick clients)) ended

-- so it stays from its end on
pub stays : (picks : List ℕ) (m : Moment) (k n : ℕ) → ready (moment_after picks m k) ≡ [] → k ≤ n
    → moment_after picks m n ≡ moment_after picks m k
stays picks m k zero ended within = let none : zero ≡ k = omega arith in ap (moment_after picks m) none
stays picks m k (suc n) ended within = elim (eq-or-lt_of_le within) [
  | inl same ↦ ap (moment_after picks m) (sym same)
  | inr later ↦
      let before = stays picks m k n ended (omega arith) in
      ap (λ now. after_turn_of now (picked (pick_at picks n) (ready now))) before
      ∙ at_end (moment_after picks m k) (pick_at picks n) ended
]

-- and two of its ends are one
one_end : (picks : List ℕ) (m : Moment) (j k : ℕ) → ready (moment_after picks m j) ≡ [] → ready (moment_after picks m k) ≡ []
    → moment_after picks m j ≡ moment_after picks m k
one_end picks m j k first second = elim (cases_lt j k) [
  | inl less ↦ sym (stays picks m j k first (omega arith))
  | inr least ↦ stays picks m k j second least
]

pub one_report : (picks : List ℕ) (s : Job) (R Q : Report) → IsReportUnder picks s R → IsReportUnder picks s Q → R ≡ Q
one_report picks s R Q own other =
    let first = one_first s own.first other.first own.begins other.begins in
    let ended = subst (λ (m : Moment). ready (moment_after picks m own.run.events) ≡ []) first (ap ready (sym own.run.goes) ∙
    own.run.ended) in
    let last = own.run.goes ∙ ap (λ (m : Moment). moment_after picks m own.run.events) first
    ∙ one_end picks other.first own.run.events other.run.events ended (ap ready (sym other.run.goes) ∙ other.run.ended)
    ∙ sym other.run.goes in
    own.reported ∙ ap report_of last ∙ sym other.reported
