-- Reads under way as another client's line has an event: each goes on, and what it will show goes on fitting.
use Rattle.fs_types.proofs.Common.{List, ◌≢◌, ℕ, ◌≤◌, IsSome, is_some, slice_get, sym, ap, ◌∙◌, inl, inr, or_cases, or_left, or_right}
use Rattle.fs_types.proofs.Common.{true≢false, cases_lt, same_Some}
use Rattle.fs_script.specs.Vocabulary.{phase, program, Fits}
use Rattle.core_machine.specs.Vocabulary.{Moment, Reading, answering, client_of, journal, printed, Event, IsUnderWay, to_show}
use Rattle.fs_script.proofs.CallerLemmas.{program-op}
use Rattle.core_machine.proofs.Places.{unanswered}
use Rattle.core_machine.proofs.Legal.Phases.{begun-each, begun-answered, has_begun-from}
use Rattle.core_machine.proofs.Legal.Turns.{IsTurn, stands}
use Rattle.core_machine.proofs.Legal.After.{after, client-other}

module _ {told : List ℕ} {m : Moment} {r : ℕ} (t : IsTurn told m r) (i : ℕ) (d : Reading) (other : i ≢ r) (w : IsUnderWay told m i d) where
  -- it is of another client than the line
  pub of_another : w.op.rank ≢ t.line.rank
  of_another same =
      let op = program-op m.job i (client_of m i).place w.line w.next in
      let is = same_Some op.0 w.op (sym op.1 ∙ w.is) in
      other (sym op.2 ∙ ap (λ o. o.rank) is ∙ same ∙ t.rank)

  -- its phase is the line's, since both have begun
  pub of_no_later_phase : phase m.job w.line ≤ phase m.job t.number
  of_no_later_phase = elim (cases_lt (phase m.job t.number) (phase m.job w.line)) [
    | inl before ↦
        let given = begun-answered m w.line t.number w.begun (ap is_some t.is) before in
        absurd (true≢false (sym given ∙ ap is_some (unanswered (stands t))))
    | inr upto ↦ upto
  ]

  -- it goes on, where what was answered has an answer, and what it will show goes on fitting
  pub goes_on : (e : Event) → ((k : ℕ) → IsSome (printed m k) → IsSome (printed (after t e) k))
      → Fits told m.job (answering (after t e)) (journal (after t e) w.op.path) w.line w.op (to_show m.job d)
      → IsUnderWay told (after t e) i d
  goes_on e answered fits = record {
    line = w.line;
    op = w.op;
    next = ap (λ c. slice_get (program m.job i) c.place) (client-other t e i other) ∙ w.next;
    is = w.is;
    begun = has_begun-from (after t e) w.line (λ k o op.
        elim (or_cases _ _ (begun-each m w.line k w.begun (ap is_some op))) [
          | inl given ↦ or_left _ _ (answered k given)
          | inr later ↦ or_right _ _ later
        ]);
    fits = fits;
  }
