-- An answer that an event of a run gave stands at every later moment of it.
use Rattle.fs_types.proofs.Common.{◌≡◌, ◌≢◌, ℕ, List, [], ◌∷◌, ◌++◌, Option, Some, None, Contains, sym, ap, ◌∙◌, subst, none-some}
use Rattle.fs_script.specs.Vocabulary.{Answer, answer_at, op_at}
use Rattle.fs_script.proofs.CallerLemmas.{AddsAnswer-put}
use Rattle.core_machine.specs.Vocabulary.{Moment, Turn, IsLegalMoment, Reaches, answers_with, event_at, printed, ready, step, step_at, step_line}
use Rattle.core_machine.specs.RunLaws.{GivenAnswersStand}
use Rattle.core_machine.proofs.Places.{unanswered}
use Rattle.core_machine.proofs.Legal.LegalSteps.{step-legal}
use Rattle.core_machine.proofs.Legal.Runs.{of_job, reached-legal}
use Rattle.core_machine.proofs.Legal.Turns.{IsTurn-from_ready, stands, step-is}

-- the turns after the first ones are those of a run from the moment that these come to
Reaches-rest : (m n then : Moment) (before rest : List Turn) → Reaches m before then → Reaches m (before ++ rest) n → Reaches then rest n
Reaches-rest m n then [] rest at run = subst (λ x. Reaches x rest n) at run
Reaches-rest m n then (t ∷ before) rest at run = Reaches-rest (step m t) n then before rest at.1 run.1

module _ (k : ℕ) (a : Answer) where
  -- the event of another line leaves the answer
  stands-beside : (j : ℕ) (b : Option Answer) (m : Moment) → k ≢ j → printed m k ≡ Some a
      → answer_at (answers_with j b m.answers) k ≡ Some a
  stands-beside j None m other is = is
  stands-beside j (Some b) m other is = (AddsAnswer-put m.answers j b).others k other ∙ is

  -- and each turn is of a line that has none
  stands-after : {told : List ℕ} {m : Moment} (t : Turn) → IsLegalMoment told m → Contains (ready m) t.client → printed m k ≡ Some a
      → printed (step m t) k ≡ Some a
  stands-after {m = m} t so_far waits is =
      let turn = IsTurn-from_ready t.client so_far waits in
      let other : k ≢ turn.number = λ same. none-some a (sym (unanswered (stands turn)) ∙ ap (printed m) (sym same) ∙ is) in
      ap (λ (x : Moment). printed x k) (step-is turn)
      ∙ stands-beside turn.number (event_at m turn.number turn.line).answer m other is

  stands-on : {told : List ℕ} (m n : Moment) (turns : List Turn) → IsLegalMoment told m → Reaches m turns n → printed m k ≡ Some a
      → printed n k ≡ Some a
  stands-on m n [] so_far run is = ap (λ (x : Moment). printed x k) (sym run) ∙ is
  stands-on m n (t ∷ turns) so_far run is =
      stands-on (step m t) n turns (step-legal t so_far run.0) run.1 (stands-after t so_far run.0 is)

pub given-stand : GivenAnswersStand
given-stand s m n turns k a can first run given =
    let then = given.then in
    let o = given.op in
    let t : Turn = record { client = o.rank } in
    let rest = Reaches-rest m n then given.before (t ∷ given.after) given.reaches (subst (λ ts. Reaches m ts n) given.all run) in
    let so_far = reached-legal then given.before can first given.reaches [] in
    let is = ap (λ j. op_at j k) (of_job then given.before can first given.reaches) ∙ given.is in
    let came : printed (step then t) k ≡ Some a =
    ap (λ x. printed (step_at then o.rank x) k) given.next
    ∙ ap (λ x. printed (step_line then o.rank k x) k) is
    ∙ ap (λ b. answer_at (answers_with k b then.answers) k) given.gives
    ∙ (AddsAnswer-put then.answers k a).added in
    stands-on k a (step then t) n given.after (step-legal t so_far given.waits) rest.1 came
