-- The turns that picks choose, one by one, and the answers that came at them.
use Rattle.std.proofs.Common.{◌≡◌, ℕ, zero, suc, ◌<◌, ◌≤◌, List, [], ◌∷◌, ◌++◌, Option, Some, None}
use Rattle.std.proofs.Common.{refl, sym, ap, subst, ◌∙◌, arith, append-nil, append_assoc, ◌⊎◌, inl, inr}
use Rattle.std.proofs.Math.Nat.{eq-or-lt_of_le}
use Rattle.std.proofs.lemmas.Bool.{cases_lt}
use Rattle.fs_types.proofs.Common.{none-some}
use Rattle.fs_script.specs.Vocabulary.{Answer, Job, Report, answers_of}
use Rattle.core_machine.specs.LegalSoFar.{CanRun, Reaches}
use Rattle.core_machine.specs.Moment.{Moment, printed, ready}
use Rattle.core_machine.specs.RunLaws.{AnswersWereGiven, GivenAnswersStand}
use Rattle.core_machine.specs.Step.{Turn, step}
use Rattle.core_run.specs.PickedRun.{IsReportUnder, chosen, moment_after, pick_at, picked, turns_of, turns_under}
use Rattle.core_run.specs.RunUnderLaws.{MomentsAreReached, WasAnswered}
use Rattle.core_run.proofs.FirstMoments.{one_first}
use Rattle.core_run.proofs.OneReport.{stays}
use Rattle.core_run.proofs.PickedRuns.{ready-chosen}

-- ---- lists that are one, and end in an element

module _ {X : Type 0} where
  abbrev first_or : X → List X → X
  first_or d [] = d
  first_or d (x ∷ xs) = x

  abbrev rest_of : List X → List X
  rest_of [] = []
  rest_of (x ∷ xs) = xs

  some-in : (before after : List X) (t : X) → [] ≡ before ++ t ∷ after → ⊥
  some-in [] after t is = absurd cc
  some-in (b ∷ before) after t is = absurd cc

  -- an element of a list with one more at the end is that one, or one of the list
  last-or-before : (xs : List X) (r t : X) (before after : List X) → xs ++ r ∷ [] ≡ before ++ t ∷ after
      → ((before ≡ xs) × (r ≡ t)) ⊎ (rest : List X) × (xs ≡ before ++ t ∷ rest)
  last-or-before [] r t [] after is = inl (refl, ap (first_or r) is)
  last-or-before [] r t (b ∷ before) after is = absurd (some-in before after t (ap rest_of is))
  last-or-before (x ∷ xs) r t [] after is = inr (xs, ap (λ y. y ∷ xs) (ap (first_or x) is))
  last-or-before (x ∷ xs) r t (b ∷ before) after is =
      let same : x ≡ b = ap (first_or x) is in
      elim (last-or-before xs r t before after (ap rest_of is)) [
        | inl last ↦ inl (λ i. sym same i ∷ last.0 i, last.1)
        | inr earlier ↦ inr (earlier.0, λ i. same i ∷ earlier.1 i)
      ]

-- ---- turns

-- each of the first turns under picks is the one that the pick of its event chose, after the turns before it
pub record IsChosen (picks : List ℕ) (m : Moment) (k : ℕ) (before : List Turn) (t : Turn) : Type 0 where
  pub events : ℕ
  pub within : events < k
  pub earlier : before ≡ turns_under picks m events
  pub turn : chosen picks events (moment_after picks m events) ≡ Some t.client

IsChosen-last : (picks : List ℕ) (m : Moment) (k : ℕ) (before after : List Turn) (t : Turn)
    → ((bs more : List Turn) → turns_under picks m k ≡ bs ++ t ∷ more → IsChosen picks m k bs t)
    → (o : Option ℕ) → chosen picks k (moment_after picks m k) ≡ o
    → turns_under picks m k ++ turns_of o ≡ before ++ t ∷ after → IsChosen picks m (suc k) before t
IsChosen-last picks m k before after t below None is all =
    let at = below before after (sym (append-nil (turns_under picks m k)) ∙ all) in
    record { events = at.events; within = (let less = at.within in omega arith); earlier = at.earlier; turn = at.turn }
IsChosen-last picks m k before after t below (Some r) is all =
    elim (last-or-before (turns_under picks m k) (record { client = r }) t before after all) [
      | inl last ↦
          record { events = k; within = omega arith; earlier = last.0; turn = is ∙ ap (λ (u : Turn). Some u.client) last.1 }
      | inr earlier ↦
          let at = below before earlier.0 earlier.1 in
          record { events = at.events; within = (let less = at.within in omega arith); earlier = at.earlier; turn = at.turn }
    ]

IsChosen-at : (picks : List ℕ) (m : Moment) (k : ℕ) (before after : List Turn) (t : Turn)
    → turns_under picks m k ≡ before ++ t ∷ after → IsChosen picks m k before t
IsChosen-at picks m zero before after t all = absurd (some-in before after t all)
IsChosen-at picks m (suc k) before after t all =
    IsChosen-last picks m k before after t (λ bs more. IsChosen-at picks m k bs more t) (chosen picks k (moment_after picks m k)) refl all

-- the turn of a client that event k's pick chose stands after the turns before it, and more may come
turn-stands : (picks : List ℕ) (m : Moment) (k r n : ℕ) → chosen picks k (moment_after picks m k) ≡ Some r → k < n
    → (rest : List Turn) × (turns_under picks m n ≡ turns_under picks m k ++ record { client = r } ∷ rest)
turn-stands picks m k r zero turn within = absurd (omega (arith, within))
turn-stands picks m k r (suc n) turn within =
    let least : k ≤ n = omega (arith, within) in
    elim (eq-or-lt_of_le least) [
      | inl last ↦ (
        [],
        ap (λ j. turns_under picks m j ++ turns_of (chosen picks j (moment_after picks m j))) (sym last)
            ∙ ap (λ o. turns_under picks m k ++ turns_of o) turn,
      )
      | inr later ↦
          let before = turn-stands picks m k r n turn later in
          let more = turns_of (chosen picks n (moment_after picks m n)) in (
            before.0 ++ more,
            ap (λ ts. ts ++ more) before.1 ∙ append_assoc (turns_under picks m k) (record { client = r } ∷ before.0) more,
          )
    ]

-- a run comes by its turns to one moment
one-moment : (m n l : Moment) (turns : List Turn) → Reaches m turns n → Reaches m turns l → n ≡ l
one-moment m n l [] one other = sym one ∙ other
one-moment m n l (t ∷ turns) one other = one-moment (step m t) n l turns one.1 other.1

-- no client is chosen at a moment where none is ready
none-chosen : (picks : List ℕ) (k r : ℕ) (m : Moment) → ready m ≡ [] → chosen picks k m ≡ Some r → ⊥
none-chosen picks k r m none is = none-some r (sym (ap (picked (pick_at picks k)) none) ∙ is)

-- ---- answers

module _ {picks : List ℕ} {s : Job} {R : Report} (k : ℕ) (a : Answer) (reached : MomentsAreReached) (under : IsReportUnder picks s R) where
  abbrev m : Moment
  m = under.first

  abbrev end : ℕ
  end = under.run.events

  reaches : Reaches m (turns_under picks m end) under.last
  reaches = subst (λ (x : Moment). Reaches m (turns_under picks m end) x) (sym under.run.goes) (reached picks m end)

  said : printed under.last k ≡ answers_of R k
  said = ap (λ (r : Report). answers_of r k) (sym under.reported)

  -- an answer of the report came at an event that the picks chose
  pub was-answered : AnswersWereGiven → answers_of R k ≡ Some a → WasAnswered picks s k a
  was-answered given is =
      let was = given s m under.last (turns_under picks m end) k a under.begins reaches (said ∙ is) in
      let at = IsChosen-at picks m end was.before was.after (record { client = was.op.rank }) was.all in
      let comes = one-moment m was.then (moment_after picks m at.events) (turns_under picks m at.events)
      (subst (λ ts. Reaches m ts was.then) at.earlier was.reaches) (reached picks m at.events) in
      record {
        event = record {
          first = m;
          begins = under.begins;
          events = at.events;
          then = was.then;
          comes = comes;
          op = was.op;
          is = was.is;
          turn = ap (chosen picks at.events) comes ∙ at.turn;
          next = was.next;
        };
        gives = was.gives;
      }

  -- and one that came so is in the report
  pub is-reported : GivenAnswersStand → CanRun s → WasAnswered picks s k a → answers_of R k ≡ Some a
  is-reported stand can was =
      let event = was.event in
      let first = one_first s event.first m event.begins under.begins in
      let comes = event.comes ∙ ap (λ (x : Moment). moment_after picks x event.events) first in
      let r = event.op.rank in
      let turn = ap (chosen picks event.events) (sym comes) ∙ event.turn in
      let ended : ready (moment_after picks m end) ≡ [] = ap ready (sym under.run.goes) ∙ under.run.ended in
      let early : event.events < end = elim (cases_lt event.events end) [
        | inl less ↦ less
        | inr late ↦ absurd (none-chosen picks event.events r (moment_after picks m event.events)
            (ap ready (stays picks m end event.events ended late) ∙ ended) turn)
      ] in
      let rest = turn-stands picks m event.events r end turn early in
      sym said ∙ stand s m under.last (turns_under picks m end) k a can under.begins reaches (record {
        before = turns_under picks m event.events;
        after = rest.0;
        then = event.then;
        op = event.op;
        all = rest.1;
        reaches = subst (λ (x : Moment). Reaches m (turns_under picks m event.events) x) (sym comes) (reached picks m event.events);
        waits = ready-chosen picks event.events r event.then event.turn;
        next = event.next;
        is = event.is;
        gives = was.gives;
      })
