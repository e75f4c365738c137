-- The clients after one of them had an event of its line.
use Rattle.fs_types.proofs.Common.{List, ◌≡◌, ◌≢◌, ℕ, ◌<◌, length, sym, ◌∙◌, subst, inl, inr, arith, cases_eq, length-set}
use Rattle.fs_types.proofs.Common.{get_or-set_same, get_or-set_other}
use Rattle.fs_script.specs.Vocabulary.{Answering}
use Rattle.core_machine.specs.Vocabulary.{Doing, Client, Moment, client_of, fresh_client, Event, after_turn, after_event, nothing, reading}
use Rattle.core_machine.specs.Vocabulary.{Reading}
use Rattle.core_machine.specs.Vocabulary.{IsAnsweredUpTo, IsUnderWay, MayGoOn}
use Rattle.core_machine.proofs.Legal.Turns.{IsTurn, within_clients}

module _ {told : List ℕ} {m : Moment} {r : ℕ} (t : IsTurn told m r) (e : Event) where
  abbrev pub after : Moment
  after = after_event m r t.number t.line e

  abbrev pub client_after : Client
  client_after = after_turn (client_of m r) e

  pub clients-after : length after.clients ≡ m.job.shape.clients
  clients-after = length-set m.clients r client_after ∙ t.so_far.clients

  pub client-own : client_of after r ≡ client_after
  client-own = get_or-set_same m.clients r client_after fresh_client (omega (arith, within_clients t, t.so_far.clients))

  pub client-other : (i : ℕ) → i ≢ r → client_of after i ≡ client_of m i
  client-other i other = get_or-set_other m.clients r i client_after fresh_client other

  -- what holds of this client's state and of each other one's holds of each
  pub each_client : (P : ℕ → Client → Type 0) → P r client_after → ((i : ℕ) → i ≢ r → i < m.job.shape.clients → P i (client_of m i))
      → (i : ℕ) → i < m.job.shape.clients → P i (client_of after i)
  each_client P own others i within = elim (cases_eq i r) [
    | inl same ↦ subst (λ j. P j (client_of after j)) (sym same) (subst (P r) (sym client-own) own)
    | inr other ↦ subst (P i) (sym (client-other i other)) (others i other within)
  ]

  -- the lines up to each client's place have answers, where it is so for this client and the others
  pub places-after : (B : Answering) → IsAnsweredUpTo m.job B r client_after.place
      → ((i : ℕ) → i ≢ r → i < m.job.shape.clients → IsAnsweredUpTo m.job B i (client_of m i).place)
      → (i : ℕ) → i < m.job.shape.clients → IsAnsweredUpTo m.job B i (client_of after i).place
  places-after B = each_client (λ i c. IsAnsweredUpTo m.job B i c.place)

  -- who is in the midst of a line may go on, where it is so for this client, and each other read under way stays
  pub under_way-after : MayGoOn told after r e.doing
      → ((i : ℕ) (d : Reading) → i ≢ r → IsUnderWay told m i d → IsUnderWay told after i d)
      → (i : ℕ) → i < m.job.shape.clients → MayGoOn told after i (client_of after i).doing
  under_way-after own others = each_client (λ i c. MayGoOn told after i c.doing) own (λ i other within.
      by i other (client_of m i).doing (t.so_far.under_way i within))
    where
      by : (i : ℕ) → i ≢ r → (d : Doing) → MayGoOn told m i d → MayGoOn told after i d
      by i other nothing goes = tt
      by i other (reading d) goes = others i d other goes
