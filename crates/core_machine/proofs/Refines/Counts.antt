-- What is said of a client's slots: how often each is held, and how many are held and free.
use Rattle.fs_types.proofs.Common.{◌≡◌, ℕ, suc, ◌+◌, Bool, List, [], ◌∷◌, cond, count_by, length, map, slice_get, nat_lt}
use Rattle.fs_types.proofs.Common.{Option, Some, is_some, refl, subst, sym, ap, ◌∙◌, inl, inr, option_map, lt-ltb, sum_by-cons}
use Rattle.fs_types.proofs.Common.{get_or_from_slice_get}
use Rattle.slot_plain.specs.Log.{Log}
use Rattle.slot_plain.specs.Slots.{Slot, free_slots, held_count, is_held, slot_at}
use Rattle.fs_script.specs.Vocabulary.{Given, Job, Piece, Answering, SlotLine}
use Rattle.fs_script.proofs.CallerLemmas.{slice_get-map_some}
use Rattle.core_machine.specs.Slots.{census, count_in, holds_in}
use Rattle.core_machine.specs.Vocabulary.{Holds, PathState, Places, Moment, StandsForLogs, Task, empty_slots, log_of, moment_of}
use Rattle.core_machine.specs.Vocabulary.{piece_in, pieces_in, slot_in, slot_of}
use Rattle.core_machine.proofs.Refines.LogsAre.{empty-free, row-at}
use Rattle.core_machine.proofs.Refines.SlotsAfter.{cases_piece}

-- as many slots pass one test as their pieces pass another, where the two agree on each slot
count-agrees : (p : Option Piece → Bool) (q : Slot → Bool) (slots : List Slot) → ((i : ℕ) → p (piece_in (slot_at slots i)) ≡ q (slot_at slots i))
    → count_by p (map piece_in slots) ≡ count_by q slots
count-agrees p q [] agree = refl
count-agrees p q (x ∷ slots) agree =
    sum_by-cons (λ o. cond (p o) 1 0) (piece_in x) (map piece_in slots)
    ∙ ap (λ b. cond b 1 0 + count_by p (map piece_in slots)) (agree 0)
    ∙ ap (λ n. cond (q x) 1 0 + n) (count-agrees p q slots (λ i. agree (suc i)))
    ∙ sym (sum_by-cons (λ y. cond (q y) 1 0) x slots)

module _ {s : Job} {A : Answering} {counts : ℕ → Piece → ℕ} {logs : List Log} (stand : StandsForLogs s A counts logs) where
  -- a slot has a piece where it is held
  piece-held : (r i : ℕ) → is_some (piece_in (slot_in logs r i)) ≡ is_held (slot_in logs r i)
  piece-held r i = elim (cases_piece (slot_in logs r i)) [
    | inl none ↦ ap (λ p. is_some (option_map (λ x. x.id) p)) none ∙ sym (ap (nat_lt 0) (stand.free r i none))
    | inr some ↦ ap (λ p. is_some (option_map (λ x. x.id) p)) some.1 ∙ sym (lt-ltb _ _ (stand.slots r i some.0 some.1).held)
  ]

  -- as many slots of a log have a piece as are held
  pub held-kept : (r : ℕ) (log : Log) → slice_get logs r ≡ Some log → held_count log.slots ≡ count_by is_some (pieces_in log)
  held-kept r log at = sym (count-agrees is_some is_held log.slots (λ i.
      subst (λ o. is_some (piece_in (slot_of o i)) ≡ is_held (slot_of o i)) at (piece-held r i)))

module _ {s : Job} {paths : List (List ℕ)} {states : List PathState} {answers : Given} {turns : Places} {tasks : List Task} {logs : List Log}
    (held : Holds s paths states answers turns tasks logs) (spent : Bool) where
  abbrev m : Moment
  m = moment_of s paths states answers turns tasks logs spent

  -- a slot is held as often as its piece is
  pub count-kept : (r i : ℕ) → (slot_in logs r i).count ≡ count_in m r i
  count-kept r i = elim (cases_piece (slot_in logs r i)) [
    | inl none ↦ held.logs_stand.free r i none ∙ sym (ap (λ p. holds_in m r (option_map (λ x. x.id) p)) none)
    | inr some ↦
        (held.logs_stand.slots r i some.0 some.1).count_is
        ∙ sym (ap (λ p. holds_in m r (option_map (λ x. x.id) p)) some.1)
  ] ∙ sym (ap (holds_in m r) (row-at logs r i))

  log-kept : (r : ℕ) (log : Log) → slice_get logs r ≡ Some log → log_of m r ≡ pieces_in log
  log-kept r log at = get_or_from_slice_get (map pieces_in logs) r (pieces_in log) [] (slice_get-map_some pieces_in logs r log at)

  -- what is said of a log is what is said of it at the moment
  pub census-kept : (r : ℕ) (log : Log) (line : SlotLine) → slice_get logs r ≡ Some log → line ≡ record {
    rank = log.rank;
    held = held_count log.slots;
    free = length (free_slots log.slots);
    faults = log.faults;
  } → line ≡ census m r
  census-kept r log line at is =
      let of = held.logs_stand.each r log at in
      let row = sym (log-kept r log at) in
      let many = held-kept held.logs_stand r log at ∙ ap (count_by is_some) row in
      let free = ap length (sym (empty-free held.logs_stand r log at) ∙ ap empty_slots row) in
      is ∙ (λ i. record { rank = of.rank i; held = many i; free = free i; faults = of.calm i })
