-- The slots of each client's log after an event: those that hold a piece that is held then, and no others. A piece that is held
-- then was held before, or is one of the line's own that went into a slot.
use Rattle.fs_types.proofs.Common.{◌≡◌, ◌≢◌, ℕ, ◌+◌, ◌≤◌, ◌<◌, true, cond, nat_lt, List, map, length, slice_get, slice_set}
use Rattle.fs_types.proofs.Common.{Option}
use Rattle.fs_types.proofs.Common.{Some, None, Contains, ◌⊎◌, inl, inr, refl, sym, ap, ◌∙◌, subst, arith, cases_eq, cases_Bool, or_cases}
use Rattle.fs_types.proofs.Common.{or_left, or_right}
use Rattle.fs_types.proofs.Common.{none-some, same_Some, true≢false, cond_both, cond_some, ltb-true, lt-ltb, length-map, get_or-set_same}
use Rattle.fs_types.proofs.Common.{get_or-set_other}
use Rattle.fs_types.proofs.Common.{get_or-map-range_with_len, slice_index_or, option_map, slice_get-map, cond-true, []}
use Rattle.std.proofs.lemmas.List.Sums.{sum_by-set}
use Rattle.fs_script.specs.Vocabulary.{Piece, op_at, need, was_accepted, is_live, is_pending, pieces_by, pieces_of_line}
use Rattle.core_machine.specs.Vocabulary.{Client, Moment, Event, answering, journal, client_of, fresh_client, log_of, had_event, names}
use Rattle.core_machine.specs.Vocabulary.{holds_of, is_owned}
use Rattle.core_machine.specs.Vocabulary.{readers_of, empty_slots, with_line, still_held, HoldsExactly}
use Rattle.fs_script.proofs.CallerLemmas.{IsPart-pending, own_op-rank, IsPartOf-from_pieces, Contains-pieces_by, part-at, part-there}
use Rattle.fs_script.proofs.CallerLemmas.{length-pieces_of_line}
use Rattle.core_machine.proofs.Places.{unanswered}
use Rattle.core_machine.proofs.Legal.Logs.{one_if, Contains-at, place-of, IsOnce, AreFree-empty_slots, length-with_pieces}
use Rattle.core_machine.proofs.Legal.Logs.{with_pieces-keeps}
use Rattle.core_machine.proofs.Legal.Logs.{with_pieces-cases, with_pieces-all, IsOnce-with_pieces}
use Rattle.core_machine.proofs.Legal.Turns.{IsTurn, stands, within_clients}
use Rattle.core_machine.proofs.Legal.After.{after, client_after}

-- ---- pieces that are held

owned-holds : (m : Moment) (r : ℕ) (x : Piece) → is_owned m r x ≡ true → 0 < holds_of m r x
owned-holds m r x owned = let one : one_if (is_owned m r x) ≡ 1 = ap one_if owned in omega arith

-- a piece of the line, which goes into a slot of its client's log
pub record IsPut {told : List ℕ} {m : Moment} {r : ℕ} (t : IsTurn told m r) (e : Event) (q : ℕ) (x : Piece) : Type 0 where
  pub client : q ≡ r
  pub line : x.line ≡ t.number
  pub part : x.part < need m.job t.number
  pub fills : e.fills ≡ true

-- Slots are filled where there is room, by a line whose bytes are accepted, and no other answer comes. What is live then was
-- live, or pending for the line's client; what is pending was, or goes into a slot. What the client's read names it named
-- before, or it was live or pending for the client.
pub record IsKeeping {told : List ℕ} {m : Moment} {r : ℕ} (t : IsTurn told m r) (e : Event) : Type 0 where
  pub room : e.fills ≡ true → need m.job t.number ≤ length (empty_slots (log_of m r))
  pub accepted : e.fills ≡ true → was_accepted (answering (after t e) t.number) ≡ true
  pub others : (k : ℕ) → k ≢ t.number → answering (after t e) k ≡ answering m k
  pub live : (x : Piece) → is_live m.job (answering (after t e)) (journal (after t e)) x ≡ true → is_owned m r x ≡ true
  pub pending : (q : ℕ) (x : Piece) → is_pending m.job (answering (after t e)) q x ≡ true
      → (is_pending m.job (answering m) q x ≡ true) ⊎ IsPut t e q x
  pub named : (x : Piece) → names e.doing x ≡ true → (names (client_of m r).doing x ≡ true) ⊎ (is_owned m r x ≡ true)

-- ---- the logs once slots were filled

module _ {told : List ℕ} {m : Moment} {r : ℕ} (t : IsTurn told m r) (e : Event) where
  -- the log of client q then
  pub record Grows (q : ℕ) (log : List (Option Piece)) : Type 0 where
    pub sized : length log ≡ length (log_of m q)
    pub keeps : (k : ℕ) (x : Piece) → slice_get (log_of m q) k ≡ Some (Some x) → slice_get log k ≡ Some (Some x)
    pub cases : (k : ℕ) (x : Piece) → slice_get log k ≡ Some (Some x) → (slice_get (log_of m q) k ≡ Some (Some x)) ⊎ IsPut t e q x
    pub once : IsOnce log
    pub puts : (x : Piece) → IsPut t e q x → (k : ℕ) × (slice_get log k ≡ Some (Some x))

  stays : (q : ℕ) → q < m.job.shape.clients → ((x : Piece) → IsPut t e q x → ⊥) → Grows q (log_of m q)
  stays q within none = record {
    sized = refl;
    keeps = λ k x at. at;
    cases = λ k x at. inl at;
    once = (t.so_far.slots q within).once;
    puts = λ x put. absurd (none x put);
  }

  filled : IsKeeping t e → e.fills ≡ true → Grows r (with_line m.job t.number (log_of m r))
  filled keeping fills =
      let log = log_of m r in
      let is = empty_slots log in
      let xs = pieces_of_line m.job t.number in
      let free = AreFree-empty_slots log in
      record {
        sized = length-with_pieces is xs log;
        keeps = λ k x at. with_pieces-keeps is xs log k x free at;
        cases = λ k x at. elim (with_pieces-cases is xs log k x free at) [
          | inl old ↦ inl old
          | inr put ↦
              let part = part-at m.job t.number put.0 x put.2 in
              inr (record { client = refl; line = part.0; part = (let same = part.1 in let below = part.2 in omega arith); fills = fills })
        ];
        once = IsOnce-with_pieces is xs log free (t.so_far.slots r (within_clients t)).once
            (λ i j x at there. sym ((part-at m.job t.number i x at).1) ∙ (part-at m.job t.number j x there).1)
            (λ i j x old put.
            let accepted = t.so_far.accepted r x (within_clients t) (Contains-at log i (Some x) old) in
            let line = (part-at m.job t.number j x put).0 in
            true≢false (sym accepted ∙ ap (λ n. was_accepted (answering m n)) line ∙ ap was_accepted (unanswered (stands t))));
        puts = λ x put.
            let there = subst (λ n. slice_get (pieces_of_line m.job n) x.part ≡ Some x) put.line
            (part-there m.job x (subst (λ n. x.part < need m.job n) (sym put.line) put.part)) in
            with_pieces-all is xs log x.part x free (omega (arith, keeping.room fills, length-pieces_of_line m.job t.number)) there;
      }

  abbrev had : Moment
  had = had_event m r t.number t.line e

  pub grows : IsKeeping t e → (q : ℕ) → q < m.job.shape.clients → Grows q (log_of had q)
  grows keeping q within =
      let new = with_line m.job t.number (log_of m r) in
      cond_both e.fills (slice_set m.logs r new) m.logs (λ ls. Grows q (slice_index_or ls q []))
      (λ fills. elim (cases_eq q r) [
        | inl same ↦
            let there = get_or-set_same m.logs r new [] (omega (arith, within_clients t, t.so_far.logs)) in
            subst (λ i. Grows i (slice_index_or (slice_set m.logs r new) i [])) (sym same)
            (subst (Grows r) (sym there) (filled keeping fills))
        | inr other ↦
            subst (Grows q) (sym (get_or-set_other m.logs r q new [] other)) (stays q within (λ x put. other put.client))
      ])
      (λ none. stays q within (λ x put. true≢false (sym put.fills ∙ none)))

  -- ---- pieces that are held then

  -- a piece of client q's lines that was live, or pending for the line's client, was held
  owned_before : (q : ℕ) (x : Piece) → Contains (pieces_by m.job q) x → is_owned m r x ≡ true → 0 < holds_of m q x
  owned_before q x has owned = elim (or_cases _ _ owned) [
    | inl live ↦ owned-holds m q x (or_left _ _ live)
    | inr waits ↦
        let part = (IsPart-pending m.job t.so_far.job.chunk (answering m) r x waits).1 in
        let mine = own_op-rank r _ (op_at m.job x.line) part.line.own in
        let same = same_Some r q (sym mine ∙ (IsPartOf-from_pieces m.job q x has).line) in
        owned-holds m q x (or_right _ _ (subst (λ i. is_pending m.job (answering m) i x ≡ true) same waits))
  ]

  -- as many reads name a piece as before, but for the client's own
  readers-after : (x : Piece) → readers_of had x + cond (names (client_of m r).doing x) 1 0 ≡ readers_of m x + cond (names e.doing x) 1 0
  readers-after x =
      sum_by-set (λ (c : Client). cond (names c.doing x) 1 0) m.clients r (client_after t e) fresh_client
      (omega (arith, within_clients t, t.so_far.clients))

  held_before : IsKeeping t e → (q : ℕ) (x : Piece) → Contains (pieces_by m.job q) x → 0 < holds_of had q x
      → (0 < holds_of m q x) ⊎ IsPut t e q x
  held_before keeping q x has held = elim (cases_Bool (is_owned had q x)) [
    | inl owned ↦ elim (or_cases _ _ owned) [
      | inl live ↦ inl (owned_before q x has (keeping.live x live))
      | inr waits ↦ elim (keeping.pending q x waits) [
        | inl before ↦ inl (owned-holds m q x (or_right _ _ before))
        | inr put ↦ inr put
      ]
    ]
    | inr other ↦
        let none : one_if (is_owned had q x) ≡ 0 = ap one_if other in
        let readers = readers-after x in
        elim (cases_Bool (names e.doing x)) [
          | inr not_named ↦ let none_then : one_if (names e.doing x) ≡ 0 = ap one_if not_named in inl (omega arith)
          | inl named ↦ elim (keeping.named x named) [
            | inl before ↦
                let one : one_if (names (client_of m r).doing x) ≡ 1 = ap one_if before in
                let one_then : one_if (names e.doing x) ≡ 1 = ap one_if named in
                inl (omega arith)
            | inr owned ↦ inl (owned_before q x has owned)
          ]
        ]
  ]

  -- ---- the slots then

  log-after : (q : ℕ) → q < m.job.shape.clients → log_of (after t e) q ≡ map (still_held had q) (log_of had q)
  log-after q within =
      get_or-map-range_with_len (λ i. map (still_held had i) (log_of had i)) 0 m.job.shape.clients q q [] within (omega arith)

  -- what stands in a slot stood there, and is held
  held-slot : (q : ℕ) (slot : Option (Option Piece)) (x : Piece) → option_map (still_held had q) slot ≡ Some (Some x)
      → (slot ≡ Some (Some x)) × (0 < holds_of had q x)
  held-slot q None x e = absurd (none-some (Some x) e)
  held-slot q (Some None) x e = absurd (none-some x (same_Some None (Some x) e))
  held-slot q (Some (Some y)) x e =
      let both = cond_some (nat_lt 0 (holds_of had q y)) y x (same_Some _ (Some x) e) in
      let held = ltb-true 0 (holds_of had q y) both.0 in
      (ap (λ z. Some (Some z)) both.1, subst (λ z. 0 < holds_of had q z) both.1 held)

  standing : (q k : ℕ) (x : Piece) → q < m.job.shape.clients → slice_get (log_of (after t e) q) k ≡ Some (Some x)
      → (slice_get (log_of had q) k ≡ Some (Some x)) × (0 < holds_of had q x)
  standing q k x within at =
      held-slot q (slice_get (log_of had q) k) x
      (sym (slice_get-map (still_held had q) (log_of had q) k) ∙ ap (λ log. slice_get log k) (sym (log-after q within)) ∙ at)

  -- what is held stays
  still_standing : (q k : ℕ) (x : Piece) → q < m.job.shape.clients → slice_get (log_of had q) k ≡ Some (Some x) → 0 < holds_of had q x
      → Contains (log_of (after t e) q) (Some x)
  still_standing q k x within at held =
      let kept = cond-true (nat_lt 0 (holds_of had q x)) (Some x) None (lt-ltb 0 (holds_of had q x) held) in
      Contains-at (log_of (after t e) q) k (Some x)
      (ap (λ log. slice_get log k) (log-after q within) ∙ slice_get-map (still_held had q) (log_of had q) k
      ∙ ap (option_map (still_held had q)) at ∙ ap Some kept)

  module _ (keeping : IsKeeping t e) (q : ℕ) (within : q < m.job.shape.clients) where
    own_piece : (x : Piece) → IsPut t e q x → Contains (pieces_by m.job q) x
    own_piece x put =
        let next = t.next ∙ ap Some (sym put.line) in
        subst (λ i. Contains (pieces_by m.job i) x) (sym put.client)
        (Contains-pieces_by m.job r (client_of m r).place x next (subst (λ n. x.part < need m.job n) (sym put.line) put.part))

    pub slots-after : HoldsExactly (after t e) q
    slots-after =
        let before = t.so_far.slots q within in
        let g = grows keeping q within in
        record {
          sized = ap length (log-after q within) ∙ length-map (log_of had q) (still_held had q) ∙ g.sized ∙ before.sized;
          held = λ x has. let at = place-of (log_of (after t e) q) (Some x) has in (standing q at.0 x within at.1).1;
          own = λ x has.
              let at = place-of (log_of (after t e) q) (Some x) has in
              elim (g.cases at.0 x (standing q at.0 x within at.1).0) [
                | inl old ↦ before.own x (Contains-at (log_of m q) at.0 (Some x) old)
                | inr put ↦ own_piece x put
              ];
          once = λ i j x at there. g.once i j x (standing q i x within at).0 (standing q j x within there).0;
          each = λ x has held. elim (held_before keeping q x has held) [
            | inl was ↦
                let at = place-of (log_of m q) (Some x) (before.each x has was) in
                still_standing q at.0 x within (g.keeps at.0 x at.1) held
            | inr put ↦ let at = g.puts x put in still_standing q at.0 x within at.1 held
          ];
        }

    pub accepted-after : (x : Piece) → Contains (log_of (after t e) q) (Some x) → was_accepted (answering (after t e) x.line) ≡ true
    accepted-after x has =
        let at = place-of (log_of (after t e) q) (Some x) has in
        elim ((grows keeping q within).cases at.0 x (standing q at.0 x within at.1).0) [
          | inl old ↦
              let was = t.so_far.accepted q x within (Contains-at (log_of m q) at.0 (Some x) old) in
              let other : x.line ≢ t.number = λ same.
              true≢false (sym was ∙ ap (λ n. was_accepted (answering m n)) same ∙ ap was_accepted (unanswered (stands t))) in
              ap was_accepted (keeping.others x.line other) ∙ was
          | inr put ↦ ap (λ n. was_accepted (answering (after t e) n)) put.line ∙ keeping.accepted put.fills
        ]
