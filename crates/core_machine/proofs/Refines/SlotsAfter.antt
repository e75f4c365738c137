-- The clients' logs after an event: each slot is held as often as its piece is then, and the pieces in them are the machine's.
use Rattle.fs_types.proofs.Common.{◌≡◌, ◌≢◌, ℕ, zero, suc, ◌+◌, ◌<◌, true, false, cond, ◌==◌, nat_lt, List, [], ◌∷◌, length, map, drop, ◌⊎◌}
use Rattle.fs_types.proofs.Common.{take, get_or, slice_get, Option, Some, None, IsSome, none-some, same_Some, refl, sym, ap, ◌∙◌}
use Rattle.fs_types.proofs.Common.{subst, inl, inr, arith, cases_eq, cases_Bool, ltb-true, ltb-false, eqb-true, eq-eqb}
use Rattle.fs_types.proofs.Common.{length-map, length-set, ne_eqb, cond-true, cond-false, slice_get_within, get_or-map}
use Rattle.slot_plain.specs.Log.{Log}
use Rattle.slot_plain.specs.Slots.{Slot, StoredPiece, slot_at, free_slot, free_slots, is_free}
use Rattle.fs_script.specs.Vocabulary.{Job, Piece, rank_at, need, Answering}
use Rattle.fs_script.proofs.CallerLemmas.{slice_get-set_same, slice_get-set_other}
use Rattle.core_machine.specs.Logs.{AreInOneSlot, SameFrames, frame_of, part_slot, slot_in, slot_of, stored_part}
use Rattle.core_machine.specs.Settling.{FillsLog, Settles}
use Rattle.core_machine.specs.StandingLogs.{IsLogOf, StandsForLogs, StandsForSlot}
use Rattle.core_machine.proofs.PlainLists.{contains_or_not, taken_place}
use Rattle.core_machine.proofs.Refines.FilledSlots.{free_places-at}

-- ---- frames

-- a log whose frame is another's is the client's as that is
IsLogOf-frame : (s : Job) (r : ℕ) (old new : Log) → frame_of new ≡ frame_of old → IsLogOf s r old → IsLogOf s r new
IsLogOf-frame s r old new same is =
    let rank = ap (λ f. f.rank) same in
    let shmem = ap (λ f. f.shmem) same in
    let chunk = ap (λ f. f.chunk) same in
    let slots = ap (λ f. f.slots) same in
    let faults = ap (λ f. f.faults) same in
    record {
      rank = rank ∙ is.rank;
      memory = record {
        shared = omega (arith, shmem, slots, is.memory.shared);
        chunk = chunk ∙ is.memory.chunk;
        few = omega (arith, slots, is.memory.few);
      };
      slots = slots ∙ is.slots;
      calm = faults ∙ is.calm;
    }

-- the log at each place of logs that have the frames of others
pub same_frame : (old new : List Log) (r : ℕ) (log : Log) → SameFrames old new → slice_get new r ≡ Some log
    → (was : Log) × (slice_get old r ≡ Some was) × (frame_of log ≡ frame_of was)
same_frame [] [] r log same at = absurd (none-some log at)
same_frame [] (y ∷ new) r log same at = absurd cc
same_frame (x ∷ old) [] r log same at = absurd (none-some log at)
same_frame (x ∷ old) (y ∷ new) zero log same at =
    (x, refl, ap frame_of (sym (same_Some y log at)) ∙ ap (λ fs. get_or fs 0 (frame_of y)) same)
same_frame (x ∷ old) (y ∷ new) (suc r) log same at = same_frame old new r log (ap (drop 1) same) at

-- ---- a piece in a slot, or none

pub cases_piece : (slot : Slot) → (slot.piece ≡ None) ⊎ ((p : StoredPiece) × (slot.piece ≡ Some p))
cases_piece slot = by slot.piece refl where
  by : (o : Option StoredPiece) → slot.piece ≡ o → (slot.piece ≡ None) ⊎ ((p : StoredPiece) × (slot.piece ≡ Some p))
  by None e = inl e
  by (Some p) e = inr (p, e)

module _ {s : Job} {A : Answering} {counts : ℕ → Piece → ℕ} {logs : List Log} (old : StandsForLogs s A counts logs) where
  -- ---- a line in slots

  module _ (B : Answering) (n r : ℕ) (own : rank_at s n ≡ Some r) (fresh : IsSome (A n) → ⊥)
      (given : (k : ℕ) → IsSome (A k) → IsSome (B k)) (given_own : IsSome (B n)) {filled : List Log} (fill : FillsLog s n r logs filled) where
    -- each piece of the line is held once then, and every other as often as before
    abbrev counts_filled : ℕ → Piece → ℕ
    counts_filled c q = cond (q.line == n) 1 (counts c q)

    within : r < length logs
    within = slice_get_within logs r fill.was fill.there

    is_log : IsLogOf s r fill.was
    is_log = old.each r fill.was fill.there

    own_slot : (i : ℕ) → slot_in filled r i ≡ slot_at fill.now.slots i
    own_slot i = ap (λ ls. slot_of (slice_get ls r) i) fill.changed
        ∙ ap (λ o. slot_of o i) (slice_get-set_same logs r fill.now within)

    was_slot : (i : ℕ) → slot_in logs r i ≡ slot_at fill.was.slots i
    was_slot i = ap (λ o. slot_of o i) fill.there

    other_slot : (c i : ℕ) → c ≢ r → slot_in filled c i ≡ slot_in logs c i
    other_slot c i other = ap (λ ls. slot_of (slice_get ls c) i) fill.changed
        ∙ ap (λ o. slot_of o i) (slice_get-set_other logs r c fill.now other)

    -- a slot of another piece
    kept_slot : (c i : ℕ) (p : StoredPiece) (slot : Slot) → slot ≡ slot_in logs c i → slot.piece ≡ Some p
        → StandsForSlot s B (counts_filled c p.id) c p slot
    kept_slot c i p slot same at =
        let stands = old.slots c i p (ap (λ (x : Slot). x.piece) (sym same) ∙ at) in
        let other : (p.id.line == n) ≡ false = ne_eqb p.id.line n (λ e. fresh (subst (λ k. IsSome (A k)) e stands.answered)) in
        record {
          stored = stands.stored;
          by_client = stands.by_client;
          answered = given p.id.line stands.answered;
          part = stands.part;
          held = subst (λ (x : Slot). 0 < x.count) (sym same) stands.held;
          count_is = ap (λ (x : Slot). x.count) same ∙ stands.count_is
              ∙ sym (cond-false (p.id.line == n) 1 (counts c p.id) other);
        }

    -- a slot that the line took, or one that it didn't
    cases_taken : (i : ℕ) → ((p : ℕ) × (p < need s n) × (slice_get (free_slots fill.was.slots) p ≡ Some i))
        ⊎ (slot_at fill.now.slots i ≡ slot_at fill.was.slots i)
    cases_taken i = elim (contains_or_not (take (need s n) (free_slots fill.was.slots)) i) [
      | inl there ↦
          let at = taken_place (need s n) (free_slots fill.was.slots) i there in
          inl at
      | inr not ↦ inr (fill.fills.others i not)
    ]

    new_slot : (i p : ℕ) → p < need s n → slice_get (free_slots fill.was.slots) p ≡ Some i → slot_in filled r i ≡ part_slot s n p
    new_slot i p below at = own_slot i ∙ fill.fills.filled p i below at

    part_stands : (p : ℕ) (x : StoredPiece) (slot : Slot) → p < need s n → slot ≡ part_slot s n p → slot.piece ≡ Some x
        → StandsForSlot s B (counts_filled r x.id) r x slot
    part_stands p x slot below is at =
        let same : stored_part s (record { line = n; part = p }) ≡ x = same_Some _ x (ap (λ (y : Slot). y.piece) (sym is) ∙ at) in
        let here : (n == n) ≡ true = eq-eqb n n refl in
        rw (← same) (record {
          stored = refl;
          by_client = own;
          answered = given_own;
          part = below;
          held = (let h = ap (λ (y : Slot). y.count) is in omega (arith, h));
          count_is = ap (λ (y : Slot). y.count) is ∙ sym (cond-true (n == n) 1 (counts r (record { line = n; part = p })) here);
        })

    filled_slots : (c i : ℕ) (p : StoredPiece) → (slot_in filled c i).piece ≡ Some p
        → StandsForSlot s B (counts_filled c p.id) c p (slot_in filled c i)
    filled_slots c i p at = elim (cases_eq c r) [
      | inl same ↦ elim (cases_taken i) [
        | inl took ↦
            subst (λ k. StandsForSlot s B (counts_filled k p.id) k p (slot_in filled k i)) (sym same)
            (part_stands took.0 p (slot_in filled r i) took.1 (new_slot i took.0 took.1 took.2)
            (subst (λ k. (slot_in filled k i).piece ≡ Some p) same at))
        | inr kept ↦
            subst (λ k. StandsForSlot s B (counts_filled k p.id) k p (slot_in filled k i)) (sym same)
            (kept_slot r i p (slot_in filled r i) (own_slot i ∙ kept ∙ sym (was_slot i))
            (subst (λ k. (slot_in filled k i).piece ≡ Some p) same at))
      ]
      | inr other ↦ kept_slot c i p (slot_in filled c i) (other_slot c i other) at
    ]

    filled_free : (c i : ℕ) → (slot_in filled c i).piece ≡ None → (slot_in filled c i).count ≡ 0
    filled_free c i none = elim (cases_eq c r) [
      | inl same ↦
          let here = subst (λ k. (slot_in filled k i).piece ≡ None) same none in
          subst (λ k. (slot_in filled k i).count ≡ 0) (sym same) (elim (cases_taken i) [
            | inl took ↦ absurd (none-some _ (sym here ∙ ap (λ (x : Slot). x.piece) (new_slot i took.0 took.1 took.2)))
            | inr kept ↦
                let is = own_slot i ∙ kept ∙ sym (was_slot i) in
                ap (λ (x : Slot). x.count) is ∙ old.free r i (ap (λ (x : Slot). x.piece) (sym is) ∙ here)
          ])
      | inr other ↦
          let is = other_slot c i other in
          ap (λ (x : Slot). x.count) is ∙ old.free c i (ap (λ (x : Slot). x.piece) (sym is) ∙ none)
    ]

    -- where a piece of the filled logs stands: in a slot that had it, or in one that the line took
    record WasThere (c i : ℕ) (p : StoredPiece) : Type 0 where
      piece : (slot_in logs c i).piece ≡ Some p

    record IsPartAt (c i : ℕ) (p : StoredPiece) : Type 0 where
      client : c ≡ r
      part : ℕ
      below : part < need s n
      number : slice_get (free_slots fill.was.slots) part ≡ Some i
      id : p.id ≡ record { line = n; part = part }

    cases_filled : (c i : ℕ) (p : StoredPiece) → (slot_in filled c i).piece ≡ Some p → WasThere c i p ⊎ IsPartAt c i p
    cases_filled c i p at = elim (cases_eq c r) [
      | inl same ↦
          let here = subst (λ k. (slot_in filled k i).piece ≡ Some p) same at in
          elim (cases_taken i) [
            | inl took ↦ inr (record {
              client = same;
              part = took.0;
              below = took.1;
              number = took.2;
              id = ap (λ (x : StoredPiece). x.id) (sym (same_Some _ p (ap (λ (x : Slot). x.piece) (sym (new_slot i took.0 took.1 took.2)) ∙ here)));
            })
            | inr kept ↦ inl (record {
              piece = subst (λ k. (slot_in logs k i).piece ≡ Some p) (sym same)
                  (ap (λ (x : Slot). x.piece) (sym (own_slot i ∙ kept ∙ sym (was_slot i))) ∙ here);
            })
          ]
      | inr other ↦ inl (record { piece = ap (λ (x : Slot). x.piece) (sym (other_slot c i other)) ∙ at })
    ]

    -- a part of the line is in no slot that had a piece before
    not_there : (c i q j : ℕ) (x y : StoredPiece) → WasThere c i x → IsPartAt q j y → x.id ≡ y.id → ⊥
    not_there c i q j x y was part same =
        let stands = old.slots c i x was.piece in
        fresh (subst (λ k. IsSome (A k)) (ap (λ (z : Piece). z.line) (same ∙ part.id)) stands.answered)

    filled_once : AreInOneSlot filled
    filled_once c i q j x y here there same = elim (cases_filled c i x here) [
      | inl was ↦ elim (cases_filled q j y there) [
        | inl is ↦ old.once c i q j x y was.piece is.piece same
        | inr part ↦ absurd (not_there c i q j x y was part same)
      ]
      | inr part ↦ elim (cases_filled q j y there) [
        | inl is ↦ absurd (not_there q j c i y x is part (sym same))
        | inr other ↦
            let number : part.part ≡ other.part = ap (λ (z : Piece). z.part) (sym part.id ∙ same ∙ other.id) in (
              part.client ∙ sym other.client,
              same_Some i j (sym part.number ∙ ap (slice_get (free_slots fill.was.slots)) number ∙ other.number),
            )
      ]
    ]

    filled_each : (c : ℕ) (log : Log) → slice_get filled c ≡ Some log → IsLogOf s c log
    filled_each c log at = elim (cases_eq c r) [
      | inl same ↦
          let is : fill.now ≡ log = same_Some fill.now log (sym (slice_get-set_same logs r fill.now within)
          ∙ ap (λ ls. slice_get ls r) (sym fill.changed) ∙ ap (slice_get filled) (sym same) ∙ at) in
          subst (λ k. IsLogOf s k log) (sym same) (subst (IsLogOf s r) is (IsLogOf-frame s r fill.was fill.now fill.fills.frame is_log))
      | inr other ↦
          old.each c log (sym (slice_get-set_other logs r c fill.now other) ∙ ap (λ ls. slice_get ls c) (sym fill.changed) ∙ at)
    ]

    -- a slot that had a piece has it still
    pub filled-kept : (c i : ℕ) (p : StoredPiece) → (slot_in logs c i).piece ≡ Some p → slot_in filled c i ≡ slot_in logs c i
    filled-kept c i p at = elim (cases_eq c r) [
      | inl same ↦ subst (λ k. slot_in filled k i ≡ slot_in logs k i) (sym same) (elim (cases_taken i) [
        | inl took ↦
            let held = (old.slots r i p (subst (λ k. (slot_in logs k i).piece ≡ Some p) same at)).held in
            let flag = (free_places-at (map is_free fill.was.slots) took.0 i took.2) in
            absurd (omega (arith, held, eqb-true (slot_in logs r i).count 0 (ap is_free (was_slot i) ∙ free_flag i flag)))
        | inr kept ↦ own_slot i ∙ kept ∙ sym (was_slot i)
      ])
      | inr other ↦ other_slot c i other
    ]
      where
        free_flag : (i : ℕ) → (i < length (map is_free fill.was.slots)) × (get_or (map is_free fill.was.slots) i false ≡ true)
            → is_free (slot_at fill.was.slots i) ≡ true
        free_flag i flag =
            sym (get_or-map is_free fill.was.slots i free_slot false (let h = flag.0 in omega (arith, h, length-map fill.was.slots is_free))) ∙ flag.1

    -- with the line in its slots the logs stand for each of its pieces held once
    pub filled-stands : StandsForLogs s B counts_filled filled
    filled-stands = record {
      sized = ap length fill.changed ∙ length-set logs r fill.now ∙ old.sized;
      each = filled_each;
      slots = filled_slots;
      free = filled_free;
      once = filled_once;
    }

  -- ---- settled slots

  module _ (B : Answering) (counts' : ℕ → Piece → ℕ) {before after : Piece → ℕ} {logs' : List Log} (settles : Settles before after logs logs')
      (given : (k : ℕ) → IsSome (A k) → IsSome (B k))
      (change : (c : ℕ) (q : Piece) → rank_at s q.line ≡ Some c → IsSome (A q.line) → q.part < need s q.line
      → counts' c q + before q ≡ counts c q + after q) where
    -- a slot that had a piece is held as often as that is then
    settled_count : (c i : ℕ) (p : StoredPiece) → (slot_in logs c i).piece ≡ Some p → (slot_in logs' c i).count ≡ counts' c p.id
    settled_count c i p at =
        let stands = old.slots c i p at in
        let settled = settles.held c i p at in
        let changes = change c p.id stands.by_client stands.answered stands.part in
        omega (arith, settled.count, stands.count_is, changes)

    -- and has it still while something holds it
    pub settled-piece : (c i : ℕ) (p : StoredPiece) → (slot_in logs c i).piece ≡ Some p
        → (slot_in logs' c i).piece ≡ cond (nat_lt 0 (counts' c p.id)) (Some p) None
    settled-piece c i p at =
        (settles.held c i p at).piece ∙ ap (λ k. cond (nat_lt 0 k) (Some p) None) (settled_count c i p at)

    -- a piece in a slot was there
    settled_from : (c i : ℕ) (x : StoredPiece) → (slot_in logs' c i).piece ≡ Some x
        → ((slot_in logs c i).piece ≡ Some x) × (0 < counts' c x.id)
    settled_from c i x at = elim (cases_piece (slot_in logs c i)) [
      | inl none ↦ absurd (none-some x (sym none ∙ ap (λ (y : Slot). y.piece) (sym (settles.free c i none)) ∙ at))
      | inr some ↦
          let p = some.0 in
          let is = sym (settled-piece c i p some.1) ∙ at in
          elim (cases_Bool (nat_lt 0 (counts' c p.id))) [
            | inl held ↦
                let same : p ≡ x = same_Some p x (sym (cond-true (nat_lt 0 (counts' c p.id)) (Some p) None held) ∙ is) in
                (some.1 ∙ ap Some same, subst (λ (y : StoredPiece). 0 < counts' c y.id) same (ltb-true 0 (counts' c p.id) held))
            | inr not ↦ absurd (none-some x (sym (cond-false (nat_lt 0 (counts' c p.id)) (Some p) None not) ∙ is))
          ]
    ]

    settled_slots : (c i : ℕ) (x : StoredPiece) → (slot_in logs' c i).piece ≡ Some x
        → StandsForSlot s B (counts' c x.id) c x (slot_in logs' c i)
    settled_slots c i x at =
        let from = settled_from c i x at in
        let stands = old.slots c i x from.0 in
        let count = settled_count c i x from.0 in
        record {
          stored = stands.stored;
          by_client = stands.by_client;
          answered = given x.id.line stands.answered;
          part = stands.part;
          held = (let h = from.1 in omega (arith, h, count));
          count_is = count;
        }

    settled_free : (c i : ℕ) → (slot_in logs' c i).piece ≡ None → (slot_in logs' c i).count ≡ 0
    settled_free c i none = elim (cases_piece (slot_in logs c i)) [
      | inl free ↦ ap (λ (x : Slot). x.count) (settles.free c i free) ∙ old.free c i free
      | inr some ↦
          let settled = settles.held c i some.0 some.1 in
          elim (cases_Bool (nat_lt 0 (slot_in logs' c i).count)) [
            | inl held ↦ absurd (none-some some.0 (sym none ∙ settled.piece ∙ cond-true _ (Some some.0) None held))
            | inr not ↦ (let le = ltb-false 0 (slot_in logs' c i).count not in omega (arith, le))
          ]
    ]

    -- once all is settled the logs stand for what is held then
    pub settled-stands : StandsForLogs s B counts' logs'
    settled-stands = record {
      sized = sym (length-map logs' frame_of) ∙ ap length settles.frames ∙ length-map logs frame_of ∙ old.sized;
      each = λ c log at.
          let was = same_frame logs logs' c log settles.frames at in
          IsLogOf-frame s c was.0 log was.2 (old.each c was.0 was.1);
      slots = settled_slots;
      free = settled_free;
      once = λ c i q j x y here there same.
          old.once c i q j x y (settled_from c i x here).0 (settled_from q j y there).0 same;
    }
