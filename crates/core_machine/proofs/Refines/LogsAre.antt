-- The pieces in the clients' logs after an event are those of the machine's next moment.
use Rattle.fs_types.proofs.Common.{◌≡◌, ℕ, zero, suc, ◌∷◌, ◌⊎◌, ◌+◌, ◌<◌, Bool, true, false, cond}
use Rattle.fs_types.proofs.Common.{nat_lt, List, [], length, map, take, get_or, slice_get}
use Rattle.fs_types.proofs.Common.{Option, Some, None, IsSome, refl, sym, ap, ◌∙◌, subst, inl, inr, arith}
use Rattle.fs_types.proofs.Common.{option_map, length-map, get_or-map, get_or-map-range_with_len, length-map-range_with_len}
use Rattle.fs_types.proofs.Common.{slice_get-get_or, slice_get_within, get_or_from_slice_get, eq-eqb, ne_eqb, map-map}
use Rattle.std.proofs.lemmas.List.{same_lists, get_or_default}
use Rattle.std.specs.Option.{is_none}
use Rattle.slot_plain.specs.Log.{Log}
use Rattle.slot_plain.specs.Slots.{Slot, StoredPiece, free_slot, free_slots, is_free, slot_at}
use Rattle.slot_plain.specs.FreePlaces.{free_places}
use Rattle.fs_script.specs.Vocabulary.{Job, Piece, need, rank_at, Answering, pieces_of_line}
use Rattle.fs_script.proofs.CallerLemmas.{slice_get-set_same, slice_get-map_some, slice_get-some}
use Rattle.core_machine.specs.Logs.{frame_of, piece_in, pieces_in, slot_in, slot_of}
use Rattle.core_machine.specs.Moment.{Moment, log_of}
use Rattle.core_machine.specs.Settling.{FillsLog, Settles}
use Rattle.core_machine.specs.Slots.{empty_slots, holds_of, still_held, with_line, without_dead}
use Rattle.core_machine.specs.StandingLogs.{StandsForLogs}
use Rattle.core_machine.proofs.Refines.FilledSlots.{free_places-once, free_places-at, with_pieces-other, with_pieces-at}
use Rattle.core_machine.proofs.PlainLists.{contains_or_not, taken_place, place_taken}
use Rattle.core_machine.proofs.Refines.SlotsAfter.{cases_piece, same_frame, settled-piece}

-- ---- one log

-- the piece in each slot
pub piece-at : (slots : List Slot) (i : ℕ) → get_or (map piece_in slots) i None ≡ piece_in (slot_at slots i)
piece-at [] i = refl
piece-at (x ∷ slots) zero = refl
piece-at (x ∷ slots) (suc i) = piece-at slots i

-- the piece in each slot of the log at a place
pub row-at : (logs : List Log) (c i : ℕ) → get_or (get_or (map pieces_in logs) c []) i None ≡ piece_in (slot_in logs c i)
row-at [] c i = refl
row-at (x ∷ logs) zero i = piece-at x.slots i
row-at (x ∷ logs) (suc c) i = row-at logs c i

module _ {s : Job} {A : Answering} {counts : ℕ → Piece → ℕ} {logs : List Log} (old : StandsForLogs s A counts logs) where
  -- the free slots of a log are those without a piece
  pub empty-free : (r : ℕ) (log : Log) → slice_get logs r ≡ Some log → empty_slots (pieces_in log) ≡ free_slots log.slots
  empty-free r log at = ap free_places (map-map is_none piece_in log.slots ∙ same_lists _ _
      (length-map log.slots _ ∙ sym (length-map log.slots is_free)) (λ i d below.
      let within : i < length log.slots = omega (arith, below, length-map log.slots (λ x. is_none (piece_in x))) in
      get_or-map (λ x. is_none (piece_in x)) log.slots i free_slot d within ∙ flag i ∙ sym (get_or-map is_free log.slots i free_slot d within)))
    where
      flag : (i : ℕ) → is_none (piece_in (slot_at log.slots i)) ≡ is_free (slot_at log.slots i)
      flag i =
          let is : slot_in logs r i ≡ slot_at log.slots i = ap (λ o. slot_of o i) at in
          subst (λ x. is_none (piece_in x) ≡ is_free x) is (elim (cases_piece (slot_in logs r i)) [
            | inl none ↦ ap (λ p. is_none (option_map (λ x. x.id) p)) none ∙ sym (eq-eqb _ 0 (old.free r i none))
            | inr some ↦
                let held = (old.slots r i some.0 some.1).held in
                ap (λ p. is_none (option_map (λ x. x.id) p)) some.1 ∙ sym (ne_eqb _ 0 (λ e. omega (arith, held, e)))
          ])

  -- ---- what is in a log once the line's pieces are in their slots

  module _ (n r : ℕ) {filled : List Log} (fill : FillsLog s n r logs filled) where
    abbrev row : List (Option Piece)
    row = pieces_in fill.was

    numbers : empty_slots row ≡ free_slots fill.was.slots
    numbers = empty-free r fill.was fill.there

    within : r < length logs
    within = slice_get_within logs r fill.was fill.there

    abbrev part_of : ℕ → Piece
    part_of p = record { line = n; part = p }

    parts-many : length (pieces_of_line s n) ≡ need s n
    parts-many = length-map-range_with_len part_of 0 (need s n)

    piece-of_line : (p : ℕ) → p < need s n → slice_get (pieces_of_line s n) p ≡ Some (record { line = n; part = p })
    piece-of_line p below =
        let own : Piece = record { line = n; part = p } in
        slice_get-get_or (pieces_of_line s n) p own (omega (arith, below, parts-many))
        ∙ ap Some (get_or-map-range_with_len part_of 0 (need s n) p p own below (omega arith))

    pub filled-row : (i : ℕ) → get_or (with_line s n row) i None ≡ piece_in (slot_in filled r i)
    filled-row i = subst (λ x. get_or (with_line s n row) i None ≡ piece_in x) (sym (own_slot i)) (elim (cases_taken i) [
      | inl took ↦
          let at = ap (λ is. slice_get is took.0) numbers ∙ took.2 in
          let inside = (free_places-at (map is_none row) took.0 i at).0 in
          with_pieces-at (empty_slots row) (pieces_of_line s n) row took.0 i (record { line = n; part = took.0 })
          (λ a b m one two. free_places-once (map is_none row) a b m one two) at (piece-of_line took.0 took.1)
          (omega (arith, inside, length-map row is_none))
          ∙ sym (ap piece_in (fill.fills.filled took.0 i took.1 took.2))
      | inr kept ↦
          with_pieces-other (empty_slots row) (pieces_of_line s n) row i (λ p below at.
          kept.0 p (omega (arith, below, parts-many))
          (ap (λ is. slice_get is p) (sym numbers) ∙ at))
          ∙ piece-at fill.was.slots i ∙ ap piece_in (sym kept.1)
    ])
      where
        own_slot : (i : ℕ) → slot_in filled r i ≡ slot_at fill.now.slots i
        own_slot i = ap (λ ls. slot_of (slice_get ls r) i) fill.changed
            ∙ ap (λ o. slot_of o i) (slice_get-set_same logs r fill.now within)

        cases_taken : (i : ℕ) → ((p : ℕ) × (p < need s n) × (slice_get (free_slots fill.was.slots) p ≡ Some i))
            ⊎ (((p : ℕ) → p < need s n → slice_get (free_slots fill.was.slots) p ≡ Some i → ⊥)
            × (slot_at fill.now.slots i ≡ slot_at fill.was.slots i))
        cases_taken i = elim (contains_or_not (take (need s n) (free_slots fill.was.slots)) i) [
          | inl there ↦ inl (taken_place (need s n) (free_slots fill.was.slots) i there)
          | inr not ↦ inr (λ p below at. not (place_taken (need s n) (free_slots fill.was.slots) p i below at), fill.fills.others i not)
        ]

-- ---- all logs

-- a slot keeps its piece exactly while something holds it
still-held : (had : Moment) (c : ℕ) (p : StoredPiece) (old new : Slot) → old.piece ≡ Some p
    → new.piece ≡ cond (nat_lt 0 (holds_of had c p.id)) (Some p) None → still_held had c (piece_in old) ≡ piece_in new
still-held had c p old new at is =
    let b = nat_lt 0 (holds_of had c p.id) in
    ap (λ o. still_held had c (option_map (λ x. x.id) o)) at ∙ by b ∙ sym (ap (option_map (λ x. x.id)) is)
  where
    by : (b : Bool) → cond b (Some p.id) None ≡ option_map (λ x. x.id) (cond b (Some p) None)
    by true = refl
    by false = refl

module _ {s : Job} {A : Answering} {counts : ℕ → Piece → ℕ} {filled : List Log} (stands : StandsForLogs s A counts filled)
    {before after : Piece → ℕ} {logs' : List Log} (settles : Settles before after filled logs') (had : Moment)
    (rows : (c i : ℕ) → c < length filled → get_or (log_of had c) i None ≡ piece_in (slot_in filled c i))
    (sizes : (c : ℕ) (log : Log) → slice_get filled c ≡ Some log → length (log_of had c) ≡ length log.slots)
    (clients : had.job.shape.clients ≡ length filled)
    (change : (c : ℕ) (q : Piece) → rank_at s q.line ≡ Some c → IsSome (A q.line) → q.part < need s q.line
    → holds_of had c q + before q ≡ counts c q + after q) where
  settled-row : (c i : ℕ) → c < length filled → still_held had c (get_or (log_of had c) i None) ≡ piece_in (slot_in logs' c i)
  settled-row c i below = ap (still_held had c) (rows c i below) ∙ elim (cases_piece (slot_in filled c i)) [
    | inl none ↦
        ap (λ o. still_held had c (option_map (λ x. x.id) o)) none
        ∙ sym (ap (λ (x : Slot). piece_in x) (settles.free c i none) ∙ ap (option_map (λ x. x.id)) none)
    | inr some ↦
        still-held had c some.0 (slot_in filled c i) (slot_in logs' c i) some.1
        (settled-piece stands A (holds_of had) settles (λ k given. given) change c i some.0 some.1)
  ]

  -- once the slots that nothing holds are free, the machine's logs have the pieces of the kept ones
  pub logs-are : (without_dead had).logs ≡ map pieces_in logs'
  logs-are = same_lists _ _ sized at where
    length-logs : length logs' ≡ length filled
    length-logs = sym (length-map logs' frame_of) ∙ ap length settles.frames ∙ length-map filled frame_of

    row_of : ℕ → List (Option Piece)
    row_of c = map (still_held had c) (log_of had c)

    sized : length (without_dead had).logs ≡ length (map pieces_in logs')
    sized = length-map-range_with_len row_of 0 had.job.shape.clients ∙ clients ∙ sym length-logs ∙ sym (length-map logs' pieces_in)

    one : (c : ℕ) (log : Log) → slice_get logs' c ≡ Some log → c < length filled → row_of c ≡ pieces_in log
    one c log there below =
        let was = same_frame filled logs' c log settles.frames there in
        let same = ap (λ f. f.slots) was.2 in
        same_lists _ _
        (length-map (log_of had c) (still_held had c) ∙ sizes c was.0 was.1 ∙ sym same ∙ sym (length-map log.slots piece_in)) (λ i d inside.
        let within : i < length (log_of had c) = omega (arith, inside, length-map (log_of had c) (still_held had c)) in
        let size = length-map log.slots piece_in in
        get_or-map (still_held had c) (log_of had c) i None d within
        ∙ settled-row c i below
        ∙ ap (λ o. piece_in (slot_of o i)) there
        ∙ sym (piece-at log.slots i)
        ∙ get_or_default (pieces_in log) i None d (omega (arith, within, sizes c was.0 was.1, same, size)))

    at : (c : ℕ) (d : List (Option Piece)) → c < length (without_dead had).logs
        → get_or (without_dead had).logs c d ≡ get_or (map pieces_in logs') c d
    at c d inside =
        let below : c < length filled = omega (arith, inside, length-map-range_with_len row_of 0 had.job.shape.clients, clients) in
        let log = log-there c below in
        get_or-map-range_with_len row_of 0 had.job.shape.clients c c d (omega (arith, below, clients)) (omega arith)
        ∙ one c log.0 log.1 below
        ∙ sym (get_or_from_slice_get (map pieces_in logs') c (pieces_in log.0) d (slice_get-map_some pieces_in logs' c log.0 log.1))
      where
        log-there : (c : ℕ) → c < length filled → (log : Log) × (slice_get logs' c ≡ Some log)
        log-there c below = slice_get-some logs' c (omega (arith, below, length-logs))
