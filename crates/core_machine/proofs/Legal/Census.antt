-- How many slots are held at a moment of a run: as many as pieces are held; the others are free.
use Rattle.fs_types.proofs.Common.{◌≡◌, ℕ, ◌+◌, true, ◌&&◌, nat_lt, length, list_any, Some, sym, ap, ◌∙◌, arith, lt-ltb, ltb-true}
use Rattle.fs_types.proofs.Common.{Bool, and_parts, and_from, Contains-from_any}
use Rattle.std.proofs.lemmas.Map.Made.{length-le_from_is_member}
use Rattle.std.proofs.lemmas.Map.Views.{any-filter_same}
use Rattle.fs_types.specs.Fragments.{piece_eq}
use Rattle.fs_script.specs.Vocabulary.{Piece, pieces_by}
use Rattle.core_machine.specs.Vocabulary.{Moment, log_of, empty_slots, holds_of, held_pieces, HoldsExactly}
use Rattle.fs_script.proofs.CallerLemmas.{same_piece, piece_eq_equiv, IsDistinct-filter, IsDistinct-pieces_by, any_from_Contains}
use Rattle.core_machine.proofs.Legal.Logs.{place-of, pieces_of_log, held_and_free, piece-in_slot, IsDistinct-pieces_of_log}
use Rattle.core_machine.proofs.Legal.Turns.{has_piece}

module _ {m : Moment} {r : ℕ} (slots : HoldsExactly m r) where
  abbrev is_held : Piece → Bool
  is_held x = nat_lt 0 (holds_of m r x)

  -- whether a piece of the client is among those that are held
  among : (x : Piece) → list_any (piece_eq x) (held_pieces m r) ≡ (is_held x && list_any (piece_eq x) (pieces_by m.job r))
  among x = any-filter_same (piece_eq x) is_held (is_held x) (λ y same. ap is_held (sym (same_piece x y same))) (pieces_by m.job r)

  -- as many slots are held as pieces are
  pub held-count : length (pieces_of_log (log_of m r)) ≡ length (held_pieces m r)
  held-count =
      let log = log_of m r in
      let into : (x : Piece) → list_any (piece_eq x) (pieces_of_log log) ≡ true → list_any (piece_eq x) (held_pieces m r) ≡ true = λ x h.
      let has = has_piece m r x h in
      among x ∙ and_from _ _ (lt-ltb 0 (holds_of m r x) (slots.held x has)) (any_from_Contains x (pieces_by m.job r) (slots.own x has)) in
      let back : (x : Piece) → list_any (piece_eq x) (held_pieces m r) ≡ true → list_any (piece_eq x) (pieces_of_log log) ≡ true = λ x h.
      let both = and_parts _ _ (sym (among x) ∙ h) in
      let own = Contains-from_any same_piece x (pieces_by m.job r) both.1 in
      let at = place-of log (Some x) (slots.each x own (ltb-true 0 (holds_of m r x) both.0)) in
      piece-in_slot x log at.0 at.1 in
      omega (
        arith,
        length-le_from_is_member piece_eq_equiv (pieces_of_log log) (held_pieces m r) (IsDistinct-pieces_of_log log slots.once) into,
        length-le_from_is_member piece_eq_equiv (held_pieces m r) (pieces_of_log log)
            (IsDistinct-filter piece_eq is_held (pieces_by m.job r) (IsDistinct-pieces_by m.job r)) back,
      )

  -- each slot is held or free
  pub held-and-free : length (held_pieces m r) + length (empty_slots (log_of m r)) ≡ m.job.shape.shmem + m.job.shape.spill
  held-and-free = omega (arith, held-count, held_and_free 0 (log_of m r), slots.sized)
