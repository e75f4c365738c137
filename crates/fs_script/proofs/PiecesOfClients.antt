-- The pieces that a client's lines write: each is a part of one of its lines.
use Rattle.fs_types.proofs.Common.{◌≡◌, ℕ, ◌<◌, true, List, Some, length, list_any, slice_get, Contains, ap, ◌∙◌, sym, subst, arith}
use Rattle.fs_types.proofs.Common.{length-map-range_with_len, get_or-map-range_with_len, slice_get-get_or, slice_get_within}
use Rattle.fs_types.proofs.Common.{get_or_from_slice_get, Contains-from_any}
use Rattle.std.proofs.lemmas.List.Folds.{Any-from_list_any, list_any_at}
use Rattle.fs_types.specs.Fragments.{piece_eq}
use Rattle.fs_types.specs.Pieces.{Piece}
use Rattle.fs_script.specs.Accepted.{need}
use Rattle.fs_script.specs.Job.{Job, rank_at, rank_in, program}
use Rattle.fs_script.specs.Live.{pieces_of_line, pieces_by}
use Rattle.fs_script.proofs.PiecesOnce.{piece_at, same_piece, piece_eq_equiv, list_any-flat_map, list_any-pieces_by}
use Rattle.fs_script.proofs.ProgramPlaces.{program-op}

-- a part of a line of client r
pub record IsPartOf (s : Job) (r : ℕ) (x : Piece) : Type 0 where
  pub line : rank_at s x.line ≡ Some r
  pub part : x.part < need s x.line

-- a piece that a list contains is found in it
pub any_from_Contains : (x : Piece) (xs : List Piece) → Contains xs x → list_any (piece_eq x) xs ≡ true
any_from_Contains x xs has = list_any_at (piece_eq x) xs has.0 x has.1 (ap (piece_eq x) has.2 ∙ piece_eq_equiv.refl x)

-- a piece of a line is a part of it
part-of_line : (s : Job) (n : ℕ) (x : Piece) → list_any (piece_eq x) (pieces_of_line s n) ≡ true → (n ≡ x.line) × (x.part < need s x.line)
part-of_line s n x h =
    let at = Any-from_list_any (piece_eq x) (pieces_of_line s n) h in
    let below : at.0 < need s n = omega (arith, at.2, length-map-range_with_len (piece_at n) 0 (need s n)) in
    let is : piece_at n at.0 ≡ x =
    sym (get_or-map-range_with_len (piece_at n) 0 (need s n) at.0 at.0 at.1 below (omega arith)) ∙ at.3 ∙ sym (same_piece x at.1 at.4) in
    (ap (λ y. y.line) is, subst (λ y. y.part < need s y.line) is below)

-- each of a client's pieces is a part of one of its lines
pub IsPartOf-from_pieces : (s : Job) (r : ℕ) (x : Piece) → Contains (pieces_by s r) x → IsPartOf s r x
IsPartOf-from_pieces s r x has =
    let found = sym (list_any-flat_map (piece_eq x) (pieces_of_line s) (program s r)) ∙ any_from_Contains x (pieces_by s r) has in
    let at = Any-from_list_any (λ n. list_any (piece_eq x) (pieces_of_line s n)) (program s r) found in
    let part = part-of_line s at.1 x at.4 in
    let op = program-op s r at.0 at.1 (slice_get-get_or (program s r) at.0 at.1 at.2 ∙ ap Some at.3) in
    record {
      line = ap (rank_at s) (sym part.0) ∙ ap rank_in op.1 ∙ ap Some op.2;
      part = part.1;
    }

-- ---- at their places

pub length-pieces_of_line : (s : Job) (n : ℕ) → length (pieces_of_line s n) ≡ need s n
length-pieces_of_line s n = length-map-range_with_len (piece_at n) 0 (need s n)

-- the pieces of a line stand there by their parts
pub part-at : (s : Job) (n i : ℕ) (x : Piece) → slice_get (pieces_of_line s n) i ≡ Some x → (x.line ≡ n) × (x.part ≡ i) × (i < need s n)
part-at s n i x at =
    let long = length-map-range_with_len (piece_at n) 0 (need s n) in
    let below : i < need s n = omega (arith, slice_get_within (pieces_of_line s n) i x at) in
    let is = sym (get_or_from_slice_get (pieces_of_line s n) i x x at)
    ∙ get_or-map-range_with_len (piece_at n) 0 (need s n) i i x below (omega arith) in
    (ap (λ y. y.line) is, ap (λ y. y.part) is, below)

pub part-there : (s : Job) (x : Piece) → x.part < need s x.line → slice_get (pieces_of_line s x.line) x.part ≡ Some x
part-there s x below =
    let long = length-map-range_with_len (piece_at x.line) 0 (need s x.line) in
    slice_get-get_or (pieces_of_line s x.line) x.part x (omega (arith, long))
    ∙ ap Some (get_or-map-range_with_len (piece_at x.line) 0 (need s x.line) x.part x.part x below (omega arith))

-- a part of a client's line is one of the client's pieces
pub Contains-pieces_by : (s : Job) (r k : ℕ) (x : Piece) → slice_get (program s r) k ≡ Some x.line → x.part < need s x.line
    → Contains (pieces_by s r) x
Contains-pieces_by s r k x at below = Contains-from_any same_piece x (pieces_by s r) (list_any-pieces_by s r k x at below)
