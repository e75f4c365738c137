-- Live and pending pieces: each is a part of a line that was accepted, and is counted among those of its client, once. So there
-- are no more of them than the client's accepted writes have pieces.
use Rattle.fs_types.proofs.Common.{◌≡◌, ℕ, ◌/◌, ◌<◌, Bool, true, false, ◌||◌, ◌&&◌, List, [], length, list_any}
use Rattle.fs_types.proofs.Common.{Option, Some, None, IfSome, true≢false, refl, sym, ap, subst, inl, inr, arith, All}
use Rattle.fs_types.proofs.Common.{AllByRecursion, ◌≤◌, ◌+◌, min, ◌∙◌}
use Rattle.fs_types.proofs.Common.{All-nil, IsDistinct, or_cases, length-map-range_with_len, get_or-map-range_with_len}
use Rattle.std.proofs.Math.Nat.{div-lt_iff_lt-mul, zero-div, zero-mod}
use Rattle.std.proofs.lemmas.Grind.{div_ceil_times}
use Rattle.std.proofs.lemmas.List.Folds.{Any-from_list_any}
use Rattle.std.proofs.lemmas.Map.Views.{any-filter_same}
use Rattle.fs_types.specs.Fragments.{piece_eq}
use Rattle.fs_types.specs.Marks.{Mark, mark_of}
use Rattle.fs_types.specs.Pieces.{Piece}
use Rattle.fs_script.specs.declared.line.OpLine.{OpLine}
use Rattle.fs_script.specs.Job.{Job, op_at, program}
use Rattle.fs_script.specs.Payload.{payload, marks_in, parts_of, brought_in, bytes_brought}
use Rattle.fs_script.specs.Pending.{Answering, pending, pending_at}
use Rattle.fs_script.specs.Journal.{JournalsByPath}
use Rattle.fs_script.specs.FileMarks.{present_marks}
use Rattle.fs_script.specs.Accepted.{need, was_accepted, accepted_pieces}
use Rattle.fs_script.specs.Live.{piece_of, is_of_piece, bears, named_paths, is_live, is_pending, past_lines, pending_marks}
use Rattle.fs_script.specs.Live.{pieces_by, live_or_pending}
use Rattle.fs_script.proofs.FileCells.{All-put_lines, All-state_in}
use Rattle.fs_script.proofs.PiecesOnce.{same_piece, IsDistinct-filter, IsDistinct-pieces_by, list_any-pieces_by}
use Rattle.fs_script.proofs.CountedPieces.{passing-le}
use Rattle.fs_script.proofs.PendingLines.{IsAcceptedLine, AllAccepted-pending, accepted-pending_at}
use Rattle.fs_script.proofs.PlainLists.{AllByRecursion-weaker}
use Rattle.fs_script.proofs.ProgramPlaces.{program-place}
use Rattle.fs_script.specs.Vocabulary.{marks_put}

-- ---- the lines that live and pending pieces are of

-- a byte of so many stands in one of their parts
part_below : (chunk size i : ℕ) → 0 < chunk → i < size → i / chunk < parts_of chunk size
part_below chunk size i some below = (div-lt_iff_lt-mul some).1 (omega (arith, (div_ceil_times size chunk some).0))

abbrev mark_in : Job → ℕ → ℕ → Option Mark
mark_in s n i = Some (mark_of s.shape.chunk n i)

-- a part of a line of which R holds
pub record IsPart (s : Job) (R : ℕ → Type 0) (x : Piece) : Type 0 where
  pub part : x.part < need s x.line
  pub line : R x.line

module _ (s : Job) (some : 0 < s.shape.chunk) (R : ℕ → Type 0) where
  -- a mark, if it is one, is of such a part
  abbrev MarksPart : Option Mark → Type 0
  MarksPart mark = IfSome mark (λ m. IsPart s R (piece_of m))

  bears-part : (x : Piece) (mark : Option Mark) → is_of_piece x mark ≡ true → MarksPart mark → IsPart s R x
  bears-part x None is of_part = absurd (true≢false (sym is))
  bears-part x (Some m) is of_part = subst (IsPart s R) (same_piece (piece_of m) x is) of_part

  MarksPart-line : (n : ℕ) → R n → All MarksPart ((marks_in s).of_line n)
  MarksPart-line n of_line = λ k d below.
      let size = length (payload s n) in
      let within : k < size = omega (arith, length-map-range_with_len (mark_in s n) 0 size) in
      let is = get_or-map-range_with_len (mark_in s n) 0 size k k d within (omega arith) in
      subst MarksPart (sym is) (record { part = part_below s.shape.chunk size k some within; line = of_line })

  MarksPart-lines : (ns : List ℕ) → AllByRecursion R ns → AllByRecursion (λ n. All MarksPart ((marks_in s).of_line n)) ns
  MarksPart-lines ns all = AllByRecursion-weaker R (λ n. All MarksPart ((marks_in s).of_line n)) ns MarksPart-line all

  bears-some_part : (x : Piece) (marks : List (Option Mark)) → All MarksPart marks → bears marks x ≡ true → IsPart s R x
  bears-some_part x marks all borne =
      let h = Any-from_list_any (is_of_piece x) marks borne in
      bears-part x h.1 h.4 (subst MarksPart h.3 (all h.0 h.1 h.2))

  -- what such lines make of an empty file bears parts of them alone
  pub IsPart-lines : (ns : List ℕ) (x : Piece) → AllByRecursion R ns → bears (marks_put s ns) x ≡ true → IsPart s R x
  IsPart-lines ns x each borne = bears-some_part x (marks_put s ns)
      (All-put_lines MarksPart s (marks_in s) tt ns [] (MarksPart-lines ns each) (All-nil MarksPart)) borne

module _ (s : Job) (some : 0 < s.shape.chunk) (A : Answering) where
  abbrev pub WasAccepted : ℕ → Type 0
  WasAccepted n = was_accepted (A n) ≡ true

  -- a live piece is a part of an accepted line
  pub IsPart-live : (journals : JournalsByPath) (x : Piece) → is_live s A journals x ≡ true → IsPart s WasAccepted x
  IsPart-live journals x live =
      let h = Any-from_list_any (λ p. bears (present_marks s A (journals p)) x) (named_paths s) live in
      let J = journals h.1 in
      let each = λ (n : ℕ). MarksPart-lines s some WasAccepted (pending_at s A n) (accepted-pending_at s A n) in
      bears-some_part s some WasAccepted x (present_marks s A J)
      (All-state_in (MarksPart s some WasAccepted) s (marks_in s) tt A each J (length J)) h.4

  -- what a client has pending to a path bears parts of its own accepted lines there
  pub IsPart-pending_marks : (r : ℕ) (p : List ℕ) (x : Piece) → bears (pending_marks s A r p) x ≡ true → IsPart s (IsAcceptedLine s A r p) x
  IsPart-pending_marks r p x borne = IsPart-lines s some (IsAcceptedLine s A r p) (pending s A r p (past_lines s)) x
      (AllAccepted-pending s A r p (past_lines s)) borne

  -- a pending piece is such a part for some path
  pub IsPart-pending : (r : ℕ) (x : Piece) → is_pending s A r x ≡ true → (p : List ℕ) × IsPart s (IsAcceptedLine s A r p) x
  IsPart-pending r x waits =
      let h = Any-from_list_any (λ p. bears (pending_marks s A r p) x) (named_paths s) waits in
      (h.1, IsPart-pending_marks r h.1 x h.4)

  -- so a piece that is either is a part of an accepted line
  pub IsPart-either : (journals : JournalsByPath) (r : ℕ) (x : Piece) → (is_live s A journals x || is_pending s A r x) ≡ true
      → IsPart s WasAccepted x
  IsPart-either journals r x h = elim (or_cases (is_live s A journals x) (is_pending s A r x) h) [
    | inl live ↦ IsPart-live journals x live
    | inr waits ↦ let part = (IsPart-pending r x waits).1 in record { part = part.part; line = part.line.accepted }
  ]

-- no bytes have no parts
parts_of_nothing : (chunk : ℕ) → parts_of chunk 0 ≡ 0
parts_of_nothing chunk = λ i. zero-div chunk i + min 1 (zero-mod chunk i)

-- so a part is of an operation
pub op-of_part : (s : Job) (x : Piece) → x.part < need s x.line → (o : OpLine) × (op_at s x.line ≡ Some o)
op-of_part s x below = by (op_at s x.line) refl where
  by : (o : Option OpLine) → op_at s x.line ≡ o → (l : OpLine) × (op_at s x.line ≡ Some l)
  by (Some l) is = (l, is)
  by None is =
      let none = ap (λ o. parts_of s.shape.chunk (length (bytes_brought (brought_in o)))) is ∙ parts_of_nothing s.shape.chunk in
      absurd (omega (arith, none))

-- ---- what is counted

-- no piece is counted twice
pub IsDistinct-live_or_pending : (s : Job) (A : Answering) (journals : JournalsByPath) (r : ℕ)
    → IsDistinct piece_eq (live_or_pending s A journals r)
IsDistinct-live_or_pending s A journals r =
    IsDistinct-filter piece_eq (λ x. is_live s A journals x || is_pending s A r x) (pieces_by s r) (IsDistinct-pieces_by s r)

-- and each piece of a client's line is counted exactly where it is live or pending
pub list_any-live_or_pending : (s : Job) (A : Answering) (journals : JournalsByPath) (x : Piece) (o : OpLine) → 0 < s.shape.chunk
    → op_at s x.line ≡ Some o
    → list_any (piece_eq x) (live_or_pending s A journals o.rank) ≡ (is_live s A journals x || is_pending s A o.rank x)
list_any-live_or_pending s A journals x o some is =
    let wanted = λ (y : Piece). is_live s A journals y || is_pending s A o.rank y in
    any-filter_same (piece_eq x) wanted (wanted x) (λ y same. ap wanted (sym (same_piece x y same))) (pieces_by s o.rank)
    ∙ by (wanted x) refl
  where
    by : (b : Bool) → (is_live s A journals x || is_pending s A o.rank x) ≡ b → (b && list_any (piece_eq x) (pieces_by s o.rank)) ≡ b
    by false h = refl
    by true h =
        let place = program-place s x.line o is in
        list_any-pieces_by s o.rank place.0 x place.1 (IsPart-either s some A journals o.rank x h).part

-- ---- how many

-- there are no more than the pieces of the client's accepted writes
pub length-live_or_pending : (s : Job) (some : 0 < s.shape.chunk) (A : Answering) (journals : JournalsByPath) (r : ℕ)
    → length (live_or_pending s A journals r) ≤ accepted_pieces s A (program s r)
length-live_or_pending s some A journals r = passing-le s (λ n. was_accepted (A n)) (λ x. is_live s A journals x || is_pending s A r x)
    (λ x h. (IsPart-either s some A journals r x h).line) (program s r)
