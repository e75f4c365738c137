-- Ranges of a device's cells: what a write leaves of them.
use Rattle.std.proofs.Common.{◌≡◌, ℕ, suc, zero, ◌+◌, ◌-◌, ◌≤◌, List, [], ◌∷◌, ◌++◌, Option, Some, None, IsSome, IfSome, All, length}
use Rattle.std.proofs.Common.{take, drop, map, slice_range, unwrap_or, arith, sym, ◌∙◌, ap, refl, ◌⊎◌, inl, inr, subst, take-take}
use Rattle.std.specs.Option.{option_map, ForSome}
use Rattle.std.proofs.lemmas.List.{length-append, length-map, take_at, drop_at, take-append-le}
use Rattle.std.proofs.lemmas.List.{length-take-le, drop-drop, drop-take, append_assoc, take-map, drop-map}
use Rattle.std.proofs.lemmas.List.Elements.{All-take, All-drop}
use Rattle.std.proofs.lemmas.Slice.{between_is, drop-append-drop}
use Rattle.fs_dev.specs.SpillDev.{put_cells, Wrote, LeftOpen, WasWritten, HoldsAt}
use Rattle.slot_plain.specs.Log.{bytes_from}

module _ {X : Type 0} where
  part : (i n : ℕ) (xs : List X) → slice_range xs i (i + n) ≡ take n (drop i xs)
  part i n xs = ap (λ m. take m (drop i xs)) (let h : (i + n) - i ≡ n = omega arith in h)

  -- a part of a part
  pub slice_range-slice_range : (xs : List X) (at n i m : ℕ) → i + m ≤ n
      → slice_range (slice_range xs at (at + n)) i (i + m) ≡ slice_range xs (at + i) (at + i + m)
  slice_range-slice_range xs at n i m le =
      let rest : n ≡ i + (n - i) = omega arith in
      let short : m ≤ n - i = omega arith in
      part i m (slice_range xs at (at + n))
      ∙ ap (λ ys. take m (drop i ys)) (part at n xs ∙ ap (λ k. take k (drop at xs)) rest)
      ∙ ap (take m) (drop-take i (n - i) (drop at xs))
      ∙ take-take m (n - i) (drop i (drop at xs)) short
      ∙ ap (take m) (drop-drop i at xs)
      ∙ sym (part (at + i) m xs)

-- cells that are put over others leave those of another range
put_cells-other : (held cells : List (Option ℕ)) (at i n : ℕ) → at + length cells ≤ length held
    → ((i + n ≤ at) ⊎ (at + length cells ≤ i)) → slice_range (put_cells at cells held) i (i + n) ≡ slice_range held i (i + n)
put_cells-other held cells at i n within (inl before) =
    let size : length (take at held) ≡ at = length-take-le at held (omega arith) in
    between_is (put_cells at cells held) i (i + n)
    ∙ ap (drop i) (take-append-le (i + n) (take at held ++ cells) (drop (at + length cells) held)
    (omega (arith, length-append (take at held) cells))
    ∙ take-append-le (i + n) (take at held) cells (omega arith) ∙ take-take (i + n) at held before)
    ∙ sym (between_is held i (i + n))
put_cells-other held cells at i n within (inr behind) =
    let size : length (take at held ++ cells) ≡ at + length cells =
    omega (arith, length-append (take at held) cells, length-take-le at held (omega arith)) in
    ap (take ((i + n) - i)) (drop-append-drop (at + length cells) held (take at held ++ cells) i behind size)

-- and stand in their own
put_cells-same : (held cells : List (Option ℕ)) (at : ℕ) → at + length cells ≤ length held
    → slice_range (put_cells at cells held) at (at + length cells) ≡ cells
put_cells-same held cells at within =
    let first = take at held in
    let rest = drop (at + length cells) held in
    let size : length first ≡ at = length-take-le at held (omega arith) in
    part at (length cells) (put_cells at cells held)
    ∙ ap (λ ys. take (length cells) (drop at ys)) (append_assoc first cells rest)
    ∙ ap (take (length cells)) (drop_at first (cells ++ rest) at size)
    ∙ take_at cells rest (length cells) refl

unwrapped : (bytes : List ℕ) → map (λ (cell : Option ℕ). unwrap_or cell 0) (map Some bytes) ≡ bytes
unwrapped [] = refl
unwrapped (b ∷ bytes) = ap (λ rest. b ∷ rest) (unwrapped bytes)

-- bytes that were written are the ones that are told
told-map : (bytes : List ℕ) (cells : List (Option ℕ)) (i : ℕ) → slice_range cells i (i + length bytes) ≡ map Some bytes
    → map (λ (cell : Option ℕ). unwrap_or cell 0) (slice_range cells i (i + length bytes)) ≡ bytes
told-map bytes cells i is = ap (map (λ (cell : Option ℕ). unwrap_or cell 0)) is ∙ unwrapped bytes

-- what is said of the cells that are told
written_some : (at n : ℕ) (cells : List (Option ℕ)) → All IsSome (slice_range cells at (at + n)) → WasWritten at n (Some cells)
written_some at n cells all x e =
    let same : cells ≡ x = cc in subst (λ (y : List (Option ℕ)). All IsSome (slice_range y at (at + n))) same all

All-some : (bytes : List ℕ) → All IsSome (map Some bytes)
All-some [] k d lt = absurd (omega arith)
All-some (b ∷ bytes) zero d lt = refl
All-some (b ∷ bytes) (suc k) d lt = All-some bytes k d (omega arith)

All-part : (xs : List (Option ℕ)) (i n : ℕ) → All IsSome xs → All IsSome (slice_range xs i (i + n))
All-part xs i n all = All-take IsSome ((i + n) - i) (drop i xs) (All-drop IsSome i xs all)

-- a range of the device that another range was left open beside, or written beside, keeps its bytes
pub LeftOpen-other : (at n i len : ℕ) (old new : Option (List (Option ℕ))) → ForSome old (λ held. at + n ≤ length held)
    → ((i + len ≤ at) ⊎ (at + n ≤ i)) → LeftOpen at n old new
    → (bytes_from i len new ≡ bytes_from i len old) × (WasWritten i len old → WasWritten i len new)
LeftOpen-other at n i len None new within apart (cells, size, is) = rw is (refl, λ all. all)
LeftOpen-other at n i len (Some held) new within apart (cells, size, is) =
    let room = within held refl in
    let beside : (i + len ≤ at) ⊎ (at + length cells ≤ i) = rw size apart in
    let same = put_cells-other held cells at i len (omega (arith, room, size)) beside in
    rw is (
      ap (λ (r : List (Option ℕ)). Some (map (λ (cell : Option ℕ). unwrap_or cell 0) r)) same,
      λ all. written_some i len (put_cells at cells held) (rw same (all held refl)),
    )

-- bytes that were written are told
pub Wrote-same : (at : ℕ) (bytes : List ℕ) (old new : Option (List (Option ℕ))) → ForSome old (λ held. at + length bytes ≤ length held)
    → Wrote at bytes old new
    → (bytes_from at (length bytes) new ≡ option_map (λ _. bytes) old) × WasWritten at (length bytes) new
Wrote-same at bytes None new within is = rw is (refl, λ x e. cc)
Wrote-same at bytes (Some held) new within is =
    let room = within held refl in
    let size = length-map bytes Some in
    let cells : List (Option ℕ) = map Some bytes in
    let there = put_cells-same held cells at (omega (arith, room, size)) in
    let same : slice_range (put_cells at cells held) at (at + length bytes) ≡ cells =
    ap (λ m. slice_range (put_cells at cells held) at (at + m)) (sym size) ∙ there in
    rw is (
      ap Some (told-map bytes (put_cells at cells held) at same),
      written_some at (length bytes) (put_cells at cells held) (rw same (All-some bytes)),
    )

-- a write leaves the range open, if no more is said of it
pub Wrote-LeftOpen : (at : ℕ) (bytes : List ℕ) (old new : Option (List (Option ℕ))) → Wrote at bytes old new → LeftOpen at (length
    bytes) old new
Wrote-LeftOpen at bytes old new is = (map Some bytes, length-map bytes Some, is)

-- a part of what was written was written
pub WasWritten-part : (at len from n : ℕ) (cells : Option (List (Option ℕ))) → from + n ≤ len → WasWritten at len cells → WasWritten
    (at + from) n cells
WasWritten-part at len from n cells le all x e =
    let whole = all x e in
    let same = slice_range-slice_range x at len from n le in
    subst (All IsSome) same (All-part (slice_range x at (at + len)) from n whole)

-- what a read of a part gives
pub HoldsAt-part : (at len from : ℕ) (out : List ℕ) (cells : Option (List (Option ℕ))) → from + length out ≤ len
    → HoldsAt (at + from) out cells → IfSome (bytes_from at len cells) (λ bytes. out ≡ slice_range bytes from (from + length out))
HoldsAt-part at len from out None le holds = tt
HoldsAt-part at len from out (Some cells) le holds =
    let f : Option ℕ → ℕ = λ cell. unwrap_or cell 0 in
    let n : ℕ = length out in
    let whole = slice_range cells at (at + len) in
    sym (part from n (map f whole)
    ∙ ap (take n) (drop-map f from whole)
    ∙ take-map f n (drop from whole)
    ∙ ap (map f) (sym (part from n whole) ∙ slice_range-slice_range cells at len from n le)
    ∙ told-map out cells (at + from) holds)
