-- A vector that was lent as a slice, and whose elements came back as they were, is as it was.
use Rattle.fs_types.proofs.Common.{◌≡◌, ◌≤◌, List, Vec, with_items, length, sym, ap, ◌∙◌, subst, with_items_is}
use Rattle.std.specs.Coded.{Coded-set, coded_ℕ, le_prop, ×_prop}

module _ {X Z : Type 0} where
  abbrev IsRoomFor : Vec X Z → List X → Type 0
  IsRoomFor v xs = (v.len ≡ length xs) × (v.len ≤ v.cap)

  room-prop : (v : Vec X Z) (xs : List X) → IsProp (IsRoomFor v xs)
  room-prop v xs = ×_prop (Coded-set coded_ℕ v.len (length xs)) le_prop

  abbrev with_elements : (v : Vec X Z) (xs : List X) → IsRoomFor v xs → Vec X Z
  with_elements v xs ok = record { ptr = v.ptr; len = v.len; cap = v.cap; alloc = v.alloc; items = xs; ok = ok; small = v.small }

  same_elements : (v : Vec X Z) (xs ys : List X) (a : IsRoomFor v xs) (b : IsRoomFor v ys) → xs ≡ ys → with_elements v xs a ≡ with_elements v ys b
  same_elements v xs ys a b e =
      subst (λ (zs : List X). (c : IsRoomFor v zs) → with_elements v xs a ≡ with_elements v zs c) e
      (λ c. ap (with_elements v xs) (room-prop v xs a c)) b

  pub with_items-same : (v : Vec X Z) (xs : List X) → xs ≡ v.items → with_items v xs ≡ v
  with_items-same v xs e =
      let is = with_items_is v xs (ap length e ∙ sym v.ok.0) ∙ e in
      same_elements v (with_items v xs).items v.items (with_items v xs).ok v.ok is
