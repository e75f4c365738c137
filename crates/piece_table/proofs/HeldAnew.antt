-- Fragments with another hold of one piece are held where that hold is ready, and of the piece and the bytes of the one before.
use Rattle.fs_types.proofs.Common.{◌≡◌, ℕ, ◌+◌, ◌≤◌, Bool, true, Option, Some, IsTrue, is_some, if◌then◌else◌, sym, ap, ◌∙◌, subst, refl}
use Rattle.fs_types.proofs.Common.{All-weaker, cases_Bool, inl, inr, cond-true, cond-false, same_Some}
use Rattle.fs_types.specs.Fragments.{piece_eq}
use Rattle.fs_types.specs.Pieces.{Piece, Fragment}
use Rattle.piece_table.specs.HeldSpans.{AreHeld, Held, LiesIn}
use Rattle.piece_table.proofs.Tables.{same_piece}

module _ {H : Type 0} (id : Piece) (w : H) (x : Held H) where
  -- the holds with the other one
  abbrev pub hold_now : Piece → Option H
  hold_now q = if piece_eq id q then Some w else x.hold_of q

  -- the same pieces have one, where the piece of the other one had one
  pub named_now : is_some (x.hold_of id) ≡ true → (q : Piece) → is_some (hold_now q) ≡ is_some (x.hold_of q)
  named_now there q = elim (cases_Bool (piece_eq id q)) [
    | inl same ↦
        ap is_some (cond-true (piece_eq id q) (Some w) (x.hold_of q) same) ∙ sym there ∙ ap (λ r. is_some (x.hold_of r)) (same_piece id q same)
    | inr other ↦ ap is_some (cond-false (piece_eq id q) (Some w) (x.hold_of q) other)
  ]

  -- what holds of the piece's new hold, and of each hold of another piece, holds of each
  each_hold : (P : Piece → H → Type 0) → P id w → ((q : Piece) (g : H) → x.hold_of q ≡ Some g → P q g)
      → (q : Piece) (g : H) → hold_now q ≡ Some g → P q g
  each_hold P here others q g is = elim (cases_Bool (piece_eq id q)) [
    | inl same ↦
        let this : w ≡ g = same_Some w g (sym (cond-true (piece_eq id q) (Some w) (x.hold_of q) same) ∙ is) in
        subst (λ r. P r g) (same_piece id q same) (subst (P id) this here)
    | inr other ↦ others q g (sym (cond-false (piece_eq id q) (Some w) (x.hold_of q) other) ∙ is)
  ]

pub held-anew : {H : Type 0} (is_ready : H → Bool) (piece : H → Piece) (byte_count : H → ℕ) (id : Piece) (h w : H) (x : Held H)
    → x.hold_of id ≡ Some h → IsTrue (is_ready w) → piece w ≡ piece h → byte_count w ≡ byte_count h → AreHeld is_ready piece byte_count x
    → AreHeld is_ready piece byte_count (record { fragments = x.fragments; hold_of = hold_now id w x })
held-anew is_ready piece byte_count id h w x there ready same_of same_bytes are = record {
  spans = are.spans;
  named = λ q. named_now id w x (ap is_some there) q ∙ are.named q;
  piece = each_hold id w x (λ q g. piece g ≡ q) (same_of ∙ are.piece id h there) are.piece;
  ready = each_hold id w x (λ q g. IsTrue (is_ready g)) ready are.ready;
  within = All-weaker (LiesIn byte_count x.hold_of) (LiesIn byte_count (hold_now id w x)) lies x.fragments are.within;
}
  where
    lies : (f : Fragment) → LiesIn byte_count x.hold_of f → LiesIn byte_count (hold_now id w x) f
    lies f before g is = each_hold id w x (λ q y. q ≡ f.piece → f.from + f.len ≤ byte_count y)
        (λ same. subst (λ n. f.from + f.len ≤ n) (sym same_bytes) (before h (ap x.hold_of (sym same) ∙ there)))
        (λ q y was same. before y (ap x.hold_of (sym same) ∙ was)) f.piece g is refl
