-- Pieces that are asked for pins one after the other, until all have been, or memory runs out at one of them.
use Rattle.fs_types.proofs.Common.{◌≡◌, ℕ, ◌<◌, Bool, true, false, ◌||◌, not, List, [], ◌∷◌, ◌++◌, map, filter, take, drop, length, get_or}
use Rattle.fs_types.proofs.Common.{All, All-push, Result, Ok, Err, refl, sym, ap, ◌∙◌, subst, arith, cases_Bool, inl, inr, true≢false}
use Rattle.fs_types.proofs.Common.{Some, list_any}
use Rattle.fs_types.proofs.Common.{append-nil, cond-true, cond-false, false_from_ne_true, get_or-take, length-take-le, map_push, or_cases, or_left}
use Rattle.std.proofs.lemmas.List.{get_or_default, take-append-drop}
use Rattle.std.proofs.lemmas.List.Elements.{filter-append}
use Rattle.std.proofs.lemmas.List.Folds.{list_any-append, list_any_at, list_any_none}
use Rattle.std.proofs.Math.Bool.{or-false}
use Rattle.std.specs.Prelude.{AllPairs}
use Rattle.std.specs.Option.{option_map_or}
use Rattle.std.specs.Result.{OnErr}
use Rattle.fs_types.specs.Fragments.{piece_eq}
use Rattle.fs_types.specs.Pieces.{Piece}
use Rattle.fs_types.specs.Room.{is_at_most}
use Rattle.fs_types.specs.declared.hold.Hold as hold
use Rattle.piece_table.specs.HeldSpans.{Held}
use Rattle.piece_table.proofs.CallerLemmas.{piece_eq-comm, piece_eq-itself, same_piece}
use Rattle.owner_book.specs.Lookups.{ArePinned, Asks, AsksFor, AsksOne, HoldsBecome, IsAskedFor, IsPinOf, IsPinWith, IsRefused}
use Rattle.owner_book.specs.Lookups.{MayAskFor, MayBeAskedFor, Pins, is_bare, is_one_of, lacks_room}
use Rattle.owner_book.proofs.Pins.{lowered-none}

-- what is one of a list of one piece is that piece
the-one : (p q : Piece) → is_one_of (p ∷ []) q ≡ true → q ≡ p
the-one p q is = same_piece q p (sym (or-false (piece_eq q p)) ∙ is)

-- a piece of some is another than one that is none of them
another : (ps : List Piece) (p q : Piece) → is_one_of ps p ≡ false → is_one_of ps q ≡ true → is_one_of (p ∷ []) q ≡ false
another ps p q fresh is =
    false_from_ne_true (is_one_of (p ∷ []) q) (λ one. true≢false (sym is ∙ ap (is_one_of ps) (the-one p q one) ∙ fresh))

-- a piece is none of those before it, where each is there once, and is one of all
module _ (ps : List Piece) (k : ℕ) (p : Piece) (is : p ≡ get_or ps k p) (within : k < length ps) where
  pub fresh : AllPairs (λ x y. piece_eq x y ≡ false) ps → is_one_of (take k ps) p ≡ false
  fresh once = list_any_none (piece_eq p) (take k ps) (λ i d below.
      let len : length (take k ps) ≡ k = length-take-le k ps (omega (arith, within)) in
      let before : i < k = omega (arith, below, len) in
      ap (piece_eq p) (get_or-take k ps i d before) ∙ piece_eq-comm p (get_or ps i d)
      ∙ ap (piece_eq (get_or ps i d)) (is ∙ get_or_default ps k p d within) ∙ once i k d before within)

  pub one-there : is_one_of ps p ≡ true
  one-there = list_any_at (piece_eq p) ps k p within (ap (piece_eq p) (sym is) ∙ piece_eq-itself p)

-- what is so is so after a refusal
pub after-refusal : {X E A : Type 0} (r : Result X E) → A → OnErr r A
after-refusal (Ok x) a = tt
after-refusal (Err e) a = a

-- ---- how holds become others

module _ {H : Type 0} where
  -- where those of some pieces did, and those of others then, those of both did
  becomes-then : (R : H → H → Type 0) (ps qs : List Piece) (a b c : Held H) → HoldsBecome R ps a b → HoldsBecome R qs b c
      → ((q : Piece) → is_one_of ps q ≡ true → is_one_of qs q ≡ false) → HoldsBecome R (ps ++ qs) a c
  becomes-then R ps qs a b c first second apart = record {
    fragments = second.fragments ∙ first.fragments;
    became = λ q h is was. elim (cases_Bool (is_one_of ps q)) [
      | inl before ↦ let then = first.became q h before was in (then.0, second.others q (apart q before) ∙ then.1, then.2)
      | inr others ↦
          second.became q h (sym (ap (λ b. b || is_one_of qs q) others) ∙ both q ∙ is) (first.others q others ∙ was)
    ];
    others = λ q is.
        let none = none-of (is_one_of ps q) (is_one_of qs q) (both q ∙ is) in
        second.others q none.1 ∙ first.others q none.0;
  }
    where
      both : (q : Piece) → (is_one_of ps q || is_one_of qs q) ≡ is_one_of (ps ++ qs) q
      both q = sym (list_any-append (piece_eq q) ps qs)

      none-of : (a b : Bool) → (a || b) ≡ false → (a ≡ false) × (b ≡ false)
      none-of false b e = (refl, e)
      none-of true b e = absurd (true≢false e)

  -- what some did is what all of more may do, where the others stay
  becomes-wider : (R S : H → H → Type 0) → ((g h : H) → R g h → S g h) → ((h : H) → S h h) → (ps all : List Piece) (a b : Held H)
      → ((q : Piece) → is_one_of ps q ≡ true → is_one_of all q ≡ true) → HoldsBecome R ps a b → HoldsBecome S all a b
  becomes-wider R S weaker stays ps all a b within became = record {
    fragments = became.fragments;
    became = λ q h is was. elim (cases_Bool (is_one_of ps q)) [
      | inl before ↦ let then = became.became q h before was in (then.0, then.1, weaker h then.0 then.2)
      | inr none ↦ (h, became.others q none ∙ was, stays h)
    ];
    others = λ q is. became.others q (false_from_ne_true (is_one_of ps q) (λ one. true≢false (sym (within q one) ∙ is)));
  }

  -- and in a weaker way
  pub becomes-weaker : (R S : H → H → Type 0) → ((g h : H) → R g h → S g h) → (ps : List Piece) (a b : Held H) → HoldsBecome R ps a b
      → HoldsBecome S ps a b
  becomes-weaker R S weaker ps a b became = record {
    fragments = became.fragments;
    became = λ q h is was. let then = became.became q h is was in (then.0, then.1, weaker h then.0 then.2);
    others = became.others;
  }

module _ {H : Type 0} (met : hold.Ghosts H) (given : ℕ) where
  -- what was asked for a pin, and what gave none, may have been asked
  asked-may_be : (g h : H) → IsAskedFor met given g h → MayBeAskedFor met given g h
  asked-may_be g h asked = inr (record { like = asked.like; room = inr asked.room })

  pub refused-may_be : (g h : H) → IsRefused met g h → MayBeAskedFor met given g h
  refused-may_be g h refused = inr (record { like = refused.like; room = inl refused.room })

  pub asks-may : (ps : List Piece) (old new : Held H) → AsksFor met given ps old new → MayAskFor met given ps old new
  asks-may = becomes-weaker (IsAskedFor met given) (MayBeAskedFor met given) asked-may_be

  -- a piece whose hold lacks room does so by that hold
  lacks-hold : (x : Held H) (p : Piece) (h : H) → x.hold_of p ≡ Some h → lacks_room met given x p ≡ is_at_most (met.room h) given
  lacks-hold x p h was = ap (λ o. option_map_or (λ k. is_at_most (met.room k) given) o false) was

  -- and in another way where it has the same there
  lacks-same : (x y : Held H) (p : Piece) → x.hold_of p ≡ y.hold_of p → lacks_room met given x p ≡ lacks_room met given y p
  lacks-same x y p same = ap (λ o. option_map_or (λ k. is_at_most (met.room k) given) o false) same

-- a hold that has no room and gave no pin was asked for one with no room
pub asks-full : {H : Type 0} (met : hold.Ghosts H) (p : Piece) (old new : Held H) → is_bare met old p ≡ true
    → HoldsBecome (IsRefused met) (p ∷ []) old new → Asks met (p ∷ []) old new
asks-full met p old new full refused = record {
  fragments = refused.fragments;
  became = λ q h is was.
      let then = refused.became q h is was in
      let at_most : is_at_most (met.room h) 0 ≡ true =
      sym (lacks-hold met 0 old p h (ap old.hold_of (sym (the-one p q is)) ∙ was)) ∙ full in
      (then.0, then.1, record { like = then.2.like; room = then.2.room ∙ lowered-none (met.room h) at_most });
  others = refused.others;
}

-- the pieces so far were asked, and the next one may have been: so each of all may have been
module _ {H : Type 0} (met : hold.Ghosts H) (given : ℕ) (first old new : Held H) (all : List Piece) (k : ℕ) (p : Piece) where
  pub may-ask : AsksFor met given (take k all) first old → MayAskFor met given (p ∷ []) old new → is_one_of (take k all) p ≡ false
      → is_one_of all p ≡ true → MayAskFor met given all first new
  may-ask asks may fresh here =
      let May : H → H → Type 0 = MayBeAskedFor met given in
      becomes-wider May May (λ g h may. may) (λ h. inl refl) (take k all ++ p ∷ []) all first new within
      (becomes-then May (take k all) (p ∷ []) first old new (asks-may met given (take k all) first old asks) may
      (λ q is. another (take k all) p q fresh is))
    where
      within : (q : Piece) → is_one_of (take k all ++ p ∷ []) q ≡ true → is_one_of all q ≡ true
      within q is = elim (or_cases (is_one_of (take k all) q) (is_one_of (p ∷ []) q)
          (sym (list_any-append (piece_eq q) (take k all) (p ∷ [])) ∙ is)) [
            | inl before ↦
                ap (λ qs. is_one_of qs q) (sym (take-append-drop k all)) ∙ list_any-append (piece_eq q) (take k all) (drop k all)
                ∙ or_left (is_one_of (take k all) q) (is_one_of (drop k all) q) before
            | inr this ↦ ap (is_one_of all) (the-one p q this) ∙ here
          ]

-- ---- one more piece was pinned, or lacks room

module _ {H : Type 0} (met : hold.Ghosts H) (given : ℕ) (first old new : Held H) (ps : List Piece) (p : Piece)
    (asks : AsksFor met given ps first old) (fresh : is_one_of ps p ≡ false) where
  pub asks-then : AsksFor met given (p ∷ []) old new → AsksFor met given (ps ++ p ∷ []) first new
  asks-then one = becomes-then (IsAskedFor met given) ps (p ∷ []) first old new asks one (λ q is. another ps p q fresh is)

  -- it lacks room where it did at first
  pub lacks-first : lacks_room met given first p ≡ lacks_room met given old p
  lacks-first = lacks-same met given first old p (sym (asks.others p fresh))

  pub pinned-then : (pins pins' : List H) (pin : H) → pins' ≡ pins ++ pin ∷ [] → met.piece pin ≡ p → IsPinWith met given old pin
      → ArePinned met given first ps pins → ArePinned met given first (ps ++ p ∷ []) pins'
  pinned-then pins pins' pin now of is so_far =
      let here : first.hold_of (met.piece pin) ≡ old.hold_of (met.piece pin) =
      ap first.hold_of of ∙ sym (asks.others p fresh) ∙ ap old.hold_of (sym of) in
      let first_pin : IsPinWith met given first pin = record { of = (is.of.0, here ∙ is.of.1, is.of.2); room = is.room } in
      record {
        one_each = ap (map met.piece) now ∙ map_push met.piece pins pin ∙ (λ i. so_far.one_each i ++ of i ∷ []);
        each = subst (All (IsPinWith met given first)) (sym now) (All-push (IsPinWith met given first) pins pin so_far.each first_pin);
      }

  -- so far none lacks room
  pub has_room-then : list_any (lacks_room met given first) ps ≡ false → lacks_room met given old p ≡ false
      → list_any (lacks_room met given first) (ps ++ p ∷ []) ≡ false
  has_room-then none one =
      list_any-append (lacks_room met given first) ps (p ∷ []) ∙ ap (λ b. b || (lacks_room met given first p || false)) none
      ∙ or-false (lacks_room met given first p) ∙ lacks-first ∙ one

-- ---- one more piece was asked

module _ {H : Type 0} (met : hold.Ghosts H) (first old new : Held H) (ps : List Piece) (p : Piece) (holds holds' : List H)
    (bare bare' : List Piece) (asks : Asks met ps first old) (fresh : is_one_of ps p ≡ false)
    (one : AsksOne met p old new holds holds' bare bare') where
  pub asks-more : Asks met (ps ++ p ∷ []) first new
  asks-more = asks-then met 0 first old new ps p asks fresh one.asks

  -- the piece has the hold that it had at first
  same : old.hold_of p ≡ first.hold_of p
  same = asks.others p fresh

  bare-same : is_bare met first p ≡ is_bare met old p
  bare-same = lacks-first met 0 first old new ps p asks fresh

  -- the pieces that pass a test with one more, which does, or doesn't
  with-it : (f : Piece → Bool) → f p ≡ true → filter f ps ++ p ∷ [] ≡ filter f (ps ++ p ∷ [])
  with-it f is = ap (λ xs. filter f ps ++ xs) (sym (cond-true (f p) (p ∷ []) [] is)) ∙ sym (filter-append f ps (p ∷ []))

  without-it : (f : Piece → Bool) → f p ≡ false → filter f ps ≡ filter f (ps ++ p ∷ [])
  without-it f is =
      sym (append-nil (filter f ps)) ∙ ap (λ xs. filter f ps ++ xs) (sym (cond-false (f p) (p ∷ []) [] is)) ∙ sym (filter-append f ps (p ∷ []))

  pub pins-more : Pins met first ps holds bare → Pins met first (ps ++ p ∷ []) holds' bare'
  pins-more pins =
      let bares = is_bare met first in
      let roomy : Piece → Bool = λ q. not (is_bare met first q) in
      elim one.adds [
        | inl is ↦
            let full : bares p ≡ true = bare-same ∙ is.0 in
            record {
              without = is.2 ∙ ap (λ xs. xs ++ p ∷ []) pins.without ∙ with-it bares full;
              pinned = ap (map met.piece) is.1 ∙ pins.pinned ∙ without-it roomy (ap not full);
              each = subst (All (IsPinOf met first)) (sym is.1) pins.each;
            }
        | inr is ↦
            let empty : bares p ≡ false = bare-same ∙ is.0 in
            let of : met.piece is.2 ≡ p = is.4 in
            let here : first.hold_of (met.piece is.2) ≡ old.hold_of (met.piece is.2) =
            ap first.hold_of of ∙ sym same ∙ ap old.hold_of (sym of) in
            record {
              without = is.1 ∙ pins.without ∙ without-it bares empty;
              pinned = ap (map met.piece) is.3 ∙ map_push met.piece holds is.2 ∙ (λ i. pins.pinned i ++ of i ∷ [])
                  ∙ with-it roomy (ap not empty);
              each = subst (All (IsPinOf met first)) (sym is.3)
                  (All-push (IsPinOf met first) holds is.2 pins.each (is.5.0, here ∙ is.5.1, is.5.2));
            }
      ]
