-- The pieces that fragments name, each once, and those of a look-up; and its parts, where its end is cut off.
use Rattle.fs_types.proofs.Common.{◌≡◌, ℕ, Bool, true, false, ◌||◌, ◌&&◌, not, List, [], ◌∷◌, ◌++◌, filter, fold, get_or, if◌then◌else◌}
use Rattle.fs_types.proofs.Common.{All, All-cons, All-head, All-nil, All-tail, All-weaker, AllPairs-filter, filter_passes, IsSome, list_any}
use Rattle.fs_types.proofs.Common.{refl, sym, ap, ◌∙◌, subst, cond_both, cond-true, cond-false, cases_Bool, inl, inr, true≢false}
use Rattle.fs_types.proofs.Common.{◌+◌, ◌-◌, ◌≤◌, ◌^◌, cases_lt, flat_map, false_from_ne_true, lt-ltb, nat_tests, arith, or_cases, or_left, or_right}
use Rattle.fs_types.proofs.Common.{max, min}
use Rattle.std.specs.Prelude.{AllPairs}
use Rattle.std.proofs.lemmas.List.Folds.{list_any-append, list_any_at}
use Rattle.std.proofs.lemmas.Map.Views.{any-filter_same}
use Rattle.std.proofs.Math.Bool.{or-false, or_assoc}
use Rattle.fs_types.specs.Fragments.{end_of, piece_eq}
use Rattle.fs_types.specs.Pieces.{Fragment, Piece}
use Rattle.fs_types.specs.declared.hold.Hold as hold
use Rattle.span_list.specs.Spans.{AreSpans, IsSpan, cut_fragments, rest_from}
use Rattle.span_list.proofs.CallerLemmas.{AllPairs-append, AllPairs-nil, AllPairs-one, rests_before-ended, rests_from-begun}
use Rattle.piece_table.specs.HeldSpans.{AreHeld, Held, is_named}
use Rattle.piece_table.proofs.CallerLemmas.{piece_eq-comm, piece_eq-itself, same_piece}
use Rattle.fs_types.specs.declared.limits.TheConstants.{LONGEST_FILE}
use Rattle.owner_book.specs.LookupLaws.{ArePiecesIn, PiecesAreOfRange, PinsAreOfRange, stands_in}
use Rattle.owner_book.specs.Lookups.{is_bare, is_one_of, parts_in, pieces_named}
use Rattle.owner_book.proofs.Parts.{at_part, parts-cons}

-- a piece behind those so far, where it isn't one of them
abbrev pub with_piece : List Piece → Fragment → List Piece
with_piece ps f = if is_one_of ps f.piece then ps else ps ++ f.piece ∷ []

one-more : (ps : List Piece) (f : Fragment) (q : Piece) → is_one_of (with_piece ps f) q ≡ (is_one_of ps q || piece_eq f.piece q)
one-more ps f q =
    cond_both (is_one_of ps f.piece) ps (ps ++ f.piece ∷ []) (λ us. is_one_of us q ≡ (is_one_of ps q || piece_eq f.piece q))
    (λ there. elim (cases_Bool (piece_eq f.piece q)) [
      | inl is ↦
          let here : is_one_of ps q ≡ true = ap (is_one_of ps) (sym (same_piece f.piece q is)) ∙ there in
          here ∙ sym (ap (λ b. b || piece_eq f.piece q) here)
      | inr other ↦ sym (ap (λ b. is_one_of ps q || b) other ∙ or-false (is_one_of ps q))
    ])
    (λ _. list_any-append (piece_eq q) ps (f.piece ∷ [])
    ∙ ap (λ b. is_one_of ps q || b) (or-false (piece_eq q f.piece) ∙ piece_eq-comm q f.piece))

one-of_more : (ps : List Piece) (fs : List Fragment) (q : Piece) → is_one_of (fold with_piece ps fs) q ≡ (is_one_of ps q || is_named fs q)
one-of_more ps [] q = sym (or-false (is_one_of ps q))
one-of_more ps (f ∷ fs) q =
    one-of_more (with_piece ps f) fs q ∙ ap (λ b. b || is_named fs q) (one-more ps f q)
    ∙ or_assoc (is_one_of ps q) (piece_eq f.piece q) (is_named fs q)

-- they are those that some fragment names
pub one-of_named : (fs : List Fragment) (q : Piece) → is_one_of (pieces_named fs) q ≡ is_named fs q
one-of_named fs q = one-of_more [] fs q

-- two pieces that differ
abbrev AreApart : Piece → Piece → Type 0
AreApart p q = piece_eq p q ≡ false

-- a piece that is none of some differs from each
none-apart : (ps : List Piece) (q : Piece) → is_one_of ps q ≡ false → All (λ p. AreApart p q) ps
none-apart ps q none k d within =
    piece_eq-comm (get_or ps k d) q
    ∙ false_from_ne_true (piece_eq q (get_or ps k d)) (λ is. true≢false (sym (list_any_at (piece_eq q) ps k d within is) ∙ none))

apart-more : (ps : List Piece) (fs : List Fragment) → AllPairs AreApart ps → AllPairs AreApart (fold with_piece ps fs)
apart-more ps [] apart = apart
apart-more ps (f ∷ fs) apart =
    let p : Piece = f.piece in
    apart-more (with_piece ps f) fs
    (cond_both (is_one_of ps p) ps (ps ++ p ∷ []) (AllPairs AreApart) (λ _. apart)
    (λ none. AllPairs-append AreApart ps (p ∷ []) apart (AllPairs-one AreApart p)
    (All-weaker (λ q. AreApart q p) (λ q. All (AreApart q) (p ∷ [])) (λ q differ. All-cons (AreApart q) p [] differ (All-nil (AreApart q)))
    ps (none-apart ps p none))))

-- each once
pub pieces-apart : (fs : List Fragment) → AllPairs (λ p q. piece_eq p q ≡ false) (pieces_named fs)
pieces-apart fs = apart-more [] fs (AllPairs-nil AreApart)

-- ---- those of a range

-- the parts of a range name what fragments with a byte there name
parts-named : (from to : ℕ) (fs : List Fragment) (q : Piece) → All IsSpan fs
    → is_named (parts_in from to fs) q ≡ is_named (filter (stands_in from to) fs) q
parts-named from to [] q each = refl
parts-named from to (f ∷ fs) q each =
    let some = (All-head IsSpan f fs each).has_bytes in
    let rest = parts-named from to fs q (All-tail IsSpan f fs each) in
    let names : Fragment → Bool = λ g. piece_eq g.piece q in
    let all : List Fragment = filter (stands_in from to) (f ∷ fs) in
    let kept : List Fragment = filter (stands_in from to) fs in
    ap (λ us. is_named us q) (parts-cons from to f fs)
    ∙ at_part (λ us. list_any names (us ++ parts_in from to fs) ≡ is_named all q) from to f some
    (λ out.
    let test : stands_in from to f ≡ false = grind (arith, nat_tests, out) in
    rest ∙ sym (ap (λ us. is_named us q) (cond-false (stands_in from to f) (f ∷ kept) kept test)))
    (λ inside.
    let test : stands_in from to f ≡ true = lt-ltb (max from f.at) (min to (end_of f)) inside in
    ap (λ b. piece_eq f.piece q || b) rest ∙ sym (ap (λ us. is_named us q) (cond-true (stands_in from to f) (f ∷ kept) kept test)))

pub pieces-in_range : PiecesAreOfRange
pieces-in_range from to fs spans = record {
  named = λ q. one-of_named (parts_in from to fs) q ∙ parts-named from to fs q spans.each;
  once = pieces-apart (parts_in from to fs);
}

-- what passes a test among those that pass another does so among all
any-kept : {X : Type 0} (p t : X → Bool) (xs : List X) → list_any p (filter t xs) ≡ true → list_any p xs ≡ true
any-kept p t [] is = is
any-kept p t (x ∷ xs) is =
    cond_both (t x) (x ∷ filter t xs) (filter t xs) (λ us. list_any p us ≡ true → list_any p (x ∷ xs) ≡ true)
    (λ _ some. elim (or_cases (p x) (list_any p (filter t xs)) some) [
      | inl here ↦ or_left (p x) (list_any p xs) here
      | inr later ↦ or_right (p x) (list_any p xs) (any-kept p t xs later)
    ])
    (λ _ later. or_right (p x) (list_any p xs) (any-kept p t xs later)) is

-- so each piece that is looked up has its hold
pub pieces-held : {H : Type 0} (is_ready : H → Bool) (piece : H → Piece) (byte_count : H → ℕ) (x : Held H) (from to : ℕ)
    → AreHeld is_ready piece byte_count x → All (λ q. IsSome (x.hold_of q)) (pieces_named (parts_in from to x.fragments))
pieces-held is_ready piece byte_count x from to are k d within =
    let ps : List Piece = pieces_named (parts_in from to x.fragments) in
    let q : Piece = get_or ps k d in
    let there : is_one_of ps q ≡ true = list_any_at (piece_eq q) ps k d within (piece_eq-itself q) in
    are.named q ∙ any-kept (λ f. piece_eq f.piece q) (stands_in from to) x.fragments
    (sym ((pieces-in_range from to x.fragments are.spans).named q) ∙ there)

-- ---- those of pins, with the bare ones

module _ (t : Piece → Bool) (ps : List Piece) where
  -- those that pass a test and those that don't are all of them
  one-of_both : (q : Piece) → is_one_of (filter (λ p. not (t p)) ps ++ filter t ps) q ≡ is_one_of ps q
  one-of_both q =
      let passes = any-filter_same (piece_eq q) t (t q) (λ k same. ap t (sym (same_piece q k same))) ps in
      let fails = any-filter_same (piece_eq q) (λ p. not (t p)) (not (t q)) (λ k same. ap (λ p. not (t p)) (sym (same_piece q k same))) ps in
      list_any-append (piece_eq q) (filter (λ p. not (t p)) ps) (filter t ps) ∙ (λ i. fails i || passes i) ∙ by (t q)
    where
      by : (b : Bool) → ((not b && is_one_of ps q) || (b && is_one_of ps q)) ≡ is_one_of ps q
      by true = refl
      by false = or-false (is_one_of ps q)

  apart-both : AllPairs AreApart ps → AllPairs AreApart (filter (λ p. not (t p)) ps ++ filter t ps)
  apart-both apart =
      AllPairs-append AreApart (filter (λ p. not (t p)) ps) (filter t ps) (AllPairs-filter AreApart (λ p. not (t p)) ps apart)
      (AllPairs-filter AreApart t ps apart)
      (All-weaker (λ p. not (t p) ≡ true) (λ p. All (AreApart p) (filter t ps))
      (λ p fails. All-weaker (λ q. t q ≡ true) (AreApart p) (λ q passes. false_from_ne_true (piece_eq p q)
      (λ same. true≢false (sym fails ∙ ap not (ap t (same_piece p q same) ∙ passes)))) (filter t ps) (filter_passes t ps))
      (filter (λ p. not (t p)) ps) (filter_passes (λ p. not (t p)) ps))

pub pins-in_range : {H : Type 0} (met : hold.Ghosts H) → PinsAreOfRange met
pins-in_range met from to x holds bare spans pins =
    let ps : List Piece = pieces_named (parts_in from to x.fragments) in
    let are : ArePiecesIn from to x.fragments ps = pieces-in_range from to x.fragments spans in
    subst (ArePiecesIn from to x.fragments) (sym (λ i. pins.pinned i ++ pins.without i)) (record {
      named = λ q. one-of_both (is_bare met x) ps q ∙ are.named q;
      once = apart-both (is_bare met x) ps are.once;
    })

-- ---- the parts of a range whose end is cut off

-- an end behind the longest file leaves out no part
cut-none : (to : ℕ) (fs : List Fragment) → AreSpans fs → LONGEST_FILE ≤ to → cut_fragments to fs ≡ fs
cut-none to fs spans behind =
    rests_before-ended to fs spans.each (All-weaker IsSpan (λ f. end_of f ≤ to) (λ f span. omega (arith, span.in_file, behind)) fs spans.each)

-- all parts of a file are its fragments
pub parts-whole : (fs : List Fragment) → AreSpans fs → parts_in 0 LONGEST_FILE fs ≡ fs
parts-whole fs spans =
    ap (flat_map (rest_from 0)) (cut-none LONGEST_FILE fs spans (omega arith))
    ∙ rests_from-begun 0 fs spans.each (λ k d below. omega arith)

-- each piece that fragments name has its hold
pub pieces-all : {H : Type 0} (is_ready : H → Bool) (piece : H → Piece) (byte_count : H → ℕ) (x : Held H)
    → AreHeld is_ready piece byte_count x → All (λ q. IsSome (x.hold_of q)) (pieces_named x.fragments)
pieces-all is_ready piece byte_count x are =
    subst (λ fs. All (λ q. IsSome (x.hold_of q)) (pieces_named fs)) (parts-whole x.fragments are.spans)
    (pieces-held is_ready piece byte_count x 0 LONGEST_FILE are)

parts-saturated : (from len to : ℕ) (fs : List Fragment) → AreSpans fs → to ≡ min (from + len) (2 ^ 64 - 1)
    → parts_in from to fs ≡ parts_in from (from + len) fs
parts-saturated from len to fs spans is = elim (cases_lt (from + len) LONGEST_FILE) [
  | inl within ↦ let same : to ≡ from + len = omega (arith, within, is) in ap (λ (t : ℕ). parts_in from t fs) same
  | inr behind ↦
      let far : LONGEST_FILE ≤ to = omega (arith, behind, is) in
      ap (λ (us : List Fragment). flat_map (rest_from from) us) (cut-none to fs spans far ∙ sym (cut-none (from + len) fs spans behind))
]

pub parts-found : (from len to : ℕ) (xs fs gs : List Fragment) → AreSpans fs → to ≡ min (from + len) (2 ^ 64 - 1)
    → xs ≡ parts_in from to fs → fs ≡ gs → xs ≡ parts_in from (from + len) gs
parts-found from len to xs fs gs spans is found same =
    found ∙ parts-saturated from len to fs spans is ∙ ap (parts_in from (from + len)) same
