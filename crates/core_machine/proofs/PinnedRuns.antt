-- What pins have of each piece as one run more, or one run fewer, names its piece.
use Rattle.fs_types.proofs.Common.{◌≡◌, ℕ, ◌+◌, ◌<◌, ◌≤◌, ◌≢◌, ◌||◌, ◌&&◌, ◌==◌, [], ◌∷◌, ◌∙◌, List, Option, Some, None, Bool, true, false}
use Rattle.fs_types.proofs.Common.{if◌then◌else◌, cond, arith, sym, ap, length, take, drop, get_or, is_some, IfSome, refl}
use Rattle.fs_types.proofs.Common.{cases_Bool, cond-true, cond-false, inl, inr, sum_by-cons, false≢true, false_from_ne_true}
use Rattle.fs_types.proofs.Common.{none-some, subst, suc, add-one, eqb-true, eqb-false, or_right}
use Rattle.std.proofs.Math.Bool.{and-false, or-false}
use Rattle.std.proofs.Math.Seq.{drop-cons}
use Rattle.std.proofs.lemmas.List.Folds.{list_any_more}
use Rattle.std.proofs.Math.ListN.{drop_of_length-le}
use Rattle.std.proofs.lemmas.List.Sums.{count_by_more_no, count_by_more_yes}
use Rattle.fs_types.specs.Fragments.{fragment_count, piece_eq}
use Rattle.fs_types.specs.Pieces.{Fragment, Piece}
use Rattle.piece_table.specs.HeldSpans.{is_named}
use Rattle.piece_table.specs.PieceTable.{Pieces, counted_of, hold_in, hold_of, number_in, number_of}
use Rattle.piece_table.specs.declared.piece_table.Counted.{Counted}
use Rattle.piece_table.proofs.CallerLemmas.{All-named, named_some, some_named}
use Rattle.slot_plain.specs.Log.{Log}
use Rattle.fs_script.proofs.CallerLemmas.{piece_eq_equiv, same_piece, some_of, none_from-is_some}
use Rattle.core_machine.specs.declared.plain_hold.PlainHold.{PlainHold}
use Rattle.core_machine.specs.Logs.{AreHeldSlots, AreInOneSlot, IsHeld, PinsAll, slot_in}
use Rattle.core_machine.specs.Pins.{ArePins, HaveSlots, LetsGoOnce, PinsOnce, no_count, pin_count}
use Rattle.core_machine.specs.Settling.{Settles}
use Rattle.core_machine.proofs.SettledSlots.{Settles-agree, Settles-pinned, Settles-released, held-so_far}

-- another piece than the one that f names
other_piece : (p q : Piece) → q ≢ p → piece_eq p q ≡ false
other_piece p q other = false_from_ne_true (piece_eq p q) (λ same. other (sym (same_piece p q same)))

-- what holds of each value that there is
pub if_some : {X : Type 0} (o : Option X) (P : X → Type 0) → ((x : X) → o ≡ Some x → P x) → IfSome o P
if_some None P each = tt
if_some (Some x) P each = each x refl

some_in : {X : Type 0} (o : Option X) (P : X → Type 0) (x : X) → IfSome o P → o ≡ Some x → P x
some_in o P x all is = rw is at all

-- ---- what is pinned so far

module _ (before : Piece → ℕ) (hold_at : Piece → Option PlainHold) (runs : List Fragment) (pins : Pieces PlainHold) (was now : List Log)
    (so_far : ArePins before hold_at runs pins was now) where
  -- a piece that has a hold is named, and counted
  pub pinned-counted : (q : Piece) → is_some (hold_of pins q) ≡ true → 0 < number_of pins q
  pinned-counted q there = elim (cases_Bool (is_named runs q)) [
    | inl named ↦ rw (so_far.numbers q) (named_some q runs named)
    | inr not ↦ absurd (false≢true (rw (so_far.holds q, not) at there))
  ]

  -- a hold that is pinned is that of its piece
  pub pinned-hold : (q : Piece) (h : PlainHold) → hold_of pins q ≡ Some h → hold_at q ≡ Some h
  pinned-hold q h is = elim (cases_Bool (is_named runs q)) [
    | inl named ↦ sym (so_far.holds q ∙ cond-true (is_named runs q) _ _ named) ∙ is
    | inr not ↦ absurd (none-some h (sym (so_far.holds q ∙ cond-false (is_named runs q) _ _ not) ∙ is))
  ]

  -- the slot of a hold is held as often as before the pins came, or more often
  pub pinned-held : HaveSlots was hold_at → (q : Piece) → before q ≤ pin_count pins q → (h : PlainHold) → hold_at q ≡ Some h → IsHeld now h
  pinned-held slots q no_less h is =
      let has = slots q h is in
      let count = held-so_far before (pin_count pins) was now h q has so_far.slots in
      let some = has.held in
      omega (arith, count, some, no_less)

  pub pinned-few : (q : Piece) → HaveSlots was hold_at → pin_count pins q ≡ before q → (h : PlainHold) → hold_at q ≡ Some h
      → (slot_in now h.rank h.slot).count ≡ (slot_in was h.rank h.slot).count
  pinned-few q slots same h is =
      let count = held-so_far before (pin_count pins) was now h q (slots q h is) so_far.slots in
      omega (arith, count, same)

-- ---- one run more

-- a list's first elements with one more, f
module _ (runs : List Fragment) (k : ℕ) (f : Fragment) (lt : k < length runs) (is : f ≡ get_or runs k f) where
  named-more : (q : Piece) → is_named (take (k + 1) runs) q ≡ (is_named (take k runs) q || piece_eq f.piece q)
  named-more q =
      list_any_more (λ g. piece_eq g.piece q) runs k f lt
      ∙ ap (λ (g : Fragment). is_named (take k runs) q || piece_eq g.piece q) (sym is)

  count-more : (q : Piece) → fragment_count q (take (k + 1) runs)
      ≡ fragment_count q (take k runs) + (if piece_eq f.piece q then 1 else 0)
  count-more q = elim (cases_Bool (piece_eq f.piece q)) [
    | inl same ↦
        let one = count_by_more_yes (λ (g : Fragment). piece_eq g.piece q) runs k f lt (ap (λ (g : Fragment). piece_eq g.piece q) (sym is) ∙ same) in
        let cond = cond-true {A = ℕ} (piece_eq f.piece q) 1 0 same in
        omega (arith, one, cond)
    | inr other ↦
        let none = count_by_more_no (λ (g : Fragment). piece_eq g.piece q) runs k f lt (ap (λ (g : Fragment). piece_eq g.piece q) (sym is) ∙ other) in
        let cond = cond-false {A = ℕ} (piece_eq f.piece q) 1 0 other in
        omega (arith, none, cond)
  ]

  module _ (hold_at : Piece → Option PlainHold) (pins new : Pieces PlainHold) (was now then' : List Log) (slots : HaveSlots was hold_at)
      (once : AreInOneSlot was) (held : AreHeldSlots was) (h : PlainHold) (there : hold_at f.piece ≡ Some h)
      (so_far : ArePins no_count hold_at (take k runs) pins was now) (pinned : PinsOnce hold_at f.piece pins new now then') where
    new-hold : (q : Piece) → hold_of new q ≡ (if is_named (take (k + 1) runs) q then hold_at q else None)
    new-hold q = pinned.holds q ∙ elim (cases_Bool (piece_eq f.piece q)) [
      | inl same ↦
          cond-true (piece_eq f.piece q) _ _ same ∙ ap hold_at (same_piece f.piece q same)
          ∙ sym (cond-true (is_named (take (k + 1) runs) q) (hold_at q) None
          (named-more q ∙ or_right (is_named (take k runs) q) (piece_eq f.piece q) same))
      | inr other ↦
          cond-false (piece_eq f.piece q) _ _ other ∙ so_far.holds q
          ∙ ap (λ (b : Bool). if b then hold_at q else None)
          (sym (named-more q ∙ ap (λ (b : Bool). is_named (take k runs) q || b) other ∙ or-false (is_named (take k runs) q)))
    ]

    same-count : is_some (hold_of pins f.piece) ≡ true → (q : Piece) → pin_count new q ≡ pin_count pins q
    same-count some q = ap (λ (o : Option PlainHold). if is_some o then 1 else 0) (pinned.holds q) ∙ elim (cases_Bool (piece_eq f.piece q)) [
      | inl same ↦
          let piece = same_piece f.piece q same in
          ap (λ (o : Option PlainHold). if is_some o then 1 else 0) (cond-true (piece_eq f.piece q) _ _ same ∙ there)
          ∙ sym (cond-true {A = ℕ} (is_some (hold_of pins q)) 1 0 (ap (λ (p : Piece). is_some (hold_of pins p)) (sym piece) ∙ some))
      | inr other ↦ ap (λ (o : Option PlainHold). if is_some o then 1 else 0) (cond-false (piece_eq f.piece q) _ _ other)
    ]

    other-count : (q : Piece) → q ≢ f.piece → pin_count new q ≡ pin_count pins q
    other-count q other = ap (λ (o : Option PlainHold). if is_some o then 1 else 0)
        (pinned.holds q ∙ cond-false (piece_eq f.piece q) _ _ (other_piece f.piece q other))

    one-more : hold_of pins f.piece ≡ None → pin_count new f.piece ≡ pin_count pins f.piece + 1
    one-more none =
        ap (λ (o : Option PlainHold). if is_some o then 1 else 0)
        (pinned.holds f.piece ∙ cond-true (piece_eq f.piece f.piece) _ _ (piece_eq_equiv.refl f.piece) ∙ there)
        ∙ sym (ap (λ (o : Option PlainHold). (if is_some o then 1 else 0) + 1) none)

    -- so the pins are of one run more
    pub ArePins-more : ArePins no_count hold_at (take (k + 1) runs) new was then'
    ArePins-more = record {
      numbers = λ q. pinned.numbers q ∙ ap (λ (n : ℕ). n + (if piece_eq f.piece q then 1 else 0)) (so_far.numbers q) ∙ sym (count-more q);
      holds = new-hold;
      slots = elim (cases_Bool (is_some (hold_of pins f.piece))) [
        | inl some ↦
            rw (rw some at pinned.slots)
            (Settles-agree no_count (pin_count pins) no_count (pin_count new) was now (λ q. refl) (same-count some) so_far.slots)
        | inr not ↦
            Settles-pinned no_count (pin_count pins) (pin_count new) was now then' h f.piece held once (slots f.piece h there) so_far.slots
            other-count (omega arith) (one-more (none_from-is_some (hold_of pins f.piece) not))
            (some_in (hold_at f.piece) _ h (rw not at pinned.slots) there)
      ];
    }

-- ---- one run fewer

-- f is the first of the rest of a list
module _ (runs : List Fragment) (k : ℕ) (f : Fragment) (lt : k < length runs) (is : f ≡ get_or runs k f) where
  split : drop k runs ≡ f ∷ drop (k + 1) runs
  split = rw add-one (drop-cons runs k f lt ∙ ap (λ (g : Fragment). g ∷ drop (suc k) runs) (sym is))

  count-first : (q : Piece) → fragment_count q (drop k runs)
      ≡ (if piece_eq f.piece q then 1 else 0) + fragment_count q (drop (k + 1) runs)
  count-first q = ap (fragment_count q) split ∙ sum_by-cons (λ g. cond (piece_eq g.piece q) 1 0) f (drop (k + 1) runs)

  named-first : (q : Piece) → is_named (drop k runs) q ≡ (piece_eq f.piece q || is_named (drop (k + 1) runs) q)
  named-first q = ap (λ (fs : List Fragment). is_named fs q) split

  module _ (first pins new : Pieces PlainHold) (was now then' : List Log) (slots : HaveSlots was (hold_of first)) (once : AreInOneSlot was)
      (held : AreHeldSlots was) (h : PlainHold) (there : hold_of first f.piece ≡ Some h)
      (so_far : ArePins (pin_count first) (hold_of first) (drop k runs) pins was now)
      (gone : LetsGoOnce f.piece pins new now then') where
    -- the hold of this run's piece is there
    this-hold : hold_of pins f.piece ≡ Some h
    this-hold = so_far.holds f.piece ∙ cond-true (is_named (drop k runs) f.piece) _ _ (named-first f.piece
        ∙ ap (λ (b : Bool). b || is_named (drop (k + 1) runs) f.piece) (piece_eq_equiv.refl f.piece)) ∙ there

    this-count : number_of pins f.piece ≡ 1 + fragment_count f.piece (drop (k + 1) runs)
    this-count =
        let one = cond-true {A = ℕ} (piece_eq f.piece f.piece) 1 0 (piece_eq_equiv.refl f.piece) in
        so_far.numbers f.piece ∙ count-first f.piece ∙ ap (λ (n : ℕ). n + fragment_count f.piece (drop (k + 1) runs)) one

    last-unnamed : (number_of pins f.piece == 1) ≡ true → is_named (drop (k + 1) runs) f.piece ≡ false
    last-unnamed last = false_from_ne_true (is_named (drop (k + 1) runs) f.piece) (λ named.
        let some = named_some f.piece (drop (k + 1) runs) named in
        let one = eqb-true (number_of pins f.piece) 1 last in
        let count = this-count in
        omega (arith, some, one, count))

    more-named : (number_of pins f.piece == 1) ≡ false → is_named (drop (k + 1) runs) f.piece ≡ true
    more-named more = some_named f.piece (drop (k + 1) runs)
        (let count = this-count in let others = eqb-false (number_of pins f.piece) 1 more in omega (arith, count, others))

    left-hold : (q : Piece) → hold_of new q ≡ (if is_named (drop (k + 1) runs) q then hold_of first q else None)
    left-hold q = gone.holds q ∙ elim (cases_Bool (piece_eq f.piece q)) [
      | inl same ↦ subst (λ (p : Piece). (if piece_eq f.piece p && number_of pins f.piece == 1 then None else hold_of pins p)
          ≡ (if is_named (drop (k + 1) runs) p then hold_of first p else None)) (same_piece f.piece q same)
          (rw (piece_eq_equiv.refl f.piece) (elim (cases_Bool (number_of pins f.piece == 1)) [
            | inl last ↦ rw (last, last-unnamed last) refl
            | inr more ↦ rw (more, more-named more) (this-hold ∙ sym there)
          ]))
      | inr other ↦
          ap (λ (b : Bool). if b && number_of pins f.piece == 1 then None else hold_of pins q) other ∙ so_far.holds q
          ∙ ap (λ (b : Bool). if b then hold_of first q else None)
          (named-first q ∙ ap (λ (b : Bool). b || is_named (drop (k + 1) runs) q) other)
    ]

    other-count-left : (q : Piece) → q ≢ f.piece → pin_count new q ≡ pin_count pins q
    other-count-left q other = ap (λ (o : Option PlainHold). if is_some o then 1 else 0)
        (gone.holds q ∙ ap (λ (b : Bool). if b && number_of pins f.piece == 1 then None else hold_of pins q) (other_piece f.piece q other))

    -- so the pins are of one run fewer
    pub ArePins-fewer : ArePins (pin_count first) (hold_of first) (drop (k + 1) runs) new was then'
    ArePins-fewer = record {
      numbers = λ q. (let one = gone.numbers q in let before = so_far.numbers q in let count = count-first q in omega (arith, one, before, count));
      holds = left-hold;
      slots =
          let none_less : pin_count first f.piece ≡ pin_count pins f.piece =
          ap (λ (o : Option PlainHold). if is_some o then 1 else 0) (there ∙ sym this-hold) in
          elim (cases_Bool (number_of pins f.piece == 1)) [
            | inl last ↦
                let less : pin_count new f.piece + 1 ≡ pin_count pins f.piece =
                ap (λ (o : Option PlainHold). (if is_some o then 1 else 0) + 1)
                (left-hold f.piece ∙ cond-false (is_named (drop (k + 1) runs) f.piece) _ _ (last-unnamed last))
                ∙ sym (ap (λ (o : Option PlainHold). if is_some o then 1 else 0) this-hold) in
                Settles-released (pin_count first) (pin_count pins) (pin_count new) was now then' h f.piece held once (slots f.piece h there)
                so_far.slots other-count-left (omega (arith, none_less)) less
                (some_in (hold_of pins f.piece) _ h (rw last at gone.slots) this-hold)
            | inr more ↦
                rw (rw more at gone.slots)
                (Settles-agree (pin_count first) (pin_count pins) (pin_count first) (pin_count new) was now (λ q. refl)
                (λ q. ap (λ (o : Option PlainHold). if is_some o then 1 else 0) (gone.holds q
                ∙ ap (λ (b : Bool). if b then None else hold_of pins q)
                (ap (λ (b : Bool). piece_eq f.piece q && b) more ∙ and-false (piece_eq f.piece q)))) so_far.slots)
          ];
    }

-- ---- one step

-- a piece without a hold isn't counted
uncounted : (found : Option (Counted PlainHold)) → hold_in found ≡ None → number_in found ≡ 0
uncounted None none = refl
uncounted (Some c) none = absurd (none-some c.hold (sym none))

-- the first run of a piece brings in the hold, and its slot is held once more
pub PinsOnce-first : (hold_at : Piece → Option PlainHold) (q : Piece) (h : PlainHold) (old new : Pieces PlainHold) (was now : List Log)
    → hold_at q ≡ Some h → h.piece ≡ q → hold_of old q ≡ None
    → ((x : Piece) → number_of new x ≡ (if piece_eq h.piece x then 1 else number_of old x))
    → ((x : Piece) → hold_of new x ≡ (if piece_eq h.piece x then Some h else hold_of old x))
    → PinsAll (h ∷ []) was now → PinsOnce hold_at q old new was now
PinsOnce-first hold_at q h old new was now there piece none numbers holds pinned = record {
  numbers = λ x. subst (λ (p : Piece). number_of new x ≡ (if piece_eq p x then 1 else number_of old x)) piece (numbers x)
      ∙ elim (cases_Bool (piece_eq q x)) [
        | inl same ↦
            let zero = uncounted (counted_of old q) none in
            rw same (ap (λ (n : ℕ). n + 1) (sym (ap (number_of old) (sym (same_piece q x same)) ∙ zero)))
        | inr other ↦ rw other (omega arith)
      ];
  holds = λ x.
      subst (λ (p : Piece). hold_of new x ≡ (if piece_eq p x then Some h else hold_of old x)) piece (holds x)
      ∙ ap (λ (o : Option PlainHold). if piece_eq q x then o else hold_of old x) (sym there);
  slots = rw (none, there) pinned;
}

-- ---- letting go of all

-- a hold that is still there is of a slot that is still held
pub LetsGo-held : (first pins : Pieces PlainHold) (runs : List Fragment) (was now : List Log) → HaveSlots was (hold_of first)
    → ArePins (pin_count first) (hold_of first) runs pins was now → (q : Piece) → IfSome (hold_of pins q) (IsHeld now)
LetsGo-held first pins runs was now slots so_far q = if_some (hold_of pins q) (IsHeld now) (λ h is.
    let there = pinned-hold (pin_count first) (hold_of first) runs pins was now so_far q h is in
    let same : pin_count first q ≡ pin_count pins q = ap (λ (o : Option PlainHold). if is_some o then 1 else 0) (there ∙ sym is) in
    pinned-held (pin_count first) (hold_of first) runs pins was now so_far slots q (omega (arith, same)) h there)

-- the piece of a run has a hold
pub LetsGo-there : (first : Pieces PlainHold) (runs : List Fragment) (k : ℕ) (f : Fragment) → k < length runs → f ≡ get_or runs k f
    → ((q : Piece) → is_some (hold_of first q) ≡ is_named runs q) → (h : PlainHold) × (hold_of first f.piece ≡ Some h)
LetsGo-there first runs k f lt is named = some_of (hold_of first f.piece)
    (named f.piece ∙ subst (λ (g : Fragment). is_named runs g.piece ≡ true) (sym is) (All-named runs k f lt))

-- past the last run nothing is pinned
pub ArePins-none : (first pins : Pieces PlainHold) (runs : List Fragment) (k : ℕ) (was now : List Log) → length runs ≤ k
    → ArePins (pin_count first) (hold_of first) (drop k runs) pins was now → Settles (pin_count first) no_count was now
ArePins-none first pins runs k was now past all =
    Settles-agree (pin_count first) (pin_count pins) (pin_count first) no_count was now (λ q. refl)
    (λ q. sym (ap (λ (o : Option PlainHold). if is_some o then 1 else 0)
    (all.holds q ∙ ap (λ (fs : List Fragment). if is_named fs q then hold_of first q else None) (drop_of_length-le runs past)))) all.slots
