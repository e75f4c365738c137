-- A write's part in the logs: its parts are in their slots, held by what is pending, and what they leave no byte of is let go of.
use Rattle.fs_types.proofs.Common.{◌≡◌, ◌≢◌, ℕ, ◌+◌, ◌==◌, ◌||◌, ◌<◌, ◌≤◌, true, false, List, [], length, Some, None, is_some}
use Rattle.fs_types.proofs.Common.{slice_get, Contains, cond, All, set, get_or}
use Rattle.fs_types.proofs.Common.{refl, sym, ap, ◌∙◌, ◌⊎◌, inl, inr, subst, arith, cases_Bool, cases_eq, true≢false, none-some}
use Rattle.fs_types.proofs.Common.{same_Some, ne_eqb, eq-eqb, and_from}
use Rattle.fs_types.proofs.Common.{All-contains, cond-true, cond-false, slice_get-get_or, slice_get_past}
use Rattle.std.specs.List.{AllPairs}
use Rattle.std.proofs.Math.Bool.{or-true}
use Rattle.fs_types.specs.Fragments.{piece_eq}
use Rattle.slot_plain.specs.Log.{Log}
use Rattle.slot_plain.specs.Slots.{Slot, StoredPiece}
use Rattle.fs_script.specs.Payload.{bytes_brought, place_brought}
use Rattle.fs_script.specs.Vocabulary.{Job, LONGEST_FILE, Piece, need, offset, payload, write_at}
use Rattle.fs_script.specs.declared.line.Op.{Op}
use Rattle.fs_script.proofs.CallerLemmas.{none_from-is_some, some_of}
use Rattle.piece_table.specs.HeldSpans.{AreGone, is_named}
use Rattle.core_machine.specs.ClientPath.{ClientPath, own_of}
use Rattle.core_machine.specs.Kept.{OwnedPath}
use Rattle.core_machine.specs.declared.client.Client.{Client}
use Rattle.core_machine.specs.declared.plain_hold.PlainHold.{PlainHold}
use Rattle.core_machine.specs.declared.task.Task.TheVariants.{Idle}
use Rattle.core_machine.specs.Follows.{EventSound, LogsSettle}
use Rattle.core_machine.specs.HoldsKept.{holds_kept, keeps}
use Rattle.core_machine.specs.Kept.{AreSound, file_hold, pending_hold}
use Rattle.core_machine.specs.Logs.{AreHeldSlots, FillsLine, IsHeld, ReleasesAll, are_of_one_slot, slot_in}
use Rattle.core_machine.specs.Logs.{stored_part}
use Rattle.core_machine.specs.PendingWrites.{AddsHolds, ArePending, MayAddLine}
use Rattle.core_machine.specs.Settling.{FillsLog}
use Rattle.core_machine.proofs.Filled.{HasPart, IsHeldIn-kept, IsHeldIn-part, part-hold, part-holds, slot-cases}
use Rattle.core_machine.proofs.LetGo.{idle_kept}
use Rattle.core_machine.proofs.Settled.{AreInSlots, apart-gone, held-gone, settles-gone}

-- What a client has pending once line n is: the line's pieces by these holds, and of the others each its own, or none where
-- its hold went.
pub record AddsLine (n : ℕ) (holds : List PlainHold) (k l : ClientPath) (gone : List PlainHold) : Type 0 where
  pub own : (q : Piece) → q.line ≡ n → pending_hold l q ≡ slice_get holds q.part
  pub others : (q : Piece) → q.line ≢ n → (pending_hold l q ≡ pending_hold k q)
      ⊎ ((pending_hold l q ≡ None) × ((h : PlainHold) → pending_hold k q ≡ Some h → Contains gone h))
  pub was : (h : PlainHold) → Contains gone h → pending_hold k h.piece ≡ Some h
  pub no_more : (h : PlainHold) → Contains gone h → h.piece.line ≢ n → pending_hold l h.piece ≡ None
  pub once : AllPairs (λ g h. piece_eq g.piece h.piece ≡ false) gone

pub adds-line : (n : ℕ) (holds : List PlainHold) (k l : ClientPath) (gone : List PlainHold)
    → AddsHolds n holds k.pending.held l.pending.held
    → AreGone (λ (h : PlainHold). h.piece) k.pending.held l.pending.held gone → AddsLine n holds k l gone
adds-line n holds k l gone adds are_gone = record {
  own = λ q same. adds.holds q ∙ cond-true (q.line == n) (slice_get holds q.part) _ (eq-eqb q.line n same);
  others = λ q other. elim (cases_Bool (is_named l.pending.held.fragments q)) [
    | inl yet ↦ inl (other_hold q other ∙ cond-true (is_named l.pending.held.fragments q) (pending_hold k q) None yet)
    | inr unnamed ↦ inr (
      other_hold q other ∙ cond-false (is_named l.pending.held.fragments q) (pending_hold k q) None unnamed,
      λ h is. are_gone.each q h is unnamed,
    )
  ];
  was = λ h is_gone. All-contains (λ g. pending_hold k g.piece ≡ Some g) gone h are_gone.held is_gone;
  no_more = λ h is_gone other. other_hold h.piece other
      ∙ cond-false (is_named l.pending.held.fragments h.piece) (pending_hold k h.piece) None
      (All-contains (λ g. is_named l.pending.held.fragments g.piece ≡ false) gone h are_gone.unnamed is_gone);
  once = are_gone.once;
} where
  other_hold : (q : Piece) → q.line ≢ n → pending_hold l q ≡ cond (is_named l.pending.held.fragments q) (pending_hold k q) None
  other_hold q other = adds.holds q ∙ cond-false (q.line == n) (slice_get holds q.part) _ (ne_eqb q.line n other)

-- a piece that isn't kept has no hold among what is pending
none-pending : (x : OwnedPath) (k : ClientPath) (q : Piece) → keeps x k q ≡ false → pending_hold k q ≡ None
none-pending x k q none = elim (cases_Bool (is_some (pending_hold k q))) [
  | inr absent ↦ none_from-is_some (pending_hold k q) absent
  | inl there ↦ absurd (true≢false
      (sym (ap (λ b. is_some (file_hold x.path.file q) || b) there ∙ or-true (is_some (file_hold x.path.file q))) ∙ none))
]

-- the log that a line was put into, at its place among the others
abbrev pub fills-log : (s : Job) (n r i : ℕ) (logs : List Log) (d new : Log) (holds : List PlainHold) → i ≡ r → r < length logs
    → FillsLine s n (get_or logs i d) new holds → FillsLog s n r logs (set logs i new)
fills-log s n r i logs d new holds same within fills = record {
  was = get_or logs i d;
  now = new;
  there = ap (slice_get logs) (sym same) ∙ slice_get-get_or logs i d (omega (arith, same, within));
  changed = ap (λ j. set logs j new) same;
  holds = holds;
  fills = fills;
}

-- a line that writes bytes may be added, by the holds of its parts
pub may-add-line : (s : Job) (n : ℕ) (op : Op) (r : ℕ) (x : OwnedPath) (c : Client) (p lines : List ℕ) (logs : List Log) (i : ℕ) (d new : Log)
    (holds : List PlainHold) (off len : ℕ) (bytes : List ℕ) → i ≡ r → EventSound s n op r (idle_kept x (own_of c p lines) logs)
    → FillsLine s n (get_or logs i d) new holds → write_at s n ≡ Some (record { at = off; bytes = bytes }) → length bytes ≡ len → 0 < len
    → off + len ≤ LONGEST_FILE → c.pending.chunk ≡ s.shape.chunk → 0 < s.shape.chunk → MayAddLine s n off len holds c p
may-add-line s n op r x c p lines logs i d new holds off len bytes same sound fills line long some end chunk least =
    let place : offset s n ≡ off = ap place_brought line in
    let size : length (payload s n) ≡ len = ap (λ w. length (bytes_brought w)) line ∙ long in
    record {
      chunk = chunk;
      some = least;
      brings = record { write = ap is_some line; some = omega (arith, size, some); end = omega (arith, place, size, end) };
      place = place;
      size = size;
      of_parts = part-holds s n r logs (set logs i new) (fills-log s n r i logs d new holds same sound.log fills);
      new_pieces = λ q. none-pending x (own_of c p lines) (record { line = n; part = q }) (sound.fresh (record { line = n; part = q }) refl);
    }

-- a write of no bytes has no hold, and leaves what was pending
pub adds-nothing : (n : ℕ) (holds : List PlainHold) (x : OwnedPath) (k l : ClientPath) → l.pending.held ≡ k.pending.held
    → length holds ≡ 0 → ((q : Piece) → q.line ≡ n → keeps x k q ≡ false) → AddsLine n holds k l []
adds-nothing n holds x k l same none fresh = record {
  own = λ q own. ap (λ h. h.hold_of q) same ∙ none-pending x k q (fresh q own) ∙ sym (slice_get_past holds q.part (omega arith));
  others = λ q other. inl (ap (λ h. h.hold_of q) same);
  was = λ h is_gone. absurd (omega (arith, is_gone.1));
  no_more = λ h is_gone. absurd (omega (arith, is_gone.1));
  once = λ i j d lt within. absurd (omega arith);
}

module _ (s : Job) (n : ℕ) (op : Op) (r : ℕ) (x : OwnedPath) (k l : ClientPath) (logs filled : List Log) (gone : List PlainHold)
    (sound : EventSound s n op r (idle_kept x k logs)) (fill : FillsLog s n r logs filled) (adds : AddsLine n fill.holds k l gone) where
  keeps-pending : (q : Piece) (h : PlainHold) → pending_hold k q ≡ Some h → keeps x k q ≡ true
  keeps-pending q h is = ap (λ o. is_some (file_hold x.path.file q) || is_some o) is ∙ or-true (is_some (file_hold x.path.file q))

  -- no piece of the line was kept
  not_own : (q : Piece) (h : PlainHold) → pending_hold k q ≡ Some h → q.line ≢ n
  not_own q h is own = true≢false (sym (keeps-pending q h is) ∙ sound.fresh q own)

  -- the piece of a slot of the line is of the line, and no other slot's is
  own_piece : (q i : ℕ) (p : StoredPiece) (part : HasPart s n logs filled q i) → (slot_in filled q i).piece ≡ Some p
      → p.id ≡ record { line = n; part = part.part }
  own_piece q i p part has =
      ap (λ (a : StoredPiece). a.id)
      (same_Some p (stored_part s (record { line = n; part = part.part })) (sym has ∙ ap (λ (a : Slot). a.piece) part.slot))

  was_piece : (q i : ℕ) (p : StoredPiece) → slot_in filled q i ≡ slot_in logs q i → (slot_in filled q i).piece ≡ Some p
      → (slot_in logs q i).piece ≡ Some p
  was_piece q i p same has = ap (λ (a : Slot). a.piece) (sym same) ∙ has

  held-filled : AreHeldSlots filled
  held-filled q i p has = elim (slot-cases s n r logs filled fill q i) [
    | inl part ↦ subst (λ (a : Slot). 0 < a.count) (sym part.slot) (omega arith)
    | inr same ↦ subst (λ (a : Slot). 0 < a.count) (sym same) (sound.held q i p (was_piece q i p same has))
  ]

  pub slots-gone : AreInSlots s filled gone
  slots-gone = record {
    held = λ h is_gone. IsHeldIn-kept s n r logs filled fill h (sound.stand.pending h.piece h (adds.was h is_gone)).1;
    there = λ q i p h has is_gone piece.
        elim (slot-cases s n r logs filled fill q i) [
          | inl part ↦
              absurd (not_own h.piece h (adds.was h is_gone) (ap (λ (a : Piece). a.line) (piece ∙ own_piece q i p part has)))
          | inr same ↦
              let at = sound.once h.rank h.slot q i (stored_part s h.piece) p (sound.stand.pending h.piece h (adds.was h is_gone)).1.piece
              (was_piece q i p same has) piece in
              and_from (h.rank == q) (h.slot == i) (eq-eqb h.rank q at.0) (eq-eqb h.slot i at.1)
        ];
    once = adds.once;
  }

  -- how often a piece is held once the line's own are in their slots
  abbrev before : Piece → ℕ
  before q = cond (q.line == n) 1 (holds_kept x k Idle q)

  before_own : (q : Piece) → q.line ≡ n → before q ≡ 1
  before_own q own = cond-true (q.line == n) 1 (holds_kept x k Idle q) (eq-eqb q.line n own)

  before_other : (q : Piece) → q.line ≢ n → before q ≡ holds_kept x k Idle q
  before_other q other = cond-false (q.line == n) 1 (holds_kept x k Idle q) (ne_eqb q.line n other)

  goes : (h : PlainHold) → Contains gone h → before h.piece ≡ holds_kept x l Idle h.piece + 1
  goes h is_gone =
      let was = adds.was h is_gone in
      let other = not_own h.piece h was in
      let absent : file_hold x.path.file h.piece ≡ None = sound.whole.sound.apart h.piece (ap is_some was) in
      before_other h.piece other ∙ ap (λ b. cond b 1 0 + 0) (keeps-pending h.piece h was)
      ∙ ap (λ o. cond (is_some o) 1 0 + 0 + 1) (sym (adds.no_more h is_gone other))
      ∙ ap (λ o. cond (is_some o || is_some (pending_hold l h.piece)) 1 0 + 0 + 1) (sym absent)

  kept_other : (q : Piece) → q.line ≢ n → ((h : PlainHold) → Contains gone h → h.piece ≡ q → ⊥) → pending_hold k q ≡ pending_hold l q
  kept_other q other none = elim (adds.others q other) [
    | inl same ↦ sym same
    | inr went ↦ elim (cases_Bool (is_some (pending_hold k q))) [
      | inr absent ↦ none_from-is_some (pending_hold k q) absent ∙ sym went.0
      | inl there ↦
          let h = some_of (pending_hold k q) there in
          absurd (none h.0 (went.1 h.0 h.1) (sound.stand.pending q h.0 h.1).0)
    ]
  ]

  own_held : (q : Piece) → q.line ≡ n → q.part < need s n → holds_kept x l Idle q ≡ 1
  own_held q own below =
      let of = part-hold s n r logs filled fill q.part below in
      ap (λ o. cond (is_some (file_hold x.path.file q) || is_some o) 1 0 + 0) (adds.own q own ∙ of.1)
      ∙ ap (λ b. cond b 1 0 + 0) (or-true (is_some (file_hold x.path.file q)))

  stays : (q i : ℕ) (p : StoredPiece) → (slot_in filled q i).piece ≡ Some p → ((h : PlainHold) → Contains gone h → h.piece ≡ p.id → ⊥)
      → before p.id ≡ holds_kept x l Idle p.id
  stays q i p has none = elim (slot-cases s n r logs filled fill q i) [
    | inl part ↦
        let is = own_piece q i p part has in
        let own : p.id.line ≡ n = ap (λ (a : Piece). a.line) is in
        let of : p.id.part ≡ part.part = ap (λ (a : Piece). a.part) is in
        let below = part.below in
        before_own p.id own ∙ sym (own_held p.id own (omega (arith, of, below)))
    | inr same ↦
        let other : p.id.line ≢ n = sound.unfilled q i p (was_piece q i p same has) in
        before_other p.id other ∙ ap (λ o. cond (is_some (file_hold x.path.file p.id) || is_some o) 1 0 + 0) (kept_other p.id other none)
  ]

  pub settle-filled : (new : List Log) → ReleasesAll gone filled new → LogsSettle s n r true (idle_kept x k logs) (idle_kept x l new)
  settle-filled new lets_go = record {
    logs = record {
      filled = filled;
      fill = fill;
      settles = settles-gone s filled gone slots-gone new lets_go held-filled before (holds_kept x l Idle) goes stays;
    };
    stand = record {
      files = λ q h is. let at = sound.stand.files q h is in (at.0, IsHeldIn-kept s n r logs filled fill h at.1);
      pending = λ q h is. elim (cases_eq q.line n) [
        | inl own ↦
            let of = IsHeldIn-part s n r logs filled fill q.part h (sound.rank fill.was fill.there) (sym (adds.own q own) ∙ is) in
            let at : ℕ → Piece = λ line. record { line = line; part = q.part } in
            (of.0 ∙ ap at (sym own), of.1)
        | inr other ↦ elim (adds.others q other) [
          | inl same ↦ let at = sound.stand.pending q h (sym same ∙ is) in (at.0, IsHeldIn-kept s n r logs filled fill h at.1)
          | inr went ↦ absurd (none-some h (sym went.0 ∙ is))
        ]
      ];
      pins = λ q h none. absurd (none-some h none);
    };
  }

  -- ---- what is kept

  file_without : (q : Piece) → keeps x k q ≡ false → file_hold x.path.file q ≡ None
  file_without q none = elim (cases_Bool (is_some (file_hold x.path.file q))) [
    | inr absent ↦ none_from-is_some (file_hold x.path.file q) absent
    | inl there ↦ absurd (true≢false (sym (ap (λ b. b || is_some (pending_hold k q)) there) ∙ none))
  ]

  -- a piece that is pending now was pending, or is the line's
  pub pending-from : (q : Piece) → is_some (pending_hold l q) ≡ true → (is_some (pending_hold k q) || q.line == n) ≡ true
  pending-from q there = elim (cases_eq q.line n) [
    | inl own ↦ ap (λ b. is_some (pending_hold k q) || b) (eq-eqb q.line n own) ∙ or-true (is_some (pending_hold k q))
    | inr other ↦ elim (adds.others q other) [
      | inl same ↦ ap (λ o. is_some o || q.line == n) (sym same) ∙ ap (λ b. b || q.line == n) there
      | inr went ↦ absurd (true≢false (sym there ∙ ap is_some went.0))
    ]
  ]

  pub sound-written : ArePending s l.pending → AreSound s x l
  sound-written pending = record {
    written = sound.whole.sound.written;
    pending = pending;
    apart = λ q there. elim (cases_eq q.line n) [
      | inl own ↦ file_without q (sound.fresh q own)
      | inr other ↦ elim (adds.others q other) [
        | inl same ↦ sound.whole.sound.apart q (ap is_some (sym same) ∙ there)
        | inr went ↦ absurd (true≢false (sym there ∙ ap is_some went.0))
      ]
    ];
  }

-- ---- a write that makes its parts pending

-- The holds of this list may be let go of, and once they were, the logs follow. What is pending is sound, and of pieces that were
-- pending or are the line's.
pub record WritesLine (s : Job) (n r : ℕ) (x : OwnedPath) (k l : ClientPath) (logs filled : List Log) (dead : List PlainHold) : Type 0 where
  pub are_held : All (IsHeld filled) dead
  pub apart : AllPairs (λ g h. are_of_one_slot g h ≡ false) dead
  pub settle : (new : List Log) → ReleasesAll dead filled new → LogsSettle s n r true (idle_kept x k logs) (idle_kept x l new)
  pub from : (q : Piece) → is_some (pending_hold l q) ≡ true → (is_some (pending_hold k q) || q.line == n) ≡ true
  pub sound : ArePending s l.pending → AreSound s x l

pub writes-line : (s : Job) (n : ℕ) (op : Op) (r : ℕ) (x : OwnedPath) (k l : ClientPath) (logs : List Log) (i : ℕ) (d new : Log)
    (holds gone : List PlainHold) → i ≡ r → EventSound s n op r (idle_kept x k logs) → FillsLine s n (get_or logs i d) new holds
    → AddsHolds n holds k.pending.held l.pending.held → AreGone (λ (h : PlainHold). h.piece) k.pending.held l.pending.held gone
    → WritesLine s n r x k l logs (set logs i new) gone
writes-line s n op r x k l logs i d new holds gone same sound fills adds are_gone =
    let filled = set logs i new in
    let fill = fills-log s n r i logs d new holds same sound.log fills in
    let line = adds-line n holds k l gone adds are_gone in
    let slots = slots-gone s n op r x k l logs filled gone sound fill line in
    record {
      are_held = held-gone s filled gone slots;
      apart = apart-gone s filled gone slots;
      settle = settle-filled s n op r x k l logs filled gone sound fill line;
      from = pending-from s n op r x k l logs filled gone sound fill line;
      sound = sound-written s n op r x k l logs filled gone sound fill line;
    }
