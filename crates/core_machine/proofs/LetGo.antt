-- Events that put nothing into slots: the logs follow, where what is kept holds the same pieces, and where some holds were let go of.
use Rattle.fs_types.proofs.Common.{◌≡◌, ℕ, ◌+◌, ◌==◌, ◌||◌, true, false, List, Some, is_some, cond}
use Rattle.fs_types.proofs.Common.{Contains, refl, sym, ap, ◌∙◌, ◌⊎◌, inl, inr, none-some}
use Rattle.fs_types.proofs.Common.{and_from, eq-eqb}
use Rattle.std.specs.List.{AllPairs}
use Rattle.std.proofs.Math.Bool.{or-true}
use Rattle.fs_types.specs.Fragments.{piece_eq}
use Rattle.slot_plain.specs.Log.{Log}
use Rattle.fs_script.specs.Vocabulary.{Job, Piece}
use Rattle.core_machine.specs.ClientPath.{ClientPath}
use Rattle.core_machine.specs.Kept.{OwnedPath}
use Rattle.core_machine.specs.declared.plain_hold.PlainHold.{PlainHold}
use Rattle.core_machine.specs.declared.task.Task.TheVariants.{Idle}
use Rattle.core_machine.specs.Follows.{EventKept, KeepsHolds, KeptStand, LogsSettle}
use Rattle.core_machine.specs.HoldsKept.{holds_kept, keeps}
use Rattle.core_machine.specs.Kept.{file_hold, pending_hold}
use Rattle.core_machine.specs.Logs.{AreHeldSlots, AreInOneSlot, IsHeldIn, ReleasesAll, stored_part}
use Rattle.core_machine.proofs.Settled.{AreInSlots, settles-gone}
use Rattle.core_machine.proofs.SettledSlots.{Settles-agree, Settles-same}

-- what is kept, with a client in the midst of nothing
abbrev pub idle_kept : OwnedPath → ClientPath → List Log → EventKept
idle_kept x k logs = record { owned = x; client = k; task = Idle; logs = logs }

-- what is kept holds a piece as often as another, where both have it or neither
pub same_count : (x y : OwnedPath) (k l : ClientPath) (q : Piece) → keeps x k q ≡ keeps y l q
    → holds_kept x k Idle q ≡ holds_kept y l Idle q
same_count x y k l q same = ap (λ b. cond b 1 0 + 0) same

-- ---- the same holds

pub settle-same : (s : Job) (n r : ℕ) (x y : OwnedPath) (k l : ClientPath) (logs : List Log)
    → KeepsHolds x k y l → KeptStand s logs x k Idle
    → AreHeldSlots logs → LogsSettle s n r false (idle_kept x k logs) (idle_kept y l logs)
settle-same s n r x y k l logs same stand are_held = record {
  logs = record {
    filled = logs;
    fill = refl;
    settles = Settles-agree (holds_kept x k Idle) (holds_kept x k Idle) (holds_kept x k Idle) (holds_kept y l Idle) logs logs (λ q. refl)
        (λ q. same_count y x l k q (ap (λ h. is_some h || is_some (pending_hold l q)) (same.files q)
        ∙ ap (λ h. is_some (file_hold x.path.file q) || is_some h) (same.pending q)))
        (Settles-same (holds_kept x k Idle) logs are_held);
  };
  stand = record {
    files = λ q h is. stand.files q h (sym (same.files q) ∙ is);
    pending = λ q h is. stand.pending q h (sym (same.pending q) ∙ is);
    pins = λ q h none. absurd (none-some h none);
  };
}

-- ---- holds that were let go of

-- holds of slots that have their pieces, no two of one piece, where no piece is in two slots
pub in-slots : (s : Job) (logs : List Log) (gone : List PlainHold) → ((h : PlainHold) → Contains gone h → IsHeldIn s logs h)
    → AreInOneSlot logs → AllPairs (λ g h. piece_eq g.piece h.piece ≡ false) gone → AreInSlots s logs gone
in-slots s logs gone held once apart = record {
  held = held;
  there = λ r i p h has is_gone same.
      let at = once h.rank h.slot r i (stored_part s h.piece) p (held h is_gone).piece has same in
      and_from (h.rank == r) (h.slot == i) (eq-eqb h.rank r at.0) (eq-eqb h.slot i at.1);
  once = apart;
}

-- of what is kept these holds went, and every other piece is kept as before
pub record LeavesKept (x y : OwnedPath) (k l : ClientPath) (gone : List PlainHold) : Type 0 where
  pub kept : (h : PlainHold) → Contains gone h → (file_hold x.path.file h.piece ≡ Some h) ⊎ (pending_hold k h.piece ≡ Some h)
  pub no_more : (h : PlainHold) → Contains gone h → keeps y l h.piece ≡ false
  pub others : (q : Piece) → ((h : PlainHold) → Contains gone h → h.piece ≡ q → ⊥) → keeps x k q ≡ keeps y l q
  pub once : AllPairs (λ g h. piece_eq g.piece h.piece ≡ false) gone
  pub files : (q : Piece) (h : PlainHold) → file_hold y.path.file q ≡ Some h → (file_hold x.path.file q ≡ Some h) ⊎ (pending_hold k q ≡ Some h)
  pub pending : (q : Piece) (h : PlainHold) → pending_hold l q ≡ Some h → (file_hold x.path.file q ≡ Some h) ⊎ (pending_hold k q ≡ Some h)

module _ (s : Job) (x : OwnedPath) (k : ClientPath) (logs : List Log) (stand : KeptStand s logs x k Idle) where
  pub stands : (q : Piece) (h : PlainHold) → (file_hold x.path.file q ≡ Some h) ⊎ (pending_hold k q ≡ Some h) → (h.piece ≡ q) × IsHeldIn s logs h
  stands q h (inl is) = stand.files q h is
  stands q h (inr is) = stand.pending q h is

  was_kept : (q : Piece) (h : PlainHold) → (file_hold x.path.file q ≡ Some h) ⊎ (pending_hold k q ≡ Some h) → keeps x k q ≡ true
  was_kept q h (inl is) = ap (λ o. is_some o || is_some (pending_hold k q)) is
  was_kept q h (inr is) = ap (λ o. is_some (file_hold x.path.file q) || is_some o) is ∙ or-true (is_some (file_hold x.path.file q))

  module _ (y : OwnedPath) (l : ClientPath) (gone : List PlainHold) (once : AreInOneSlot logs) (leaves : LeavesKept x y k l gone) where
    pub slots-gone : AreInSlots s logs gone
    slots-gone = in-slots s logs gone (λ h is_gone. (stands h.piece h (leaves.kept h is_gone)).1) once leaves.once

    pub settle-gone : (n r : ℕ) (new : List Log) → AreHeldSlots logs → ReleasesAll gone logs new
        → LogsSettle s n r false (idle_kept x k logs) (idle_kept y l new)
    settle-gone n r new are_held lets_go = record {
      logs = record {
        filled = logs;
        fill = refl;
        settles = settles-gone s logs gone slots-gone new lets_go are_held (holds_kept x k Idle) (holds_kept y l Idle)
            (λ h is_gone. ap (λ b. cond b 1 0 + 0) (was_kept h.piece h (leaves.kept h is_gone))
            ∙ ap (λ b. cond b 1 0 + 0 + 1) (sym (leaves.no_more h is_gone)))
            (λ q i p has none. same_count x y k l p.id (leaves.others p.id none));
      };
      stand = record {
        files = λ q h is. stands q h (leaves.files q h is);
        pending = λ q h is. stands q h (leaves.pending q h is);
        pins = λ q h none. absurd (none-some h none);
      };
    }
