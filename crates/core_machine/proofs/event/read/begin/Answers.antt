use Rattle.std.proofs.Common.{◌≡◌, ◌∙◌, ◌+◌, ◌<◌, ◌≤◌, ◌^◌, ap, refl, sym, subst, min, replicate, rules, find, All, AllPairs, IsSome, List, Option}
use Rattle.std.proofs.Common.{false}
use Rattle.std.specs.Option.{option_or}
use Rattle.fs_types.specs.Fragments.{piece_eq}
use Rattle.fs_types.specs.Pieces.{Fragment, Piece}
use Rattle.client_map.specs.Kept.{pending_in}
use Rattle.piece_table.specs.HeldSpans.{Held}
use Rattle.piece_table.specs.PieceTable.{AreTheirs, Pieces, hold_of}
use Rattle.owner_book.specs.declared.looked.Looked.{Looked}
use Rattle.core_machine.specs.declared.plain_hold.PlainHold.{PlainHold}
use Rattle.core_machine.specs.Pins.{ArePins, HaveSlots, either_hold, no_count}
use Rattle.core_machine.specs.ReadRuns.{joined_from}
use Rattle.core_machine.specs.Reads.{found_hold}
use Rattle.core_machine.proofs.ReadTasks.{BeginsRead-pinned}
use Rattle.core_machine.proofs.SeenRuns.{seen-behind, seen-fetchable, seen-runs, seen-small}
use Rattle.core_machine.proofs.event.read.begin.Goals as goal

abbrev hold_seen : Looked PlainHold → Held PlainHold → Piece → Option PlainHold
hold_seen seen own = either_hold (found_hold seen) own.hold_of

-- the table has what was found
in-table : (seen : Looked PlainHold) (own : Held PlainHold) (holds : List PlainHold) (table : Pieces PlainHold)
    → ((q : Piece) → hold_of table q ≡ find (λ (h : PlainHold). piece_eq h.piece q) holds) → holds ≡ seen.holds.items
    → hold_seen seen own ≡ either_hold (hold_of table) own.hold_of
in-table seen own holds table has same =
    λ i q. option_or (sym (has q ∙ ap (find (λ (h : PlainHold). piece_eq h.piece q)) same) i) (own.hold_of q)

pub runs_of-requires-clause-behind : goal.runs_of-requires-clause-behind
runs_of-requires-clause-behind g c =
    let need = c.requires.seen in
    subst (All (λ (f : Fragment). c.args.off ≤ f.at)) (sym c.deref.ensures.value)
    (seen-behind need.0 c.args.off c.args.len (hold_seen c.args.seen (pending_in c.args.client.now.pending c.args.p.now)) c.args.seen need.1)

pub runs_of-requires-clause-small : goal.runs_of-requires-clause-small
runs_of-requires-clause-small g c =
    let need = c.requires.seen in
    subst (All (λ (f : Fragment). f.at + f.len < 2 ^ 64)) (sym c.deref.ensures.value)
    (seen-small need.0 c.args.off c.args.len (hold_seen c.args.seen (pending_in c.args.client.now.pending c.args.p.now)) c.args.seen need.1)

pub table_of-requires : goal.table_of-requires
table_of-requires g c = record {
  apart = subst (AllPairs (λ (x y : PlainHold). piece_eq x.piece y.piece ≡ false)) (sym c.deref-2.ensures.value) c.requires.seen.1.once;
}

pub pin_runs-requires-clause-named : goal.pin_runs-requires-clause-named
pin_runs-requires-clause-named g c =
    let need = c.requires.seen in
    let seen = c.args.seen in
    let own = pending_in c.args.client.now.pending c.args.p.now in
    let runs_are = c.deref-3.ensures.value ∙ c.in_ok-runs.ensures ∙ ap (joined_from c.args.off) c.deref.ensures.value in
    subst (λ (fs : List Fragment). All (λ (f : Fragment). IsSome (either_hold (hold_of c.in_ok-holds.holds) own.hold_of f.piece)) fs)
    (sym runs_are)
    (subst (λ (hold_at : Piece → Option PlainHold). All (λ (f : Fragment). IsSome (hold_at f.piece)) (joined_from c.args.off seen.frags.items))
    (in-table seen own _ c.in_ok-holds.holds c.in_ok-holds.ensures c.deref-2.ensures.value)
    (seen-fetchable need.0 c.args.off c.args.len (hold_seen seen own) seen need.1).named)

pub pin_runs-requires-clause-theirs : goal.pin_runs-requires-clause-theirs
pin_runs-requires-clause-theirs g c =
    subst (AreTheirs (λ (h : PlainHold). h.piece))
    (in-table c.args.seen (pending_in c.args.client.now.pending c.args.p.now) _ c.in_ok-holds.holds c.in_ok-holds.ensures c.deref-2.ensures.value) c.requires.seen.1.theirs

pub pin_runs-requires-clause-slots : goal.pin_runs-requires-clause-slots
pin_runs-requires-clause-slots g c =
    subst (HaveSlots c.args.logs.now)
    (in-table c.args.seen (pending_in c.args.client.now.pending c.args.p.now) _ c.in_ok-holds.holds c.in_ok-holds.ensures c.deref-2.ensures.value) c.requires.slots

pub returns : goal.returns
returns g c = λ s marks is.
    let seen = c.args.seen in
    let own = pending_in c.args.client.now.pending c.args.p.now in
    let runs_are = c.in_ok-runs.ensures ∙ ap (joined_from c.args.off) c.deref.ensures.value in
    let zeros : c.in_ok-bytes.bytes.items ≡ replicate c.min-shown.result 0 = search rules in
    let size = c.min-shown.ensures ∙ ap (min c.args.len) c.saturating_sub.ensures ∙ sym is.size in
    let pins = subst (λ (fs : List Fragment).
    ArePins no_count (either_hold (hold_of c.in_ok-holds.holds) own.hold_of) fs c.in_ok-pins.pins c.args.logs.now c.pin_runs.new.logs)
    c.deref-3.ensures.value c.in_ok-pins.ensures in
    BeginsRead-pinned s marks c.args.off c.args.len (hold_seen seen own) seen _ c.args.logs.now c.pin_runs.new.logs is refl refl
    (runs_are ∙ seen-runs marks c.args.off c.args.len (hold_seen seen own) seen is) (zeros ∙ ap (λ n. replicate n 0) size)
    (subst (λ (hold_at : Piece → Option PlainHold).
    ArePins no_count hold_at c.in_ok-runs.runs.items c.in_ok-pins.pins c.args.logs.now c.pin_runs.new.logs)
    (sym (in-table seen own _ c.in_ok-holds.holds c.in_ok-holds.ensures c.deref-2.ensures.value)) pins)
