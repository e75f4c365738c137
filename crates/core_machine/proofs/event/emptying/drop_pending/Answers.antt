-- The holds of the push that was taken are those of what was pending, and each is of a slot of its own.
use Rattle.fs_types.proofs.Common.{◌≡◌, ◌∙◌, [], All, All-contains, Some, ap, false, subst, sym}
use Rattle.std.proofs.lemmas.Result.{on_ok_weaker}
use Rattle.std.specs.List.{AllPairs}
use Rattle.piece_table.specs.HeldSpans.{AreGone}
use Rattle.client_files.specs.Kept.{KeptFiles, is_open_in, noted_in}
use Rattle.client_files.specs.Noted.{later_of}
use Rattle.client_map.specs.Kept.{pending_in}
use Rattle.core_machine.specs.ClientPath.{ClientPath, Pending, pending_of}
use Rattle.core_machine.specs.Logs.{IsHeld, ReleasesAll, are_of_one_slot}
use Rattle.core_machine.specs.declared.plain_hold.PlainHold.{PlainHold}
use Rattle.core_machine.specs.PendingWrites.{DropsPending}
use Rattle.core_machine.proofs.LetGo.{in-slots}
use Rattle.core_machine.proofs.PushedPending.{gone-pushed}
use Rattle.core_machine.proofs.Settled.{AreInSlots, apart-gone, held-gone}
use Rattle.core_machine.proofs.event.emptying.drop_pending.Goals as goal
use Rattle.core_machine.proofs.event.emptying.drop_pending.Goals.{After-deref}
use Rattle.core_machine.proofs.event.emptying.drop_pending.Given.{Over}

module _ (g : Over) (c : After-deref g) where
  gone : AreGone (λ (h : PlainHold). h.piece) (pending_in c.args.client.now.pending c.args.p.now)
      (pending_in c.take-push.new.self.pending c.args.p.now) c.take-push.result.holds.items
  gone = gone-pushed (pending_in c.args.client.now.pending c.args.p.now) (pending_in c.take-push.new.self.pending c.args.p.now)
      c.take-push.result c.take-push.ensures.push c.take-push.ensures.none.fragments

  slots : AreInSlots c.requires.stand.0 c.args.logs.now c.take-push.result.holds.items
  slots = in-slots c.requires.stand.0 c.args.logs.now c.take-push.result.holds.items
      (λ h is_gone. (c.requires.stand.1 h.piece h
      (All-contains (λ (i : PlainHold). (pending_in c.args.client.now.pending c.args.p.now).hold_of i.piece ≡ Some i)
      c.take-push.result.holds.items h gone.held is_gone)).1)
      c.requires.once gone.once

pub release_all-requires-clause-held : goal.release_all-requires-clause-held
release_all-requires-clause-held g c =
    subst (All (IsHeld c.args.logs.now)) (sym c.deref.ensures.value)
    (held-gone c.requires.stand.0 c.args.logs.now c.take-push.result.holds.items
    (slots g (goal.at.release_all-requires-clause-held g c).After-deref))

pub release_all-requires-clause-apart : goal.release_all-requires-clause-apart
release_all-requires-clause-apart g c =
    subst (AllPairs (λ g h. are_of_one_slot g h ≡ false)) (sym c.deref.ensures.value)
    (apart-gone c.requires.stand.0 c.args.logs.now c.take-push.result.holds.items
    (slots g (goal.at.release_all-requires-clause-apart g c).After-deref))

pub returns-clause-drops : goal.returns-clause-drops
returns-clause-drops g c = on_ok_weaker c.note.result (λ noted lines.
    let old = pending_of c.args.client.now c.args.p.now lines in
    subst (λ (p : Pending). DropsPending old p c.args.logs.now c.release_all.new.logs)
    (sym (ap (λ (w : ClientPath). w.pending) (noted []))) (record {
      none = c.take-push.ensures.none;
      gone = c.take-push.result.holds.items;
      are_gone = gone g (goal.at.returns-clause-drops g c).After-deref;
      logs = subst (λ hs. ReleasesAll hs c.args.logs.now c.release_all.new.logs) c.deref.ensures.value c.release_all.ensures;
    })) c.note.ensures.noted

pub returns-clause-noted : goal.returns-clause-noted
returns-clause-noted g c = on_ok_weaker c.note.result (λ noted lines.
    let now = pending_of c.note.new.self c.args.p.now [] in
    ap (λ (w : ClientPath). let v : ClientPath = record w { pending = now } in v) (noted [])
    ∙ ap (λ (files : KeptFiles). let v : ClientPath = record {
      is_open = is_open_in files c.args.p.now;
      pending = now;
      noted = later_of (noted_in files c.args.p.now) (record { version = c.args.v; attr = c.args.attr });
    } in v) c.take-push.ensures.files) c.note.ensures.noted
