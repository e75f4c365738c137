use Rattle.std.proofs.Common.{◌<◌, length, rules}
use Rattle.slot_plain.specs.Slots.{pinned}
use Rattle.core_machine.proofs.LogSlots.{changed-frames, changed-slots, held-log, slot_in-log}
use Rattle.core_machine.proofs.logs.pin.Goals as goal

pub bounds-logs-rank-inside : goal.bounds-logs-rank-inside
bounds-logs-rank-inside g c = rw c.rank.view_is (held-log c.args.logs.now c.args.h.now.rank c.args.h.now.slot c.requires.held)

pub offset_bounds-logs-rank-inside : goal.offset_bounds-logs-rank-inside
offset_bounds-logs-rank-inside g c =
    let inside : c.rank.inside.0 < length c.args.logs.now =
    rw c.rank.view_is (held-log c.args.logs.now c.args.h.now.rank c.args.h.now.slot c.requires.held) in
    search rules

pub pin-requires-clause-held : goal.pin-requires-clause-held
pin-requires-clause-held g c =
    let there = held-log c.args.logs.now c.args.h.now.rank c.args.h.now.slot c.requires.held in
    rw (c.rank.view_is, slot_in-log c.args.logs.now c.args.h.now.rank c.args.h.now.slot c.index-logs-rank.result there) c.requires.held

pub returns : goal.returns
returns g c = rw c.rank.view_is (record {
  frames = changed-frames pinned c.args.logs.now c.args.h.now c.index-logs-rank.result c.pin.new.self c.requires.held
      (rw c.rank.view_is at c.pin.ensures);
  slots = changed-slots pinned c.args.logs.now c.args.h.now c.index-logs-rank.result c.pin.new.self c.requires.held
      (rw c.rank.view_is at c.pin.ensures);
})

pub pin-requires-clause-few : goal.pin-requires-clause-few
pin-requires-clause-few g c =
    let there = held-log c.args.logs.now c.args.h.now.rank c.args.h.now.slot c.requires.held in
    rw (c.rank.view_is, slot_in-log c.args.logs.now c.args.h.now.rank c.args.h.now.slot c.index-logs-rank.result there)
    c.requires.few
