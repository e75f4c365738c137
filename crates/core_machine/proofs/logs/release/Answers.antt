use Rattle.std.proofs.Common.{◌<◌, length, rules}
use Rattle.slot_plain.specs.Slots.{released}
use Rattle.core_machine.proofs.LogSlots.{changed-frames, changed-slots, held-log, slot_in-log}
use Rattle.core_machine.proofs.logs.release.Goals as goal

pub bounds-logs-rank-inside : goal.bounds-logs-rank-inside
bounds-logs-rank-inside g c = rw c.rank.view_is (held-log c.args.logs.now c.args.h.now.rank c.args.h.now.slot c.requires)

pub offset_bounds-logs-rank-inside : goal.offset_bounds-logs-rank-inside
offset_bounds-logs-rank-inside g c =
    let inside : c.rank.inside.0 < length c.args.logs.now =
    rw c.rank.view_is (held-log c.args.logs.now c.args.h.now.rank c.args.h.now.slot c.requires) in
    search rules

pub release-requires : goal.release-requires
release-requires g c =
    let there = held-log c.args.logs.now c.args.h.now.rank c.args.h.now.slot c.requires in
    rw (c.rank.view_is, slot_in-log c.args.logs.now c.args.h.now.rank c.args.h.now.slot c.index-logs-rank.result there) c.requires

pub returns : goal.returns
returns g c = rw c.rank.view_is (record {
  frames = changed-frames released c.args.logs.now c.args.h.now c.index-logs-rank.result c.release.new.self c.requires
      (rw c.rank.view_is at c.release.ensures);
  slots = changed-slots released c.args.logs.now c.args.h.now c.index-logs-rank.result c.release.new.self c.requires
      (rw c.rank.view_is at c.release.ensures);
})
