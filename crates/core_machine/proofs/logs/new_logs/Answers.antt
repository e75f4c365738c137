use Rattle.std.proofs.Common.{◌≡◌, length, map, arith, ap, ◌∙◌, rules}
use Rattle.std.proofs.lemmas.List.{get_or-map, length-map, length_push}
use Rattle.slot_plain.proofs.Shapes.{slots_fit}
use Rattle.core_machine.specs.Logs.{device_state}
use Rattle.core_machine.proofs.FreshLogs.{fresh-more, last-is, last-rest, last-within}
use Rattle.core_machine.proofs.logs.new_logs.Goals as goal

pub new-requires-clause-slots : goal.new-requires-clause-slots
new-requires-clause-slots g c = rw c.shape-shape.ensures.shape (slots_fit c.args.s.now.shape c.shape-shape.ensures.job.shape)

pub new-requires-clause-device : goal.new-requires-clause-device
new-requires-clause-device g c =
    let all = c.args.devices.now.items in
    let now = c.loop-device.devices.items in
    let rest = c.pop.new.self.items in
    let within = last-within all now rest c.in-Some.device c.loop-device.invariant.devices c.in-Some.ensures.items in
    let is = last-is all now rest c.in-Some.device c.loop-device.invariant.devices c.in-Some.ensures.items in
    rw c.shape-shape.ensures.shape (rw is at (c.requires.fit (length rest) c.in-Some.device within))

pub loop-device-preserved : goal.loop-device-preserved
loop-device-preserved g c =
    let all = c.args.devices.now.items in
    let now = c.loop-device.devices.items in
    let rest = c.pop.new.self.items in
    let within = last-within all now rest c.in-Some.device c.loop-device.invariant.devices c.in-Some.ensures.items in
    let is = last-is all now rest c.in-Some.device c.loop-device.invariant.devices c.in-Some.ensures.items in
    let state = λ (d : g.row.D.Denot). device_state (g.D.SpillDev.size d) (g.D.SpillDev.cells d) (g.D.SpillDev.faults d) in
    let many = ap length c.in-Some.ensures.items ∙ length_push rest c.in-Some.device in
    let more = fresh-more c.args.s.now.shape (length rest) (length now) (map state all) (state c.in-Some.device)
    c.loop-device.logs.items many (omega (arith, within, length-map all state))
    (get_or-map state all (length rest) c.in-Some.device (state c.in-Some.device) within ∙ ap state is)
    c.loop-device.invariant.logs in
    let rank : c.len-in-Some.result ≡ length rest = omega (arith, c.len-in-Some.ensures, c.pop.new.self.ok.0) in
    record {
      devices = last-rest all now rest c.in-Some.device c.loop-device.invariant.devices c.in-Some.ensures.items;
      logs = rw (c.push_reserved.ensures.items, c.in_ok-new.ensures, c.shape-shape.ensures.shape, rank) more;
      places = search rules;
      room = search rules;
    }
