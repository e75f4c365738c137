use Rattle.std.proofs.Common.{◌≡◌, ◌+◌, drop, length, map, reverse, take, vec_capacity, vec_len}
use Rattle.core_machine.specs.Logs.{device_state, fresh_logs}
use Rattle.core_machine.proofs.logs.new_logs.Given as goal

abbrev pub invariant-loop-device : goal.invariant-loop-device
invariant-loop-device g l = record {
  devices : l.devices.items ≡ take (length l.devices.items) l.fn.devices.items;
  logs : l.logs.items ≡ reverse (fresh_logs l.s.shape (length l.devices.items) (drop (length l.devices.items)
      (map (λ d. device_state (g.D.SpillDev.size d) (g.D.SpillDev.cells d) (g.D.SpillDev.faults d)) l.fn.devices.items)));
  places : vec_len l.logs + length l.devices.items ≡ vec_capacity l.logs;
  room : vec_capacity l.devices ≡ vec_capacity l.fn.devices;
}

abbrev pub decreases-loop-device : goal.decreases-loop-device
decreases-loop-device g l = vec_len l.devices
