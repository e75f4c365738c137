use Rattle.std.proofs.Common.{◌≡◌, length, map, vec_capacity, vec_len}
use Rattle.slot_plain.specs.Log.{Log}
use Rattle.core_machine.specs.Logs.{device_state}
use Rattle.core_machine.proofs.logs.into_devices.Given as goal

abbrev pub invariant-loop-log : goal.invariant-loop-log
invariant-loop-log g l = record {
  devices : map (λ d. device_state (g.D.SpillDev.size d) (g.D.SpillDev.cells d) (g.D.SpillDev.faults d)) l.devices.items
      ≡ map (λ (log : Log). log.device) l.yielded;
  places : vec_len l.devices ≡ length l.yielded;
  room : vec_capacity l.devices ≡ vec_capacity l.fn.room;
}
