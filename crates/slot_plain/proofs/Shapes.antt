-- For callers: a shape that a job may have has slots that a log can number.
use Rattle.std.proofs.Common.{ℕ, ◌+◌, ◌*◌, ◌^◌, ◌<◌, ◌≤◌, arith}
use Rattle.fs_script.specs.declared.shape.Shape.{Shape}
use Rattle.fs_script.specs.Grammar.{IsShape}

-- one client has no more than all clients have
one_of_all : (clients each : ℕ) → 1 ≤ clients → each ≤ clients * each
one_of_all clients each some = grind arith

pub slots_fit : (h : Shape) → IsShape h → h.shmem + h.spill < 2 ^ 32
slots_fit h is =
    let some = is.some_client in
    let memory = is.memory.slots in
    let spill = is.spill.slots in
    let m = one_of_all h.clients h.shmem some in
    let s = one_of_all h.clients h.spill some in
    omega (arith, memory, spill, m, s)
