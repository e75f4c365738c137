use Rattle.std.proofs.Common.{◌≡◌, ◌-◌, ◌≤◌, take}
use Rattle.fs_types.specs.Overwrite.{put}
use Rattle.fs_script.specs.Payload.{payload}
use Rattle.fs_plain.proofs.payload.put_payload.Given as goal

-- what comes before `from` was put
abbrev pub invariant-loop-from : goal.invariant-loop-from
invariant-loop-from l = record {
  within : l.from ≤ l.len;
  bytes : l.bytes ≡ put 0 l.initial.bytes l.off (take l.from (payload l.s l.n));
}

abbrev pub decreases-loop-from : goal.decreases-loop-from
decreases-loop-from l = l.len - l.from
