use Rattle.fs_types.proofs.Common.{◌≡◌, All, None, take}
use Rattle.client_map.specs.Calls.{IsAsBefore}
use Rattle.client_map.specs.Kept.{pending_in}
use Rattle.client_map.proofs.tests.require_all_new.Given as goal

-- the pieces so far are new
abbrev pub invariant-loop-h : goal.invariant-loop-h
invariant-loop-h l = record {
  same : IsAsBefore l.fn.map l.map;
  new : All (λ h. (pending_in l.fn.map l.path).hold_of h.piece ≡ None) (take l.h-index l.holds);
}
