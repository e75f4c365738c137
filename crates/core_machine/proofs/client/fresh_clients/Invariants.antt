use Rattle.fs_types.proofs.Common.{◌≡◌, ℕ, List, [], length, All}
use Rattle.core_machine.specs.ClientPath.{own_of}
use Rattle.core_machine.specs.Kept.{IsFreshClient}
use Rattle.core_machine.proofs.client.fresh_clients.Given as goal

-- the clients so far did nothing
abbrev pub invariant-loop : goal.invariant-loop
invariant-loop l = record {
  count : length l.each.items ≡ l.counter;
  fresh : All (λ c. (p : List ℕ) → IsFreshClient (own_of c p [])) l.each.items;
  chunks : All (λ c. c.pending.chunk ≡ l.chunk) l.each.items;
}
