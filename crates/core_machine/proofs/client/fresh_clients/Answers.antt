use Rattle.fs_types.proofs.Common.{◌≡◌, ℕ, List, [], All, ap, arith, length, length_push, subst, sym}
use Rattle.std.proofs.lemmas.List.Elements.{All-push}
use Rattle.core_machine.specs.ClientPath.{own_of}
use Rattle.core_machine.specs.Kept.{IsFreshClient}
use Rattle.core_machine.specs.declared.client.Client.{Client}
use Rattle.core_machine.proofs.client.fresh_clients.Goals as goal

abbrev IsFresh : Client → Type 0
IsFresh c = (p : List ℕ) → IsFreshClient (own_of c p [])

pub loop-preserved : goal.loop-preserved
loop-preserved c =
    let was = c.loop.each.items in
    let one = c.in_ok-new.field-0 in
    record {
      count = omega (arith, ap length c.in_ok-push.ensures.items, length_push was one, c.loop.invariant.count);
      fresh = subst (All IsFresh) (sym c.in_ok-push.ensures.items)
          (All-push IsFresh was one c.loop.invariant.fresh c.in_ok-new.ensures.fresh);
      chunks = subst (All (λ (k : Client). k.pending.chunk ≡ c.args.chunk)) (sym c.in_ok-push.ensures.items)
          (All-push (λ (k : Client). k.pending.chunk ≡ c.args.chunk) was one c.loop.invariant.chunks c.in_ok-new.ensures.chunk);
    }
