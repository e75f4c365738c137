-- What is added are the parts of the line.
use Rattle.fs_types.proofs.Common.{◌≡◌, true, true≢false, arith, refl, Err, Ok, OnOk, Result}
use Rattle.std.specs.Result.{is_ok}
use Rattle.client_map.specs.Kept.{pending_in}
use Rattle.client_map.proofs.CallerLemmas as map
use Rattle.core_machine.proofs.AddedLines.{pending-added, write-holds}
use Rattle.core_machine.proofs.client.Client.add.Goals as goal

-- what two facts on success give, on the success of another call
both : {X D Y E P Q R : Type 0} (r : Result X D) (u : Result Y E) → is_ok u ≡ is_ok r → (P → Q → R) → OnOk r P → OnOk r Q → OnOk u R
both r (Err e) same f p q = tt
both (Ok x) (Ok y) same f p q = f p q
both (Err d) (Ok y) same f p q = absurd (true≢false same)

pub add-requires-clause-write : goal.add-requires-clause-write
add-requires-clause-write c =
    let s = c.requires.line.0 in
    let n = c.requires.line.1 in
    let may = c.requires.line.2 in
    map.may-add (write-holds s n c.args.off c.args.len c.args.holds.items may.of_parts may.some may.brings may.size)
    c.args.self.now.pending.chunk may.chunk (λ _. true) (pending_in c.args.self.now.pending c.args.p.now)
    (omega (arith, may.brings.end, may.place, may.size)) (λ k d below. refl) may.new_pieces

pub returns-clause-pending : goal.returns-clause-pending
returns-clause-pending c = λ s n lines may was.
    let old = pending_in c.args.self.now.pending c.args.p.now in
    let new = pending_in c.add.new.self c.args.p.now in
    both c.add.result c.map_err.result c.map_err.ensures.variant (λ puts end.
    pending-added s n may.brings lines old new was
    (rw (may.place, may.size)
    (map.marks-added (write-holds s n c.args.off c.args.len c.args.holds.items may.of_parts may.some may.brings may.size)
    c.args.self.now.pending.chunk may.chunk old new puts))
    (rw (may.place, may.size) end) c.add.ensures.holds)
    c.add.ensures.added c.add.ensures.end

pub returns-clause-holds : goal.returns-clause-holds
returns-clause-holds c = λ s n may.
    both c.add.result c.map_err.result c.map_err.ensures.variant (λ puts own. record {
      holds = map.holds-added (write-holds s n c.args.off c.args.len c.args.holds.items may.of_parts may.some may.brings may.size)
          c.args.self.now.pending.chunk may.chunk (pending_in c.args.self.now.pending c.args.p.now) (pending_in c.add.new.self c.args.p.now)
          puts may.new_pieces own;
    })
    c.add.ensures.added c.add.ensures.own
