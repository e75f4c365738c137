use Rattle.std.proofs.Common.{ℕ, List, drop, length, slice_index, ap, ◌∙◌, arith}
use Rattle.std.proofs.lemmas.List.{take_at}
use Rattle.fs_plain.specs.Blocks.{byte_put}
use Rattle.fs_plain.proofs.block.Block.with_bytes.Goals as goal

pub returns : goal.returns
returns c = λ k.
    let new = c.put_over.new.all in
    let all = c.in_ok-all.all in
    let whole = take_at new (drop (length new) all.items) all.len (omega arith) in
    let byte = λ (xs : List ℕ). slice_index xs k in
    let put = λ (b : ℕ). byte_put c.args.at c.args.bytes.now k b in
    c.of.ensures k ∙ ap byte whole ∙ c.put_over.ensures k ∙ ap put (ap byte c.deref_mut.ensures.value ∙ c.in_ok-all.ensures.bytes k)
