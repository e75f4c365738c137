use Rattle.fs_types.proofs.Common.{◌≡◌, ◌∙◌, ◌+◌, ◌-◌, ◌*◌, ◌++◌, ◌∷◌, [], ap, sym, arith, map, min, map_push, map-range_with_len_more, range_with_len}
use Rattle.fs_types.specs.Fragments.{HeldPiece}
use Rattle.fs_types.specs.Pieces.{Fragment}
use Rattle.fs_types.specs.declared.mem_hold.MemHold.{MemHold}
use Rattle.client_map.specs.Writes.{Write, part_of}
use Rattle.client_map.proofs.tests.holds_of.Goals as goal

pub loop-part-preserved : goal.loop-part-preserved
loop-part-preserved c =
    let w : Write = record { line = c.args.line; off = c.args.off; len = c.args.len } in
    let k = c.loop-part.part in
    let of_hold : MemHold → HeldPiece = λ h. record { piece = h.piece; bytes = h.bytes } in
    let of_part : Fragment → HeldPiece = λ f. record { piece = f.piece; bytes = f.len } in
    let size : c.min.result ≡ min 8 (c.args.len - k * 8) = omega (arith, c.min.ensures, c.from.ensures) in
    let next : of_hold c.new.result ≡ of_part (part_of 8 w k) =
    ap of_hold c.new.ensures ∙ (λ i. record { piece = c.piece.ensures i; bytes = size i }) in
    ap (map of_hold) c.in_ok-push.ensures.items ∙ map_push of_hold c.loop-part.holds.items c.new.result
    ∙ (λ i. c.loop-part.invariant i ++ next i ∷ [])
    ∙ sym (ap (map of_part) (map-range_with_len_more (part_of 8 w) 0 k k (omega arith))
    ∙ map_push of_part (map (part_of 8 w) (range_with_len 0 k)) (part_of 8 w k))
