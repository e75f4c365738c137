-- The hold of each part names it, and each part begins before the last byte ends.
use Rattle.fs_types.proofs.Common.{◌≡◌, ◌∙◌, ◌+◌, ◌-◌, ◌*◌, ◌++◌, ◌∷◌, [], ap, sym, arith, map, min, map-range_with_len_more}
use Rattle.std.specs.List.{range_with_len}
use Rattle.fs_types.specs.Pieces.{Fragment}
use Rattle.client_map.specs.Writes.{Write, part_count, part_of, write_of}
use Rattle.client_map.proofs.WriteParts.{hold-begins, length-holds, piece-at}
use Rattle.client_map.proofs.parts.parts.Goals as goal

pub overflow_add-off : goal.overflow_add-off
overflow_add-off g c =
    let w : Write = write_of g.H.Hold.piece c.args.off c.args.len c.args.holds.now in
    let begins = hold-begins c.args.chunk w c.requires.chunk g.H.Hold.piece g.H.Hold.bytes c.args.holds.now c.requires.pieces
    c.loop-hold.hold-index c.loop-hold-test.true in
    omega (arith, begins, c.loop-hold.invariant.begin, c.requires.in_file)

pub overflow_sub-len : goal.overflow_sub-len
overflow_sub-len g c =
    let w : Write = write_of g.H.Hold.piece c.args.off c.args.len c.args.holds.now in
    let begins = hold-begins c.args.chunk w c.requires.chunk g.H.Hold.piece g.H.Hold.bytes c.args.holds.now c.requires.pieces
    c.loop-hold.hold-index c.loop-hold-test.true in
    omega (arith, begins, c.loop-hold.invariant.begin)

pub overflow_add-begin : goal.overflow_add-begin
overflow_add-begin g c =
    let w : Write = write_of g.H.Hold.piece c.args.off c.args.len c.args.holds.now in
    let begins = hold-begins c.args.chunk w c.requires.chunk g.H.Hold.piece g.H.Hold.bytes c.args.holds.now c.requires.pieces
    c.loop-hold.hold-index c.loop-hold-test.true in
    omega (arith, begins, c.loop-hold.invariant.begin, c.requires.in_file, c.from-chunk.ensures, c.ranges.chunk.fits)

pub loop-hold-preserved : goal.loop-hold-preserved
loop-hold-preserved g c =
    let w : Write = write_of g.H.Hold.piece c.args.off c.args.len c.args.holds.now in
    let chunk = c.args.chunk in
    let k = c.loop-hold.hold-index in
    let so_far = c.loop-hold.invariant in
    let size : c.min.result ≡ min chunk (c.args.len - k * chunk) =
    c.min.ensures ∙ (λ i. min (c.from-chunk.ensures i) (c.args.len - so_far.begin i)) in
    let piece : c.piece.result ≡ record { line = w.line; part = k } =
    c.piece.ensures ∙ ap g.H.Hold.piece c.hold-item.is
    ∙ piece-at chunk w c.requires.chunk g.H.Hold.piece g.H.Hold.bytes c.args.holds.now c.requires.pieces k c.hold-item.result
    c.loop-hold-test.true in
    let next : (k + 1) * chunk ≡ k * chunk + chunk = grind arith in
    record {
      frags = c.push_reserved.ensures.items
          ∙ (λ i. so_far.frags i ++ (let f : Fragment = record {
            at = c.args.off + so_far.begin i;
            len = size i;
            piece = piece i;
            from = 0;
          } in f) ∷ [])
          ∙ sym (map-range_with_len_more (part_of chunk w) 0 k k (omega arith));
      count = omega (arith, so_far.count, c.push_reserved.ensures.len);
      room = omega (arith, so_far.room, c.push_reserved.ensures.capacity);
      begin = omega (arith, so_far.begin, c.from-chunk.ensures, next);
    }

pub returns : goal.returns
returns g c =
    let w : Write = write_of g.H.Hold.piece c.args.off c.args.len c.args.holds.now in
    let count = length-holds c.args.chunk w c.requires.chunk g.H.Hold.piece g.H.Hold.bytes c.args.holds.now c.requires.pieces in
    let all : c.loop-hold.hold-index ≡ part_count c.args.chunk w = omega (arith, count, c.loop-hold-test.false, c.loop-hold.auto) in
    c.loop-hold.invariant.frags ∙ ap (λ n. map (part_of c.args.chunk w) (range_with_len 0 n)) all
