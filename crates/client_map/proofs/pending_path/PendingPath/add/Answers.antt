-- The parts with their holds are a push that may be put.
use Rattle.fs_types.proofs.Common.{◌∙◌, ap, arith, length, sym}
use Rattle.piece_table.specs.HeldSpans.{held, put_fragments}
use Rattle.piece_table.proofs.CallerLemmas.{length-put_fragments, own_holds}
use Rattle.client_map.specs.Kept.{pending_end}
use Rattle.client_map.specs.Writes.{Write, parts_of, write_of}
use Rattle.client_map.proofs.Ends.{pending_end-put}
use Rattle.client_map.proofs.WriteParts.{length-holds, length-parts, parts-few, parts-spans, push-held}
use Rattle.client_map.proofs.pending_path.PendingPath.add.Goals as goal

pub reserve-requires-clause-few : goal.reserve-requires-clause-few
reserve-requires-clause-few g c =
    let w : Write = write_of g.H.Hold.piece c.args.off c.args.len c.args.holds.items in
    let write = c.requires.write in
    let count = length-holds c.args.chunk w c.requires.chunk g.H.Hold.piece g.H.Hold.bytes c.args.holds.items write.pieces in
    omega (arith, c.len-count.ensures, c.args.holds.ok, count, parts-few c.args.chunk w c.requires.chunk, write.in_file)

pub put_push-requires-clause-well_formed : goal.put_push-requires-clause-well_formed
put_push-requires-clause-well_formed g c =
    let w : Write = write_of g.H.Hold.piece c.args.off c.args.len c.args.holds.items in
    let frags = c.in-Ok.ensures ∙ ap (λ hs. parts_of c.args.chunk (write_of g.H.Hold.piece c.args.off c.args.len hs)) c.deref.ensures.value in
    push-held c.args.chunk w c.requires.chunk g.H.Hold.piece g.H.Hold.bytes c.args.holds.items c.requires.write.pieces c.in-Ok.frags.items frags
    c.requires.write.in_file

pub invariant_of-self-in-Ok-put_push : goal.invariant_of-self-in-Ok-put_push
invariant_of-self-in-Ok-put_push g c =
    let w : Write = write_of g.H.Hold.piece c.args.off c.args.len c.args.holds.items in
    let frags = c.in-Ok.ensures ∙ ap (λ hs. parts_of c.args.chunk (write_of g.H.Hold.piece c.args.off c.args.len hs)) c.deref.ensures.value in
    let count = length-holds c.args.chunk w c.requires.chunk g.H.Hold.piece g.H.Hold.bytes c.args.holds.items c.requires.write.pieces in
    let each = (parts-spans c.args.chunk w c.requires.chunk c.ranges.chunk.fits c.requires.write.in_file).each in
    let old = c.self.inside.held.fragments in
    let room = c.in-Ok-reserve.ensures.room in
    let put = c.in-Ok-put_push.ensures in
    let over = put.put.fragments ∙ ap (λ fs. put_fragments fs old) frags in
    let spans = (rw (← c.self.view_is) at c.requires.held).spans in
    record {
      end = omega (
        arith,
        c.self.invariant.end,
        pending_end-put c.args.chunk w c.requires.chunk old (held c.put_push.new.self).fragments c.requires.write.has_bytes spans over,
      );
      room = record {
        no_frags = room.no_frags;
        no_holds = room.no_holds;
        most = omega (
          arith,
          ap length over,
          length-put_fragments (parts_of c.args.chunk w) old each spans,
          length-parts c.args.chunk w c.requires.chunk,
          count,
          c.args.holds.ok,
          c.len-count.ensures,
          room.most,
        );
        frags = omega (arith, c.in-Ok-reserve.ensures.frags);
        holds = omega (arith, put.count, c.new-dead.ensures.len, c.in-Ok-reserve.ensures.holds, c.len-count.ensures);
      };
    }

pub invariant_of-self-in-Err-put_push : goal.invariant_of-self-in-Err-put_push
invariant_of-self-in-Err-put_push g c =
    let room = c.in-Ok-reserve.ensures.room in
    let none = c.in-Err.ensures in
    record {
      end = c.self.invariant.end ∙ sym (ap (λ x. pending_end x.fragments) none.same);
      room = record {
        no_frags = room.no_frags;
        no_holds = room.no_holds;
        most = omega (arith, room.most, ap (λ x. length x.fragments) none.same);
        frags = room.frags;
        holds = omega (arith, room.holds, none.same_count);
      };
    }

pub returns-in-Ok-put_push-clause-end : goal.returns-in-Ok-put_push-clause-end
returns-in-Ok-put_push-clause-end g c =
    let w : Write = write_of g.H.Hold.piece c.args.off c.args.len c.args.holds.items in
    let frags = c.in-Ok.ensures ∙ ap (λ hs. parts_of c.args.chunk (write_of g.H.Hold.piece c.args.off c.args.len hs)) c.deref.ensures.value in
    pending_end-put c.args.chunk w c.requires.chunk (held c.args.self.now).fragments (held c.put_push.new.self).fragments
    c.requires.write.has_bytes c.requires.held.spans
    (rw (← c.self.view_is) (c.in-Ok-put_push.ensures.put.fragments ∙ ap (λ fs. put_fragments fs c.self.inside.held.fragments) frags))

pub returns-in-Ok-put_push-clause-own : goal.returns-in-Ok-put_push-clause-own
returns-in-Ok-put_push-clause-own g c =
    let w : Write = write_of g.H.Hold.piece c.args.off c.args.len c.args.holds.items in
    let frags = c.in-Ok.ensures ∙ ap (λ hs. parts_of c.args.chunk (write_of g.H.Hold.piece c.args.off c.args.len hs)) c.deref.ensures.value in
    own_holds g.H.Hold.is_ready g.H.Hold.piece g.H.Hold.bytes (held c.self.inside.held) (held c.put_push.new.self) c.in-Ok.frags.items
    c.args.holds.items
    (push-held c.args.chunk w c.requires.chunk g.H.Hold.piece g.H.Hold.bytes c.args.holds.items c.requires.write.pieces c.in-Ok.frags.items
    frags c.requires.write.in_file)
    c.in-Ok-put_push.ensures.put
