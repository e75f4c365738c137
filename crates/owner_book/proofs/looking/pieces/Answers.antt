use Rattle.fs_types.proofs.Common.{◌∙◌, [], ap, sym, take}
use Rattle.std.proofs.lemmas.List.Sums.{fold_more}
use Rattle.owner_book.specs.Lookups.{pieces_named}
use Rattle.owner_book.proofs.Named.{with_piece}
use Rattle.owner_book.proofs.looking.pieces.Goals as goal

pub loop-f-preserved : goal.loop-f-preserved
loop-f-preserved c =
    let more = fold_more with_piece [] c.args.frags.now c.loop-f.f-index c.f-item.result c.loop-f-test.true in
    let item = c.f.view_is ∙ c.f-item.is in
    c.in_ok-insert.ensures.keys ∙ ap (λ ks. with_piece ks (record {
      at = c.f.inside.at;
      len = c.f.inside.len;
      piece = c.f.inside.piece;
      from = c.f.inside.from;
    })) c.loop-f.invariant
    ∙ ap (with_piece (pieces_named (take c.loop-f.f-index c.args.frags.now))) item ∙ sym more
