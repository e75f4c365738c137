use Rattle.fs_types.proofs.Common.{◌≡◌, ◌+◌, ◌∷◌, ap, sym, ◌∙◌, subst, arith, length, drop, refl}
use Rattle.fs_types.specs.Fragments.{fragment_count}
use Rattle.fs_types.specs.Pieces.{Fragment}
use Rattle.piece_table.specs.HeldSpans.{put_fragments}
use Rattle.piece_table.proofs.Counts.{count-cons, few_named}
use Rattle.piece_table.proofs.Releases.{Thins-itself, Thins-then, ComesOut-none, ComesOut-then, held_before, unheld_after}
use Rattle.std.proofs.lemmas.List.Sums.{sum_by-take-drop}
use Rattle.piece_table.proofs.Counts.{naming}
use Rattle.piece_table.proofs.Dropped.{drop-first}
use Rattle.span_list.specs.Spans.{AreSpans}
use Rattle.piece_table.specs.Ranges.{ends_under}
use Rattle.piece_table.proofs.Covered.{AreSpans-head, AreSpans-ahead}
use Rattle.piece_table.proofs.Ending.{AreSpans-drop, covered_under, under_put}
use Rattle.piece_table.proofs.pushing.lay_each.Goals as goal

pub loop-f-init : goal.loop-f-init
loop-f-init g c = record {
  fragments = refl;
  numbers = c.requires.counted;
  spare = c.requires.spare;
  room = c.requires.room;
  thins = Thins-itself c.args.pieces.now c.requires.unheld;
  out = ComesOut-none g.H.Hold.piece _ _ c.args.dead.now.items (λ q. refl);
  len = refl;
  few = omega arith;
  capacity = omega arith;
}

pub lay-requires-clause-few : goal.lay-requires-clause-few
lay-requires-clause-few g c q =
    omega (
      arith,
      c.loop-f.invariant.numbers q,
      few_named q _ (g.met.S.Spans.are_spans c.loop-f.spans),
      few_named q c.args.over.now c.requires.spans,
      sum_by-take-drop (naming q) c.args.over.now c.loop-f.f-index,
    )

pub lay-requires-clause-room : goal.lay-requires-clause-room
lay-requires-clause-room g c =
    let now = g.S.Spans.fragments c.loop-f.spans in
    let f : Fragment = c.f-item.result in
    let rest = drop (c.loop-f.f-index + 1) c.args.over.now in
    let next : drop c.loop-f.f-index c.args.over.now ≡ f ∷ rest = drop-first c.args.over.now c.loop-f.f-index f c.loop-f-test.true c.f-item.is in
    omega (
      arith,
      c.loop-f.invariant.room,
      ap (λ us. ends_under us now) next,
      covered_under f rest now (g.met.S.Spans.are_spans c.loop-f.spans).each,
    )

pub loop-f-preserved : goal.loop-f-preserved
loop-f-preserved g c =
    let now = g.S.Spans.fragments c.loop-f.spans in
    let f : Fragment = c.f-item.result in
    let rest = drop (c.loop-f.f-index + 1) c.args.over.now in
    let next : drop c.loop-f.f-index c.args.over.now ≡ f ∷ rest = drop-first c.args.over.now c.loop-f.f-index f c.loop-f-test.true c.f-item.is in
    let so_far = c.loop-f.invariant in
    let laid = c.lay.ensures in
    let ordered : AreSpans (f ∷ rest) = subst AreSpans next (AreSpans-drop c.loop-f.f-index c.args.over.now c.requires.spans) in
    record {
      fragments = ap (put_fragments rest) laid.fragments ∙ ap (λ us. put_fragments us now) (sym next) ∙ so_far.fragments;
      numbers = λ q. omega (
        arith,
        so_far.numbers q,
        laid.numbers q,
        count-cons q f now,
        count-cons q f rest,
        ap (fragment_count q) next,
      );
      spare = omega (arith, so_far.spare, laid.spare, ap length next);
      room = omega (
        arith,
        so_far.room,
        ap (λ us. ends_under us now) next,
        covered_under f rest now (g.met.S.Spans.are_spans c.loop-f.spans).each,
        under_put f rest now (AreSpans-head f rest ordered).has_bytes (AreSpans-ahead f rest ordered),
        ap (ends_under rest) laid.fragments,
        laid.few,
        laid.capacity,
      );
      thins = Thins-then _ _ _ so_far.thins laid.thins;
      out = ComesOut-then g.H.Hold.piece _ _ _ _ _ _ so_far.out laid.out (held_before _ _ so_far.thins) (unheld_after _ _ laid.thins);
      len = omega (arith, so_far.len, laid.len);
      few = omega (
        arith,
        so_far.few,
        ap (λ us. ends_under us now) next,
        covered_under f rest now (g.met.S.Spans.are_spans c.loop-f.spans).each,
        under_put f rest now (AreSpans-head f rest ordered).has_bytes (AreSpans-ahead f rest ordered),
        ap (ends_under rest) laid.fragments,
        laid.few,
      );
      capacity = omega (arith, so_far.capacity, laid.capacity);
    }
