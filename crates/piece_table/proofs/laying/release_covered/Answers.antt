use Rattle.fs_types.proofs.Common.{◌≡◌, ◌∷◌, ap, sym, subst, arith, length}
use Rattle.fs_types.specs.Fragments.{end_of, fragment_count}
use Rattle.fs_types.specs.Pieces.{Fragment}
use Rattle.piece_table.specs.Ranges.{covered}
use Rattle.piece_table.proofs.Counts.{count-cons, naming-itself}
use Rattle.piece_table.proofs.Tables.{some_entries}
use Rattle.piece_table.proofs.Releases.{Thins-then, ComesOut-then, held_before, unheld_after}
use Rattle.piece_table.proofs.laying.release_covered.Goals as goal

pub release_one-requires-clause-there : goal.release_one-requires-clause-there
release_one-requires-clause-there g c =
    let fs = g.S.Spans.fragments c.args.spans.now in
    let f : Fragment = record { at = c.g.inside.at; len = c.g.inside.len; piece = c.g.inside.piece; from = c.g.inside.from } in
    let next : covered c.loop-g.place c.args.end fs ≡ f ∷ covered (end_of f) c.args.end fs =
    subst (λ (h : Fragment). covered c.loop-g.place c.args.end fs ≡ h ∷ covered (end_of h) c.args.end fs) (sym c.g.view_is)
    c.in-Some.ensures.next in
    omega (
      arith,
      c.loop-g.invariant.numbers f.piece,
      c.requires.there f.piece,
      ap (fragment_count f.piece) next,
      count-cons f.piece f (covered (end_of f) c.args.end fs),
      naming-itself f,
    )

pub release_one-requires-clause-room : goal.release_one-requires-clause-room
release_one-requires-clause-room g c =
    let some = release_one-requires-clause-there g c in
    omega (arith, c.loop-g.invariant.room, ap length c.in-Some.ensures.next, some_entries c.loop-g.pieces.entries c.g.inside.piece some)

pub loop-g-preserved : goal.loop-g-preserved
loop-g-preserved g c =
    let fs = g.S.Spans.fragments c.args.spans.now in
    let f : Fragment = record { at = c.g.inside.at; len = c.g.inside.len; piece = c.g.inside.piece; from = c.g.inside.from } in
    let next : covered c.loop-g.place c.args.end fs ≡ f ∷ covered (end_of f) c.args.end fs =
    subst (λ (h : Fragment). covered c.loop-g.place c.args.end fs ≡ h ∷ covered (end_of h) c.args.end fs) (sym c.g.view_is)
    c.in-Some.ensures.next in
    let so_far = c.loop-g.invariant in
    let one = c.release_one.ensures in
    record {
      numbers = λ q. omega (
        arith,
        so_far.numbers q,
        one.numbers q,
        ap (fragment_count q) next,
        count-cons q f (covered (end_of f) c.args.end fs),
      );
      thins = Thins-then _ _ _ so_far.thins one.thins;
      out = ComesOut-then g.H.Hold.piece _ _ _ _ _ _ so_far.out one.out (held_before _ _ so_far.thins) (unheld_after _ _ one.thins);
      room = omega (arith, so_far.room, ap length next, one.len, one.one, one.capacity);
      few = omega (arith, so_far.few, ap length next, one.one);
      spare = omega (arith, so_far.spare, one.spare);
      len = omega (arith, so_far.len, one.len);
      capacity = omega (arith, so_far.capacity, one.capacity);
    }
