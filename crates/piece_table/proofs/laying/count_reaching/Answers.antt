use Rattle.fs_types.proofs.Common.{◌≡◌, [], ◌∷◌, ap, sym, subst, arith}
use Rattle.fs_types.specs.Fragments.{fragment_count}
use Rattle.fs_types.specs.Pieces.{Fragment}
use Rattle.piece_table.specs.Ranges.{reaching, reaches_past}
use Rattle.piece_table.proofs.Counts.{count-one, naming-itself, count-filter-le}
use Rattle.piece_table.proofs.Releases.{one_more}
use Rattle.piece_table.proofs.laying.count_reaching.Goals as goal

pub more-requires-clause-there : goal.more-requires-clause-there
more-requires-clause-there g c =
    let fs = g.S.Spans.fragments c.args.spans.now in
    let f : Fragment = record { at = c.g.inside.at; len = c.g.inside.len; piece = c.g.inside.piece; from = c.g.inside.from } in
    let is : reaching c.args.at c.args.end fs ≡ f ∷ [] =
    subst (λ (h : Fragment). reaching c.args.at c.args.end fs ≡ h ∷ []) (sym c.g.view_is) c.in-Some.ensures in
    omega (
      arith,
      c.requires.there f.piece,
      ap (fragment_count f.piece) is,
      count-one f.piece f,
      naming-itself f,
      count-filter-le f.piece (reaches_past c.args.at c.args.end) fs,
    )

pub returns-in-Some-clause-numbers : goal.returns-in-Some-clause-numbers
returns-in-Some-clause-numbers g c q =
    let fs = g.S.Spans.fragments c.args.spans.now in
    let f : Fragment = record { at = c.g.inside.at; len = c.g.inside.len; piece = c.g.inside.piece; from = c.g.inside.from } in
    let is : reaching c.args.at c.args.end fs ≡ f ∷ [] =
    subst (λ (h : Fragment). reaching c.args.at c.args.end fs ≡ h ∷ []) (sym c.g.view_is) c.in-Some.ensures in
    omega (arith, one_more c.args.pieces.now c.more.new.self f.piece c.more.ensures.numbers q, ap (fragment_count q) is, count-one q f)
