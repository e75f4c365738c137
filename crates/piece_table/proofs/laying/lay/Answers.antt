use Rattle.fs_types.proofs.Common.{◌≡◌, ℕ, ◌+◌, ap, sym, ◌∙◌, arith, rules}
use Rattle.fs_types.specs.Fragments.{end_of, fragment_count}
use Rattle.fs_types.specs.Pieces.{Fragment}
use Rattle.span_list.specs.Spans.{put_fragment}
use Rattle.piece_table.specs.PieceTable.{number_of}
use Rattle.piece_table.specs.Ranges.{covered, is_covered, reaching}
use Rattle.piece_table.proofs.Counts.{count-cons, count-filter-le, count-laid}
use Rattle.piece_table.proofs.laying.lay.Goals as goal

pub release_covered-requires-clause-there : goal.release_covered-requires-clause-there
release_covered-requires-clause-there g c q =
    let fs = g.S.Spans.fragments c.args.spans.now in
    let f : Fragment = c.args.f in
    omega (
      arith,
      count-filter-le q (is_covered c.f.inside.at (c.f.inside.at + c.f.inside.len)) fs,
      c.requires.there q,
      count-cons q f fs,
      c.count_reaching.ensures.numbers q,
    )

pub returns-clause-numbers : goal.returns-clause-numbers
returns-clause-numbers g c q =
    let fs = g.S.Spans.fragments c.args.spans.now in
    let put : g.S.Spans.fragments c.put.new.self ≡ put_fragment c.args.f fs = search rules in
    let reaching_at : Fragment → ℕ = λ f. fragment_count q (reaching f.at (end_of f) fs) in
    let covered_at : Fragment → ℕ = λ f. fragment_count q (covered f.at (end_of f) fs) in
    count-laid q c.args.f fs (number_of c.args.pieces.now q) (number_of c.count_reaching.new.pieces q)
    (number_of c.release_covered.new.pieces q) c.requires.span (g.met.S.Spans.are_spans c.args.spans.now).each
    (c.count_reaching.ensures.numbers q ∙ ap (λ n. number_of c.args.pieces.now q + n) (ap reaching_at c.f.view_is))
    (ap (λ n. number_of c.release_covered.new.pieces q + n) (sym (ap covered_at c.f.view_is)) ∙ c.release_covered.ensures.numbers q)
    ∙ ap (λ us. number_of c.args.pieces.now q + fragment_count q us) (sym put)
