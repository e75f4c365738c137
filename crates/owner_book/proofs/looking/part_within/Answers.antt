-- What is left of the first fragment that was found, once both ends of the range cut it, is the first part.
use Rattle.fs_types.proofs.Common.{◌∙◌, sym, ap, flat_map, None}
use Rattle.span_list.specs.Spans.{rest_from}
use Rattle.span_list.proofs.CallerLemmas.{IsSpan-found}
use Rattle.owner_book.proofs.Parts.{part-is, parts-first, parts-none}
use Rattle.owner_book.proofs.looking.part_within.Goals as goal

pub returns-in_err-f-clause-next : goal.returns-in_err-f-clause-next
returns-in_err-f-clause-next c = λ fs spans is.
    rw c.from_residual.ensures (parts-none c.args.from c.args.to fs (sym is ∙ c.in_err-f.was))

pub returns-in_err-rest_before-clause-next : goal.returns-in_err-rest_before-clause-next
returns-in_err-rest_before-clause-next c = λ fs spans is.
    rw c.from_residual-in_err-rest_before.ensures
    (parts-first c.args.from c.args.to fs _ spans (sym is ∙ c.in_ok-f.was) None
    (ap (flat_map (rest_from c.args.from)) c.in_err-rest_before.ensures.rest))

pub rest_from-requires : goal.rest_from-requires
rest_from-requires c =
    c.in_ok-rest_before.ensures.span
    (IsSpan-found c.args.from c.requires.spans.0 _ c.requires.spans.1 (sym c.requires.spans.2 ∙ c.in_ok-f.was))

pub returns-clause-next : goal.returns-clause-next
returns-clause-next c = λ fs spans is.
    parts-first c.args.from c.args.to fs _ spans (sym is ∙ c.in_ok-f.was) c.rest_from.result
    (part-is c.args.from c.args.to _ _ c.rest_from.result c.in_ok-rest_before.ensures.rest c.rest_from.ensures.rest)
