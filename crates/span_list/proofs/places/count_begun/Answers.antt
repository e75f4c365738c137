use Rattle.std.proofs.Common.{rules, of_calls, not}
use Rattle.std.proofs.lemmas.List.Sorted.{IsPartitionPoint-from_clause}
use Rattle.span_list.specs.Spans.{begins_from}
use Rattle.span_list.proofs.Positions.{position_from_point, begun_are_first}
use Rattle.span_list.proofs.places.count_begun.Goals as goal

pub returns-clause-count : goal.returns-clause-count
returns-clause-count c =
    let at = c.args.at in
    let fs = c.args.frags.now in
    position_from_point (begins_from at) fs c.partition_point.result c.partition_point.ensures.bound
    (IsPartitionPoint-from_clause (λ f. not (begins_from at f)) _ _ c.partition_point.ensures.partitioned (begun_are_first at fs c.requires)
    (λ a r q k. search (rules, of_calls)))
