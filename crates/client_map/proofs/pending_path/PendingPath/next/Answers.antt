use Rattle.fs_types.proofs.Common.{◌≡◌, ℕ, List, Option, Some, None, IfSome, sym}
use Rattle.fs_types.specs.Pieces.{Fragment}
use Rattle.span_list.specs.Spans.{AreSpans, IsSpan, next_fragment}
use Rattle.span_list.proofs.CallerLemmas.{IsSpan-found}
use Rattle.client_map.proofs.pending_path.PendingPath.next.Goals as goal

span-if_found : (at : ℕ) (fs : List Fragment) (o : Option Fragment) → AreSpans fs → o ≡ next_fragment at fs → IfSome o IsSpan
span-if_found at fs None spans found = tt
span-if_found at fs (Some f) spans found = IsSpan-found at fs f spans (sym found)

pub returns-clause-span : goal.returns-clause-span
returns-clause-span g c = span-if_found c.args.at c.self.inside.held.fragments c.next.result c.next.ensures.counted.spans c.next.ensures.next
