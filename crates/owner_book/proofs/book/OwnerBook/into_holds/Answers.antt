-- One path more was walked, and its holds were added.
use Rattle.fs_types.proofs.Common.{◌∙◌, ◌++◌, ap, sym, subst}
use Rattle.std.specs.List.{IsDistinct}
use Rattle.std.specs.Map.{keys_of}
use Rattle.owner_book.specs.Commits.{HasHolds}
use Rattle.owner_book.proofs.BookHolds.{Walked, kept-at, walked-all, walked-more, walked-none}
use Rattle.owner_book.proofs.Paths.{same_key}
use Rattle.owner_book.proofs.book.OwnerBook.into_holds.Goals as goal
use Rattle.owner_book.proofs.book.OwnerBook.into_holds.Goals.{After-into_iter-path-iterator}
use Rattle.owner_book.proofs.book.OwnerBook.into_holds.Given.{Over}

distinct : (g : Over) (c : After-into_iter-path-iterator g) → IsDistinct same_key (keys_of c.args.self)
distinct g c = subst (λ b. IsDistinct same_key (keys_of b)) c.self.view_is c.into_iter-path-iterator.ensures.into_iter_gives.4

pub loop-path-init : goal.loop-path-init
loop-path-init g c = record {
  can_next = tt;
  is_finite = tt;
  walked = subst (λ left. Walked g.H.Hold.piece c.args.self left c.new-holds.result.items)
      (sym (c.into_iter-path-iterator.ensures.into_iter_gives.0 ∙ c.self.view_is))
      (walked-none g.H.Hold.piece c.args.self c.new-holds.result.items c.new-holds.ensures.items);
}

pub into_holds-requires : goal.into_holds-requires
into_holds-requires g c =
    let at = (goal.at.into_holds-requires g c).After-into_iter-path-iterator in
    let walked = c.loop-path.invariant.walked in
    let is = kept-at c.args.self walked.walked c.next.new.self (c.in-Some.field-0-0, c.in-Some.path) (distinct g at)
    (walked.split ∙ ap (λ es. walked.walked ++ es) c.in-Some.ensures.steps) in
    record {
      holds = subst (HasHolds g.H.Hold.is_ready g.H.Hold.piece g.H.Hold.bytes) is
          (c.requires c.in-Some.field-0-0.gfid c.in-Some.field-0-0.path.items);
    }

pub loop-path-preserved : goal.loop-path-preserved
loop-path-preserved g c =
    let at = (goal.at.loop-path-preserved g c).After-into_iter-path-iterator in
    record {
      can_next = tt;
      is_finite = tt;
      walked = walked-more g.H.Hold.piece c.args.self c.next.new.self (c.in-Some.field-0-0, c.in-Some.path) c.loop-path.holds.items
          c.into_holds.new.holds.items (distinct g at) c.in_ok-into_holds.ensures
          (subst (λ left. Walked g.H.Hold.piece c.args.self left c.loop-path.holds.items) c.in-Some.ensures.steps c.loop-path.invariant.walked);
    }

pub returns : goal.returns
returns g c =
    let at = (goal.at.returns g c).After-into_iter-path-iterator in
    walked-all g.H.Hold.piece c.args.self c.loop-path.path-iterator c.loop-path.holds.items (distinct g at) c.in-None.ensures.steps.0
    c.loop-path.invariant.walked
