-- The fragments are all parts of the file, and the pieces that are pinned are those that they name.
use Rattle.fs_types.proofs.Common.{◌≡◌, ◌∙◌, sym, ap, subst, All, IsSome, Err, false, list_any, not}
use Rattle.std.specs.Prelude.{AllPairs}
use Rattle.fs_types.specs.Fragments.{piece_eq}
use Rattle.piece_table.specs.HeldSpans.{AreHeld, held}
use Rattle.piece_table.specs.PieceTable.{hold_of}
use Rattle.owner_book.specs.Kept.{file_of}
use Rattle.owner_book.specs.Lookups.{AsksFor, MayAskFor, lacks_room, pieces_named}
use Rattle.owner_book.proofs.Named.{parts-whole, pieces-all, pieces-apart}
use Rattle.owner_book.proofs.owned_file.OwnedFile.whole.Goals as goal
use Rattle.owner_book.proofs.owned_file.OwnedFile.whole.Goals.{After-as_slice}
use Rattle.owner_book.proofs.owned_file.OwnedFile.whole.Given.{Over}

are : (g : Over) (c : After-as_slice g) → AreHeld g.H.Hold.is_ready g.H.Hold.piece g.H.Hold.bytes (held c.self.inside.held)
are g c = subst (λ f. AreHeld g.H.Hold.is_ready g.H.Hold.piece g.H.Hold.bytes (file_of f).held) (sym c.self.view_is) c.requires.held

all : (g : Over) (c : After-as_slice g) → c.in_ok-frags.frags.items ≡ c.self.inside.held.fragments
all g c = c.in_ok-frags.ensures ∙ parts-whole c.self.inside.held.fragments (are g c).spans

named : (g : Over) (c : After-as_slice g) → c.as_slice.result.now ≡ pieces_named c.self.inside.held.fragments
named g c = c.as_slice.ensures.keys ∙ c.in_ok-pieces.ensures ∙ ap pieces_named (c.deref.ensures.value ∙ all g c)

pub pin_each-requires-clause-there : goal.pin_each-requires-clause-there
pin_each-requires-clause-there g c =
    let at = (goal.at.pin_each-requires-clause-there g c).After-as_slice in
    subst (All (λ q. IsSome (hold_of c.self.inside.held.pieces q))) (sym (named g at))
    (pieces-all g.H.Hold.is_ready g.H.Hold.piece g.H.Hold.bytes (held c.self.inside.held) (are g at))

pub pin_each-requires-clause-once : goal.pin_each-requires-clause-once
pin_each-requires-clause-once g c =
    let at = (goal.at.pin_each-requires-clause-once g c).After-as_slice in
    subst (AllPairs (λ p q. piece_eq p q ≡ false)) (sym (named g at)) (pieces-apart c.self.inside.held.fragments)

pub returns-in-Ok-clause-found : goal.returns-in-Ok-clause-found
returns-in-Ok-clause-found g c =
    let at = (goal.at.returns-in-Ok-clause-found g c).After-as_slice in
    rw (← c.self.view_is)
    (sym (ap not (ap (list_any (lacks_room g.H.Hold c.args.given (held c.self.inside.held))) (sym (named g at)) ∙ c.in-Ok.ensures.has_room)))

pub returns-in-Ok-clause-frags : goal.returns-in-Ok-clause-frags
returns-in-Ok-clause-frags g c =
    all g (goal.at.returns-in-Ok-clause-frags g c).After-as_slice ∙ ap (λ f. (file_of f).held.fragments) c.self.view_is

pub returns-in-Ok-clause-asks : goal.returns-in-Ok-clause-asks
returns-in-Ok-clause-asks g c =
    let at = (goal.at.returns-in-Ok-clause-asks g c).After-as_slice in
    rw (← c.self.view_is)
    (subst (λ ps. AsksFor g.H.Hold c.args.given ps (held c.self.inside.held) (held c.pin_each.new.kept)) (named g at) c.in-Ok.ensures.asks)

pub returns-in-Ok-clause-may_ask : goal.returns-in-Ok-clause-may_ask
returns-in-Ok-clause-may_ask g c =
    let at = (goal.at.returns-in-Ok-clause-may_ask g c).After-as_slice in
    rw (← c.self.view_is)
    (subst (λ ps. MayAskFor g.H.Hold c.args.given ps (held c.self.inside.held) (held c.pin_each.new.kept)) (named g at) c.pin_each.ensures.may_ask)

pub returns-in-Err-NoRoom-clause-found : goal.returns-in-Err-NoRoom-clause-found
returns-in-Err-NoRoom-clause-found g c =
    let at = (goal.at.returns-in-Err-NoRoom-clause-found g c).After-as_slice in
    rw (← c.self.view_is)
    (sym (ap not (ap (list_any (lacks_room g.H.Hold c.args.given (held c.self.inside.held))) (sym (named g at))
    ∙ c.in-Err-NoRoom.ensures.no_room (ap Err c.in-Err-NoRoom.field-0-is))))

pub returns-in-Err-NoRoom-clause-may_ask : goal.returns-in-Err-NoRoom-clause-may_ask
returns-in-Err-NoRoom-clause-may_ask g c =
    let at = (goal.at.returns-in-Err-NoRoom-clause-may_ask g c).After-as_slice in
    rw (← c.self.view_is)
    (subst (λ ps. MayAskFor g.H.Hold c.args.given ps (held c.self.inside.held) (held c.pin_each.new.kept)) (named g at) c.pin_each.ensures.may_ask)

pub returns-clause-may_ask : goal.returns-clause-may_ask
returns-clause-may_ask g c =
    let at = (goal.at.returns-clause-may_ask g c).After-as_slice in
    rw (← c.self.view_is)
    (subst (λ ps. MayAskFor g.H.Hold c.args.given ps (held c.self.inside.held) (held c.pin_each.new.kept)) (named g at) c.pin_each.ensures.may_ask)
