-- The pieces that are pinned are those that the parts name.
use Rattle.fs_types.proofs.Common.{◌∙◌, sym, ap, refl, subst, All, IsSome}
use Rattle.std.specs.Prelude.{AllPairs, false, ◌≡◌, ◌+◌}
use Rattle.fs_types.specs.Fragments.{piece_eq}
use Rattle.piece_table.specs.HeldSpans.{AreHeld, held}
use Rattle.piece_table.specs.PieceTable.{hold_of}
use Rattle.owner_book.specs.Kept.{file_of}
use Rattle.owner_book.specs.Lookups.{MayAsk, parts_in, pieces_named}
use Rattle.owner_book.proofs.Named.{parts-found, pieces-apart, pieces-held}
use Rattle.owner_book.proofs.Pinned.{after-refusal}
use Rattle.owner_book.proofs.owned_file.OwnedFile.look.Goals as goal

pub pin_all-requires-clause-there : goal.pin_all-requires-clause-there
pin_all-requires-clause-there g c =
    let named = c.as_slice.ensures.keys ∙ c.in_ok-pieces.ensures ∙ ap pieces_named (c.deref.ensures.value ∙ c.in_ok-frags.ensures) in
    let are_held = subst (λ f. AreHeld g.H.Hold.is_ready g.H.Hold.piece g.H.Hold.bytes (file_of f).held) (sym c.self.view_is)
    c.requires.held in
    subst (All (λ q. IsSome (hold_of c.self.inside.held.pieces q))) (sym named)
    (pieces-held g.H.Hold.is_ready g.H.Hold.piece g.H.Hold.bytes (held c.self.inside.held) c.args.off c.saturating_add.result are_held)

pub pin_all-requires-clause-once : goal.pin_all-requires-clause-once
pin_all-requires-clause-once g c =
    subst (AllPairs (λ p q. piece_eq p q ≡ false)) (sym (c.as_slice.ensures.keys ∙ c.in_ok-pieces.ensures)) (pieces-apart c.deref.result.now)

pub returns-in_err-pin_all-clause-may_ask : goal.returns-in_err-pin_all-clause-may_ask
returns-in_err-pin_all-clause-may_ask g c =
    let spans = (subst (λ f. AreHeld g.H.Hold.is_ready g.H.Hold.piece g.H.Hold.bytes (file_of f).held) (sym c.self.view_is)
    c.requires.held).spans in
    let found = parts-found c.args.off c.args.len c.saturating_add.result c.in_ok-frags.frags.items c.self.inside.held.fragments
    c.self.inside.held.fragments spans c.saturating_add.ensures c.in_ok-frags.ensures refl in
    let named = c.as_slice.ensures.keys ∙ c.in_ok-pieces.ensures ∙ ap pieces_named (c.deref.ensures.value ∙ found) in
    let new = held c.pin_all.new.kept in
    after-refusal c.from_residual-in_err-pin_all.result
    (subst (λ f. MayAsk g.H.Hold (pieces_named (parts_in c.args.off (c.args.off + c.args.len) (file_of f).held.fragments)) (file_of f).held new)
    c.self.view_is
    (subst (λ ps. MayAsk g.H.Hold ps (held c.self.inside.held) new) named c.in_err-pin_all.ensures.may_ask))

pub returns-clause-frags : goal.returns-clause-frags
returns-clause-frags g c =
    let spans = (subst (λ f. AreHeld g.H.Hold.is_ready g.H.Hold.piece g.H.Hold.bytes (file_of f).held) (sym c.self.view_is)
    c.requires.held).spans in
    parts-found c.args.off c.args.len c.saturating_add.result c.in_ok-frags.frags.items c.self.inside.held.fragments
    c.args.self.now.kept.fragments spans c.saturating_add.ensures c.in_ok-frags.ensures (ap (λ f. (file_of f).held.fragments) c.self.view_is)
