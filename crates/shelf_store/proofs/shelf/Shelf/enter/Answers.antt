-- A path that has no place is untouched, and so it is where one was made just now.
use Rattle.fs_types.proofs.Common.{sym, ◌∙◌, refl}
use Rattle.shelf_store.proofs.Paths.{changes-updated, found-none, not-found, on-err, unchanged}
use Rattle.shelf_store.proofs.shelf.Shelf.enter.Goals as goal

pub returns-in_err-from_slice-clause-untouched : goal.returns-in_err-from_slice-clause-untouched
returns-in_err-from_slice-clause-untouched g c =
    on-err c.from_residual.result (found-none c.args.self.now c.self.inside.paths c.self.view_is c.args.path.now c.args.path.now refl
    (not-found _ (sym c.contains_key.ensures ∙ c.if-contains_key.false)))

pub returns-in_err-insert-clause-untouched : goal.returns-in_err-insert-clause-untouched
returns-in_err-insert-clause-untouched g c =
    on-err c.from_residual-in_err-insert.result (found-none c.args.self.now c.self.inside.paths c.self.view_is c.args.path.now c.args.path.now refl
    (not-found _ (sym c.contains_key.ensures ∙ c.if-contains_key.false)))

pub returns-clause-same : goal.returns-clause-same
returns-clause-same g c =
    let none = found-none c.args.self.now c.self.inside.paths c.self.view_is c.args.path.now c.args.path.now refl
    (not-found _ (sym c.contains_key.ensures ∙ c.if-contains_key.false)) in
    unchanged c.args.self.now c.insert.new.self.entries c.args.path.now _
    (changes-updated c.args.self.now c.self.inside.paths c.self.view_is c.in_ok-from_slice.field-0.items c.args.path.now
    c.in_ok-from_slice.ensures.items c.insert.new.self _ c.in_ok-insert.ensures.updates) (sym none)
