-- What is put on a path, or dropped there, is put on the shelf, or dropped there.
use Rattle.fs_types.proofs.Common.{◌≡◌, ◌≤◌, ap, sym, subst, ◌∙◌}
use Rattle.fs_types.specs.declared.push.Replica.{Replica}
use Rattle.shelf_store.specs.declared.put.Put.{Put}
use Rattle.shelf_store.specs.declared.put.Put.TheVariants.{Kept, Older, Want}
use Rattle.shelf_store.specs.declared.shelf_path.ShelfPath.{ShelfPath}
use Rattle.shelf_store.specs.Calls.{Changes, IsPut, IsPutThere, least, with_replica}
use Rattle.shelf_store.specs.Kept.{KeptShelf, path_in}
use Rattle.shelf_store.proofs.Paths.{unchanged}

pub is-put : {H : Type 0} (r : Replica H) (old new : KeptShelf H) (was now : ShelfPath H) (result : Put H) → path_in old r.path ≡ was
    → Changes old new r.path now → IsPutThere r was now result → IsPut r old new result
is-put r old new was now (Kept out) is changes put = record {
  allowed = subst (λ x. least x ≤ r.version) (sym is) put.0;
  replaced = put.1 ∙ ap (λ x. x.replica) (sym is);
  changes = subst (Changes old new r.path) (put.2 ∙ ap (with_replica r) (sym is)) changes;
}
is-put r old new was now (Older back v) is changes put =
    (put.0, put.1 ∙ ap least (sym is), put.2, unchanged old new r.path now changes (put.3 ∙ sym is))
is-put r old new was now (Want back) is changes put = absurd put
