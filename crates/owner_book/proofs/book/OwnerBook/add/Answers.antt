use Rattle.fs_types.proofs.Common.{List, ℕ, Some, subst}
use Rattle.indexmap.specs.IndexMap.{UpdatesBy}
use Rattle.owner_book.specs.Names.{names_key}
use Rattle.owner_book.specs.Kept.{path_of}
use Rattle.owner_book.specs.Calls.{Changes}
use Rattle.owner_book.proofs.Paths.{changes-updated, same_key}
use Rattle.owner_book.proofs.book.OwnerBook.add.Goals as goal

pub returns-clause-added : goal.returns-clause-added
returns-clause-added g c =
    subst (λ book. Changes book c.insert.new.self.entries c.args.gfid c.args.path.now (path_of c.args.kept)) c.self.view_is
    (changes-updated c.self.inside.files c.insert.new.self c.args.gfid c.args.path.now c.args.kept
    (subst (λ (p : List ℕ). UpdatesBy same_key (names_key c.args.gfid p) c.self.inside.files c.insert.new.self (Some c.args.kept))
    c.in_ok-from_slice.ensures.items c.in_ok-insert.ensures.updates))
