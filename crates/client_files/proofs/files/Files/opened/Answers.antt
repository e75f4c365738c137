use Rattle.fs_types.proofs.Common.{◌∙◌, ap, refl, sym}
use Rattle.std.specs.Option.{option_copied_mut}
use Rattle.client_files.specs.Kept.{with_open}
use Rattle.client_files.proofs.PathMaps.{path-changed, when-lent}
use Rattle.client_files.proofs.files.Files.opened.Goals as goal

pub returns-in-Some-clause-opened : goal.returns-in-Some-clause-opened
returns-in-Some-clause-opened c =
    let was = c.in-Some.path.now in
    path-changed c.args.self.now c.self.inside.paths (c.get_mut.follows.lender (with_open was)) c.args.p.now was (with_open was) with_open
    c.self.view_is (sym c.get_mut.ensures.value ∙ ap option_copied_mut c.in-Some.is)
    (when-lent c.get_mut.result c.in-Some.path c.in-Some.is (c.get_mut.follows.holds (with_open was))) refl
