use Rattle.fs_types.proofs.Common.{◌∙◌, ap, sym}
use Rattle.std.specs.Option.{option_copied_mut}
use Rattle.client_files.specs.Kept.{with_note}
use Rattle.client_files.specs.declared.file_path.FilePath.{FilePath}
use Rattle.client_files.specs.declared.noted.Noted.{Noted}
use Rattle.client_files.proofs.PathMaps.{path-changed, when-lent}
use Rattle.client_files.proofs.files.Files.note.Goals as goal

pub returns-in-Some-clause-noted : goal.returns-in-Some-clause-noted
returns-in-Some-clause-noted c =
    let was = c.in-Some.path.now in
    let noted : Noted = record { version = c.args.v; attr = c.args.a } in
    let now : FilePath = record { is_open = was.is_open; noted = c.later-path.result } in
    path-changed c.args.self.now c.self.inside.paths (c.get_mut.follows.lender now) c.args.p.now was now (with_note noted)
    c.self.view_is (sym c.get_mut.ensures.value ∙ ap option_copied_mut c.in-Some.is)
    (when-lent c.get_mut.result c.in-Some.path c.in-Some.is (c.get_mut.follows.holds now))
    (ap (λ (m : Noted). record { is_open = was.is_open; noted = m }) c.later-path.ensures)
