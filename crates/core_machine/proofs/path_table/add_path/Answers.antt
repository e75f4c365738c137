use Rattle.fs_types.proofs.Common.{◌∙◌, ◌++◌, ◌∷◌, [], ap, get_or, get_or_from_slice_get, is_some, map, option_map}
use Rattle.fs_types.proofs.Common.{slice_get-map, sym}
use Rattle.placement.specs.Placement.{gfid}
use Rattle.core_machine.specs.Vocabulary.{texts, with_path}
use Rattle.core_machine.proofs.PathTables.{texts-insert_key, values-with_path}
use Rattle.core_machine.proofs.path_table.add_path.Goals as goal

pub returns-in-Some-clause-gfid : goal.returns-in-Some-clause-gfid
returns-in-Some-clause-gfid c =
    let ps = texts c.args.paths.now.keys in
    c.index.ensures ∙ ap (λ ks. get_or ks c.in-Some.i c.index.result.now) c.requires
    ∙ get_or_from_slice_get (map gfid ps) c.in-Some.i (gfid c.args.p.now) c.index.result.now
    (slice_get-map gfid ps c.in-Some.i ∙ ap (option_map gfid) c.in-Some.ensures.there)

pub returns-clause-paths : goal.returns-clause-paths
returns-clause-paths c =
    ap texts c.in_ok-insert.ensures.keys ∙ texts-insert_key c.args.paths.now.keys c.in_ok-from_slice.field-0
    ∙ ap (with_path (texts c.args.paths.now.keys)) c.in_ok-from_slice.ensures.items

pub returns-clause-known : goal.returns-clause-known
returns-clause-known c =
    let keys = c.args.paths.now.keys in
    c.in_ok-push.ensures.items ∙ ap (λ ks. ks ++ c.gfid_of_bytes-number.result ∷ []) c.requires
    ∙ ap (λ g. map gfid (texts keys) ++ g ∷ []) c.gfid_of_bytes-number.ensures
    ∙ sym (ap (map gfid) (returns-clause-paths c)
    ∙ values-with_path gfid keys c.args.p.now (sym c.place_of.ensures.found ∙ ap is_some c.in_default.is))
