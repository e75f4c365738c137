use Rattle.fs_types.proofs.Common.{◌≡◌, ◌∙◌, ℕ, Some, Vec, Global, IfSome, ap, bytes_eq, bytes_eq-Decides, option_copied, option_map}
use Rattle.fs_types.proofs.Common.{slice_get, slice_get-map, subst, sym}
use Rattle.std.proofs.lemmas.Map.Keys.{any_passes_from_place}
use Rattle.core_machine.specs.Vocabulary.{texts}
use Rattle.core_machine.proofs.PathTables.{path-there}
use Rattle.core_machine.proofs.path_table.place_of.Goals as goal

pub returns-then-eq-clause-there : goal.returns-then-eq-clause-there
returns-then-eq-clause-there c =
    let keys = c.args.paths.now.keys in
    let same = (bytes_eq-Decides c.args.p.now c.as_slice.result.now).0 (sym c.if-eq.ensures) ∙ c.as_slice.ensures.value in
    let at : slice_get keys c.args.last ≡ Some c.in-Some.before.now = sym c.get_index.ensures.key ∙ ap option_copied c.in-Some.is in
    slice_get-map (λ (v : Vec ℕ Global). v.items) keys c.args.last ∙ ap (option_map (λ (v : Vec ℕ Global). v.items)) at ∙ ap Some (sym same)

pub returns-then-eq-clause-found : goal.returns-then-eq-clause-found
returns-then-eq-clause-found c =
    let keys = c.args.paths.now.keys in
    let at : slice_get keys c.args.last ≡ Some c.in-Some.before.now = sym c.get_index.ensures.key ∙ ap option_copied c.in-Some.is in
    sym (any_passes_from_place (λ (v : Vec ℕ Global). bytes_eq c.args.p.now v.items) keys c.args.last c.in-Some.before.now at
    (ap (bytes_eq c.args.p.now) (sym c.as_slice.ensures.value) ∙ sym c.if-eq.ensures))

pub returns-clause-there : goal.returns-clause-there
returns-clause-there c =
    subst (λ r. IfSome r (λ i. slice_get (texts c.args.paths.now.keys) i ≡ Some c.args.p.now)) (sym c.get_index_of.ensures.index)
    (path-there c.args.p.now c.args.paths.now.keys)
