use Rattle.fs_types.proofs.Common.{◌≡◌, position, slice_get, Contains, Some, sym, ap, subst, ◌∙◌, IfSome, IfNone, bytes_eq}
use Rattle.core_machine.specs.Vocabulary.{texts}
use Rattle.fs_script.proofs.CallerLemmas.{slice_get-position, absent-from_position}
use Rattle.core_machine.proofs.PathTables.{position-texts}
use Rattle.core_machine.proofs.path_table.PathTable.index_of.Goals as goal

pub returns-clause-place : goal.returns-clause-place
returns-clause-place c =
    c.get_index_of.ensures.index ∙ position-texts c.as_bytes.result.now c.self.inside.paths.keys
    ∙ ap (λ p. position (λ q. bytes_eq q p) (texts c.self.inside.paths.keys)) c.as_bytes.ensures.bytes
    ∙ ap (λ ps. position (λ q. bytes_eq q c.args.p.now) ps) c.self.view_is

pub returns-clause-there : goal.returns-clause-there
returns-clause-there c =
    subst (λ r. IfSome r (λ i. slice_get c.args.self.now i ≡ Some c.args.p.now)) (sym (returns-clause-place c))
    (slice_get-position c.args.self.now c.args.p.now)

pub returns-clause-absent : goal.returns-clause-absent
returns-clause-absent c =
    subst (λ r. IfNone r (Contains c.args.self.now c.args.p.now → ⊥)) (sym (returns-clause-place c))
    (absent-from_position c.args.self.now c.args.p.now)
