-- Nothing is pending on a path that has no place, nor where one was made just now.
use Rattle.fs_types.proofs.Common.{◌∙◌, ap, refl, sym, subst, IsSome, List, ℕ}
use Rattle.std.specs.Map.{lookup}
use Rattle.client_map.specs.Kept.{is_text, pending_found}
use Rattle.client_map.proofs.Paths.{changes-updated, map_of, unchanged}
use Rattle.client_map.proofs.map.ClientMap.enter.Goals as goal

pub returns-clause-there : goal.returns-clause-there
returns-clause-there g c =
    subst (λ (q : List ℕ). IsSome (lookup (is_text q) c.insert.new.self.entries)) c.in_ok-from_slice.ensures.items
    (subst IsSome (sym c.in_ok-insert.ensures.updates.1) refl)

pub returns-clause-same : goal.returns-clause-same
returns-clause-same g c =
    let key = c.in_ok-from_slice.field-0.items in
    unchanged c.args.self.now (map_of c.self.inside.chunk c.insert.new.self) c.args.path.now _
    (changes-updated c.args.self.now c.self.inside.chunk c.self.inside.paths c.self.view_is key c.args.path.now
    c.in_ok-from_slice.ensures.items c.insert.new.self c.new.result c.in_ok-insert.ensures.updates)
    (c.new.ensures ∙ sym (ap pending_found c.requires))
