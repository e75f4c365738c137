use Rattle.fs_types.proofs.Common.{◌∙◌}
use Rattle.client_files.proofs.PathMaps.{changes-updated}
use Rattle.client_files.proofs.path_map.PathMap.insert.Goals as goal

pub returns-clause-set : goal.returns-clause-set
returns-clause-set g c =
    changes-updated c.args.self.now c.self.inside.entries c.insert.new.self c.in_ok-from_slice.field-0.items c.args.p.now
    c.args.value c.self.view_is (c.in_ok-from_slice.ensures.items ∙ c.as_bytes-path.ensures.bytes) c.in_ok-insert.ensures.updates
