use Rattle.fs_types.proofs.Common.{◌∙◌, ap, refl}
use Rattle.std.specs.Option.{ghost_name_of}
use Rattle.client_files.proofs.PathMaps.{lent-updated, value-at}
use Rattle.client_files.proofs.path_map.PathMap.get_mut.Goals as goal

pub returns : goal.returns
returns g c = (
  (
    refl {a = ghost_name_of c.get_mut.result},
    (λ w. lent-updated c.args.self.now c.self.inside.entries (c.get_mut.follows.lender w) c.as_bytes.result.now c.args.p.now w c.get_mut.result
        c.self.view_is c.as_bytes.ensures.bytes c.get_mut.ensures.value (c.get_mut.follows.holds w).3),
    ap (λ m. m.entries) c.get_mut.follows.holds-at-none ∙ c.self.view_is,
  ),
  record { writes_back = tt; value = c.get_mut.ensures.value ∙ value-at c.args.self.now c.self.inside.entries c.as_bytes.result.now c.args.p.now c.self.view_is c.as_bytes.ensures.bytes },
)
