use Rattle.fs_types.proofs.Common.{◌∙◌, ◌<◌, IsTrue, ap, arith, length, subst, sym, false≢true}
use Rattle.std.specs.Prelude.{◌↔◌}
use Rattle.std.specs.Option.{option_copied}
use Rattle.client_map.proofs.Paths.{found-none, found-there}
use Rattle.client_map.proofs.map.ClientMap.has.Goals as goal

pub returns-in-Some : goal.returns-in-Some
returns-in-Some g c =
    let was = found-there c.args.self.now c.self.inside.chunk c.self.inside.paths c.self.view_is c.as_bytes.result.now c.args.p.now
    c.as_bytes.ensures.bytes c.in-Some.path.now (sym c.get.ensures.value ∙ ap option_copied c.in-Some.is) in
    subst (λ x. IsTrue c.has.result ↔ (0 < length x.fragments)) (sym was) c.has.ensures

pub returns-in-None : goal.returns-in-None
returns-in-None g c =
    let none = found-none c.args.self.now c.self.inside.chunk c.self.inside.paths c.self.view_is c.as_bytes.result.now c.args.p.now
    c.as_bytes.ensures.bytes (sym c.get.ensures.value ∙ ap option_copied c.in-None.is) in
    (λ no. absurd (false≢true no), λ some. absurd (omega (arith, some, ap (λ x. length x.fragments) none)))
