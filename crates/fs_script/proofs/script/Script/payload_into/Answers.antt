use Rattle.std.proofs.Common.{subst, ap, length, arith}
use Rattle.fs_script.specs.Grammar.{IsJob}
use Rattle.fs_script.proofs.Jobs.{length-payload}
use Rattle.fs_script.proofs.script.Script.payload_into.Goals as goal

pub copy_into-requires-clause-few : goal.copy_into-requires-clause-few
copy_into-requires-clause-few c =
    let job = subst IsJob c.self.view_is c.self.invariant.0 in
    omega (arith, ap length c.data.ensures, length-payload c.args.self.now c.args.n job)
