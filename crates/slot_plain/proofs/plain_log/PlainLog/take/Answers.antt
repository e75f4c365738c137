use Rattle.slot_plain.specs.Log.{Log}
use Rattle.slot_plain.proofs.Taken.{taken-many, taken-each, taken-others}
use Rattle.std.proofs.Common.{ap, ◌∙◌, length, take, refl, Err, arith}
use Rattle.slot_plain.specs.declared.take_no.TakeNo.TheVariants.{NoSpace}
use Rattle.slot_plain.proofs.LogSteps.{free_is, taken_log, taken_backs}
use Rattle.slot_plain.proofs.plain_log.PlainLog.take.Goals as goal

pub returns-then-free-k-clause-no_space : goal.returns-then-free-k-clause-no_space
returns-then-free-k-clause-no_space g c =
    λ _. ap (λ f. Err (NoSpace c.args.k f)) (c.free_count-free.ensures ∙ ap length (free_is c.self.invariant c.self.view_is))

pub returns-then-free-k-clause-refused : goal.returns-then-free-k-clause-refused
returns-then-free-k-clause-refused g c =
    let free = c.free_count-free.ensures ∙ ap length (free_is c.self.invariant c.self.view_is) in
    (refl, free, omega (arith, free, c.if-free-k.true))

pub returns-in_err-take-clause-no_space : goal.returns-in_err-take-clause-no_space
returns-in_err-take-clause-no_space g c =
    λ few. absurd (omega (arith, ap length (free_is c.self.invariant c.self.view_is), few, c.if-free-k.false))

pub invariant_of-self-2 : goal.invariant_of-self-2
invariant_of-self-2 g c = taken_backs c.self.invariant c.in_ok-take.field-0.items c.in_ok-take.ensures.taken

pub returns-clause-lowest : goal.returns-clause-lowest
returns-clause-lowest g c = c.in_ok-take.ensures.lowest ∙ ap (take c.args.k) (free_is c.self.invariant c.self.view_is)

pub returns-clause-taken : goal.returns-clause-taken
returns-clause-taken g c = taken_log c.self.invariant c.self.view_is c.in_ok-take.field-0.items c.in_ok-take.ensures.taken

pub returns-clause-many : goal.returns-clause-many
returns-clause-many g c =
    taken-many c.args.self.now.slots c.args.k c.in_ok-take.field-0.items (returns-clause-lowest g c)
    (omega (arith, ap length (free_is c.self.invariant c.self.view_is), c.if-free-k.false))

pub returns-clause-each : goal.returns-clause-each
returns-clause-each g c =
    rw (ap (λ (l : Log). l.slots) (returns-clause-taken g c))
    (taken-each c.args.self.now.slots c.args.k c.in_ok-take.field-0.items (returns-clause-lowest g c))

pub returns-clause-others : goal.returns-clause-others
returns-clause-others g c =
    λ n none. rw (ap (λ (l : Log). l.slots) (returns-clause-taken g c))
    (taken-others c.args.self.now.slots c.args.k c.in_ok-take.field-0.items (returns-clause-lowest g c) n none)

pub returns-clause-no_space : goal.returns-clause-no_space
returns-clause-no_space g c =
    λ few. absurd (omega (arith, ap length (free_is c.self.invariant c.self.view_is), few, c.if-free-k.false))
