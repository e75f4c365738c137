use Rattle.fs_types.proofs.Common.{◌≡◌, ◌∙◌, ℕ, Bool, Contains, ap, false, length, sym, subst}
use Rattle.core_machine.specs.Core.{IsRun, moment, states}
use Rattle.core_machine.specs.PathStates.{AreKept}
use Rattle.core_machine.specs.Turns.{turns_then}
use Rattle.core_machine.specs.Vocabulary.{AreGfids, Holds, IsInPhase, Moment, going, moment_of, ready, step}
use Rattle.core_machine.specs.declared.run.Run.{Run}
use Rattle.core_machine.proofs.Refines.Goes.{IsRun-on, nearer, ready-going}
use Rattle.core_machine.proofs.run.advance.Goals as goal

pub event_of_line-requires-clause-unspent : goal.event_of_line-requires-clause-unspent
event_of_line-requires-clause-unspent g c =
    let r = c.args.run.now in
    (ready-going r.script.now r.paths (states r) r.answers r.tasks.items r.logs.items r.spent c.args.r c.requires.run.holds
    c.requires.run.phases c.requires.ready).0

pub event_of_line-requires-clause-going : goal.event_of_line-requires-clause-going
event_of_line-requires-clause-going g c =
    let r = c.args.run.now in
    (ready-going r.script.now r.paths (states r) r.answers r.tasks.items r.logs.items r.spent c.args.r c.requires.run.holds
    c.requires.run.phases c.requires.ready).1

pub go_on-requires-clause-gfids : goal.go_on-requires-clause-gfids
go_on-requires-clause-gfids g c = subst (λ (x : Run g.row.D.Denot). AreGfids x.script.now x.gfids) (sym c.event_of_line.ensures.rest)
    c.requires.run.gfids

pub go_on-requires-clause-going : goal.go_on-requires-clause-going
go_on-requires-clause-going g c =
    let r = c.args.run.now in
    subst (λ (x : Run g.row.D.Denot). Contains (going x.turns) c.args.r) (sym c.event_of_line.ensures.rest)
    (ready-going r.script.now r.paths (states r) r.answers r.tasks.items r.logs.items r.spent c.args.r c.requires.run.holds
    c.requires.run.phases c.requires.ready).1

-- the moment of a run after an event of client k that answered its line, or didn't
abbrev moment_then : {D : Type 0} → ℕ → Run D → Bool → Moment
moment_then k r answered =
    moment_of r.script.now r.paths (states r) r.answers (turns_then answered k r.turns) r.tasks.items r.logs.items false

went-on : {D : Type 0} {old : Run D} (new : Run D) (k : ℕ) → IsRun old → Contains (ready (moment old)) k → new.spent ≡ old.spent
    → moment_then k new false ≡ step (moment old) (record { client = k }) → moment new ≡ step (moment old) (record { client = k })
went-on {old = old} new k run may same then =
    ap (moment_of new.script.now new.paths (states new) new.answers new.turns new.tasks.items new.logs.items)
    (same ∙ (ready-going old.script.now old.paths (states old) old.answers old.tasks.items old.logs.items old.spent k run.holds run.phases may).0)
    ∙ then

pub returns-in-Ok-false-clause-run : goal.returns-in-Ok-false-clause-run
returns-in-Ok-false-clause-run g c =
    let e = c.in-Ok-false.ensures in
    let new = c.event_of_line.new.run in
    let k = c.args.r in
    let then = went-on new k c.requires.run c.requires.ready (ap (λ (x : Run g.row.D.Denot). x.spent) e.rest)
    (subst (λ b. moment_then k new b ≡ step (moment c.args.run.now) (record { client = k })) c.in-Ok-false.field-0-test e.step) in
    IsRun-on c.args.r c.requires.run c.requires.ready (ap (λ (x : Run g.row.D.Denot). x.script) e.rest)
    (ap (λ (x : Run g.row.D.Denot). x.gfids) e.rest) (ap (λ (x : Run g.row.D.Denot). x.devices) e.rest) e.sized e.kept
    (subst (λ (x : Run g.row.D.Denot). IsInPhase x.turns) (sym e.rest) c.requires.run.phases) (λ _. e.told)
    (λ _. subst (λ b. Holds new.script.now new.paths (states new) new.answers (turns_then b c.args.r new.turns) new.tasks.items new.logs.items)
    c.in-Ok-false.field-0-test e.holds) (λ _. then)

pub returns-in-Ok-false-clause-nearer : goal.returns-in-Ok-false-clause-nearer
returns-in-Ok-false-clause-nearer g c =
    let k = c.args.r in
    let e = c.in-Ok-false.ensures in
    let new = c.event_of_line.new.run in
    nearer k c.requires.run c.requires.ready (moment new) (went-on new k c.requires.run c.requires.ready
    (ap (λ (x : Run g.row.D.Denot). x.spent) e.rest)
    (subst (λ b. moment_then k new b ≡ step (moment c.args.run.now) (record { client = k })) c.in-Ok-false.field-0-test e.step))

pub returns-in_default-clause-run : goal.returns-in_default-clause-run
returns-in_default-clause-run g c =
    let e = c.in-Ok-true.ensures in
    let f = c.in_default.ensures in
    let mid = c.event_of_line.new.run in
    IsRun-on c.args.r c.requires.run c.requires.ready
    (ap (λ (x : Run g.row.D.Denot). x.script) f.rest ∙ ap (λ (x : Run g.row.D.Denot). x.script) e.rest)
    (ap (λ (x : Run g.row.D.Denot). x.gfids) f.rest ∙ ap (λ (x : Run g.row.D.Denot). x.gfids) e.rest)
    (ap (λ (x : Run g.row.D.Denot). x.devices) f.rest ∙ ap (λ (x : Run g.row.D.Denot). x.devices) e.rest)
    (ap (λ (x : Run g.row.D.Denot). length x.logs.items) f.rest ∙ e.sized)
    (subst (λ (x : Run g.row.D.Denot). AreKept x.script.now x.books.items x.clients.items) (sym f.rest) e.kept) f.phases (λ _. f.told) (λ _. f.holds)
    (λ _. f.moment ∙ subst (λ b. moment_then c.args.r mid b ≡ step (moment c.args.run.now) (record { client = c.args.r })) c.in-Ok-true.field-0-test e.step)

pub returns-in_default-clause-nearer : goal.returns-in_default-clause-nearer
returns-in_default-clause-nearer g c =
    let mid = c.event_of_line.new.run in
    nearer c.args.r c.requires.run c.requires.ready (moment c.go_on.new.run) (c.in_default.ensures.moment
    ∙ subst (λ b. moment_then c.args.r mid b ≡ step (moment c.args.run.now) (record { client = c.args.r })) c.in-Ok-true.field-0-test c.in-Ok-true.ensures.step)
