use Rattle.std.proofs.Common.{◌≡◌, ℕ, suc, ◌+◌, ◌%◌, Some, length, sym, ap, ◌∙◌, rules, add-one}
use Rattle.std.specs.Prelude.{max, unwrap_or}
use Rattle.std.specs.List.{slice_get}
use Rattle.std.proofs.Math.Nat.{mod-add-mod}
use Rattle.core_machine.specs.Moment.{Moment, ready}
use Rattle.core_run.specs.PickedRun.{pick_at, picked, after_turn_of, moment_after}
use Rattle.core_run.proofs.PickLemmas.{pick_at-place}
use Rattle.core_run.proofs.run.run_to_end.Goals as goal

pub loop-r-preserved : goal.loop-r-preserved
loop-r-preserved c =
    let so_far = c.loop-r.invariant in
    let events = so_far.0 in
    let count = max (length c.args.picks.now) 1 in
    let pick : c.pick_in.result ≡ pick_at c.args.picks.now events =
    c.pick_in.ensures ∙ ap (λ (i : ℕ). unwrap_or (slice_get c.args.picks.now i) 0) so_far.2
    ∙ pick_at-place c.args.picks.now events in
    let chosen : picked (pick_at c.args.picks.now events) (ready c.loop-r.core) ≡ Some c.in-Some.r =
    ap (λ p. picked p (ready c.loop-r.core)) (sym pick) ∙ ap (picked c.pick_in.result) (sym c.ready.ensures)
    ∙ sym c.picked_client.ensures.picked ∙ c.in-Some.is in
    let after : c.step.new.self ≡ moment_after c.args.picks.now c.args.core.now (suc events) =
    c.in_ok-step.ensures.ok ∙ ap (after_turn_of c.loop-r.core) (sym chosen)
    ∙ ap (λ (m : Moment). after_turn_of m (picked (pick_at c.args.picks.now events) (ready m))) so_far.1 in
    let place : (c.loop-r.at + 1) % c.max.result ≡ suc events % count =
    ap (λ n. (c.loop-r.at + 1) % n) c.max.ensures ∙ ap (λ i. (i + 1) % count) so_far.2
    ∙ mod-add-mod events count 1 ∙ ap (λ n. n % count) (add-one events) in
    (suc events, after, place)

pub returns : goal.returns
returns c =
    let so_far = c.loop-r.invariant in
    record { events = so_far.0; goes = so_far.1; ended = search rules }
