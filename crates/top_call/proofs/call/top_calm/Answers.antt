use Rattle.std.proofs.Common.{refl, sym, ◌∙◌, rules}
use Rattle.top_call.proofs.Outputs.{only_sim, IsTopCall-sim}
use Rattle.top_call.proofs.call.top_calm.Goals as goal

pub returns-in-Ok : goal.returns-in-Ok
returns-in-Ok g c =
    let command = sym c.read_command.ensures ∙ c.in-Some-Sim.is in
    let reply = c.in-Ok.ensures in
    let wrote = c.write_answer-in-Ok.ensures in
    let seed = only_sim c.in-Some-Sim.field-0 in
    IsTopCall-sim _ _ _ _ _ _ _ _ _ _ command (rw seed.1 refl) reply.answer reply.status reply.to_end (search rules)
    (rw c.deref.ensures.value at wrote.written) wrote.risen wrote.calm reply.host
