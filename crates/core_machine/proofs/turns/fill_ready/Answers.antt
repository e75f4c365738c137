use Rattle.fs_types.proofs.Common.{◌<◌, ◌∙◌, ℕ, List, [], ◌∷◌, ◌++◌, Vec, Global, vec_len, vec_capacity, length, ap, sym, arith}
use Rattle.core_machine.specs.Vocabulary.{is_of_phase, next_in, places_of}
use Rattle.core_machine.proofs.Programs.Going.{clients-push, clients-skip}
use Rattle.core_machine.proofs.Programs.NextLines.{length-programs, next_of-read}
use Rattle.core_machine.proofs.turns.fill_ready.Goals.{then-goes_in, else-goes_in}
use Rattle.core_machine.proofs.turns.fill_ready.Goals as goal

pub bounds-programs-r : goal.bounds-programs-r
bounds-programs-r c = omega (
  arith,
  length-programs c.args.s.now c.args.programs.now c.requires.programs,
  c.client_count-r-end.ensures.count,
)

pub loop-r-preserved : goal.loop-r-preserved
loop-r-preserved c =
    let s = c.args.s.now in
    let ps = c.args.programs.now in
    let k = c.args.phase in
    let r = c.loop-r.r in
    let kept = c.loop-r.invariant in
    let test = λ (q : ℕ). is_of_phase s k (next_in (places_of s ps k) q) in
    let within : r < length ps = omega (arith, length-programs s ps c.requires.programs, c.client_count-r-end.ensures.count) in
    let next = next_of-read s ps c.requires.programs k r c.index-programs-r.result within c.index-programs-r.is in
    let goes = c.goes_in.ensures ∙ ap (is_of_phase s k) next in
    elim c.if-goes_in.branch [
      | then-goes_in w ↦
          let pushed = ap (λ (v : Vec ℕ Global). v.items) w.ready-is ∙ w.push_reserved.ensures.items in
          let more = clients-push test r (sym goes ∙ w.if-goes_in.true) in
          record {
            going = pushed ∙ ap (λ (rs : List ℕ). rs ++ r ∷ []) kept.going ∙ sym more;
            short = omega (arith, kept.short, ap (λ (v : Vec ℕ Global). vec_len v) w.ready-is, w.push_reserved.ensures.len);
            room = ap (λ (v : Vec ℕ Global). vec_capacity v) w.ready-is ∙ w.push_reserved.ensures.capacity ∙ kept.room;
          }
      | else-goes_in w ↦
          record {
            going = ap (λ (v : Vec ℕ Global). v.items) w.ready-is ∙ kept.going ∙ sym (clients-skip test r (sym goes ∙ w.if-goes_in.false));
            short = omega (arith, kept.short, ap (λ (v : Vec ℕ Global). vec_len v) w.ready-is);
            room = ap (λ (v : Vec ℕ Global). vec_capacity v) w.ready-is ∙ kept.room;
          }
    ]
