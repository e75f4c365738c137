use Rattle.fs_types.proofs.Common.{common_steps}
use Rattle.std.proofs.Common.{◌≡◌, [], get_or, length, take, arith, ap, ◌∙◌, rules}
use Rattle.std.proofs.lemmas.List.{length-append, length-drop, length-take}
use Rattle.std.proofs.lemmas.Option.{slice_get-get_or}
use Rattle.fs_script.specs.Vocabulary.{SlotLine, need, payload}
use Rattle.fs_script.proofs.CallerLemmas.{length-payload}
use Rattle.slot_plain.specs.Slots.{free_slots}
use Rattle.core_machine.proofs.FilledParts.{Rise, filled-none, filled-more, filled-all, free-rise, in_memory-kept, slot-taken}
use Rattle.core_machine.proofs.FilledParts.{part-begins, part-below}
use Rattle.core_machine.proofs.logs.fill_line.Goals as goal

pub loop-part-init : goal.loop-part-init
loop-part-init g c =
    let taken = c.in_ok-slots.ensures in
    let empty : c.in_ok-holds.holds.items ≡ [] = search rules in
    record {
      buffer = grind (arith, common_steps);
      room = search rules;
      filled = rw (empty, c.deref-slot-items.ensures.value)
          (filled-none c.args.s.now c.args.n c.in_ok-slots.slots.items c.args.log.now c.take.new.self taken.taken taken.each
          taken.others);
    }

pub overflow_cast-part : goal.overflow_cast-part
overflow_cast-part g c =
    let need_is : c.div_ceil-need.result ≡ need c.args.s.now c.args.n = cc in
    let many = ap length c.deref-slot-items.ensures.value in
    let least = c.shape-chunk.ensures.job.shape.chunk_least in
    let most = length-payload c.args.s.now c.args.n c.shape-chunk.ensures.job in
    let below = part-below c.loop-part.part c.args.s.now.shape.chunk (length (payload c.args.s.now c.args.n)) (omega (arith, least))
    (omega (arith, need_is, many, c.in_ok-slots.ensures.many, c.loop-part-test.true)) in
    omega (arith, most, below)

pub fill_part-requires-clause-within : goal.fill_part-requires-clause-within
fill_part-requires-clause-within g c =
    let need_is : c.div_ceil-need.result ≡ need c.args.s.now c.args.n = cc in
    let many = ap length c.deref-slot-items.ensures.value in
    let least = c.shape-chunk.ensures.job.shape.chunk_least in
    part-begins c.loop-part.part c.args.s.now.shape.chunk (length (payload c.args.s.now c.args.n)) (omega (arith, least))
    (omega (arith, need_is, many, c.in_ok-slots.ensures.many, c.loop-part-test.true))

pub fill_part-requires-clause-in_memory : goal.fill_part-requires-clause-in_memory
fill_part-requires-clause-in_memory g c = in_memory-kept c.args.s.now c.loop-part.invariant.filled.frame c.requires.in_memory

pub fill_part-requires-clause-taken : goal.fill_part-requires-clause-taken
fill_part-requires-clause-taken g c =
    let slots = c.deref-slot-items.result.now in
    slot-taken c.args.s.now c.args.n c.loop-part.part slots c.args.log.now c.loop-part.log c.loop-part.holds.items
    c.loop-part.invariant.filled (get_or slots c.loop-part.part 0) (slice_get-get_or slots c.loop-part.part 0 c.loop-part-test.true)

pub loop-part-preserved : goal.loop-part-preserved
loop-part-preserved g c =
    let slots = c.deref-slot-items.result.now in
    let rise : Rise slots =
    rw (c.deref-slot-items.ensures.value ∙ c.in_ok-slots.ensures.lowest) (free-rise c.args.log.now.slots c.div_ceil-need.result) in
    let room = c.loop-part.buffer.ok.0 in
    record {
      buffer = simp (length-take, length-append, length-drop)
          (omega (arith, room, c.fill_part.auto.buffer, ap length c.deref_mut.ensures.value, c.loop-part.invariant.buffer));
      room = search rules;
      filled = rw c.push_reserved.ensures.items
          (filled-more c.args.s.now c.args.n c.loop-part.part slots c.args.log.now c.loop-part.log c.loop-part.holds.items
          c.loop-part.invariant.filled (get_or slots c.loop-part.part 0)
          (slice_get-get_or slots c.loop-part.part 0 c.loop-part-test.true) rise c.fill_part.new.log c.fill_part.ensures.filled
          c.fill_part.result c.fill_part.ensures.hold);
    }

pub returns-clause-ok : goal.returns-clause-ok
returns-clause-ok g c =
    let need_is : c.div_ceil-need.result ≡ need c.args.s.now c.args.n = cc in
    let many = ap length c.deref-slot-items.ensures.value in
    let part_is : c.loop-part.part ≡ need c.args.s.now c.args.n =
    omega (arith, need_is, many, c.in_ok-slots.ensures.many, c.loop-part-test.false, c.loop-part.auto.part-end) in
    let slots_are = c.deref-slot-items.ensures.value ∙ c.in_ok-slots.ensures.lowest
    ∙ ap (λ m. take m (free_slots c.args.log.now.slots)) need_is in
    let free_is = ap (λ (l : SlotLine). l.free) c.line-free.ensures in
    filled-all c.args.s.now c.args.n c.args.log.now c.loop-part.log c.loop-part.holds.items
    (omega (arith, need_is, free_is, c.if-free-need.false)) (rw (part_is, slots_are) at c.loop-part.invariant.filled)
