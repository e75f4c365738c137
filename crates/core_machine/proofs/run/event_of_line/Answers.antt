use Rattle.fs_types.proofs.Common.{◌≡◌, ◌∙◌, ℕ, List, Option, Some, Contains, sym, ap, subst, arith, none-some, option_copied, length}
use Rattle.fs_types.proofs.Common.{with_items, with_items_is, false, refl}
use Rattle.slot_plain.specs.Log.{Log}
use Rattle.fs_script.specs.Vocabulary.{Answer, Given, op_at, put_answer}
use Rattle.fs_script.proofs.CallerLemmas.{op_at-within, program-op}
use Rattle.core_machine.specs.Core.{IsRun, states}
use Rattle.core_machine.specs.Follows.{FollowsAt, IsSoundAt}
use Rattle.core_machine.specs.PathStates.{AreKept, AreToldBut, states_in}
use Rattle.core_machine.specs.Vocabulary.{Book, Holds, KeptClient, OpLine, PlainHold, Task, after_line, going, moment_of, next_in, step}
use Rattle.core_machine.specs.declared.run.Run.{Run}
use Rattle.core_machine.proofs.Refines.Goes.{goes-kept}
use Rattle.core_machine.proofs.Refines.LineEvents.{NextLine, holds-line, lines, sound-line, step-line, told-on, told-quiet, told-then}
use Rattle.core_machine.proofs.run.event_of_line.Goals as goal

pub unreachable-requires : goal.unreachable-requires
unreachable-requires g c =
    let r = c.args.run.now in
    let goes = goes-kept c.args.r c.next-n.result (c.requires.run.holds c.requires.unspent) c.requires.going c.next-n.ensures.next in
    let own = program-op r.script.now c.args.r _ c.next-n.result goes.next in
    none-some own.0 (sym (sym c.operation.ensures ∙ ap option_copied c.in_default.is) ∙ own.1)

-- the next line of a client of a run that goes on
abbrev line-of : {D : Type 0} {r : Run D} (k n : ℕ) (o : OpLine) → IsRun r → r.spent ≡ false → Contains (going r.turns) k
    → next_in r.turns k ≡ Some n → op_at r.script.now n ≡ Some o
    → NextLine r.script.now r.paths r.books.items r.board r.clients.items r.answers r.turns r.tasks.items r.logs.items k
line-of {r = r} k n o run unspent has next is =
    let held = run.holds unspent in
    record { kept = run.kept; held = held; number = n; line = o; goes = goes-kept k n held has next; is = is }

-- its event follows in the run, where it follows in what was lent of that
module _ {D : Type 0} (r : Run D) {k : ℕ} (t : NextLine r.script.now r.paths r.books.items r.board r.clients.items r.answers r.turns
    r.tasks.items r.logs.items k) where
  follows-lent : {b b' : List (Book PlainHold)} {c c' : List KeptClient} {u u' : List Task} {l l' : List Log} {a e : Option Answer}
      → b ≡ r.books.items → c ≡ r.clients.items → u ≡ r.tasks.items → l ≡ r.logs.items
      → (with_items r.books b').items ≡ b' → (with_items r.clients c').items ≡ c' → (with_items r.tasks u').items ≡ u'
      → (with_items r.logs l').items ≡ l' → a ≡ e
      → ((ls : List ℕ) → IsSoundAt t.line.path r.script.now t.number t.line.op t.line.rank b r.board c u l ls
      → FollowsAt t.line.path r.script.now t.number t.line.op t.line.rank b b' r.board c c' u u' l l' ls a)
      → FollowsAt t.line.path r.script.now t.number t.line.op t.line.rank r.books.items (with_items r.books b').items r.board
      r.clients.items (with_items r.clients c').items r.tasks.items (with_items r.tasks u').items r.logs.items (with_items r.logs l').items
      (lines t k t.line.path) e
  follows-lent {b} {b'} {c} {c'} {u} {u'} {l} {l'} vb vc vu vl wb wc wu wl is follows =
      let o = t.line in
      let ls = lines t k o.path in
      let sound = subst (λ (X : Type 0). X) (λ i. IsSoundAt o.path r.script.now t.number o.op o.rank (sym vb i) r.board (sym vc i) (sym vu i)
      (sym vl i) ls) (sound-line t) in
      subst (λ (X : Type 0). X) (λ i. FollowsAt o.path r.script.now t.number o.op o.rank (vb i) (sym wb i) r.board (vc i) (sym wc i)
      (vu i) (sym wu i) (vl i) (sym wl i) ls (is i)) (follows ls sound)

pub event_on_path-requires-clause-sound : goal.event_on_path-requires-clause-sound
event_on_path-requires-clause-sound g c =
    let t = line-of c.args.r c.next-n.result c.in-Some.o.now c.requires.run c.requires.unspent c.requires.going c.next-n.ensures.next
    (sym c.operation.ensures ∙ ap option_copied c.in-Some.is) in
    rw (c.deref_mut.ensures.value, c.deref_mut-2.ensures.value, c.deref_mut-3.ensures.value, c.deref_mut-4.ensures.value)
    (lines t c.args.r c.in-Some.o.now.path, sound-line t)

pub set-requires-clause-within : goal.set-requires-clause-within
set-requires-clause-within g c =
    let r = c.args.run.now in
    let inside = op_at-within r.script.now c.next-n.result c.in-Some.o.now (sym c.operation.ensures ∙ ap option_copied c.in-Some.is) in
    omega (arith, inside.1, (c.requires.run.holds c.requires.unspent).room)

-- the line went on
pub returns-in-None : goal.returns-in-None
returns-in-None g c =
    let r = c.args.run.now in
    let new = c.event_on_path.new in
    let books = with_items_is r.books new.books (c.event_on_path.auto.books ∙ c.deref_mut.ensures.len) in
    let clients = with_items_is r.clients new.clients (c.event_on_path.auto.clients ∙ c.deref_mut-2.ensures.len) in
    let tasks = with_items_is r.tasks new.tasks (c.event_on_path.auto.tasks ∙ c.deref_mut-3.ensures.len) in
    let logs = with_items_is r.logs new.logs (c.event_on_path.auto.logs ∙ c.deref_mut-4.ensures.len) in
    let t = line-of c.args.r c.next-n.result c.in-Some.o.now c.requires.run c.requires.unspent c.requires.going c.next-n.ensures.next
    (sym c.operation.ensures ∙ ap option_copied c.in-Some.is) in
    let f = follows-lent r t c.deref_mut.ensures.value c.deref_mut-2.ensures.value c.deref_mut-3.ensures.value c.deref_mut-4.ensures.value
    books clients tasks logs c.in-None.is c.in_ok-answer.ensures.follows in
    record {
      kept = subst (λ (X : Type 0). X) (λ i. AreKept r.script.now (sym books i) (sym clients i)) c.event_on_path.ensures.kept;
      sized = ap length logs ∙ c.event_on_path.auto.logs ∙ ap length c.deref_mut-4.ensures.value;
      told = told-on t f refl (c.requires.run.told c.requires.unspent);
      holds = holds-line t f;
      step = step-line t f ∙ ap (λ b. step (moment_of r.script.now r.paths (states r) r.answers r.turns r.tasks.items r.logs.items b)
          (record { client = c.args.r })) (sym c.requires.unspent);
      rest = refl;
    }

-- the line was answered, and may have changed a file
pub returns-in_ok-push-in-Some-answer : goal.returns-in_ok-push-in-Some-answer
returns-in_ok-push-in-Some-answer g c =
    let r = c.args.run.now in
    let new = c.event_on_path.new in
    let books = with_items_is r.books new.books (c.event_on_path.auto.books ∙ c.deref_mut.ensures.len) in
    let clients = with_items_is r.clients new.clients (c.event_on_path.auto.clients ∙ c.deref_mut-2.ensures.len) in
    let tasks = with_items_is r.tasks new.tasks (c.event_on_path.auto.tasks ∙ c.deref_mut-3.ensures.len) in
    let logs = with_items_is r.logs new.logs (c.event_on_path.auto.logs ∙ c.deref_mut-4.ensures.len) in
    let t = line-of c.args.r c.next-n.result c.in-Some.o.now c.requires.run c.requires.unspent c.requires.going c.next-n.ensures.next
    (sym c.operation.ensures ∙ ap option_copied c.in-Some.is) in
    let f = follows-lent r t c.deref_mut.ensures.value c.deref_mut-2.ensures.value c.deref_mut-3.ensures.value c.deref_mut-4.ensures.value
    books clients tasks logs c.in-Some-answer.is c.in_ok-answer.ensures.follows in
    let answers : record { lines = r.answers.lines; list = put_answer c.next-n.result c.in-Some-answer.answer r.answers.list } ≡ c.set.new.self =
    λ i. record { lines = sym c.set.ensures.lines i; list = sym c.set.ensures.list i } in
    let then = λ (a : Given). states_in r.script.now (with_items r.books new.books).items r.board (with_items r.clients new.clients).items a r.paths in
    record {
      kept = subst (λ (X : Type 0). X) (λ i. AreKept r.script.now (sym books i) (sym clients i)) c.event_on_path.ensures.kept;
      sized = ap length logs ∙ c.event_on_path.auto.logs ∙ ap length c.deref_mut-4.ensures.value;
      told = subst (λ (ls : List ℕ). AreToldBut r.script.now ls r.board (with_items r.books new.books).items)
          (sym c.in_ok-push-in-Some-answer.ensures.items) (told-then t f (c.requires.run.told c.requires.unspent));
      holds = subst (λ (a : Given). Holds r.script.now r.paths (then a) a (after_line r.turns c.args.r) (with_items r.tasks new.tasks).items
          (with_items r.logs new.logs).items) answers (holds-line t f);
      step = ap (λ (a : Given). moment_of r.script.now r.paths (then a) a (after_line r.turns c.args.r) (with_items r.tasks new.tasks).items
          (with_items r.logs new.logs).items false) (sym answers) ∙ step-line t f
          ∙ ap (λ b. step (moment_of r.script.now r.paths (states r) r.answers r.turns r.tasks.items r.logs.items b)
          (record { client = c.args.r })) (sym c.requires.unspent);
      rest = refl;
    }

-- it was answered, and is of an operation that is never committed
pub returns-else-may_commit : goal.returns-else-may_commit
returns-else-may_commit g c =
    let r = c.args.run.now in
    let new = c.event_on_path.new in
    let books = with_items_is r.books new.books (c.event_on_path.auto.books ∙ c.deref_mut.ensures.len) in
    let clients = with_items_is r.clients new.clients (c.event_on_path.auto.clients ∙ c.deref_mut-2.ensures.len) in
    let tasks = with_items_is r.tasks new.tasks (c.event_on_path.auto.tasks ∙ c.deref_mut-3.ensures.len) in
    let logs = with_items_is r.logs new.logs (c.event_on_path.auto.logs ∙ c.deref_mut-4.ensures.len) in
    let t = line-of c.args.r c.next-n.result c.in-Some.o.now c.requires.run c.requires.unspent c.requires.going c.next-n.ensures.next
    (sym c.operation.ensures ∙ ap option_copied c.in-Some.is) in
    let f = follows-lent r t c.deref_mut.ensures.value c.deref_mut-2.ensures.value c.deref_mut-3.ensures.value c.deref_mut-4.ensures.value
    books clients tasks logs c.in-Some-answer.is c.in_ok-answer.ensures.follows in
    let answers : record { lines = r.answers.lines; list = put_answer c.next-n.result c.in-Some-answer.answer r.answers.list } ≡ c.set.new.self =
    λ i. record { lines = sym c.set.ensures.lines i; list = sym c.set.ensures.list i } in
    let then = λ (a : Given). states_in r.script.now (with_items r.books new.books).items r.board (with_items r.clients new.clients).items a r.paths in
    record {
      kept = subst (λ (X : Type 0). X) (λ i. AreKept r.script.now (sym books i) (sym clients i)) c.event_on_path.ensures.kept;
      sized = ap length logs ∙ c.event_on_path.auto.logs ∙ ap length c.deref_mut-4.ensures.value;
      told = told-quiet t f c.in-Some-answer.answer refl (sym (c.if-may_commit.ensures 0)) (c.requires.run.told c.requires.unspent);
      holds = subst (λ (a : Given). Holds r.script.now r.paths (then a) a (after_line r.turns c.args.r) (with_items r.tasks new.tasks).items
          (with_items r.logs new.logs).items) answers (holds-line t f);
      step = ap (λ (a : Given). moment_of r.script.now r.paths (then a) a (after_line r.turns c.args.r) (with_items r.tasks new.tasks).items
          (with_items r.logs new.logs).items false) (sym answers) ∙ step-line t f
          ∙ ap (λ b. step (moment_of r.script.now r.paths (states r) r.answers r.turns r.tasks.items r.logs.items b)
          (record { client = c.args.r })) (sym c.requires.unspent);
      rest = refl;
    }
