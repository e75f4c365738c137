-- What a truncation leaves: the path as it was where there is no file, and else with the push of what was pending over its file, which
-- is then cut or extended.
use Rattle.fs_types.proofs.Common.{◌≡◌, ◌∙◌, ℕ, List, [], arith, common_steps, false, refl, sym, true}
use Rattle.std.proofs.lemmas.Result.{on_ok_weaker}
use Rattle.fs_types.specs.declared.answer.Answer.TheVariants as answers
use Rattle.fs_script.specs.Vocabulary.{Job}
use Rattle.fs_script.specs.declared.line.Op.TheVariants.{Trunc}
use Rattle.client_files.specs.declared.noted.Noted.{Noted}
use Rattle.owner_book.specs.Truncations.{with_truncation}
use Rattle.owner_book.specs.Kept.{path_in}
use Rattle.core_machine.specs.ClientPath.{own_of, pending_of}
use Rattle.core_machine.specs.Follows.{EventSound}
use Rattle.core_machine.specs.declared.plain_hold.PlainHold.{PlainHold}
use Rattle.core_machine.specs.Kept.{noted_of, owned_of}
use Rattle.core_machine.proofs.BooksOfPaths.{ChangesOne-changed, ChangesOne-same, path-changed}
use Rattle.core_machine.proofs.EmptiedLines.{CommitsLine, apart-committed, elsewhere-then, ends-closed, ends-committed, ends-refused}
use Rattle.core_machine.proofs.EmptiedLines.{own-taken}
use Rattle.core_machine.proofs.EventsFollow.{told-file, told-frozen, told-none}
use Rattle.core_machine.proofs.LetGo.{idle_kept}
use Rattle.core_machine.proofs.PushedPending.{may-commit}
use Rattle.core_machine.proofs.TruncEvents.{closed-trunc, commits-truncated, frozen-trunc, refused-trunc}
use Rattle.core_machine.proofs.event.trunc.trunc.Goals as goal
use Rattle.core_machine.proofs.event.trunc.trunc.Goals.{In-Ok}
use Rattle.core_machine.proofs.event.trunc.trunc.Given.{Over}

pub returns-then-not-is_open-clause-done : goal.returns-then-not-is_open-clause-done
returns-then-not-is_open-clause-done g c = λ s lines told r sound.
    let x = owned_of (path_in c.args.book.now c.args.gfid c.args.p.now) told in
    let k = own_of c.args.client.now c.args.p.now lines in
    ends-closed s c.args.n (Trunc c.args.size) r x k c.args.logs.now sound (closed-trunc s x k c.args.size (sym c.if-not-is_open.ensures)) refl

pub returns-then-not-attr-clause-done : goal.returns-then-not-attr-clause-done
returns-then-not-attr-clause-done g c = λ s lines told r sound.
    let x = owned_of (path_in c.args.book.now c.args.gfid c.args.p.now) told in
    let k = own_of c.args.client.now c.args.p.now lines in
    let absent : c.attr-v.result.1.exists ≡ false = grind (arith, common_steps) in
    ends-refused s c.args.n (Trunc c.args.size) r x k c.args.logs.now sound answers.NoEnt c.attr-v.result (own_of c.drop_pending.new.client c.args.p.now)
    c.drop_pending.new.logs c.attr-v.ensures.attr
    (refused-trunc s x k c.args.size (sym c.if-not-is_open.ensures) (told-none c.attr-v.result x.path c.attr-v.ensures.attr absent))
    refl refl refl (c.in_ok-drop_pending.ensures.noted lines) (c.in_ok-drop_pending.ensures.drops lines)

pub returns-then-attr-clause-done : goal.returns-then-attr-clause-done
returns-then-attr-clause-done g c = λ s lines told r sound.
    let x = owned_of (path_in c.args.book.now c.args.gfid c.args.p.now) told in
    let k = own_of c.args.client.now c.args.p.now lines in
    let there : c.attr-v.result.1.exists ≡ true = grind (arith, common_steps) in
    let frozen : c.attr-v.result.1.frozen ≡ true = grind (arith, common_steps) in
    let f = told-file c.attr-v.result x.path c.attr-v.ensures.attr there in
    ends-refused s c.args.n (Trunc c.args.size) r x k c.args.logs.now sound answers.ReadOnly c.attr-v.result (own_of c.drop_pending-then-attr.new.client c.args.p.now)
    c.drop_pending-then-attr.new.logs c.attr-v.ensures.attr
    (frozen-trunc s x k c.args.size f.0 (sym c.if-not-is_open.ensures) f.1
    (told-frozen c.attr-v.result x.path f.0 c.attr-v.ensures.attr f.1 ∙ frozen))
    refl refl refl (c.in_ok-drop_pending-2.ensures.noted lines) (c.in_ok-drop_pending-2.ensures.drops lines)

pub trunc-requires-clause-push : goal.trunc-requires-clause-push
trunc-requires-clause-push g c =
    let sound = c.requires.sound.4.whole.sound in
    may-commit c.requires.sound.0 (pending_of c.args.client.now c.args.p.now c.requires.sound.1) c.take-push.result
    (path_in c.args.book.now c.args.gfid c.args.p.now) sound.pending c.take-push.ensures.push sound.apart

pub returns-in-Err-Want-default-clause-others : goal.returns-in-Err-Want-default-clause-others
returns-in-Err-Want-default-clause-others g c =
    ChangesOne-same c.args.book.now c.trunc.new.self c.args.gfid c.args.p.now c.in-Err-Want-default.ensures.same

-- what the truncation made of the file
module _ (g : Over) (c : In-Ok g) (s : Job) (lines : List ℕ) (told : Noted) (r : ℕ)
    (sound : EventSound s c.args.n (Trunc c.args.size) r (idle_kept (owned_of (path_in c.args.book.now c.args.gfid c.args.p.now) told)
    (own_of c.args.client.now c.args.p.now lines) c.args.logs.now)) where
  commits : CommitsLine s c.args.n (Trunc c.args.size) (path_in c.args.book.now c.args.gfid c.args.p.now)
      (path_in c.trunc.new.self c.args.gfid c.args.p.now) told (own_of c.args.client.now c.args.p.now lines) c.in-Ok.done.dead.items
  commits =
      let k = own_of c.args.client.now c.args.p.now lines in
      let x = path_in c.args.book.now c.args.gfid c.args.p.now in
      let there : c.attr-v.result.1.exists ≡ true = grind (arith, common_steps) in
      let unfrozen : c.attr-v.result.1.frozen ≡ false = grind (arith, common_steps) in
      let f = told-file c.attr-v.result x c.attr-v.ensures.attr there in
      commits-truncated s c.args.n c.args.size x (path_in c.trunc.new.self c.args.gfid c.args.p.now) told k f.0 c.take-push.result
      c.in-Ok.done.dead.items sound.whole.sound f.1 (told-frozen c.attr-v.result x f.0 c.attr-v.ensures.attr f.1 ∙ unfrozen)
      (sym c.if-not-is_open.ensures) c.requires.size refl c.take-push.ensures.push
      (path-changed c.args.book.now c.trunc.new.self c.args.gfid c.args.p.now
      (with_truncation (λ (h : PlainHold). h.piece) c.args.n c.take-push.result c.args.size x) c.in-Ok.ensures.truncated)
      c.in-Ok.ensures.holds c.in-Ok.ensures.dead

pub finish_commit-requires-clause-apart : goal.finish_commit-requires-clause-apart
finish_commit-requires-clause-apart g c =
    let q = c.requires.sound in
    let did = (goal.at.finish_commit-requires-clause-apart g c).In-Ok in
    apart-committed q.0 c.args.n (Trunc c.args.size) q.3 (path_in c.args.book.now c.args.gfid c.args.p.now)
    (path_in c.trunc.new.self c.args.gfid c.args.p.now) q.2 (own_of c.args.client.now c.args.p.now q.1) c.args.logs.now
    (pending_of c.take-push.new.self c.args.p.now []) c.in-Ok.done q.4 c.take-push.ensures.none (commits g did q.0 q.1 q.2 q.3 q.4)

pub returns-clause-done : goal.returns-clause-done
returns-clause-done g c = λ s lines told r sound.
    let x = path_in c.args.book.now c.args.gfid c.args.p.now in
    let y = path_in c.trunc.new.self c.args.gfid c.args.p.now in
    let k = own_of c.args.client.now c.args.p.now lines in
    let did = c.finish_commit.ensures in
    ends-committed s c.args.n (Trunc c.args.size) r x y told k c.args.logs.now (pending_of c.take-push.new.self c.args.p.now []) c.in-Ok.done sound
    c.take-push.ensures.none (commits g (goal.at.returns-clause-done g c).In-Ok s lines told r sound) c.in-Ok.ensures.version
    c.in-Ok.ensures.attr (own_of c.finish_commit.new.client c.args.p.now) c.finish_commit.new.logs c.finish_commit.result did.answer
    (on_ok_weaker c.finish_commit.result (λ noted. own-taken c.args.client.now c.take-push.new.self c.finish_commit.new.client c.args.p.now
    lines (noted_of c.in-Ok.done) c.take-push.ensures.files (noted [])) did.noted) did.logs

pub returns-clause-others : goal.returns-clause-others
returns-clause-others g c =
    let x = path_in c.args.book.now c.args.gfid c.args.p.now in
    ChangesOne-changed c.args.book.now c.trunc.new.self c.args.gfid c.args.p.now
    (with_truncation (λ (h : PlainHold). h.piece) c.args.n c.take-push.result c.args.size x) c.in-Ok.ensures.truncated

pub returns-clause-elsewhere : goal.returns-clause-elsewhere
returns-clause-elsewhere g c =
    elsewhere-then c.args.client.now c.take-push.new.self c.finish_commit.new.client c.args.p.now c.take-push.ensures.elsewhere
    c.finish_commit.ensures.elsewhere
