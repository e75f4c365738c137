-- What an unlink leaves: the path as it was where there is no file, and else no file; the holds of the file and those of what was
-- pending went.
use Rattle.fs_types.proofs.Common.{◌≡◌, ◌∙◌, ◌++◌, ℕ, List, [], ap, arith, common_steps, false, refl, sym, true}
use Rattle.std.proofs.lemmas.Result.{on_ok_weaker}
use Rattle.fs_types.specs.declared.answer.Answer.TheVariants as answers
use Rattle.fs_script.specs.Vocabulary.{Job}
use Rattle.fs_script.specs.declared.line.Op.TheVariants.{Unlink}
use Rattle.client_files.specs.declared.noted.Noted.{Noted}
use Rattle.client_map.specs.Kept.{pending_in}
use Rattle.owner_book.specs.Calls.{without_file}
use Rattle.owner_book.specs.Kept.{path_in}
use Rattle.core_machine.specs.ClientPath.{own_of, pending_of}
use Rattle.core_machine.specs.Follows.{EventSound}
use Rattle.core_machine.specs.Kept.{noted_of, owned_of}
use Rattle.core_machine.proofs.BooksOfPaths.{ChangesOne-changed, ChangesOne-same, path-changed}
use Rattle.core_machine.proofs.EmptiedLines.{CommitsLine, apart-committed, elsewhere-then, ends-closed, ends-committed, ends-refused}
use Rattle.core_machine.proofs.EmptiedLines.{held-committed, own-taken}
use Rattle.core_machine.proofs.EventsFollow.{told-file, told-none}
use Rattle.core_machine.proofs.LetGo.{idle_kept}
use Rattle.core_machine.proofs.PushedPending.{gone-pushed}
use Rattle.core_machine.proofs.UnlinkEvents.{closed-unlink, commits-unlinked, refused-unlink}
use Rattle.core_machine.proofs.event.unlink.unlink.Goals as goal
use Rattle.core_machine.proofs.event.unlink.unlink.Goals.{In_ok-extend_from_slice}
use Rattle.core_machine.proofs.event.unlink.unlink.Given.{Over}

pub returns-then-not-is_open-clause-done : goal.returns-then-not-is_open-clause-done
returns-then-not-is_open-clause-done g c = λ s lines told r sound.
    let x = owned_of (path_in c.args.book.now c.args.gfid c.args.p.now) told in
    let k = own_of c.args.client.now c.args.p.now lines in
    ends-closed s c.args.n Unlink r x k c.args.logs.now sound (closed-unlink s x k (sym c.if-not-is_open.ensures)) refl

pub returns-then-not-attr-clause-done : goal.returns-then-not-attr-clause-done
returns-then-not-attr-clause-done g c = λ s lines told r sound.
    let x = owned_of (path_in c.args.book.now c.args.gfid c.args.p.now) told in
    let k = own_of c.args.client.now c.args.p.now lines in
    let absent : c.attr-v.result.1.exists ≡ false = grind (arith, common_steps) in
    ends-refused s c.args.n Unlink r x k c.args.logs.now sound answers.NoEnt c.attr-v.result (own_of c.drop_pending.new.client c.args.p.now)
    c.drop_pending.new.logs c.attr-v.ensures.attr
    (refused-unlink s x k (sym c.if-not-is_open.ensures) (told-none c.attr-v.result x.path c.attr-v.ensures.attr absent))
    refl refl refl (c.in_ok-drop_pending.ensures.noted lines) (c.in_ok-drop_pending.ensures.drops lines)

pub returns-in-Err-Want-clause-others : goal.returns-in-Err-Want-clause-others
returns-in-Err-Want-clause-others g c =
    ChangesOne-same c.args.book.now c.unlink.new.self c.args.gfid c.args.p.now c.in-Err-Want.ensures.same

pub returns-in_err-extend_from_slice-clause-others : goal.returns-in_err-extend_from_slice-clause-others
returns-in_err-extend_from_slice-clause-others g c =
    ChangesOne-changed c.args.book.now c.unlink.new.self c.args.gfid c.args.p.now
    (without_file c.args.n (path_in c.args.book.now c.args.gfid c.args.p.now)) c.in-Ok.ensures.unlinked

-- what the unlink left of the path
module _ (g : Over) (c : In_ok-extend_from_slice g) (s : Job) (lines : List ℕ) (told : Noted) (r : ℕ)
    (sound : EventSound s c.args.n Unlink r (idle_kept (owned_of (path_in c.args.book.now c.args.gfid c.args.p.now) told)
    (own_of c.args.client.now c.args.p.now lines) c.args.logs.now)) where
  commits : CommitsLine s c.args.n Unlink (path_in c.args.book.now c.args.gfid c.args.p.now)
      (path_in c.unlink.new.self c.args.gfid c.args.p.now) told (own_of c.args.client.now c.args.p.now lines)
      c.extend_from_slice.new.self.items
  commits =
      let x = path_in c.args.book.now c.args.gfid c.args.p.now in
      let there : c.attr-v.result.1.exists ≡ true = grind (arith, common_steps) in
      let f = told-file c.attr-v.result x c.attr-v.ensures.attr there in
      commits-unlinked s c.args.n x (path_in c.unlink.new.self c.args.gfid c.args.p.now) told (own_of c.args.client.now c.args.p.now lines)
      f.0 (pending_of c.take-push.new.self c.args.p.now []) c.in-Ok.done.dead.items c.take-push.result.holds.items
      c.extend_from_slice.new.self.items sound.whole.sound f.1 (sym c.if-not-is_open.ensures)
      (path-changed c.args.book.now c.unlink.new.self c.args.gfid c.args.p.now (without_file c.args.n x) c.in-Ok.ensures.unlinked)
      c.in-Ok.ensures.dead c.take-push.ensures.none
      (gone-pushed (pending_in c.args.client.now.pending c.args.p.now) (pending_in c.take-push.new.self.pending c.args.p.now)
      c.take-push.result c.take-push.ensures.push c.take-push.ensures.none.fragments)
      (c.in_ok-extend_from_slice.ensures.items ∙ ap (λ hs. c.in-Ok.done.dead.items ++ hs) c.deref.ensures.value)

pub finish_commit-requires-clause-held : goal.finish_commit-requires-clause-held
finish_commit-requires-clause-held g c =
    let q = c.requires in
    let did = (goal.at.finish_commit-requires-clause-held g c).In_ok-extend_from_slice in
    held-committed q.0 c.args.n Unlink q.3 (path_in c.args.book.now c.args.gfid c.args.p.now)
    (path_in c.unlink.new.self c.args.gfid c.args.p.now) q.2 (own_of c.args.client.now c.args.p.now q.1) c.args.logs.now
    (pending_of c.take-push.new.self c.args.p.now []) (record c.in-Ok.done { dead = c.extend_from_slice.new.self }) q.4
    c.take-push.ensures.none (commits g did q.0 q.1 q.2 q.3 q.4)

pub finish_commit-requires-clause-apart : goal.finish_commit-requires-clause-apart
finish_commit-requires-clause-apart g c =
    let q = c.requires in
    let did = (goal.at.finish_commit-requires-clause-apart g c).In_ok-extend_from_slice in
    apart-committed q.0 c.args.n Unlink q.3 (path_in c.args.book.now c.args.gfid c.args.p.now)
    (path_in c.unlink.new.self c.args.gfid c.args.p.now) q.2 (own_of c.args.client.now c.args.p.now q.1) c.args.logs.now
    (pending_of c.take-push.new.self c.args.p.now []) (record c.in-Ok.done { dead = c.extend_from_slice.new.self }) q.4
    c.take-push.ensures.none (commits g did q.0 q.1 q.2 q.3 q.4)

pub returns-clause-done : goal.returns-clause-done
returns-clause-done g c = λ s lines told r sound.
    let x = path_in c.args.book.now c.args.gfid c.args.p.now in
    let y = path_in c.unlink.new.self c.args.gfid c.args.p.now in
    let k = own_of c.args.client.now c.args.p.now lines in
    let done = record c.in-Ok.done { dead = c.extend_from_slice.new.self } in
    let did = c.finish_commit.ensures in
    ends-committed s c.args.n Unlink r x y told k c.args.logs.now (pending_of c.take-push.new.self c.args.p.now []) done sound
    c.take-push.ensures.none (commits g (goal.at.returns-clause-done g c).In_ok-extend_from_slice s lines told r sound)
    c.in-Ok.ensures.version c.in-Ok.ensures.attr (own_of c.finish_commit.new.client c.args.p.now) c.finish_commit.new.logs
    c.finish_commit.result did.answer
    (on_ok_weaker c.finish_commit.result (λ noted. own-taken c.args.client.now c.take-push.new.self c.finish_commit.new.client c.args.p.now
    lines (noted_of done) c.take-push.ensures.files (noted [])) did.noted) did.logs

pub returns-clause-others : goal.returns-clause-others
returns-clause-others g c =
    ChangesOne-changed c.args.book.now c.unlink.new.self c.args.gfid c.args.p.now
    (without_file c.args.n (path_in c.args.book.now c.args.gfid c.args.p.now)) c.in-Ok.ensures.unlinked

pub returns-clause-elsewhere : goal.returns-clause-elsewhere
returns-clause-elsewhere g c =
    elsewhere-then c.args.client.now c.take-push.new.self c.finish_commit.new.client c.args.p.now c.take-push.ensures.elsewhere
    c.finish_commit.ensures.elsewhere
