-- The events of a read: one that looks up and begins, or finds no open path or no file, one for each run, and the one that shows.
use Rattle.std.proofs.Common.{◌≡◌, ◌∙◌, ap, refl, sym, subst, length, ℕ, arith, true, false, ◌≤◌, ◌<◌, List}
use Rattle.std.proofs.lemmas.Grind.{common_steps}
use Rattle.fs_script.specs.Vocabulary.{Job, shown}
use Rattle.fs_script.specs.declared.line.Op.TheVariants.{Read}
use Rattle.fs_types.specs.declared.attr.Attr.{Attr}
use Rattle.client_files.specs.declared.noted.Noted.{Noted}
use Rattle.owner_book.specs.Calls.{attr}
use Rattle.owner_book.specs.Kept.{BookPath, path_in}
use Rattle.core_machine.specs.ClientPath.{ClientPath, own_of}
use Rattle.core_machine.specs.declared.plain_hold.PlainHold.{PlainHold}
use Rattle.core_machine.specs.declared.task.Task.{Task}
use Rattle.core_machine.specs.Follows.{KeptStand, ReadSound}
use Rattle.core_machine.specs.Kept.{AreSound, owned_of, pending_hold}
use Rattle.core_machine.specs.Logs.{HoldsStand}
use Rattle.core_machine.specs.Pins.{either_hold}
use Rattle.core_machine.specs.Reads.{BeginsRead, found_hold, marks_seen}
use Rattle.core_machine.specs.Task.{IsTask, task_hold}
use Rattle.core_machine.proofs.EventsFollow.{same-sound, told-none}
use Rattle.core_machine.proofs.LookedUp.{IsAsBefore-looked, IsAsBefore-tried}
use Rattle.core_machine.proofs.ReadEvents.{EventFollows-absent, EventFollows-begun, EventFollows-closed}
use Rattle.core_machine.proofs.ReadEvents.{EventFollows-fetched, EventFollows-shown, HaveSlots-stand, kept}
use Rattle.core_machine.proofs.SeenMarks.{IsFoundFor, found-for, found-spans, seen-stand}
use Rattle.core_machine.proofs.event.read.read.Goals as goal
use Rattle.core_machine.proofs.event.read.read.Goals.{In-Ok}
use Rattle.core_machine.proofs.event.read.read.Given.{Over}

pub fetch_next-requires-clause-task : goal.fetch_next-requires-clause-task
fetch_next-requires-clause-task g c =
    let s = c.requires.sound.0 in
    let sound = c.requires.sound.3 in (
      s,
      subst (IsTask s) c.in-Read.is sound.whole.task,
      subst (λ (t : Task). HoldsStand s c.args.logs.now (task_hold t)) c.in-Read.is sound.stand.pins,
      sound.memory,
    )

pub returns-then-t-len-clause-follows : goal.returns-then-t-len-clause-follows
returns-then-t-len-clause-follows g c = λ s lines told n r sound.
    let x = owned_of (path_in c.args.book.now c.args.gfid c.args.p.now) told in
    let k = own_of c.args.client.now c.args.p.now lines in
    let left : c.in-Read.t.fetched < length c.in-Read.t.runs.items =
    (let lt = c.if-t-len.true in let size = c.len.ensures in let vec = c.in-Read.t.runs.ok.0 in omega (arith, lt, size, vec)) in
    rw (c.in-Read.is, c.fetch_next.ensures.logs)
    (EventFollows-fetched s n r c.args.off c.args.len c.args.with_own x k c.args.logs.now c.args.logs.now c.in-Read.t
    (subst (IsTask s) c.in-Read.is sound.whole.task) (subst (KeptStand s c.args.logs.now x k) c.in-Read.is sound.stand)
    c.fetch_next.new.t left c.fetch_next.ensures.reading c.fetch_next.ensures.attr c.fetch_next.ensures.pins c.requires.held)

pub returns-then-t-len-clause-whole : goal.returns-then-t-len-clause-whole
returns-then-t-len-clause-whole g c = λ s lines told n sound.
    let pins = subst (λ (t : Task). HoldsStand s c.args.logs.now (task_hold t)) c.in-Read.is sound.stand.pins in
    record {
      sound = sound.whole.sound;
      task = c.fetch_next.ensures.task s (subst (IsTask s) c.in-Read.is sound.whole.task) pins;
      midst = refl;
    }

pub finish-requires-clause-slots : goal.finish-requires-clause-slots
finish-requires-clause-slots g c = HaveSlots-stand c.requires.sound.0 c.args.logs.now _
    (subst (λ (t : Task). HoldsStand c.requires.sound.0 c.args.logs.now (task_hold t)) c.in-Read.is c.requires.sound.3.stand.pins)

pub returns-in-Read-clause-follows : goal.returns-in-Read-clause-follows
returns-in-Read-clause-follows g c = λ s lines told n r sound.
    let x = owned_of (path_in c.args.book.now c.args.gfid c.args.p.now) told in
    let k = own_of c.args.client.now c.args.p.now lines in
    let all : length c.in-Read.t.runs.items ≤ c.in-Read.t.fetched =
    (let le = c.if-t-len.false in let size = c.len.ensures in let vec = c.in-Read.t.runs.ok.0 in omega (arith, le, size, vec)) in
    rw (c.in-Read.is, c.in_ok-answer.ensures.noted lines, c.in_ok-answer.ensures.answer)
    (EventFollows-shown s n r c.args.off c.args.len c.args.with_own x k c.args.logs.now c.finish.new.logs c.in-Read.t
    (subst (IsTask s) c.in-Read.is sound.whole.task) (subst (KeptStand s c.args.logs.now x k) c.in-Read.is sound.stand) all
    c.finish.ensures.slots)

pub returns-in-Read-clause-whole : goal.returns-in-Read-clause-whole
returns-in-Read-clause-whole g c = λ s lines told n sound.
    let x = owned_of (path_in c.args.book.now c.args.gfid c.args.p.now) told in
    record {
      sound = same-sound s x (own_of c.args.client.now c.args.p.now lines) (own_of c.finish.new.client c.args.p.now lines)
          (ap (λ (l : ClientPath). l.pending) (c.in_ok-answer.ensures.noted lines)) sound.whole.sound;
      task = tt;
      midst = tt;
    }

pub returns-then-not-is_open-clause-follows : goal.returns-then-not-is_open-clause-follows
returns-then-not-is_open-clause-follows g c = λ s lines told n r sound.
    let x = owned_of (path_in c.args.book.now c.args.gfid c.args.p.now) told in
    let k = own_of c.args.client.now c.args.p.now lines in
    rw (c.in_default.is)
    (EventFollows-closed s n r c.args.off c.args.len c.args.with_own x k c.args.logs.now c.args.logs.now (sym c.if-not-is_open.ensures)
    c.requires.held (subst (KeptStand s c.args.logs.now x k) c.in_default.is sound.stand))

pub returns-then-not-attr-clause-follows : goal.returns-then-not-attr-clause-follows
returns-then-not-attr-clause-follows g c = λ s lines told n r sound.
    let x = owned_of (path_in c.args.book.now c.args.gfid c.args.p.now) told in
    let k = own_of c.args.client.now c.args.p.now lines in
    let none : c.attr-v.result.1.exists ≡ false = grind (arith, common_steps) in
    let absent = told-none c.attr-v.result x.path c.attr-v.ensures.attr none in
    rw (c.in_default.is, c.in_ok-note.ensures.noted lines, c.attr-v.ensures.attr)
    (EventFollows-absent s n r c.args.off c.args.len c.args.with_own x k c.args.logs.now c.args.logs.now (sym c.if-not-is_open.ensures) absent
    c.requires.held (subst (KeptStand s c.args.logs.now x k) c.in_default.is sound.stand))

pub returns-then-not-attr-clause-whole : goal.returns-then-not-attr-clause-whole
returns-then-not-attr-clause-whole g c = λ s lines told n sound.
    let x = owned_of (path_in c.args.book.now c.args.gfid c.args.p.now) told in
    record {
      sound = same-sound s x (own_of c.args.client.now c.args.p.now lines) (own_of c.note.new.self c.args.p.now lines)
          (ap (λ (l : ClientPath). l.pending) (c.in_ok-note.ensures.noted lines)) sound.whole.sound;
      task = sound.whole.task;
      midst = sound.whole.midst;
    }

pub returns-in-Err-Want-clause-same : goal.returns-in-Err-Want-clause-same
returns-in-Err-Want-clause-same g c =
    IsAsBefore-tried c.args.book.now c.lookup.new.self c.args.gfid c.args.p.now _ c.requires.sound.3.whole.sound.written
    c.lookup.ensures.others c.lookup.ensures.holds c.in-Err-Want.ensures.may_ask

pub returns-in_err-begin-clause-same : goal.returns-in_err-begin-clause-same
returns-in_err-begin-clause-same g c =
    IsAsBefore-looked c.args.book.now c.lookup.new.self c.args.gfid c.args.p.now _ c.requires.sound.3.whole.sound.written
    c.lookup.ensures.others c.lookup.ensures.holds c.in-Ok.ensures.looked

pub returns-in_err-seen-clause-same : goal.returns-in_err-seen-clause-same
returns-in_err-seen-clause-same g c =
    IsAsBefore-looked c.args.book.now c.lookup.new.self c.args.gfid c.args.p.now _ c.requires.sound.3.whole.sound.written
    c.lookup.ensures.others c.lookup.ensures.holds c.in-Ok.ensures.looked

-- what was found of the file
module _ (g : Over) (c : In-Ok g) (s : Job) (lines : List ℕ) (told : Noted)
    (sound : ReadSound s (Read c.args.off c.args.len c.args.with_own) (kept (owned_of (path_in c.args.book.now c.args.gfid c.args.p.now) told)
    (own_of c.args.client.now c.args.p.now lines) c.args.task.now c.args.logs.now)) where
  is_found : IsFoundFor s c.args.logs.now (owned_of (path_in c.args.book.now c.args.gfid c.args.p.now) told)
      (own_of c.args.client.now c.args.p.now lines) c.args.off c.args.len c.in-Ok.found
  is_found =
      let there : c.attr-v.result.1.exists ≡ true = grind (arith, common_steps) in
      found-for s c.args.logs.now (owned_of (path_in c.args.book.now c.args.gfid c.args.p.now) told)
      (own_of c.args.client.now c.args.p.now lines) c.args.task.now c.attr-v.result c.args.off c.args.len c.in-Ok.found sound.whole.sound
      sound.stand c.attr-v.ensures.attr there c.in-Ok.ensures.attr c.in-Ok.ensures.frags c.in-Ok.ensures.pins

pub view-requires : goal.view-requires
view-requires g c =
    let q = c.requires.sound in
    let is = is_found g (goal.at.view-requires g c).In-Ok q.0 q.1 q.2 q.3 in
    found-spans is.file c.args.off c.args.len c.in-Ok.found is.is_file is.found_in

pub begin-requires-clause-seen : goal.begin-requires-clause-seen
begin-requires-clause-seen g c =
    let q = c.requires.sound in
    let is = is_found g (goal.at.begin-requires-clause-seen g c).In-Ok q.0 q.1 q.2 q.3 in
    (_, c.in_ok-seen.ensures.seen q.0 q.1 is.file is.is_file is.found_in is.pending is.apart)

pub begin-requires-clause-slots : goal.begin-requires-clause-slots
begin-requires-clause-slots g c =
    let q = c.requires.sound in
    let is = is_found g (goal.at.begin-requires-clause-slots g c).In-Ok q.0 q.1 q.2 q.3 in
    HaveSlots-stand q.0 c.args.logs.now _
    (seen-stand q.0 c.args.logs.now (owned_of (path_in c.args.book.now c.args.gfid c.args.p.now) q.2)
    (own_of c.args.client.now c.args.p.now q.1) c.args.off c.args.len c.in-Ok.found c.in_ok-seen.seen is c.in_ok-seen.ensures.holds)

pub returns-clause-follows : goal.returns-clause-follows
returns-clause-follows g c = λ s lines told n r sound.
    let x = owned_of (path_in c.args.book.now c.args.gfid c.args.p.now) told in
    let k = own_of c.args.client.now c.args.p.now lines in
    let is = is_found g (goal.at.returns-clause-follows g c).In-Ok s lines told sound in
    let hold_at = either_hold (found_hold c.in_ok-seen.seen) (pending_hold k) in
    let marks = shown (marks_seen s c.args.with_own lines is.file) c.args.off c.args.len in
    let begins = c.in_ok-begin.ensures s marks (c.in_ok-seen.ensures.seen s lines is.file is.is_file is.found_in is.pending is.apart) in
    let same = IsAsBefore-looked c.args.book.now c.lookup.new.self c.args.gfid c.args.p.now _ sound.whole.sound.written
    c.lookup.ensures.others c.lookup.ensures.holds c.in-Ok.ensures.looked in
    rw (c.in_default.is, same c.args.gfid c.args.p.now)
    (EventFollows-begun s n r c.args.off c.args.len c.args.with_own x k c.args.logs.now c.begin.new.logs is.file hold_at
    c.in_ok-begin.field-0 (sym c.if-not-is_open.ensures) is.there (subst (KeptStand s c.args.logs.now x k) c.in_default.is sound.stand)
    (seen-stand s c.args.logs.now x k c.args.off c.args.len c.in-Ok.found c.in_ok-seen.seen is c.in_ok-seen.ensures.holds)
    (subst (λ (v : ℕ). BeginsRead s marks v (attr x.path) hold_at c.in_ok-begin.field-0 c.args.logs.now c.begin.new.logs)
    (c.in_ok-seen.ensures.version ∙ c.in-Ok.ensures.version)
    (subst (λ (b : Attr). BeginsRead s marks c.in_ok-seen.seen.v b hold_at c.in_ok-begin.field-0 c.args.logs.now c.begin.new.logs)
    (ap (λ (u : ℕ × Attr). u.1) c.attr-v.ensures.attr) begins)))

pub returns-clause-whole : goal.returns-clause-whole
returns-clause-whole g c = λ s lines told n sound.
    let k = own_of c.args.client.now c.args.p.now lines in
    let is = is_found g (goal.at.returns-clause-whole g c).In-Ok s lines told sound in
    let begins = c.in_ok-begin.ensures s _ (c.in_ok-seen.ensures.seen s lines is.file is.is_file is.found_in is.pending is.apart) in
    let same = IsAsBefore-looked c.args.book.now c.lookup.new.self c.args.gfid c.args.p.now _ sound.whole.sound.written
    c.lookup.ensures.others c.lookup.ensures.holds c.in-Ok.ensures.looked in
    record {
      sound = subst (λ (y : BookPath PlainHold). AreSound s (owned_of y told) k) (sym (same c.args.gfid c.args.p.now)) sound.whole.sound;
      task = begins.task;
      midst = refl;
    }

pub returns-clause-same : goal.returns-clause-same
returns-clause-same g c =
    IsAsBefore-looked c.args.book.now c.lookup.new.self c.args.gfid c.args.p.now _ c.requires.sound.3.whole.sound.written
    c.lookup.ensures.others c.lookup.ensures.holds c.in-Ok.ensures.looked
