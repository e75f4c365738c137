-- A write that is refused changes at most what its client noted; one that is accepted is put into slots and over what was pending.
use Rattle.fs_types.proofs.Common.{◌≡◌, ◌∙◌, ◌+◌, ◌<◌, ◌≤◌, ◌==◌, ◌||◌, ℕ, List, length, set, [], true, false, common_steps, ap, sym, refl}
use Rattle.fs_types.proofs.Common.{All, Some, subst, arith, set-get_or}
use Rattle.std.specs.List.{AllPairs}
use Rattle.std.proofs.Math.Nat.{div-le_self}
use Rattle.fs_script.specs.Payload.{bytes_brought, data_bytes}
use Rattle.fs_script.specs.Vocabulary.{LONGEST_FILE, after_answer, need, parts_of, payload}
use Rattle.fs_script.specs.declared.line.Op.TheVariants.{Write}
use Rattle.fs_script.proofs.CallerLemmas.{length-payload}
use Rattle.fs_types.specs.declared.answer.Answer.TheVariants.{BadF, NoEnt, NoSpace, ReadOnly, TooBig, Wrote}
use Rattle.client_files.specs.Kept.{KeptFiles, is_open_in, noted_in, told_in}
use Rattle.client_files.specs.Noted.{later_of}
use Rattle.client_files.specs.declared.may.May.TheVariants as may
use Rattle.client_files.specs.declared.noted.Noted.{Noted}
use Rattle.owner_book.specs.Kept.{BookPath}
use Rattle.core_machine.specs.ClientPath.{ClientPath, own_of, pending_of}
use Rattle.core_machine.specs.Follows.{EndsQuietly, EventFollows, EventSound, free_in}
use Rattle.core_machine.specs.Kept.{AreSound, owned_of}
use Rattle.core_machine.specs.Logs.{IsHeld, ReleasesAll, are_of_one_slot}
use Rattle.core_machine.specs.PendingWrites.{ArePending, MayAddLine}
use Rattle.core_machine.specs.declared.plain_hold.PlainHold.{PlainHold}
use Rattle.core_machine.proofs.EventsEnd.{event-ends, event-quiet}
use Rattle.core_machine.proofs.LetGo.{idle_kept, settle-same}
use Rattle.core_machine.proofs.WriteLogs.{WritesLine, adds-nothing, fills-log, may-add-line, settle-filled, writes-line}
use Rattle.core_machine.proofs.Writes.{ends-absent, ends-accepted, ends-frozen, ends-large, ends-refused, ends-unopened, follows-accepted}
use Rattle.core_machine.proofs.Writes.{follows-refused, free-counted, lines-some, may-says, need-nothing}
use Rattle.core_machine.proofs.event.write.write.Goals as goal
use Rattle.core_machine.proofs.event.write.write.Goals.{In_ok-dead, In_ok-note-in-NoEnt, In_ok-note-in-ReadOnly}
use Rattle.core_machine.proofs.event.write.write.Given.{Over}

-- a line writes at most as many bytes as one line may move, and fills no more slots
pub overflow_cast-slots : goal.overflow_cast-slots
overflow_cast-slots g c =
    let short = length-payload c.args.s.now c.args.n c.shape.ensures.job in
    let bytes = ap (λ w. length (bytes_brought w)) c.requires.line in
    omega (arith, short, bytes, c.len-len.ensures, c.div_ceil-slots.ensures, div-le_self c.len-len.result c.shape.result.chunk)

-- ---- a write that is refused

pub returns-in-BadF-clause-follows : goal.returns-in-BadF-clause-follows
returns-in-BadF-clause-follows g c = λ lines x0 sound.
    let x = owned_of x0 (told_in c.args.board.now c.args.p.now) in
    let k = own_of c.args.client.now c.args.p.now lines in
    let op = Write c.args.off c.args.text.now in
    let closed = may-says c.args.client.now.files c.args.board.now c.args.p.now may.BadF c.in-BadF.ensures in
    event-quiet c.args.s.now c.args.n op c.args.r x k c.args.logs.now x k BadF sound
    (ends-unopened c.args.s.now c.args.n x k c.args.off c.args.text.now closed sound.whole.sound)

module _ (g : Over) (c : In_ok-note-in-NoEnt g) (lines : List ℕ) (x0 : BookPath PlainHold) where
  absent : AreSound c.args.s.now (owned_of x0 (told_in c.args.board.now c.args.p.now)) (own_of c.args.client.now c.args.p.now lines)
      → EndsQuietly c.args.s.now c.args.n (Write c.args.off c.args.text.now) (owned_of x0 (told_in c.args.board.now c.args.p.now))
      (own_of c.args.client.now c.args.p.now lines) (owned_of x0 (told_in c.args.board.now c.args.p.now))
      (own_of c.note.new.self c.args.p.now lines) (NoEnt c.in-NoEnt.v)
  absent =
      let k = own_of c.args.client.now c.args.p.now lines in
      let says = may-says c.args.client.now.files c.args.board.now c.args.p.now (may.NoEnt c.in-NoEnt.v) c.in-NoEnt.ensures in
      ends-absent c.args.s.now c.args.n (owned_of x0 (told_in c.args.board.now c.args.p.now)) k c.args.off c.args.text.now c.in-NoEnt.v
      (own_of c.note.new.self c.args.p.now lines) says.0 says.2
      (c.in_ok-note-in-NoEnt.ensures.noted lines
      ∙ ap (λ (m : Noted). let l : ClientPath = record k { noted = later_of k.noted m } in l) c.at_front-front.ensures) says.1

pub returns-in-NoEnt-clause-follows : goal.returns-in-NoEnt-clause-follows
returns-in-NoEnt-clause-follows g c = λ lines x0 sound.
    let x = owned_of x0 (told_in c.args.board.now c.args.p.now) in
    event-quiet c.args.s.now c.args.n (Write c.args.off c.args.text.now) c.args.r x (own_of c.args.client.now c.args.p.now lines)
    c.args.logs.now x (own_of c.note.new.self c.args.p.now lines) (NoEnt c.in-NoEnt.v) sound
    (absent g (goal.at.returns-in-NoEnt-clause-follows g c).In_ok-note-in-NoEnt lines x0 sound.whole.sound)

pub returns-in-NoEnt-clause-sound : goal.returns-in-NoEnt-clause-sound
returns-in-NoEnt-clause-sound g c = λ lines x0 sound.
    (absent g (goal.at.returns-in-NoEnt-clause-sound g c).In_ok-note-in-NoEnt lines x0 sound.whole.sound).sound

module _ (g : Over) (c : In_ok-note-in-ReadOnly g) (lines : List ℕ) (x0 : BookPath PlainHold) where
  frozen : AreSound c.args.s.now (owned_of x0 (told_in c.args.board.now c.args.p.now)) (own_of c.args.client.now c.args.p.now lines)
      → EndsQuietly c.args.s.now c.args.n (Write c.args.off c.args.text.now) (owned_of x0 (told_in c.args.board.now c.args.p.now))
      (own_of c.args.client.now c.args.p.now lines) (owned_of x0 (told_in c.args.board.now c.args.p.now))
      (own_of c.note-in-ReadOnly.new.self c.args.p.now lines) (ReadOnly c.in-ReadOnly.v)
  frozen =
      let k = own_of c.args.client.now c.args.p.now lines in
      let says = may-says c.args.client.now.files c.args.board.now c.args.p.now (may.ReadOnly c.in-ReadOnly.v) c.in-ReadOnly.ensures in
      ends-frozen c.args.s.now c.args.n (owned_of x0 (told_in c.args.board.now c.args.p.now)) k c.args.off c.args.text.now c.in-ReadOnly.v
      (own_of c.note-in-ReadOnly.new.self c.args.p.now lines) says.0 says.3
      (c.in_ok-note-in-ReadOnly.ensures.noted lines
      ∙ ap (λ (m : Noted). let l : ClientPath = record k { noted = later_of k.noted m } in l) c.at_front-front-in-ReadOnly.ensures) says.1 says.2

pub returns-in-ReadOnly-clause-follows : goal.returns-in-ReadOnly-clause-follows
returns-in-ReadOnly-clause-follows g c = λ lines x0 sound.
    let x = owned_of x0 (told_in c.args.board.now c.args.p.now) in
    event-quiet c.args.s.now c.args.n (Write c.args.off c.args.text.now) c.args.r x (own_of c.args.client.now c.args.p.now lines)
    c.args.logs.now x (own_of c.note-in-ReadOnly.new.self c.args.p.now lines) (ReadOnly c.in-ReadOnly.v) sound
    (frozen g (goal.at.returns-in-ReadOnly-clause-follows g c).In_ok-note-in-ReadOnly lines x0 sound.whole.sound)

pub returns-in-ReadOnly-clause-sound : goal.returns-in-ReadOnly-clause-sound
returns-in-ReadOnly-clause-sound g c = λ lines x0 sound.
    (frozen g (goal.at.returns-in-ReadOnly-clause-sound g c).In_ok-note-in-ReadOnly lines x0 sound.whole.sound).sound

pub returns-then-len-gt-LONGEST_FILE-clause-follows : goal.returns-then-len-gt-LONGEST_FILE-clause-follows
returns-then-len-gt-LONGEST_FILE-clause-follows g c = λ lines x0 sound.
    let x = owned_of x0 (told_in c.args.board.now c.args.p.now) in
    let k = own_of c.args.client.now c.args.p.now lines in
    let says = may-says c.args.client.now.files c.args.board.now c.args.p.now may.Yes c.in-Yes.ensures in
    let past : LONGEST_FILE < c.args.off + length (data_bytes c.args.text.now) = grind (arith, c.len-len.ensures) in
    event-quiet c.args.s.now c.args.n (Write c.args.off c.args.text.now) c.args.r x k c.args.logs.now x k TooBig sound
    (ends-large c.args.s.now c.args.n x k c.args.off c.args.text.now says.0 says.1 says.2 past sound.whole.sound)

pub returns-in-Err-NoSpace-clause-follows : goal.returns-in-Err-NoSpace-clause-follows
returns-in-Err-NoSpace-clause-follows g c = λ lines x0 sound.
    let s = c.args.s.now in
    let x = owned_of x0 (told_in c.args.board.now c.args.p.now) in
    let k = own_of c.args.client.now c.args.p.now lines in
    let logs = c.args.logs.now in
    let op = Write c.args.off c.args.text.now in
    let says = may-says c.args.client.now.files c.args.board.now c.args.p.now may.Yes c.in-Yes.ensures in
    let no = rw c.in-Err-NoSpace.field-0-is at c.in-Err-NoSpace.ensures.refused in
    let fits : c.args.off + length (data_bytes c.args.text.now) ≤ LONGEST_FILE = omega (arith, c.len-len.ensures) in
    let same : c.r.inside.0 ≡ c.args.r = cc in
    let counted = free-counted logs c.args.r c.r.inside.0 c.index-logs-r.result same sound.log sound.held sound.free in
    let few : free_in logs c.args.r < need s c.args.n = omega (arith, no.2, counted) in
    let a = NoSpace c.in-Err-NoSpace.need c.in-Err-NoSpace.free in
    let same_logs = ap (set logs c.r.inside.0) c.in-Err-NoSpace.ensures.err ∙ set-get_or logs c.r.inside.0 c.index-logs-r.result in
    rw c.in-Err-NoSpace.field-0-is
    (subst (λ ls. EventFollows s c.args.n op c.args.r (idle_kept x k logs) (idle_kept x k ls) (Some a)) (sym same_logs)
    (event-ends s c.args.n op c.args.r x k logs x k a false logs
    (ends-refused s c.args.n x k c.args.off c.args.text.now (free_in logs c.args.r) c.requires.line says.0 says.1 says.2 fits
    c.in-Err-NoSpace.need c.in-Err-NoSpace.free no.0 (no.1 ∙ sym counted) few)
    (follows-refused s c.args.n x k c.args.off c.args.text.now (free_in logs c.args.r) c.requires.line says.0 says.1 says.2 fits
    c.in-Err-NoSpace.need c.in-Err-NoSpace.free few)
    (settle-same s c.args.n c.args.r x x k k logs (record { files = λ q. refl; pending = λ q. refl }) sound.stand sound.held)))

-- ---- a write that is accepted

pub returns-then-len-eq0-clause-follows : goal.returns-then-len-eq0-clause-follows
returns-then-len-eq0-clause-follows g c = λ lines x0 sound.
    let s = c.args.s.now in
    let x = owned_of x0 (told_in c.args.board.now c.args.p.now) in
    let k = own_of c.args.client.now c.args.p.now lines in
    let op = Write c.args.off c.args.text.now in
    let slots = c.div_ceil-slots.result in
    let l = own_of c.args.client.now c.args.p.now (after_answer op (Wrote slots) c.args.n lines) in
    let logs = c.args.logs.now in
    let filled = set logs c.r.inside.0 c.fill_line.new.log in
    let says = may-says c.args.client.now.files c.args.board.now c.args.p.now may.Yes c.in-Yes.ensures in
    let fits : c.args.off + length (data_bytes c.args.text.now) ≤ LONGEST_FILE = omega (arith, c.len-len.ensures) in
    let same : c.r.inside.0 ≡ c.args.r = cc in
    let counted = free-counted logs c.args.r c.r.inside.0 c.index-logs-r.result same sound.log sound.held sound.free in
    let bytes = ap (λ w. parts_of s.shape.chunk (length (bytes_brought w))) c.requires.line in
    let is_need : slots ≡ need s c.args.n = grind (arith, common_steps, bytes) in
    let enough : need s c.args.n ≤ free_in logs c.args.r = omega (arith, counted, c.in-Ok.ensures.ok.enough) in
    let fill = fills-log s c.args.n c.args.r c.r.inside.0 logs c.index-logs-r.result c.fill_line.new.log c.in-Ok.holds.items same
    sound.log c.in-Ok.ensures.ok in
    let long = ap (λ w. length (bytes_brought w)) c.requires.line in
    let nothing : length (payload s c.args.n) ≡ 0 = omega (arith, long, c.len-len.ensures) in
    let least = c.shape.ensures.job.shape.chunk_least in
    let none = fill.fills.many ∙ ap (parts_of s.shape.chunk) nothing ∙ need-nothing s.shape.chunk (omega (arith, least)) in
    event-ends s c.args.n op c.args.r x k logs x l (Wrote slots) true filled
    (ends-accepted s c.args.n x k c.args.off c.args.text.now (free_in logs c.args.r) c.requires.line says.0 says.1 says.2 fits slots is_need
    enough)
    (follows-accepted s c.args.n x k c.args.off c.args.text.now (free_in logs c.args.r) c.requires.line says.0 says.1 says.2 fits slots
    is_need enough l refl refl refl (λ q there. ap (λ b. b || q.line == c.args.n) there))
    (settle-filled s c.args.n op c.args.r x k l logs filled [] sound fill
    (adds-nothing c.args.n c.in-Ok.holds.items x k l refl none sound.fresh) filled (record { frames = refl; slots = λ q i. refl }))

pub add-requires-clause-line : goal.add-requires-clause-line
add-requires-clause-line g c =
    let sound = c.requires.sound.2 in
    let least = c.shape.ensures.job.shape.chunk_least in (
      c.args.s.now,
      c.args.n,
      may-add-line c.args.s.now c.args.n (Write c.args.off c.args.text.now) c.args.r
          (owned_of c.requires.sound.1 (told_in c.args.board.now c.args.p.now)) c.args.client.now c.args.p.now c.requires.sound.0 c.args.logs.now
          c.r.inside.0 c.index-logs-r.result c.fill_line.new.log c.in-Ok.holds.items c.args.off c.len-len.result (data_bytes c.args.text.now)
          (cc) sound c.in-Ok.ensures.ok c.requires.line (sym c.len-len.ensures) (omega (arith, c.if-len-eq0.false)) (omega arith)
          c.requires.chunk (omega (arith, least)),
    )

-- what the line is put over, whatever lines are pending then
module _ (g : Over) (c : In_ok-dead g) (lines after : List ℕ) (x0 : BookPath PlainHold)
    (sound : EventSound c.args.s.now c.args.n (Write c.args.off c.args.text.now) c.args.r
    (idle_kept (owned_of x0 (told_in c.args.board.now c.args.p.now)) (own_of c.args.client.now c.args.p.now lines) c.args.logs.now)) where
  added : MayAddLine c.args.s.now c.args.n c.args.off c.len-len.result c.in-Ok.holds.items c.args.client.now c.args.p.now
  added =
      let least = c.shape.ensures.job.shape.chunk_least in
      may-add-line c.args.s.now c.args.n (Write c.args.off c.args.text.now) c.args.r
      (owned_of x0 (told_in c.args.board.now c.args.p.now)) c.args.client.now c.args.p.now lines c.args.logs.now
      c.r.inside.0 c.index-logs-r.result c.fill_line.new.log c.in-Ok.holds.items c.args.off c.len-len.result (data_bytes c.args.text.now)
      (cc) sound c.in-Ok.ensures.ok c.requires.line (sym c.len-len.ensures) (omega (arith, c.if-len-eq0.false)) (omega arith)
      c.requires.chunk (omega (arith, least))

  writes : WritesLine c.args.s.now c.args.n c.args.r (owned_of x0 (told_in c.args.board.now c.args.p.now))
      (own_of c.args.client.now c.args.p.now lines) (own_of c.add.new.self c.args.p.now after) c.args.logs.now
      (set c.args.logs.now c.r.inside.0 c.fill_line.new.log) c.in_ok-dead.dead.items
  writes =
      writes-line c.args.s.now c.args.n (Write c.args.off c.args.text.now) c.args.r (owned_of x0 (told_in c.args.board.now c.args.p.now))
      (own_of c.args.client.now c.args.p.now lines) (own_of c.add.new.self c.args.p.now after) c.args.logs.now c.r.inside.0
      c.index-logs-r.result c.fill_line.new.log c.in-Ok.holds.items c.in_ok-dead.dead.items (cc) sound c.in-Ok.ensures.ok
      (c.in_ok-dead.ensures.holds c.args.s.now c.args.n added) c.in_ok-dead.ensures.dead

pub release_all-requires-clause-held : goal.release_all-requires-clause-held
release_all-requires-clause-held g c =
    let q = c.requires.sound in
    subst (All (IsHeld (set c.args.logs.now c.r.inside.0 c.fill_line.new.log))) (sym c.deref.ensures.value)
    (writes g (goal.at.release_all-requires-clause-held g c).In_ok-dead q.0 [] q.1 q.2).are_held

pub release_all-requires-clause-apart : goal.release_all-requires-clause-apart
release_all-requires-clause-apart g c =
    let q = c.requires.sound in
    subst (AllPairs (λ g h. are_of_one_slot g h ≡ false)) (sym c.deref.ensures.value)
    (writes g (goal.at.release_all-requires-clause-apart g c).In_ok-dead q.0 [] q.1 q.2).apart

pub returns-clause-follows : goal.returns-clause-follows
returns-clause-follows g c = λ lines x0 sound.
    let s = c.args.s.now in
    let x = owned_of x0 (told_in c.args.board.now c.args.p.now) in
    let k = own_of c.args.client.now c.args.p.now lines in
    let op = Write c.args.off c.args.text.now in
    let slots = c.div_ceil-slots.result in
    let after = after_answer op (Wrote slots) c.args.n lines in
    let l = own_of c.add.new.self c.args.p.now after in
    let logs = c.args.logs.now in
    let filled = set logs c.r.inside.0 c.fill_line.new.log in
    let says = may-says c.args.client.now.files c.args.board.now c.args.p.now may.Yes c.in-Yes.ensures in
    let fits : c.args.off + length (data_bytes c.args.text.now) ≤ LONGEST_FILE = omega (arith, c.len-len.ensures) in
    let same : c.r.inside.0 ≡ c.args.r = cc in
    let counted = free-counted logs c.args.r c.r.inside.0 c.index-logs-r.result same sound.log sound.held sound.free in
    let bytes = ap (λ w. parts_of s.shape.chunk (length (bytes_brought w))) c.requires.line in
    let is_need : slots ≡ need s c.args.n = grind (arith, common_steps, bytes) in
    let enough : need s c.args.n ≤ free_in logs c.args.r = omega (arith, counted, c.in-Ok.ensures.ok.enough) in
    let did = writes g (goal.at.returns-clause-follows g c).In_ok-dead lines after x0 sound in
    let files = c.in_ok-dead.ensures.files in
    event-ends s c.args.n op c.args.r x k logs x l (Wrote slots) true c.release_all.new.logs
    (ends-accepted s c.args.n x k c.args.off c.args.text.now (free_in logs c.args.r) c.requires.line says.0 says.1 says.2 fits slots is_need
    enough)
    (follows-accepted s c.args.n x k c.args.off c.args.text.now (free_in logs c.args.r) c.requires.line says.0 says.1 says.2 fits slots
    is_need enough l (ap (λ (fs : KeptFiles). is_open_in fs c.args.p.now) files) (ap (λ (fs : KeptFiles). noted_in fs c.args.p.now) files)
    refl did.from)
    (did.settle c.release_all.new.logs
    (subst (λ hs. ReleasesAll hs filled c.release_all.new.logs) c.deref.ensures.value c.release_all.ensures))

pub returns-clause-sound : goal.returns-clause-sound
returns-clause-sound g c = λ lines x0 sound.
    let op = Write c.args.off c.args.text.now in
    let after = after_answer op (Wrote c.div_ceil-slots.result) c.args.n lines in
    let last = (goal.at.returns-clause-sound g c).In_ok-dead in
    let some : 0 < length (data_bytes c.args.text.now) = omega (arith, c.len-len.ensures, c.if-len-eq0.false) in
    (writes g last lines after x0 sound).sound
    (subst (λ ns. ArePending c.args.s.now (pending_of c.add.new.self c.args.p.now ns))
    (sym (lines-some c.args.off c.args.text.now c.div_ceil-slots.result c.args.n lines some))
    (c.in_ok-dead.ensures.pending c.args.s.now c.args.n lines (added g last lines after x0 sound) sound.whole.sound.pending))
