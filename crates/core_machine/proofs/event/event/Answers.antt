-- Each operation's event, for a client in the midst of nothing, or of a read.
use Rattle.fs_types.proofs.Common.{refl, subst}
use Rattle.fs_script.specs.Grammar.{IsOp}
use Rattle.fs_script.proofs.CallerLemmas.{IsOpLine-from_job}
use Rattle.fs_script.specs.declared.line.Op.TheVariants.{Create, Laminate, Open, Size, Sync, Trunc, Unlink, Write}
use Rattle.client_files.specs.Kept.{told_in}
use Rattle.core_machine.specs.ClientPath.{own_of}
use Rattle.core_machine.specs.Kept.{owned_in}
use Rattle.core_machine.proofs.EventsEnd.{event-idle, follows-line, follows-quiet, sound-idle, whole-then}
use Rattle.core_machine.proofs.event.event.Goals as goal

-- an operation of a job cuts no file past the longest one
pub trunc-requires-clause-size : goal.trunc-requires-clause-size
trunc-requires-clause-size g c =
    subst IsOp c.in-Trunc.is (IsOpLine-from_job c.args.s.now c.args.n c.args.o.now c.requires.job c.requires.line).op

pub returns-in_ok-create-in-Create-clause-follows : goal.returns-in_ok-create-in-Create-clause-follows
returns-in_ok-create-in-Create-clause-follows g c = rw c.in-Create.is (λ lines sound.
    let x = owned_in c.args.book.now c.args.gfid c.args.o.now.path c.args.board.now in
    let k = own_of c.args.client.now c.args.o.now.path lines in
    follows-quiet c.args.s.now c.args.n Create c.args.o.now.rank x k c.args.logs.now c.args.task.now refl sound
    (owned_in c.create.new.book c.args.gfid c.args.o.now.path c.args.board.now) _ c.in_ok-create-in-Create.field-0
    (c.in_ok-create-in-Create.ensures.done c.args.s.now lines (told_in c.args.board.now c.args.o.now.path) sound.whole.sound))

pub returns-in_ok-create-in-Create-clause-whole : goal.returns-in_ok-create-in-Create-clause-whole
returns-in_ok-create-in-Create-clause-whole g c = rw c.in-Create.is (λ lines sound.
    let x = owned_in c.args.book.now c.args.gfid c.args.o.now.path c.args.board.now in
    let k = own_of c.args.client.now c.args.o.now.path lines in
    whole-then c.args.s.now c.args.n Create c.args.o.now.rank x k c.args.logs.now c.args.task.now refl sound
    (owned_in c.create.new.book c.args.gfid c.args.o.now.path c.args.board.now) _ c.in_ok-create-in-Create.field-0 c.args.logs.now
    (c.in_ok-create-in-Create.ensures.done c.args.s.now lines (told_in c.args.board.now c.args.o.now.path) sound.whole.sound).sound)

pub returns-in_ok-open-in-Open-clause-follows : goal.returns-in_ok-open-in-Open-clause-follows
returns-in_ok-open-in-Open-clause-follows g c = rw c.in-Open.is (λ lines sound.
    let x = owned_in c.args.book.now c.args.gfid c.args.o.now.path c.args.board.now in
    let k = own_of c.args.client.now c.args.o.now.path lines in
    follows-quiet c.args.s.now c.args.n Open c.args.o.now.rank x k c.args.logs.now c.args.task.now refl sound
    x _ c.in_ok-open-in-Open.field-0
    (c.in_ok-open-in-Open.ensures.done c.args.s.now c.args.n lines (told_in c.args.board.now c.args.o.now.path) sound.whole.sound))

pub returns-in_ok-open-in-Open-clause-whole : goal.returns-in_ok-open-in-Open-clause-whole
returns-in_ok-open-in-Open-clause-whole g c = rw c.in-Open.is (λ lines sound.
    let x = owned_in c.args.book.now c.args.gfid c.args.o.now.path c.args.board.now in
    let k = own_of c.args.client.now c.args.o.now.path lines in
    whole-then c.args.s.now c.args.n Open c.args.o.now.rank x k c.args.logs.now c.args.task.now refl sound
    x _ c.in_ok-open-in-Open.field-0 c.args.logs.now
    (c.in_ok-open-in-Open.ensures.done c.args.s.now c.args.n lines (told_in c.args.board.now c.args.o.now.path) sound.whole.sound).sound)

pub returns-in_ok-size-in-Size-clause-follows : goal.returns-in_ok-size-in-Size-clause-follows
returns-in_ok-size-in-Size-clause-follows g c = rw c.in-Size.is (λ lines sound.
    let x = owned_in c.args.book.now c.args.gfid c.args.o.now.path c.args.board.now in
    let k = own_of c.args.client.now c.args.o.now.path lines in
    follows-quiet c.args.s.now c.args.n Size c.args.o.now.rank x k c.args.logs.now c.args.task.now refl sound
    x _ c.in_ok-size-in-Size.field-0
    (c.in_ok-size-in-Size.ensures.done c.args.s.now c.args.n lines (told_in c.args.board.now c.args.o.now.path) sound.whole.sound))

pub returns-in_ok-size-in-Size-clause-whole : goal.returns-in_ok-size-in-Size-clause-whole
returns-in_ok-size-in-Size-clause-whole g c = rw c.in-Size.is (λ lines sound.
    let x = owned_in c.args.book.now c.args.gfid c.args.o.now.path c.args.board.now in
    let k = own_of c.args.client.now c.args.o.now.path lines in
    whole-then c.args.s.now c.args.n Size c.args.o.now.rank x k c.args.logs.now c.args.task.now refl sound
    x _ c.in_ok-size-in-Size.field-0 c.args.logs.now
    (c.in_ok-size-in-Size.ensures.done c.args.s.now c.args.n lines (told_in c.args.board.now c.args.o.now.path) sound.whole.sound).sound)

pub returns-in_ok-sync-in-Sync-clause-follows : goal.returns-in_ok-sync-in-Sync-clause-follows
returns-in_ok-sync-in-Sync-clause-follows g c = rw c.in-Sync.is (λ lines sound.
    let x = owned_in c.args.book.now c.args.gfid c.args.o.now.path c.args.board.now in
    let k = own_of c.args.client.now c.args.o.now.path lines in
    follows-line c.args.s.now c.args.n Sync c.args.o.now.rank x k c.args.logs.now c.args.task.now refl sound
    (owned_in c.sync.new.book c.args.gfid c.args.o.now.path c.args.board.now) _ c.in_ok-sync-in-Sync.field-0 c.sync.new.logs
    (c.in_ok-sync-in-Sync.ensures.done c.args.s.now lines (told_in c.args.board.now c.args.o.now.path) c.args.o.now.rank
    (sound-idle c.args.s.now c.args.n Sync c.args.o.now.rank x k c.args.logs.now c.args.task.now refl sound)))

pub returns-in_ok-sync-in-Sync-clause-whole : goal.returns-in_ok-sync-in-Sync-clause-whole
returns-in_ok-sync-in-Sync-clause-whole g c = rw c.in-Sync.is (λ lines sound.
    let x = owned_in c.args.book.now c.args.gfid c.args.o.now.path c.args.board.now in
    let k = own_of c.args.client.now c.args.o.now.path lines in
    whole-then c.args.s.now c.args.n Sync c.args.o.now.rank x k c.args.logs.now c.args.task.now refl sound
    (owned_in c.sync.new.book c.args.gfid c.args.o.now.path c.args.board.now) _ c.in_ok-sync-in-Sync.field-0 c.sync.new.logs
    (c.in_ok-sync-in-Sync.ensures.done c.args.s.now lines (told_in c.args.board.now c.args.o.now.path) c.args.o.now.rank
    (sound-idle c.args.s.now c.args.n Sync c.args.o.now.rank x k c.args.logs.now c.args.task.now refl sound)).sound)

pub returns-in_ok-trunc-in-Trunc-clause-follows : goal.returns-in_ok-trunc-in-Trunc-clause-follows
returns-in_ok-trunc-in-Trunc-clause-follows g c = rw c.in-Trunc.is (λ lines sound.
    let x = owned_in c.args.book.now c.args.gfid c.args.o.now.path c.args.board.now in
    let k = own_of c.args.client.now c.args.o.now.path lines in
    follows-line c.args.s.now c.args.n (Trunc c.in-Trunc.size) c.args.o.now.rank x k c.args.logs.now c.args.task.now refl sound
    (owned_in c.trunc.new.book c.args.gfid c.args.o.now.path c.args.board.now) _ c.in_ok-trunc-in-Trunc.field-0 c.trunc.new.logs
    (c.in_ok-trunc-in-Trunc.ensures.done c.args.s.now lines (told_in c.args.board.now c.args.o.now.path) c.args.o.now.rank
    (sound-idle c.args.s.now c.args.n (Trunc c.in-Trunc.size) c.args.o.now.rank x k c.args.logs.now c.args.task.now refl sound)))

pub returns-in_ok-trunc-in-Trunc-clause-whole : goal.returns-in_ok-trunc-in-Trunc-clause-whole
returns-in_ok-trunc-in-Trunc-clause-whole g c = rw c.in-Trunc.is (λ lines sound.
    let x = owned_in c.args.book.now c.args.gfid c.args.o.now.path c.args.board.now in
    let k = own_of c.args.client.now c.args.o.now.path lines in
    whole-then c.args.s.now c.args.n (Trunc c.in-Trunc.size) c.args.o.now.rank x k c.args.logs.now c.args.task.now refl sound
    (owned_in c.trunc.new.book c.args.gfid c.args.o.now.path c.args.board.now) _ c.in_ok-trunc-in-Trunc.field-0 c.trunc.new.logs
    (c.in_ok-trunc-in-Trunc.ensures.done c.args.s.now lines (told_in c.args.board.now c.args.o.now.path) c.args.o.now.rank
    (sound-idle c.args.s.now c.args.n (Trunc c.in-Trunc.size) c.args.o.now.rank x k c.args.logs.now c.args.task.now refl sound)).sound)

pub returns-in_ok-laminate-in-Laminate-clause-follows : goal.returns-in_ok-laminate-in-Laminate-clause-follows
returns-in_ok-laminate-in-Laminate-clause-follows g c = rw c.in-Laminate.is (λ lines sound.
    let x = owned_in c.args.book.now c.args.gfid c.args.o.now.path c.args.board.now in
    let k = own_of c.args.client.now c.args.o.now.path lines in
    follows-line c.args.s.now c.args.n Laminate c.args.o.now.rank x k c.args.logs.now c.args.task.now refl sound
    (owned_in c.laminate.new.book c.args.gfid c.args.o.now.path c.args.board.now) _ c.in_ok-laminate-in-Laminate.field-0 c.laminate.new.logs
    (c.in_ok-laminate-in-Laminate.ensures.done c.args.s.now lines (told_in c.args.board.now c.args.o.now.path) c.args.o.now.rank
    (sound-idle c.args.s.now c.args.n Laminate c.args.o.now.rank x k c.args.logs.now c.args.task.now refl sound)))

pub returns-in_ok-laminate-in-Laminate-clause-whole : goal.returns-in_ok-laminate-in-Laminate-clause-whole
returns-in_ok-laminate-in-Laminate-clause-whole g c = rw c.in-Laminate.is (λ lines sound.
    let x = owned_in c.args.book.now c.args.gfid c.args.o.now.path c.args.board.now in
    let k = own_of c.args.client.now c.args.o.now.path lines in
    whole-then c.args.s.now c.args.n Laminate c.args.o.now.rank x k c.args.logs.now c.args.task.now refl sound
    (owned_in c.laminate.new.book c.args.gfid c.args.o.now.path c.args.board.now) _ c.in_ok-laminate-in-Laminate.field-0 c.laminate.new.logs
    (c.in_ok-laminate-in-Laminate.ensures.done c.args.s.now lines (told_in c.args.board.now c.args.o.now.path) c.args.o.now.rank
    (sound-idle c.args.s.now c.args.n Laminate c.args.o.now.rank x k c.args.logs.now c.args.task.now refl sound)).sound)

pub returns-in_ok-unlink-in-Unlink-clause-follows : goal.returns-in_ok-unlink-in-Unlink-clause-follows
returns-in_ok-unlink-in-Unlink-clause-follows g c = rw c.in-Unlink.is (λ lines sound.
    let x = owned_in c.args.book.now c.args.gfid c.args.o.now.path c.args.board.now in
    let k = own_of c.args.client.now c.args.o.now.path lines in
    follows-line c.args.s.now c.args.n Unlink c.args.o.now.rank x k c.args.logs.now c.args.task.now refl sound
    (owned_in c.unlink.new.book c.args.gfid c.args.o.now.path c.args.board.now) _ c.in_ok-unlink-in-Unlink.field-0 c.unlink.new.logs
    (c.in_ok-unlink-in-Unlink.ensures.done c.args.s.now lines (told_in c.args.board.now c.args.o.now.path) c.args.o.now.rank
    (sound-idle c.args.s.now c.args.n Unlink c.args.o.now.rank x k c.args.logs.now c.args.task.now refl sound)))

pub returns-in_ok-unlink-in-Unlink-clause-whole : goal.returns-in_ok-unlink-in-Unlink-clause-whole
returns-in_ok-unlink-in-Unlink-clause-whole g c = rw c.in-Unlink.is (λ lines sound.
    let x = owned_in c.args.book.now c.args.gfid c.args.o.now.path c.args.board.now in
    let k = own_of c.args.client.now c.args.o.now.path lines in
    whole-then c.args.s.now c.args.n Unlink c.args.o.now.rank x k c.args.logs.now c.args.task.now refl sound
    (owned_in c.unlink.new.book c.args.gfid c.args.o.now.path c.args.board.now) _ c.in_ok-unlink-in-Unlink.field-0 c.unlink.new.logs
    (c.in_ok-unlink-in-Unlink.ensures.done c.args.s.now lines (told_in c.args.board.now c.args.o.now.path) c.args.o.now.rank
    (sound-idle c.args.s.now c.args.n Unlink c.args.o.now.rank x k c.args.logs.now c.args.task.now refl sound)).sound)

pub returns-in_ok-write-in-Write-clause-follows : goal.returns-in_ok-write-in-Write-clause-follows
returns-in_ok-write-in-Write-clause-follows g c = rw c.in-Write.is (λ lines sound.
    let x = owned_in c.args.book.now c.args.gfid c.args.o.now.path c.args.board.now in
    let k = own_of c.args.client.now c.args.o.now.path lines in
    event-idle c.args.s.now c.args.n (Write c.in-Write.off c.in-Write.text) c.args.o.now.rank x k c.args.logs.now c.args.task.now refl sound x _
    c.in_ok-write-in-Write.field-0 c.write.new.logs (c.in_ok-write-in-Write.ensures.follows lines x.path
    (sound-idle c.args.s.now c.args.n (Write c.in-Write.off c.in-Write.text) c.args.o.now.rank x k c.args.logs.now c.args.task.now refl sound)))

pub returns-in_ok-write-in-Write-clause-whole : goal.returns-in_ok-write-in-Write-clause-whole
returns-in_ok-write-in-Write-clause-whole g c = rw c.in-Write.is (λ lines sound.
    let x = owned_in c.args.book.now c.args.gfid c.args.o.now.path c.args.board.now in
    let k = own_of c.args.client.now c.args.o.now.path lines in
    whole-then c.args.s.now c.args.n (Write c.in-Write.off c.in-Write.text) c.args.o.now.rank x k c.args.logs.now c.args.task.now refl sound x _
    c.in_ok-write-in-Write.field-0 c.write.new.logs (c.in_ok-write-in-Write.ensures.sound lines x.path
    (sound-idle c.args.s.now c.args.n (Write c.in-Write.off c.in-Write.text) c.args.o.now.rank x k c.args.logs.now c.args.task.now refl sound)))

pub returns-in-Read-clause-follows : goal.returns-in-Read-clause-follows
returns-in-Read-clause-follows g c = rw c.in-Read.is (λ lines sound.
    c.read.ensures.follows c.args.s.now lines (told_in c.args.board.now c.args.o.now.path) c.args.n c.args.o.now.rank
    (record { whole = sound.whole; stand = sound.stand; memory = sound.memory }))

pub returns-in-Read-clause-whole : goal.returns-in-Read-clause-whole
returns-in-Read-clause-whole g c = rw c.in-Read.is (λ lines sound.
    c.read.ensures.whole c.args.s.now lines (told_in c.args.board.now c.args.o.now.path) c.args.n
    (record { whole = sound.whole; stand = sound.stand; memory = sound.memory }))
