use Rattle.std.proofs.Common.{◌≡◌, ◌∷◌, [], sym, ◌∙◌, ap}
use Rattle.fs_script.specs.Reading.Headers.{shape_of_words}
use Rattle.fs_script.proofs.Reading.Words.{three_are}
use Rattle.fs_script.proofs.read.header.shape_of_words.Goals as goal

pub returns : goal.returns
returns c =
    let first = rw c.in_ok-servers.ensures.ok_part at c.next.ensures.steps in
    let second = rw c.in_ok-clients.ensures.ok_part at c.next-2.ensures.steps in
    let found = rw c.in_ok-chunk.ensures.ok_part at c.three.ensures in
    let three = three_are _ _ (sym found) in
    let words : c.args.words ≡ c.in_ok-servers.servers.now ∷ c.in_ok-clients.clients.now ∷ c.in_ok-chunk.chunk.now
    ∷ c.in_ok-chunk.shmem.now ∷ c.in_ok-chunk.spill.now ∷ [] = cc in
    c.shape.ensures ∙ ap shape_of_words (sym words)
