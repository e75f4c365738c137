use Rattle.std.proofs.Common.{arith, ap, length, take, drop, ◌≡◌, ◌+◌, ◌-◌, ◌∙◌, length-drop}
use Rattle.std.proofs.lemmas.List.{length-take}
use Rattle.fs_types.specs.Pieces.{Fragment}
use Rattle.fs_script.specs.Vocabulary.{part}
use Rattle.core_machine.proofs.FetchedBytes.{put-fetched}
use Rattle.core_machine.proofs.fetching.fetch_run.Goals as goal

pub returns-clause-put : goal.returns-clause-put
returns-clause-put g c = λ s held k lt.
    let at : c.run.inside.at ≡ c.args.run.now.at = ap (λ (f : Fragment). f.at) c.run.view_is in
    let len : c.run.inside.len ≡ c.args.run.now.len = ap (λ (f : Fragment). f.len) c.run.view_is in
    let from : c.run.inside.from ≡ c.args.run.now.from = ap (λ (f : Fragment). f.from) c.run.view_is in
    let whole = part s c.args.run.now.piece.line c.args.run.now.piece.part in
    let size : c.args.hold.now.bytes ≡ length whole = rw c.requires.piece at held.bytes in
    let given = c.fetch.ensures.given s held in
    let within = c.requires.within in
    let end = c.requires.end in
    let size_out : length (take (c.args.run.now.at + c.args.run.now.len - c.args.run.now.at) (drop c.args.run.now.at c.args.bytes.now))
    ≡ c.args.run.now.len =
    length-take _ (drop c.args.run.now.at c.args.bytes.now)
    ∙ (let rest = length-drop c.args.run.now.at c.args.bytes.now in omega (arith, rest, end)) in
    rw (at, len) (put-fetched c.args.bytes.now c.fetch.new.out whole c.args.run.now.at c.args.run.now.len c.args.run.now.from _ k
    (rw (c.requires.piece, from, at, len) at given) size_out (omega (arith, within, size)) end lt)
