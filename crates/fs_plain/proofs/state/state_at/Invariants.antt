use Rattle.std.proofs.Common.{◌≡◌, drop, None}
use Rattle.fs_types.specs.AnswerList.{answer_at}
use Rattle.fs_script.specs.Payload.{bytes_of}
use Rattle.fs_script.specs.Effect.{after_all}
use Rattle.fs_plain.proofs.state.state_at.Given as goal

-- the lines that are left make of the file so far what all lines make of none
abbrev pub invariant-loop-n : goal.invariant-loop-n
invariant-loop-n l =
    let after = after_all l.s (bytes_of l.s) (answer_at l.a.list) in
    after (drop l.n-index l.j) l.file ≡ after l.j None
