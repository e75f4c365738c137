-- A write that finds no slot free while a read holds one of two, and one that finds one once the read is done.
use Rattle.fs_types.proofs.Common.{◌≡◌, ℕ, List, [], ◌∷◌, ◌++◌, Option, Some, None, refl, false, codes, arith}
use Rattle.fs_script.specs.Vocabulary.{Answer, Job, Piece, Fits}
use Rattle.core_machine.specs.Vocabulary.{OpLine, Text, nothing, Client, Moment, answering, journal, ready, report_of, event_at}
use Rattle.fs_script.proofs.CallerLemmas.{path_a, on_a}
use Rattle.core_machine.proofs.SlotCases.Jobs.{job_with, writes_bar, piece, read_with, client, run, holds, slot_line}
use Rattle.fs_types.specs.declared.answer.Answer.TheVariants as answers
use Rattle.fs_types.specs.declared.answer.Body.TheVariants as bodies
use Rattle.fs_script.specs.declared.line.Op.TheVariants as ops

-- client 0 tries twice to write bar: lines 8 and 9
abbrev two : Job
two = job_with 2 (writes_bar ∷ writes_bar ∷ [])

abbrev moment_at : Client → Client → List (ℕ × Answer) → List ℕ → List (Option Piece) → Moment
moment_at first second given committed log = record {
  job = two;
  clients = first ∷ second ∷ [];
  answers = given;
  journals = (path_a, committed) ∷ [];
  logs = log ∷ (None ∷ None ∷ []) ∷ [];
  spent = false;
}

abbrev start : Moment
start = moment_at (client 0 nothing) (client 0 nothing) [] [] (None ∷ None ∷ [])

abbrev until_foo : List (ℕ × Answer)
until_foo =
    (2, answers.Done 1) ∷ (3, answers.Wrote 1) ∷ (4, answers.Done 2) ∷ (6, answers.Wrote 1) ∷ (7, answers.Done 3) ∷ []

abbrev opened : ℕ × Answer
opened = (10, answers.Done 2)

abbrev shown : ℕ × Answer
shown = (11, answers.Shown 2 3 (bodies.Hex (codes "abc")))

-- foo is committed over abc while the read of abc is under way: both slots are held
abbrev synced_foo : Moment
synced_foo = moment_at (client 5 nothing) (client 1 (read_with 0)) (until_foo ++ opened ∷ []) (2 ∷ 4 ∷ 7 ∷ []) (piece 3 ∷ piece 6 ∷ [])

synced_foo_is : run (0 ∷ 0 ∷ 0 ∷ 1 ∷ 1 ∷ 0 ∷ 0 ∷ []) start ≡ synced_foo
synced_foo_is = refl

both_held : holds synced_foo ≡ 1 ∷ 1 ∷ []
both_held = refl

-- ---- bar is written while the read is under way

abbrev refused : Moment
refused = moment_at (client 6 nothing) (client 1 (read_with 0)) (until_foo ++ (8, answers.NoSpace 1 0) ∷ opened ∷ []) (2 ∷ 4 ∷ 7 ∷ [])
    (piece 3 ∷ piece 6 ∷ [])

no_space : run (0 ∷ []) synced_foo ≡ refused
no_space = refl

-- the read fetches and finishes, and its slot is free
abbrev read_ends : Moment
read_ends = moment_at (client 6 nothing) (client 2 nothing) (until_foo ++ (8, answers.NoSpace 1 0) ∷ opened ∷ shown ∷ []) (2 ∷ 4 ∷ 7 ∷ [])
    (None ∷ piece 6 ∷ [])

read_ends_is : run (1 ∷ 1 ∷ []) refused ≡ read_ends
read_ends_is = refl

-- the second try takes it
abbrev ended : Moment
ended = moment_at (client 7 nothing) (client 2 nothing)
    (until_foo ++ (8, answers.NoSpace 1 0) ∷ (9, answers.Wrote 1) ∷ opened ∷ shown ∷ []) (2 ∷ 4 ∷ 7 ∷ []) (piece 9 ∷ piece 6 ∷ [])

second_try : run (0 ∷ []) read_ends ≡ ended
second_try = refl

none_ready : ready ended ≡ []
none_ready = refl

slots_at_end : (report_of ended).slots ≡ slot_line 0 2 0 ∷ slot_line 1 0 2 ∷ []
slots_at_end = refl

-- ---- the read is done before bar is written

abbrev read_done : Moment
read_done = moment_at (client 5 nothing) (client 2 nothing) (until_foo ++ opened ∷ shown ∷ []) (2 ∷ 4 ∷ 7 ∷ []) (None ∷ piece 6 ∷ [])

read_done_is : run (1 ∷ 1 ∷ []) synced_foo ≡ read_done
read_done_is = refl

one_held : holds read_done ≡ 0 ∷ 1 ∷ []
one_held = refl

-- the first try takes the slot, and the second finds none
abbrev other_end : Moment
other_end = moment_at (client 7 nothing) (client 2 nothing)
    (until_foo ++ (8, answers.Wrote 1) ∷ (9, answers.NoSpace 1 0) ∷ opened ∷ shown ∷ []) (2 ∷ 4 ∷ 7 ∷ []) (piece 8 ∷ piece 6 ∷ [])

first_try : run (0 ∷ 0 ∷ []) read_done ≡ other_end
first_try = refl

abbrev bar : OpLine
bar = on_a (ops.Write 0 (Text (codes "bar")))

-- where the one slot that it needs is free, a write isn't refused, and such an answer doesn't fit
not_refused : (event_at read_done 8 bar).answer ≡ Some (answers.NoSpace 1 1) → ⊥
not_refused e = absurd cc

refusal_does_not_fit : Fits [] two (answering read_done) (journal read_done path_a) 8 bar (answers.NoSpace 1 1) → ⊥
refusal_does_not_fit fits = omega (arith, fits.answer.few)
