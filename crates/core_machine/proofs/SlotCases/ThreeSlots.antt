-- A read that goes on while its bytes are overwritten, event by event, in logs of three slots.
use Rattle.fs_types.proofs.Common.{◌≡◌, ℕ, List, [], ◌∷◌, ◌++◌, Option, None, refl, false, codes}
use Rattle.fs_script.specs.Vocabulary.{Answer, Job, Piece}
use Rattle.core_machine.specs.Vocabulary.{nothing, Client, Moment, ready, report_of, step}
use Rattle.fs_script.proofs.CallerLemmas.{path_a}
use Rattle.core_machine.proofs.SlotCases.Jobs.{job_with, writes_bar, piece, read_with, client, turn_of, holds, slot_line}
use Rattle.fs_types.specs.declared.answer.Answer.TheVariants as answers
use Rattle.fs_types.specs.declared.answer.Body.TheVariants as bodies

abbrev three : Job
three = job_with 3 (writes_bar ∷ [])

-- both clients, the answers, the commits, and the slots of client 0; those of client 1 are free
abbrev moment_at : Client → Client → List (ℕ × Answer) → List ℕ → List (Option Piece) → Moment
moment_at first second given committed log = record {
  job = three;
  clients = first ∷ second ∷ [];
  answers = given;
  journals = (path_a, committed) ∷ [];
  logs = log ∷ (None ∷ None ∷ None ∷ []) ∷ [];
  spent = false;
}

abbrev first_answers : List (ℕ × Answer)
first_answers = (2, answers.Done 1) ∷ (3, answers.Wrote 1) ∷ (4, answers.Done 2) ∷ []

abbrev start : Moment
start = moment_at (client 0 nothing) (client 0 nothing) [] [] (None ∷ None ∷ None ∷ [])

abbrev created : Moment
created = moment_at (client 1 nothing) (client 0 nothing) ((2, answers.Done 1) ∷ []) (2 ∷ []) (None ∷ None ∷ None ∷ [])

abbrev wrote_abc : Moment
wrote_abc =
    moment_at (client 2 nothing) (client 0 nothing) ((2, answers.Done 1) ∷ (3, answers.Wrote 1) ∷ [])
    (2 ∷ []) (piece 3 ∷ None ∷ None ∷ [])

abbrev synced_abc : Moment
synced_abc = moment_at (client 3 nothing) (client 0 nothing) first_answers (2 ∷ 4 ∷ []) (piece 3 ∷ None ∷ None ∷ [])

abbrev opened : Moment
opened =
    moment_at (client 3 nothing) (client 1 nothing) (first_answers ++ (9, answers.Done 2) ∷ [])
    (2 ∷ 4 ∷ []) (piece 3 ∷ None ∷ None ∷ [])

abbrev looked_up : Moment
looked_up =
    moment_at (client 3 nothing) (client 1 (read_with 0)) (first_answers ++ (9, answers.Done 2) ∷ [])
    (2 ∷ 4 ∷ []) (piece 3 ∷ None ∷ None ∷ [])

abbrev wrote_foo : Moment
wrote_foo =
    moment_at (client 4 nothing) (client 1 (read_with 0)) (first_answers ++ (6, answers.Wrote 1) ∷ (9, answers.Done 2) ∷ [])
    (2 ∷ 4 ∷ [])
    (piece 3 ∷ piece 6 ∷ None ∷ [])

abbrev later_answers : List (ℕ × Answer)
later_answers = first_answers ++ (6, answers.Wrote 1) ∷ (7, answers.Done 3) ∷ []

abbrev synced_foo : Moment
synced_foo = moment_at (client 5 nothing) (client 1 (read_with 0)) (later_answers ++ (9, answers.Done 2) ∷ []) (2 ∷ 4 ∷ 7 ∷ [])
    (piece 3 ∷ piece 6 ∷ None ∷ [])

abbrev wrote_bar : Moment
wrote_bar =
    moment_at (client 6 nothing) (client 1 (read_with 0)) (later_answers ++ (8, answers.Wrote 1) ∷ (9, answers.Done 2) ∷ [])
    (2 ∷ 4 ∷ 7 ∷ [])
    (piece 3 ∷ piece 6 ∷ piece 8 ∷ [])

abbrev fetched : Moment
fetched =
    moment_at (client 6 nothing) (client 1 (read_with 1)) (later_answers ++ (8, answers.Wrote 1) ∷ (9, answers.Done 2) ∷ [])
    (2 ∷ 4 ∷ 7 ∷ [])
    (piece 3 ∷ piece 6 ∷ piece 8 ∷ [])

abbrev finished : Moment
finished = moment_at (client 6 nothing) (client 2 nothing)
    (later_answers ++ (8, answers.Wrote 1) ∷ (9, answers.Done 2) ∷ (10, answers.Shown 2 3 (bodies.Hex (codes "abc"))) ∷ []) (2 ∷ 4 ∷ 7 ∷ [])
    (None ∷ piece 6 ∷ piece 8 ∷ [])

create_is : step start (turn_of 0) ≡ created
create_is = refl

-- the piece is pending, and then live
write_abc_is : step created (turn_of 0) ≡ wrote_abc
write_abc_is = refl

abc_is_pending : holds wrote_abc ≡ 1 ∷ 0 ∷ 0 ∷ []
abc_is_pending = refl

sync_abc_is : step wrote_abc (turn_of 0) ≡ synced_abc
sync_abc_is = refl

abc_is_live : holds synced_abc ≡ 1 ∷ 0 ∷ 0 ∷ []
abc_is_live = refl

-- the second phase begins
both_ready : ready synced_abc ≡ 0 ∷ 1 ∷ []
both_ready = refl

open_is : step synced_abc (turn_of 1) ≡ opened
open_is = refl

-- the read names the piece, which is live too
lookup_is : step opened (turn_of 1) ≡ looked_up
lookup_is = refl

abc_is_named : holds looked_up ≡ 2 ∷ 0 ∷ 0 ∷ []
abc_is_named = refl

write_foo_is : step looked_up (turn_of 0) ≡ wrote_foo
write_foo_is = refl

foo_is_pending : holds wrote_foo ≡ 2 ∷ 1 ∷ 0 ∷ []
foo_is_pending = refl

-- it is overwritten, and the read alone holds it
sync_foo_is : step wrote_foo (turn_of 0) ≡ synced_foo
sync_foo_is = refl

abc_is_read : holds synced_foo ≡ 1 ∷ 1 ∷ 0 ∷ []
abc_is_read = refl

write_bar_is : step synced_foo (turn_of 0) ≡ wrote_bar
write_bar_is = refl

all_held : holds wrote_bar ≡ 1 ∷ 1 ∷ 1 ∷ []
all_held = refl

fetch_is : step wrote_bar (turn_of 1) ≡ fetched
fetch_is = refl

still_all_held : holds fetched ≡ 1 ∷ 1 ∷ 1 ∷ []
still_all_held = refl

-- the read shows what it looked up, and its slot is free
finish_is : step fetched (turn_of 1) ≡ finished
finish_is = refl

two_held : holds finished ≡ 0 ∷ 1 ∷ 1 ∷ []
two_held = refl

none_ready : ready finished ≡ []
none_ready = refl

slots_at_end : (report_of finished).slots ≡ slot_line 0 2 1 ∷ slot_line 1 0 3 ∷ []
slots_at_end = refl
