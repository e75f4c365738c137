-- The script of five lines, event by event, worked out by hand.
use Rattle.fs_types.proofs.Common.{◌≡◌, ℕ, List, [], ◌∷◌, map, Option, Some, None, refl, false, codes}
use Rattle.fs_script.specs.Vocabulary.{Answer, Piece}
use Rattle.core_machine.specs.Vocabulary.{Doing, Reading, nothing, reading, Moment, ready, report_of, Turn, step}
use Rattle.fs_script.proofs.CallerLemmas.{five_lines, path_a}
use Rattle.fs_types.specs.declared.answer.Answer.TheVariants as answers
use Rattle.fs_types.specs.declared.answer.Body.TheVariants as bodies

-- the one client is at this place of its program and in the midst of that, these answers were printed, and these lines were
-- committed; its log has these slots
abbrev moment_at : ℕ → Doing → List (ℕ × Answer) → List ℕ → List (Option Piece) → Moment
moment_at place doing given committed log = record {
  job = five_lines;
  clients = record { place = place; doing = doing } ∷ [];
  answers = given;
  journals = (path_a, committed) ∷ [];
  logs = log ∷ [];
  spent = false;
}

abbrev empty_log : List (Option Piece)
empty_log = None ∷ None ∷ None ∷ None ∷ []

-- the one piece that is written, in its slot
abbrev filled_log : List (Option Piece)
filled_log = Some (record { line = 3; part = 0 }) ∷ None ∷ None ∷ None ∷ []

abbrev until_sync : List (ℕ × Answer)
until_sync = (2, answers.Done 1) ∷ (3, answers.Wrote 1) ∷ (4, answers.Done 2) ∷ []

-- the read that looked up version 2, and fetched so many runs of its bytes
abbrev read_with : ℕ → Reading
read_with fetched = record {
  version = 2;
  marks = map (λ i. Some (record { line = 3; part = 0; place = i })) (1 ∷ 2 ∷ 3 ∷ []);
  fetched = fetched;
}

abbrev pub start : Moment
start = moment_at 0 nothing [] [] empty_log

abbrev pub created : Moment
created = moment_at 1 nothing ((2, answers.Done 1) ∷ []) (2 ∷ []) empty_log

abbrev pub wrote : Moment
wrote = moment_at 2 nothing ((2, answers.Done 1) ∷ (3, answers.Wrote 1) ∷ []) (2 ∷ []) filled_log

abbrev pub synced : Moment
synced = moment_at 3 nothing until_sync (2 ∷ 4 ∷ []) filled_log

abbrev pub looked_up : Moment
looked_up = moment_at 3 (reading (read_with 0)) until_sync (2 ∷ 4 ∷ []) filled_log

abbrev pub fetched : Moment
fetched = moment_at 3 (reading (read_with 1)) until_sync (2 ∷ 4 ∷ []) filled_log

abbrev pub ended : Moment
ended = moment_at 4 nothing
    ((2, answers.Done 1) ∷ (3, answers.Wrote 1) ∷ (4, answers.Done 2) ∷ (5, answers.Shown 2 3 (bodies.Hex (codes "ell"))) ∷ [])
    (2 ∷ 4 ∷ []) filled_log

-- the one client's
abbrev pub turn : Turn
turn = record { client = 0 }

ready_at_start : ready start ≡ 0 ∷ []
ready_at_start = refl

pub create_is : step start turn ≡ created
create_is = refl

pub write_is : step created turn ≡ wrote
write_is = refl

pub sync_is : step wrote turn ≡ synced
sync_is = refl

pub lookup_is : step synced turn ≡ looked_up
lookup_is = refl

-- the three bytes are one run
pub fetch_is : step looked_up turn ≡ fetched
fetch_is = refl

pub finish_is : step fetched turn ≡ ended
finish_is = refl

none_ready_at_end : ready ended ≡ []
none_ready_at_end = refl

-- one slot is held and three are free
slots_at_end : (report_of ended).slots ≡ record { rank = 0; held = 1; free = 3; faults = 0 } ∷ []
slots_at_end = refl
