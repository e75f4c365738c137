-- Picks at single seeds, and a job of two clients under two lists of picks, worked out by hand.
use Rattle.std.proofs.Common.{◌≡◌, [], ◌∷◌, List, ℕ, Option, Some, None, false, map, refl}
use Rattle.fs_types.specs.declared.answer.Answer.{Answer}
use Rattle.fs_types.specs.declared.answer.Answer.TheVariants as answers
use Rattle.fs_script.specs.Vocabulary.{Piece, SlotLine}
use Rattle.fs_script.proofs.CallerLemmas.{path_a}
use Rattle.core_machine.specs.Moment.{Moment, fresh_client, ready}
use Rattle.core_machine.proofs.TwoClients.{two_clients}
use Rattle.core_machine.specs.MomentReport.{report_of}
use Rattle.core_run.specs.ExactSlots.{exact_slots}
use Rattle.core_run.specs.Picks.{first_picks}
use Rattle.core_run.specs.PickedRun.{picked, moment_after}

picks_of_seed_0 : first_picks 0 3 ≡ 0 ∷ 0 ∷ 0 ∷ []
unfolding first_picks
picks_of_seed_0 = refl

-- the state after one step is 6364136223846793006
picks_of_seed_1 : first_picks 1 1 ≡ 1481765933 ∷ []
unfolding first_picks
picks_of_seed_1 = refl

-- of clients 0 and 2, which alone are ready, pick 5 chooses the second
second_of_two : picked 5 (0 ∷ 2 ∷ []) ≡ Some 2
second_of_two = refl

none_of_none : picked 5 [] ≡ None
none_of_none = refl

abbrev empty_log : List (Option Piece)
empty_log = None ∷ None ∷ None ∷ None ∷ []

abbrev start : Moment
start = record {
  job = two_clients;
  clients = fresh_client ∷ fresh_client ∷ [];
  answers = [];
  journals = (path_a, []) ∷ [];
  logs = empty_log ∷ empty_log ∷ [];
  spent = false;
}

-- the four answers of the job, where client 1 finds this version
abbrev found_at : ℕ → List (ℕ × Answer)
found_at v = (2, answers.Done 1) ∷ (4, answers.Wrote 1) ∷ (5, answers.Exists v) ∷ (6, answers.Done 2) ∷ []

-- without picks client 0 goes first until it has no line left
without_picks : (moment_after [] start 4).answers ≡ found_at 2
without_picks = refl

-- client 0 alone is ready at event 0; pick 1 then chooses client 1 of two, and pick 0 and pick 1 client 0, which is alone again
by_two_picks : (moment_after (0 ∷ 1 ∷ []) start 4).answers ≡ found_at 1
by_two_picks = refl

ended : ready (moment_after (0 ∷ 1 ∷ []) start 4) ≡ []
ended = refl

-- from then on the run stays
stays : (moment_after (0 ∷ 1 ∷ []) start 6).answers ≡ found_at 1
stays = refl

-- ---- slots

-- in the end client 0 has one live piece, and client 1 has none
abbrev slots_in_the_end : List SlotLine
slots_in_the_end =
    record { rank = 0; held = 1; free = 3; faults = 0 } ∷ record { rank = 1; held = 0; free = 4; faults = 0 } ∷ []

slots_reported : (report_of (moment_after (0 ∷ 1 ∷ []) start 4)).slots ≡ slots_in_the_end
slots_reported = refl

slots_exact : map (exact_slots two_clients (report_of (moment_after (0 ∷ 1 ∷ []) start 4))) (0 ∷ 1 ∷ []) ≡ slots_in_the_end
slots_exact = refl
