-- A path with two lives, worked out by hand: its file is cut, taken away with a write pending, and made again. What is pending,
-- the file at each version, what the lines may print, the whole journal, which is legal, and journals that aren't: in which a line
-- stands where there is no file, or already one, is left out, stands twice, or stands before an earlier one of its client.
use Rattle.fs_types.proofs.Common.{◌≡◌, ℕ, zero, suc, ◌+◌, ◌<◌, ◌++◌, ◌==◌, List, [], ◌∷◌, slice_get, slice_index_or, Some, None, Bool}
use Rattle.fs_types.proofs.Common.{true, false, not, is_some, filter, range_with_len, Contains, All, refl, sym, ap, ◌∙◌, subst₂, true≢false}
use Rattle.fs_types.proofs.Common.{arith, codes, list_all, nat_le, leb-true, and_parts, AllByRecursion, ⊤, none-some, same_Some}
use Rattle.fs_types.proofs.Common.{All-contains, AllPass-from_list_all}
use Rattle.fs_script.specs.Vocabulary.{Answer, answer_at, OpLine, Text, Job, op_at, File, Answering, pending_at, is_enabled, state, front}
use Rattle.fs_script.specs.Vocabulary.{IsNoLater, Fits, committed, IsLegalEntry, IsLegalJournal, enabled_in}
use Rattle.fs_script.proofs.FiveLines.{path_a, on_a}
use Rattle.fs_script.proofs.Fronts.{phase-rises}
use Rattle.fs_script.proofs.JournalLines.{commit_in-within}
use Rattle.fs_script.proofs.PlainLists.{passing-rise, Contains-passing}
use Rattle.fs_script.proofs.TwoPhases.{other_on_a}
use Rattle.fs_types.specs.declared.answer.Answer.TheVariants as answers
use Rattle.fs_types.specs.declared.answer.Body.TheVariants as bodies
use Rattle.fs_script.specs.declared.line.Line.TheVariants as lines
use Rattle.fs_script.specs.declared.line.Op.TheVariants as ops

abbrev two_lives : Job
two_lives = record {
  shape = record { servers = 1; clients = 2; chunk = 64; shmem = 4; spill = 0 };
  lines =
      lines.Op (on_a ops.Create)
      ∷ lines.Op (on_a (ops.Write 0 (Text (codes "hello"))))
      ∷ lines.Op (on_a ops.Sync)
      ∷ lines.Op (other_on_a ops.Open)
      ∷ lines.Op (on_a (ops.Write 3 (Text (codes "xyz"))))
      ∷ lines.Op (on_a (ops.Trunc 4))
      ∷ lines.Op (on_a (ops.Trunc 6))
      ∷ lines.Op (on_a ops.Sync)
      ∷ lines.Op (on_a (ops.Write 0 (Text (codes "lost"))))
      ∷ lines.Op (on_a ops.Unlink)
      ∷ lines.Op (other_on_a (ops.Read 0 9 false))
      ∷ lines.Op (on_a ops.Create)
      ∷ lines.Op (on_a (ops.Write 1 (Text (codes "b"))))
      ∷ lines.Op (on_a ops.Sync)
      ∷ [];
}

abbrev two_lives_answers : Answering
two_lives_answers = answer_at (
    (2, answers.Done 1) ∷ (3, answers.Wrote 1) ∷ (4, answers.Done 2) ∷ (5, answers.Done 2) ∷ (6, answers.Wrote 1)
    ∷ (7, answers.Done 3) ∷ (8, answers.Done 4) ∷ (9, answers.Done 4) ∷ (10, answers.Wrote 1) ∷ (11, answers.Done 5)
    ∷ (12, answers.NoEnt 5) ∷ (13, answers.Done 6) ∷ (14, answers.Wrote 1) ∷ (15, answers.Done 7) ∷ [])

abbrev two_lives_journal : List ℕ
two_lives_journal = 2 ∷ 4 ∷ 7 ∷ 8 ∷ 11 ∷ 13 ∷ 15 ∷ []

-- ---- pending writes

trunc_takes_in_the_write : pending_at two_lives two_lives_answers 7 ≡ 6 ∷ []
trunc_takes_in_the_write = refl

nothing_pending_after_a_trunc : pending_at two_lives two_lives_answers 9 ≡ []
nothing_pending_after_a_trunc = refl

write_pending_at_the_unlink : pending_at two_lives two_lives_answers 11 ≡ 10 ∷ []
write_pending_at_the_unlink = refl

nothing_pending_after_an_unlink : pending_at two_lives two_lives_answers 13 ≡ []
nothing_pending_after_an_unlink = refl

-- a trunc that finds its path not open takes nothing in
trunc_without_open_leaves_it_pending : pending_at two_lives
    (answer_at ((2, answers.Done 1) ∷ (6, answers.Wrote 1) ∷ (7, answers.BadF) ∷ [])) 8 ≡ 6 ∷ []
trunc_without_open_leaves_it_pending = refl

-- ---- the file at each version

abbrev file_at : ℕ → File ℕ
file_at v = state two_lives two_lives_answers two_lives_journal v

-- hello with xyz put over its end, and then its first four bytes
cut_after_what_was_pending : file_at 3 ≡ Some (record { cells = codes "helx"; frozen = false })
cut_after_what_was_pending = refl

cut_to_more_bytes : file_at 4 ≡ Some (record { cells = codes "helx" ++ 0 ∷ 0 ∷ []; frozen = false })
cut_to_more_bytes = refl

no_file_after_the_unlink : file_at 5 ≡ None
no_file_after_the_unlink = refl

empty_in_its_second_life : file_at 6 ≡ Some (record { cells = []; frozen = false })
empty_in_its_second_life = refl

-- without the write that was pending at the unlink
written_in_its_second_life : file_at 7 ≡ Some (record { cells = 0 ∷ codes "b"; frozen = false })
written_in_its_second_life = refl

-- ---- versions go on rising

unlink_has_its_place : committed two_lives two_lives_answers path_a 11 ≡ Some 5
unlink_has_its_place = refl

sync_of_nothing_has_none : committed two_lives two_lives_answers path_a 9 ≡ None
sync_of_nothing_has_none = refl

second_create_has_its_place : committed two_lives two_lives_answers path_a 13 ≡ Some 6
second_create_has_its_place = refl

front_after_the_unlink : front two_lives two_lives_answers two_lives_journal 0 path_a 13 ≡ 5
front_after_the_unlink = refl

-- ---- what the lines may print

abbrev Fits-lives : ℕ → OpLine → Answer → Type 0
Fits-lives n o a = Fits [] two_lives two_lives_answers two_lives_journal n o a

-- lines up to line n are none later than it
pub none_later : (s : Job) (r n : ℕ) (ms : List ℕ) → list_all (λ m. nat_le m n) ms ≡ true → AllByRecursion (λ m. IsNoLater s r n m) ms
none_later s r n [] are = tt
none_later s r n (m ∷ ms) are =
    let both = and_parts (nat_le m n) (list_all (λ k. nat_le k n) ms) are in
    let le = leb-true m n both.0 in
    (record { phase = phase-rises s m n le; own = λ _. le }, none_later s r n ms both.1)

trunc_done : Fits-lives 7 (on_a (ops.Trunc 4)) (answers.Done 3)
trunc_done = record {
  opened = refl;
  version = record {
    front = omega arith;
    length = omega arith;
    no_later = none_later two_lives 0 7 (2 ∷ 4 ∷ 7 ∷ []) refl;
  };
  answer = refl;
}

-- the trunc left nothing to commit
sync_finds_the_file : Fits-lives 9 (on_a ops.Sync) (answers.Done 4)
sync_finds_the_file = record {
  opened = refl;
  version = record {
    front = omega arith;
    length = omega arith;
    no_later = none_later two_lives 0 9 (2 ∷ 4 ∷ 7 ∷ 8 ∷ []) refl;
  };
  answer = (refl, refl);
}

-- between the two lives another client finds no file
read_between_finds_no_file : Fits-lives 12 (other_on_a (ops.Read 0 9 false)) (answers.NoEnt 5)
read_between_finds_no_file = record {
  opened = refl;
  version = record {
    front = omega arith;
    length = omega arith;
    no_later = none_later two_lives 1 12 (2 ∷ 4 ∷ 7 ∷ 8 ∷ 11 ∷ []) refl;
  };
  answer = (refl, tt, refl);
}

read_between_shows_nothing : Fits-lives 12 (other_on_a (ops.Read 0 9 false)) (answers.Shown 5 0 (bodies.Hex [])) → ⊥
read_between_shows_nothing h = h.answer

-- before the unlink there is a file
read_before_finds_the_file : Fits-lives 12 (other_on_a (ops.Read 0 9 false)) (answers.NoEnt 4) → ⊥
read_before_finds_the_file h = true≢false h.answer.2

-- the client that took the file away knows that it is gone
create_finds_no_file : Fits-lives 13 (on_a ops.Create) (answers.Exists 4) → ⊥
create_finds_no_file h = omega (arith, h.version.front)

-- ---- each line is enabled where it stands, and not elsewhere

abbrev IsEnabledAt : ℕ → ℕ → Type 0
IsEnabledAt k n = enabled_in (op_at two_lives n) (λ op. is_enabled op (file_at k)) ≡ true

truncs_are_enabled : IsEnabledAt 2 7 × IsEnabledAt 3 8
truncs_are_enabled = (refl, refl)

unlink_is_enabled : IsEnabledAt 4 11
unlink_is_enabled = refl

second_create_is_enabled : IsEnabledAt 5 13
second_create_is_enabled = refl

-- the second create before the unlink, with the answers of that order
create_of_what_is_there_refused : IsLegalJournal two_lives
    (answer_at ((2, answers.Done 1) ∷ (11, answers.Done 3) ∷ (13, answers.Done 2) ∷ [])) path_a (2 ∷ 13 ∷ 11 ∷ []) → ⊥
create_of_what_is_there_refused h = true≢false (sym (h.entries 1 13 refl).enabled)

-- a cut of what was taken away
trunc_of_what_is_gone_refused : IsLegalJournal two_lives
    (answer_at ((2, answers.Done 1) ∷ (7, answers.Done 3) ∷ (11, answers.Done 2) ∷ [])) path_a (2 ∷ 11 ∷ 7 ∷ []) → ⊥
trunc_of_what_is_gone_refused h = true≢false (sym (h.entries 2 7 refl).enabled)

-- an unlink that isn't in the journal
unlink_left_out_refused : IsLegalJournal two_lives
    (answer_at ((2, answers.Done 1) ∷ (11, answers.Done 2) ∷ [])) path_a (2 ∷ []) → ⊥
unlink_left_out_refused h = let there = h.whole 11 2 refl in no_place there.0 there.1 there.2
  where
    no_place : (k : ℕ) → k < 1 → slice_index_or {A = ℕ} (2 ∷ []) k 11 ≡ 11 → ⊥
    no_place zero below same = omega arith
    no_place (suc k) below same = omega arith

-- ---- the whole journal is legal

-- line n is committed with the version that place k gives it, and is enabled there
abbrev StandsAt : Answering → List ℕ → ℕ → ℕ → Type 0
StandsAt A J k n = (committed two_lives A path_a n ≡ Some (suc k))
    × (enabled_in (op_at two_lives n) (λ op. is_enabled op (state two_lives A J k)) ≡ true)

-- so does each of these lines, the first of which is at place k
abbrev AllStand : Answering → List ℕ → ℕ → List ℕ → Type 0
AllStand A J k [] = ⊤
AllStand A J k (n ∷ ns) = StandsAt A J k n × AllStand A J (suc k) ns

-- creates, syncs, truncs and the unlink
lives_all_stand : AllStand two_lives_answers two_lives_journal 0 two_lives_journal
lives_all_stand = ((refl, refl), ((refl, refl), ((refl, refl), ((refl, refl), ((refl, refl), ((refl, refl), ((refl, refl), tt)))))))

-- each of them at its own place
one_stands : (A : Answering) (J : List ℕ) (k i j n : ℕ) (ns : List ℕ) → AllStand A J k ns → slice_get ns i ≡ Some n
    → k + i ≡ j → StandsAt A J j n
one_stands A J k i j n [] all at is = absurd (none-some n at)
one_stands A J k zero j n (m ∷ ns) all at is =
    let here : k ≡ j = omega arith in
    subst₂ (λ l o. StandsAt A J l o) here (same_Some m n at) all.0
one_stands A J k (suc i) j n (m ∷ ns) all at is = one_stands A J (suc k) i j n ns all.1 at (omega arith)

lives_stand : (k n : ℕ) → slice_get two_lives_journal k ≡ Some n → StandsAt two_lives_answers two_lives_journal k n
lives_stand k n at = one_stands two_lives_answers two_lives_journal 0 k k n two_lives_journal lives_all_stand at (omega arith)

abbrev is_committed : ℕ → Bool
is_committed n = is_some (committed two_lives two_lives_answers path_a n)

-- the journal is the committing lines of both lives, in the order of the script
lives_in_order : filter is_committed (range_with_len 2 14) ≡ two_lives_journal
lives_in_order = refl

lives_rise : (i k m n : ℕ) → i < k → slice_get two_lives_journal i ≡ Some m → slice_get two_lives_journal k ≡ Some n → m < n
lives_rise = passing-rise is_committed 2 14

lives_entries : (k n : ℕ) → slice_get two_lives_journal k ≡ Some n
    → IsLegalEntry two_lives two_lives_answers path_a two_lives_journal k n
lives_entries k n at = record {
  committed = (lives_stand k n at).0;
  once = λ i there. omega (arith, same_Some (suc i) (suc k) (sym (lives_stand i n there).0 ∙ (lives_stand k n at).0));
  rising = λ i m before there _. lives_rise i k m n before there at;
  phases = λ i m before there. phase-rises two_lives m n (let less = lives_rise i k m n before there at in omega arith);
  enabled = (lives_stand k n at).1;
}

-- no line that commits is missing
lives_whole : (n v : ℕ) → committed two_lives two_lives_answers path_a n ≡ Some v → Contains two_lives_journal n
lives_whole zero v is = absurd (none-some v is)
lives_whole (suc zero) v is = absurd (none-some v is)
lives_whole (suc (suc n)) v is =
    let within = commit_in-within two_lives two_lives_answers path_a (suc (suc n)) v (op_at two_lives (suc (suc n))) refl is in
    Contains-passing is_committed 2 14 (suc (suc n)) (ap is_some is) (omega arith) (omega arith)

-- all of both lives, in one journal
two_lives_legal : IsLegalJournal two_lives two_lives_answers path_a two_lives_journal
two_lives_legal = record { entries = lives_entries; whole = lives_whole }

-- ---- journals of both lives that aren't legal

abbrev without_second_create : List ℕ
without_second_create = 2 ∷ 4 ∷ 7 ∷ 8 ∷ 11 ∷ 15 ∷ []

none_is_the_second_create : All (λ m. not (m == 13) ≡ true) without_second_create
none_is_the_second_create = AllPass-from_list_all (λ m. not (m == 13)) without_second_create refl

-- without the second life's create
second_create_left_out_refused : IsLegalJournal two_lives two_lives_answers path_a without_second_create → ⊥
second_create_left_out_refused h =
    true≢false (sym (All-contains (λ m. not (m == 13) ≡ true) without_second_create 13 none_is_the_second_create (h.whole 13 6 refl)))

-- nothing was made after the unlink, as the second life's create found the first life's file: the sync finds no file
sync_without_second_create_refused : IsLegalJournal two_lives
    (answer_at ((2, answers.Done 1) ∷ (11, answers.Done 2) ∷ (13, answers.Exists 1) ∷ (14, answers.Wrote 1) ∷ (15, answers.Done 3) ∷ []))
    path_a (2 ∷ 11 ∷ 15 ∷ []) → ⊥
sync_without_second_create_refused h = true≢false (sym (h.entries 2 15 refl).enabled)

-- the first life's create in place of the second's
first_create_again_refused : IsLegalJournal two_lives two_lives_answers path_a (2 ∷ 4 ∷ 7 ∷ 8 ∷ 11 ∷ 2 ∷ 15 ∷ []) → ⊥
first_create_again_refused h = omega (arith, (h.entries 0 2 refl).once 5 refl)

-- the first life's sync and trunc, which are of one client, the other way round, with the answers of that order
abbrev swapped_answers : Answering
swapped_answers = answer_at (
    (2, answers.Done 1) ∷ (3, answers.Wrote 1) ∷ (4, answers.Done 3) ∷ (6, answers.Wrote 1) ∷ (7, answers.Done 2)
    ∷ (8, answers.Done 4) ∷ (11, answers.Done 5) ∷ (13, answers.Done 6) ∷ (14, answers.Wrote 1) ∷ (15, answers.Done 7) ∷ [])

abbrev swapped_journal : List ℕ
swapped_journal = 2 ∷ 7 ∷ 4 ∷ 8 ∷ 11 ∷ 13 ∷ 15 ∷ []

-- each line stands at its version, and is enabled there
swapped_all_stand : AllStand swapped_answers swapped_journal 0 swapped_journal
swapped_all_stand = ((refl, refl), ((refl, refl), ((refl, refl), ((refl, refl), ((refl, refl), ((refl, refl), ((refl, refl), tt)))))))

-- but the trunc is a later line of its client than the sync
trunc_before_earlier_sync_refused : IsLegalJournal two_lives swapped_answers path_a swapped_journal → ⊥
trunc_before_earlier_sync_refused h = omega (arith, (h.entries 2 4 refl).rising 1 7 (omega arith) refl refl)
