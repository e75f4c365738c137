-- Rows of the table of answers at a path with one version, worked out by hand: what a frozen file, no file, and a file
-- that is there allow and refuse; and over which of them a line may be committed.
use Rattle.fs_types.proofs.Common.{◌≡◌, ℕ, List, [], ◌∷◌, Some, None, true, false, if◌then◌else◌, refl, arith, codes, false≢true, true≢false}
use Rattle.fs_types.proofs.Common.{none-some, same_Some}
use Rattle.fs_script.specs.Vocabulary.{LONGEST_FILE, File, Op, Text, is_enabled, AgreesWithOpen, LineView, IsInTable}
use Rattle.fs_script.proofs.OwnReads.{first_byte}
use Rattle.fs_types.specs.declared.answer.Answer.TheVariants as answers
use Rattle.fs_types.specs.declared.answer.Body.TheVariants as bodies
use Rattle.fs_script.specs.declared.line.Op.TheVariants as ops
use Rattle.fs_script.specs.declared.line.Data.TheVariants.{Pattern}

-- a file with what the client has pending put over it
abbrev with_own : File ℕ → File ℕ
with_own None = None
with_own (Some f) = Some (record { cells = codes "jello"; frozen = f.frozen })

-- line 4, which knows of the one version of its path, with this file there and these lines pending; its client has four slots,
-- and one piece was accepted from it
abbrev view : File ℕ → List ℕ → LineView
view f q = record {
  number = 4;
  journal = 2 ∷ [];
  file = λ v. f;
  front = 1;
  pending = q;
  sees = λ own g. if own then with_own g else g;
  chunk = 64;
  slots = 4;
  accepted = 1;
}

-- the same line, committed as version 2
abbrev committed_view : File ℕ → List ℕ → LineView
committed_view f q = record (view f q) { journal = 2 ∷ 4 ∷ [] }

abbrev frozen_file : File ℕ
frozen_file = Some (record { cells = codes "hello"; frozen = true })

abbrev open_file : File ℕ
open_file = Some (record { cells = codes "hello"; frozen = false })

abbrev write : Op
write = ops.Write 0 (Text (codes "hi"))

-- of 200 bytes, which are four parts
abbrev write_of_four : Op
write_of_four = ops.Write 0 (Pattern 7 200)

-- ---- a path that isn't open

trunc_needs_the_path_open : AgreesWithOpen (ops.Trunc 3) false answers.BadF
trunc_needs_the_path_open = refl

trunc_of_an_open_path_is_not_badf : AgreesWithOpen (ops.Trunc 3) true answers.BadF → ⊥
trunc_of_an_open_path_is_not_badf h = true≢false h

laminate_needs_the_path_open : AgreesWithOpen ops.Laminate false answers.BadF
laminate_needs_the_path_open = refl

laminate_of_an_open_path_is_not_badf : AgreesWithOpen ops.Laminate true answers.BadF → ⊥
laminate_of_an_open_path_is_not_badf h = true≢false h

unlink_needs_the_path_open : AgreesWithOpen ops.Unlink false answers.BadF
unlink_needs_the_path_open = refl

unlink_of_another_answer_refused : AgreesWithOpen ops.Unlink false (answers.NoEnt 0) → ⊥
unlink_of_another_answer_refused h = false≢true h

-- ---- over which files a line may be committed

trunc_over_no_file : is_enabled {X = ℕ} (ops.Trunc 3) None ≡ false
trunc_over_no_file = refl

trunc_over_a_file : is_enabled (ops.Trunc 3) open_file ≡ true
trunc_over_a_file = refl

trunc_over_a_frozen_file : is_enabled (ops.Trunc 3) frozen_file ≡ false
trunc_over_a_frozen_file = refl

laminate_of_no_file : is_enabled {X = ℕ} ops.Laminate None ≡ false
laminate_of_no_file = refl

laminate_of_a_file : is_enabled ops.Laminate open_file ≡ true
laminate_of_a_file = refl

laminate_of_a_frozen_file : is_enabled ops.Laminate frozen_file ≡ false
laminate_of_a_frozen_file = refl

unlink_of_no_file : is_enabled {X = ℕ} ops.Unlink None ≡ false
unlink_of_no_file = refl

unlink_of_a_file : is_enabled ops.Unlink open_file ≡ true
unlink_of_a_file = refl

unlink_of_a_frozen_file : is_enabled ops.Unlink frozen_file ≡ true
unlink_of_a_frozen_file = refl

module _ (compared : Type 0) where
  -- ---- a frozen file

  sync_of_something_is_readonly : IsInTable compared (view frozen_file (3 ∷ [])) ops.Sync (answers.ReadOnly 0)
  sync_of_something_is_readonly = (refl, tt, refl)

  sync_of_nothing_is_not_readonly : IsInTable compared (view frozen_file []) ops.Sync (answers.ReadOnly 1) → ⊥
  sync_of_nothing_is_not_readonly row = false≢true row.0

  sync_of_nothing_is_done : IsInTable compared (view frozen_file []) ops.Sync (answers.Done 1)
  sync_of_nothing_is_done = (refl, refl)

  write_is_readonly : IsInTable compared (view frozen_file []) write (answers.ReadOnly 1)
  write_is_readonly = (refl, refl, refl)

  -- a write prints the version that its client knows of, and no other
  write_is_not_readonly_before_the_front : IsInTable compared (view frozen_file []) write (answers.ReadOnly 0) → ⊥
  write_is_not_readonly_before_the_front row = omega (arith, row.1)

  write_is_not_accepted : IsInTable compared (view frozen_file []) write (answers.Wrote 1) → ⊥
  write_is_not_accepted row = false≢true row.0

  write_is_not_too_big : IsInTable compared (view frozen_file []) (ops.Write LONGEST_FILE (Text (codes "hi"))) answers.TooBig → ⊥
  write_is_not_too_big row = false≢true row.0

  write_does_not_lack_space : IsInTable compared (view frozen_file []) write_of_four (answers.NoSpace 4 3) → ⊥
  write_does_not_lack_space row = false≢true row.may_write

  read_is_not_readonly : IsInTable compared (view frozen_file []) (ops.Read 0 5 false) (answers.ReadOnly 1) → ⊥
  read_is_not_readonly row = false≢true row.0

  size_shows_the_flag : IsInTable compared (view frozen_file []) ops.Size (answers.Sized 1 5 true)
  size_shows_the_flag = (refl, (refl, refl))

  size_is_not_unfrozen : IsInTable compared (view frozen_file []) ops.Size (answers.Sized 1 5 false) → ⊥
  size_is_not_unfrozen row = false≢true row.1.1

  trunc_is_readonly : IsInTable compared (view frozen_file []) (ops.Trunc 3) (answers.ReadOnly 0)
  trunc_is_readonly = (refl, tt, refl)

  laminate_is_readonly : IsInTable compared (view frozen_file []) ops.Laminate (answers.ReadOnly 0)
  laminate_is_readonly = (refl, tt, refl)

  laminate_of_a_frozen_file_is_not_done : IsInTable compared (view frozen_file []) ops.Laminate (answers.Done 1) → ⊥
  laminate_of_a_frozen_file_is_not_done row = omega (arith, same_Some 2 4 row)

  unlink_is_not_readonly : IsInTable compared (view frozen_file []) ops.Unlink (answers.ReadOnly 1) → ⊥
  unlink_is_not_readonly row = false≢true row.0

  unlink_is_done : IsInTable compared (committed_view frozen_file []) ops.Unlink (answers.Done 2)
  unlink_is_done = refl

  open_finds_it : IsInTable compared (view frozen_file []) ops.Open (answers.Done 1)
  open_finds_it = (refl, refl)

  unfrozen_is_not_readonly : IsInTable compared (view open_file []) write (answers.ReadOnly 1) → ⊥
  unfrozen_is_not_readonly row = false≢true row.2

  -- ---- no file

  write_finds_no_file : IsInTable compared (view None []) write (answers.NoEnt 1)
  write_finds_no_file = (refl, refl, refl)

  write_finds_no_file_at_its_front_alone : IsInTable compared (view None []) write (answers.NoEnt 0) → ⊥
  write_finds_no_file_at_its_front_alone row = omega (arith, row.1)

  read_finds_no_file : IsInTable compared (view None []) (ops.Read 0 5 false) (answers.NoEnt 0)
  read_finds_no_file = (refl, tt, refl)

  open_finds_no_file : IsInTable compared (view None []) ops.Open (answers.NoEnt 1)
  open_finds_no_file = (refl, tt, refl)

  trunc_finds_no_file : IsInTable compared (view None []) (ops.Trunc 3) (answers.NoEnt 0)
  trunc_finds_no_file = (refl, tt, refl)

  laminate_finds_no_file : IsInTable compared (view None []) ops.Laminate (answers.NoEnt 0)
  laminate_finds_no_file = (refl, tt, refl)

  unlink_finds_no_file : IsInTable compared (view None []) ops.Unlink (answers.NoEnt 1)
  unlink_finds_no_file = (refl, tt, refl)

  own_writes_make_no_file : IsInTable compared (view None (3 ∷ [])) (ops.Read 0 5 true) (answers.Shown 1 5 (bodies.Hex (codes "jello"))) → ⊥
  own_writes_make_no_file row = row

  open_is_not_done : IsInTable compared (view None []) ops.Open (answers.Done 1) → ⊥
  open_is_not_done row = false≢true row.1

  size_of_nothing_is_not_zero : IsInTable compared (view None []) ops.Size (answers.Sized 1 0 false) → ⊥
  size_of_nothing_is_not_zero row = row.1

  create_wants_no_file : IsInTable compared (view None []) ops.Create (answers.NoEnt 1) → ⊥
  create_wants_no_file row = false≢true row.0

  nothing_exists : IsInTable compared (view None []) ops.Create (answers.Exists 1) → ⊥
  nothing_exists row = false≢true row.1

  -- ---- a file that is there

  file_exists : IsInTable compared (view open_file []) ops.Create (answers.Exists 1)
  file_exists = (refl, refl)

  write_past_the_end_is_too_big : IsInTable compared (view open_file []) (ops.Write LONGEST_FILE (Text (codes "hi"))) answers.TooBig
  write_past_the_end_is_too_big = (refl, omega arith)

  write_wants_a_file : IsInTable compared (view open_file []) write (answers.Exists 1) → ⊥
  write_wants_a_file row = false≢true row.0

  open_is_never_closed : IsInTable compared (view open_file []) ops.Open answers.BadF → ⊥
  open_is_never_closed row = false≢true row

  read_asks_no_size : IsInTable compared (view open_file []) (ops.Read 0 5 false) (answers.Sized 1 5 false) → ⊥
  read_asks_no_size row = false≢true row.0

  file_is_found : IsInTable compared (view open_file []) write (answers.NoEnt 1) → ⊥
  file_is_found row = true≢false row.2

  unlink_finds_the_file : IsInTable compared (view open_file []) ops.Unlink (answers.NoEnt 1) → ⊥
  unlink_finds_the_file row = true≢false row.2

  trunc_may_change_it : IsInTable compared (view open_file []) (ops.Trunc 3) (answers.ReadOnly 1) → ⊥
  trunc_may_change_it row = false≢true row.2

  -- ---- a line that is committed prints the version that it makes

  laminate_may_change_it : IsInTable compared (view open_file []) ops.Laminate (answers.ReadOnly 1) → ⊥
  laminate_may_change_it row = false≢true row.2

  laminate_is_done : IsInTable compared (committed_view open_file []) ops.Laminate (answers.Done 2)
  laminate_is_done = refl

  laminate_is_not_done_before : IsInTable compared (committed_view open_file []) ops.Laminate (answers.Done 1) → ⊥
  laminate_is_not_done_before row = omega (arith, same_Some 2 4 row)

  trunc_is_done : IsInTable compared (committed_view open_file []) (ops.Trunc 3) (answers.Done 2)
  trunc_is_done = refl

  trunc_is_not_done_before : IsInTable compared (committed_view open_file []) (ops.Trunc 3) (answers.Done 1) → ⊥
  trunc_is_not_done_before row = omega (arith, same_Some 2 4 row)

  -- unlike a sync, also with nothing pending
  trunc_of_nothing_pending_commits : IsInTable compared (view open_file []) (ops.Trunc 5) (answers.Done 1) → ⊥
  trunc_of_nothing_pending_commits row = omega (arith, same_Some 2 4 row)

  unlink_outside_the_journal_is_not_done : IsInTable compared (view open_file []) ops.Unlink (answers.Done 2) → ⊥
  unlink_outside_the_journal_is_not_done row = none-some 4 row

  -- ---- what a read shows

  own_read_shows_what_its_client_sees : IsInTable compared (view open_file (3 ∷ [])) (ops.Read 0 5 true)
      (answers.Shown 1 5 (bodies.Hex (codes "jello")))
  own_read_shows_what_its_client_sees = record { count = refl; same = λ _. refl }

  read_shows_the_file_alone : IsInTable compared (view open_file (3 ∷ [])) (ops.Read 0 5 false)
      (answers.Shown 1 5 (bodies.Hex (codes "hello")))
  read_shows_the_file_alone = record { count = refl; same = λ _. refl }

  own_read_of_the_file_alone_refused : compared → IsInTable compared (view open_file (3 ∷ [])) (ops.Read 0 5 true)
      (answers.Shown 1 5 (bodies.Hex (codes "hello"))) → ⊥
  own_read_of_the_file_alone_refused told row = omega (arith, first_byte (row.same told))

  -- ---- a log with too few free slots

  write_lacks_space : IsInTable compared (view open_file []) write_of_four (answers.NoSpace 4 3)
  write_lacks_space = record {
    may_write = refl;
    end = omega arith;
    need = refl;
    few = omega arith;
    within = omega arith;
    held = omega arith;
  }

  -- as many are free as it needs
  write_has_space : IsInTable compared (view open_file []) write_of_four (answers.NoSpace 4 4) → ⊥
  write_has_space row = omega (arith, row.few)

  -- two are held, and one piece was accepted
  more_held_than_accepted : IsInTable compared (view open_file []) write_of_four (answers.NoSpace 4 2) → ⊥
  more_held_than_accepted row = omega (arith, row.held)

  write_needs_its_parts : IsInTable compared (view open_file []) write_of_four (answers.NoSpace 5 3) → ⊥
  write_needs_its_parts row = omega (arith, row.need)

  read_needs_no_slots : IsInTable compared (view open_file []) (ops.Read 0 200 false) (answers.NoSpace 4 3) → ⊥
  read_needs_no_slots row = row
