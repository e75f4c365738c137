-- What an event does to slots, to pins and to how many events are left. It fills slots exactly where it accepts its line's bytes,
-- and where they have room; a read that it leaves under way names what it named before, or what the file or its client's pending
-- writes bear now; and fewer events of its line are left.
use Rattle.fs_types.proofs.Common.{◌≡◌, ℕ, ◌≤◌, Bool, true, false, ◌||◌, length, Option, Some, None, refl, sym, ap, ◌∙◌, cond_both}
use Rattle.fs_types.proofs.Common.{ltb-false, true≢false}
use Rattle.fs_types.proofs.Common.{List, take, drop, list_any, nat_lt, ◌+◌, ◌-◌, ◌<◌, arith, ltb-true}
use Rattle.std.proofs.Math.Bool.{or-true}
use Rattle.std.proofs.lemmas.List.{take-append-drop}
use Rattle.std.proofs.lemmas.List.Folds.{list_any-append}
use Rattle.fs_script.specs.Live.{is_of_piece}
use Rattle.fs_script.specs.Vocabulary.{Answer, File, Job, Mark, Piece, Range, bears, cells_of, brought, parts_of, was_accepted, shown, runs}
use Rattle.fs_script.specs.Payload.{bytes_brought, write_of, data_bytes}
use Rattle.fs_script.specs.Vocabulary.{LONGEST_FILE, has_any, marks_in, marks_put, range_of, view_of}
use Rattle.core_machine.specs.Vocabulary.{Data, Op, Doing, Reading, nothing, reading, Event, PathNow, event_of, names, answered, if_open}
use Rattle.core_machine.specs.Vocabulary.{most_events, write_event}
use Rattle.core_machine.specs.Vocabulary.{create_over, lookup_over, fetch_event, sync_over, trunc_over, laminate_over, unlink_over}
use Rattle.core_machine.specs.Vocabulary.{write_where_free, write_at_front}
use Rattle.core_machine.specs.Events.Open.{open_over}
use Rattle.core_machine.specs.Events.Size.{size_over}
use Rattle.fs_types.proofs.CallerLemmas.{length-shown}
use Rattle.fs_script.proofs.CallerLemmas.{length-runs, view_of-bears}
use Rattle.fs_types.specs.declared.answer.Answer.TheVariants as answers
use Rattle.fs_script.specs.declared.line.Op.TheVariants as ops

-- how many slots an operation's bytes need
abbrev pub need_of : ℕ → Op → ℕ
need_of chunk op = parts_of chunk (length (bytes_brought (brought op)))

-- the most events that a line has left, where its client is in the midst of this
abbrev pub left_of_line : Op → Doing → ℕ
left_of_line op nothing = most_events op
left_of_line op (reading d) = length (runs d.marks) - d.fetched + 1

-- an answer ends the line; with none fewer events are left
abbrev pub Falls : Op → Doing → Option Answer → Doing → Type 0
Falls op d (Some a) after = after ≡ nothing
Falls op d None nothing = ⊥
Falls op d None (reading r) = left_of_line op (reading r) < left_of_line op d

-- the file bears a piece now, or what is pending for the line's client does
abbrev pub bears_now : Job → PathNow → Piece → Bool
bears_now s w x = bears (cells_of w.marks) x || bears (marks_put s w.pending) x

-- an event of an operation whose client is in the midst of d
pub record IsMeasured (s : Job) (w : PathNow) (op : Op) (d : Doing) (e : Event) : Type 0 where
  pub accepts : e.fills ≡ was_accepted e.answer
  pub room : e.fills ≡ true → need_of s.shape.chunk op ≤ w.free
  pub named : (x : Piece) → names e.doing x ≡ true → (names d x || bears_now s w x) ≡ true
  pub falls : Falls op d e.answer e.doing

module _ (s : Job) (w : PathNow) (op : Op) (d : Doing) where
  -- it ends the line, and fills no slots
  none_filled : (a : Answer) (committed : Bool) → was_accepted (Some a) ≡ false
      → IsMeasured s w op d (record { answer = Some a; commits = committed; fills = false; doing = nothing })
  none_filled a committed refused = record {
    accepts = sym refused;
    room = λ fills. absurd (true≢false (sym fills));
    named = λ x named. absurd (true≢false (sym named));
    falls = refl;
  }

  of_open : (e : Event) → IsMeasured s w op d e → IsMeasured s w op d (if_open w e)
  of_open e measured =
      cond_both w.is_open e (answered answers.BadF) (IsMeasured s w op d) (λ _. measured) (λ _. none_filled answers.BadF false refl)

  of_create : (f : File ℕ) → IsMeasured s w op d (create_over w f)
  of_create None = none_filled (answers.Done _) true refl
  of_create (Some f) = none_filled (answers.Exists _) false refl

  of_open_over : (f : File ℕ) → IsMeasured s w op d (open_over w f)
  of_open_over None = none_filled (answers.NoEnt _) false refl
  of_open_over (Some f) = none_filled (answers.Done _) false refl

  of_sync : (f : File ℕ) → IsMeasured s w op d (sync_over w f)
  of_sync None = none_filled (answers.NoEnt _) false refl
  of_sync (Some f) = cond_both (has_any w.pending) _ _ (IsMeasured s w op d)
      (λ _. cond_both f.frozen _ _ (IsMeasured s w op d) (λ _. none_filled (answers.ReadOnly _) false refl)
      (λ _. none_filled (answers.Done _) true refl))
      (λ _. none_filled (answers.Done _) false refl)

  of_size : (f : File ℕ) → IsMeasured s w op d (size_over w f)
  of_size None = none_filled (answers.NoEnt _) false refl
  of_size (Some f) = none_filled (answers.Sized _ _ _) false refl

  of_trunc : (f : File ℕ) → IsMeasured s w op d (trunc_over w f)
  of_trunc None = none_filled (answers.NoEnt _) false refl
  of_trunc (Some f) = cond_both f.frozen _ _ (IsMeasured s w op d) (λ _. none_filled (answers.ReadOnly _) false refl)
      (λ _. none_filled (answers.Done _) true refl)

  of_laminate : (f : File ℕ) → IsMeasured s w op d (laminate_over w f)
  of_laminate None = none_filled (answers.NoEnt _) false refl
  of_laminate (Some f) = cond_both f.frozen _ _ (IsMeasured s w op d) (λ _. none_filled (answers.ReadOnly _) false refl)
      (λ _. none_filled (answers.Done _) true refl)

  of_unlink : (f : File ℕ) → IsMeasured s w op d (unlink_over w f)
  of_unlink None = none_filled (answers.NoEnt _) false refl
  of_unlink (Some f) = none_filled (answers.Done _) true refl

  of_write_where_free : IsMeasured s w op d (write_where_free (need_of s.shape.chunk op) w)
  of_write_where_free = cond_both (nat_lt w.free (need_of s.shape.chunk op)) _ _ (IsMeasured s w op d)
      (λ _. none_filled (answers.NoSpace _ _) false refl)
      (λ enough. record {
        accepts = refl;
        room = λ _. ltb-false w.free (need_of s.shape.chunk op) enough;
        named = λ x named. absurd (true≢false (sym named));
        falls = refl;
      })

of_write : (s : Job) (w : PathNow) (off : ℕ) (text : Data) (d : Doing)
    → IsMeasured s w (ops.Write off text) d (write_event s.shape.chunk w (write_of off text))
of_write s w off text d =
    let op = ops.Write off text in
    of_open s w op d (write_at_front s.shape.chunk w (write_of off text))
    (cond_both w.at_front.exists _ _ (IsMeasured s w op d)
    (λ _. cond_both w.at_front.frozen _ _ (IsMeasured s w op d) (λ _. none_filled s w op d (answers.ReadOnly _) false refl)
    (λ _. cond_both (nat_lt LONGEST_FILE (off + length (data_bytes text))) _ _ (IsMeasured s w op d)
    (λ _. none_filled s w op d answers.TooBig false refl) (λ _. of_write_where_free s w op d)))
    (λ _. none_filled s w op d (answers.NoEnt _) false refl))

-- what a range of marks bears, all of them bear
bears-shown : (marks : List (Option Mark)) (x : Range) (p : Piece) → bears (shown marks x.off x.len) p ≡ true → bears marks p ≡ true
bears-shown marks x p borne =
    let test = is_of_piece p in
    let rest = drop x.off marks in
    let in_rest = ap (list_any test) (sym (take-append-drop x.len rest)) ∙ list_any-append test (take x.len rest) (drop x.len rest)
    ∙ ap (λ b. b || list_any test (drop x.len rest)) borne in
    ap (list_any test) (sym (take-append-drop x.off marks)) ∙ list_any-append test (take x.off marks) rest
    ∙ ap (λ b. list_any test (take x.off marks) || b) in_rest ∙ or-true (list_any test (take x.off marks))

-- a read, of what its client sees of the file
module _ (s : Job) (w : PathNow) (off len : ℕ) (own : Bool) where
  abbrev seen : File (Option Mark)
  seen = view_of s (marks_in s) own w.pending w.marks

  of_lookup : (f : File (Option Mark)) → seen ≡ f → IsMeasured s w (ops.Read off len own) nothing (lookup_over w f (range_of off len own))
  of_lookup None is = none_filled s w (ops.Read off len own) nothing (answers.NoEnt _) false refl
  of_lookup (Some f) is = record {
    accepts = refl;
    room = λ fills. absurd (true≢false (sym fills));
    named = λ p named.
        view_of-bears s p own w.pending w.marks
        (ap (λ g. bears (cells_of g) p) is ∙ bears-shown f.cells (range_of off len own) p named);
    falls = omega (arith, length-runs (shown f.cells off len), length-shown f.cells off len);
  }

of_fetch : (s : Job) (w : PathNow) (op : Op) (d : Reading) → IsMeasured s w op (reading d) (fetch_event s d)
of_fetch s w op d = cond_both (nat_lt d.fetched (length (runs d.marks))) _ _ (IsMeasured s w op (reading d))
    (λ more. record {
      accepts = refl;
      room = λ fills. absurd (true≢false (sym fills));
      named = λ p named. ap (λ b. b || bears_now s w p) named;
      falls = (let less = ltb-true d.fetched (length (runs d.marks)) more in omega arith);
    })
    (λ _. none_filled s w op (reading d) (answers.Shown _ _ _) false refl)

pub event_of-measured : (s : Job) (w : PathNow) (d : Doing) (op : Op) → IsMeasured s w op d (event_of s w d op)
event_of-measured s w d ops.Create = of_create s w ops.Create d w.file
event_of-measured s w d ops.Open = of_open_over s w ops.Open d w.file
event_of-measured s w d (ops.Write off text) = of_write s w off text d
event_of-measured s w d ops.Sync = of_open s w ops.Sync d (sync_over w w.file) (of_sync s w ops.Sync d w.file)
event_of-measured s w nothing (ops.Read off len own) =
    of_open s w (ops.Read off len own) nothing (lookup_over w (seen s w off len own) (range_of off len own))
    (of_lookup s w off len own (seen s w off len own) refl)
event_of-measured s w (reading d) (ops.Read off len own) = of_fetch s w (ops.Read off len own) d
event_of-measured s w d ops.Size = of_open s w ops.Size d (size_over w w.file) (of_size s w ops.Size d w.file)
event_of-measured s w d (ops.Trunc n) = of_open s w (ops.Trunc n) d (trunc_over w w.file) (of_trunc s w (ops.Trunc n) d w.file)
event_of-measured s w d ops.Laminate = of_open s w ops.Laminate d (laminate_over w w.file) (of_laminate s w ops.Laminate d w.file)
event_of-measured s w d ops.Unlink = of_open s w ops.Unlink d (unlink_over w w.file) (of_unlink s w ops.Unlink d w.file)
