-- How often each slot is held at each moment of a job of two clients under picks, worked out by hand: the second client's read
-- looks up what it shows before the first client writes over it, and fetches it afterwards.
use Rattle.std.proofs.Common.{◌≡◌, [], ◌∷◌, List, ℕ, zero, suc, Option, Some, None, false, map, replicate, refl, sym, ap, subst, ◌∙◌, arith, Contains}
use Rattle.std.proofs.lemmas.Option.{same_Some}
use Rattle.fs_types.proofs.Common.{codes, none-some}
use Rattle.fs_script.specs.declared.line.OpLine.{OpLine}
use Rattle.fs_script.specs.Vocabulary.{ArePaths, Job, Piece, op_at}
use Rattle.fs_types.specs.declared.answer.Answer.TheVariants as answers
use Rattle.fs_script.specs.declared.line.Data.TheVariants.{Text}
use Rattle.fs_script.specs.declared.line.Op.TheVariants as ops
use Rattle.fs_script.proofs.CallerLemmas.{on_a, path_a}
use Rattle.core_machine.specs.Step.{Turn}
use Rattle.core_machine.specs.Moment.{IsFirst, Moment, fresh_client, log_of, ready}
use Rattle.core_machine.specs.Slots.{holds_in}
use Rattle.core_machine.proofs.SlotCases.Jobs.{holds, job_with, writes_bar}
use Rattle.core_run.specs.PickedRun.{moment_after, turns_under}
use Rattle.core_run.specs.RunUnderLaws.{WasAnswered}

abbrev three_free : List (Option Piece)
three_free = None ∷ None ∷ None ∷ []

abbrev job : Job
job = job_with 3 (writes_bar ∷ [])

abbrev start : Moment
start = record {
  job = job;
  clients = fresh_client ∷ fresh_client ∷ [];
  answers = [];
  journals = (path_a, []) ∷ [];
  logs = three_free ∷ three_free ∷ [];
  spent = false;
}

-- every operation is on the one path
on_a_path : (n : ℕ) (o : OpLine) → op_at job n ≡ Some o → o.path ≡ path_a
on_a_path zero o is = absurd (none-some o is)
on_a_path (suc zero) o is = absurd (none-some o is)
on_a_path (suc (suc zero)) o is = ap (λ (x : OpLine). x.path) (sym (same_Some _ o is))
on_a_path (suc (suc (suc zero))) o is = ap (λ (x : OpLine). x.path) (sym (same_Some _ o is))
on_a_path (suc (suc (suc (suc zero)))) o is = ap (λ (x : OpLine). x.path) (sym (same_Some _ o is))
on_a_path (suc (suc (suc (suc (suc zero))))) o is = absurd (none-some o is)
on_a_path (suc (suc (suc (suc (suc (suc zero)))))) o is = ap (λ (x : OpLine). x.path) (sym (same_Some _ o is))
on_a_path (suc (suc (suc (suc (suc (suc (suc zero))))))) o is = ap (λ (x : OpLine). x.path) (sym (same_Some _ o is))
on_a_path (suc (suc (suc (suc (suc (suc (suc (suc zero)))))))) o is = ap (λ (x : OpLine). x.path) (sym (same_Some _ o is))
on_a_path (suc (suc (suc (suc (suc (suc (suc (suc (suc zero))))))))) o is = ap (λ (x : OpLine). x.path) (sym (same_Some _ o is))
on_a_path (suc (suc (suc (suc (suc (suc (suc (suc (suc (suc zero)))))))))) o is = ap (λ (x : OpLine). x.path) (sym (same_Some _ o is))
on_a_path (suc (suc (suc (suc (suc (suc (suc (suc (suc (suc (suc n))))))))))) o is = absurd (none-some o is)

one_path : (p : List ℕ) → Contains (path_a ∷ []) p → p ≡ path_a
one_path p (zero, within, is) = sym is
one_path p (suc k, within, is) = absurd (omega arith)

paths : ArePaths job (path_a ∷ [])
paths = record {
  rising = (tt, tt);
  named = λ p has. record { line = 2; op = _; is = refl; on = sym (one_path p has) };
  each = λ p names.
      subst (Contains (path_a ∷ [])) (sym (on_a_path names.line names.op names.is) ∙ names.on) (0, omega arith, refl);
}

-- the run begins so
starts : IsFirst job start
starts = record {
  job = refl;
  clients = refl;
  answers = refl;
  paths = paths;
  journals = (refl, tt);
  logs = refl;
  spent = refl;
}

abbrev picks : List ℕ
picks = 0 ∷ 0 ∷ 0 ∷ 1 ∷ 1 ∷ 0 ∷ 0 ∷ 0 ∷ 0 ∷ 0 ∷ []

abbrev turn : ℕ → Turn
turn r = record { client = r }

-- the turns that the picks choose up to the look-up; the last two are client 1's
turns_so_far : turns_under picks start 5 ≡ turn 0 ∷ turn 0 ∷ turn 0 ∷ turn 1 ∷ turn 1 ∷ []
turns_so_far = refl

-- line 3 is answered by the second event, and takes one slot
abc_was_written : WasAnswered picks job 3 (answers.Wrote 1)
abc_was_written = record {
  event = record {
    first = start;
    begins = starts;
    events = 1;
    then = moment_after picks start 1;
    comes = refl;
    op = on_a (ops.Write 0 (Text (codes "abc")));
    is = refl;
    turn = refl;
    next = refl;
  };
  gives = refl;
}

-- how often the slots of client 0 are held after so many events
abbrev held_after : ℕ → List ℕ
held_after events = holds (moment_after picks start events)

-- at first; then after the create, the write of abc and its sync
before_the_read : map held_after (0 ∷ 1 ∷ 2 ∷ 3 ∷ []) ≡ (0 ∷ 0 ∷ 0 ∷ []) ∷ (0 ∷ 0 ∷ 0 ∷ []) ∷ (1 ∷ 0 ∷ 0 ∷ []) ∷ (1 ∷ 0 ∷ 0 ∷ []) ∷ []
before_the_read = refl

-- after client 1's open and look-up
as_it_begins : map held_after (4 ∷ 5 ∷ []) ≡ (1 ∷ 0 ∷ 0 ∷ []) ∷ (2 ∷ 0 ∷ 0 ∷ []) ∷ []
as_it_begins = refl

-- after the write of foo, its sync, and the write of bar
while_it_waits : map held_after (6 ∷ 7 ∷ 8 ∷ []) ≡ (2 ∷ 1 ∷ 0 ∷ []) ∷ (1 ∷ 1 ∷ 0 ∷ []) ∷ (1 ∷ 1 ∷ 1 ∷ []) ∷ []
while_it_waits = refl

-- after the fetch and the finish
as_it_ends : map held_after (9 ∷ 10 ∷ []) ≡ (1 ∷ 1 ∷ 1 ∷ []) ∷ (0 ∷ 1 ∷ 1 ∷ []) ∷ []
as_it_ends = refl

none_ready : ready (moment_after picks start 10) ≡ []
none_ready = refl

-- the second client writes nothing, so no slot of its log is ever held
abbrev others_after : ℕ → List ℕ
others_after events = let m = moment_after picks start events in map (holds_in m 1) (log_of m 1)

none_of_the_other : map others_after (0 ∷ 1 ∷ 2 ∷ 3 ∷ 4 ∷ 5 ∷ 6 ∷ 7 ∷ 8 ∷ 9 ∷ 10 ∷ []) ≡ replicate 11 (0 ∷ 0 ∷ 0 ∷ [])
none_of_the_other = refl
