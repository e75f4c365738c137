-- A run: its first moment is legal, and each of its steps keeps it so. So what it reports at its
-- end is legal.
use Rattle.fs_types.proofs.Common.{◌+◌, ◌≡◌, ℕ, false, List, [], ◌∷◌, length, Some, sym, ap, ◌∙◌, subst, arith}
use Rattle.fs_script.specs.Payload.{bytes_brought, brought_in}
use Rattle.fs_script.specs.Vocabulary.{Job, IsLegal, brought, live_or_pending, need, op_at, parts_of}
use Rattle.core_machine.specs.Vocabulary.{Moment, journal, IsFirst, report_of, Turn, step, CanRun, IsLegalMoment, Reaches, answering}
use Rattle.core_machine.specs.Vocabulary.{OpLine, census, client_of, held_pieces}
use Rattle.core_machine.specs.RunLaws.{RunsAreLegal, LogsHoldExactly, FreeIsWhatIsLeft, HeldIsExact}
use Rattle.core_machine.specs.RunLaws.{NoSpaceIsExact, seen_by}
use Rattle.core_machine.proofs.Legal.Reached.{Reaches-unspent}
use Rattle.core_machine.proofs.Legal.NoSpace.{asks-from, refused-from}
use Rattle.core_machine.proofs.Legal.Turns.{IsTurn-from_ready, step-is}
use Rattle.core_machine.proofs.Legal.LegalSteps.{step-legal}
use Rattle.core_machine.proofs.Legal.First.{first-legal}
use Rattle.core_machine.proofs.Legal.Census.{held-and-free}
use Rattle.core_machine.proofs.Legal.Ends.{report-legal, held-exact}

-- ---- the run

-- it keeps the job, and a legal moment legal
run-legal : {told : List ℕ} (m n : Moment) (turns : List Turn) → IsLegalMoment told m
    → Reaches m turns n → (n.job ≡ m.job) × IsLegalMoment told n
run-legal {told} m n [] so_far is = (ap (λ x. x.job) (sym is), subst (IsLegalMoment told) is so_far)
run-legal {told} m n (turn ∷ turns) so_far run =
    let first = step-is (IsTurn-from_ready turn.client so_far run.0) in
    let rest = run-legal (step m turn) n turns (step-legal turn so_far run.0) run.1 in
    (rest.0 ∙ ap (λ x. x.job) first, rest.1)

-- so each moment of a run of a job that can be run is legal, and is of that job
module _ {s : Job} {m : Moment} (n : Moment) (turns : List Turn) (can : CanRun s) (first : IsFirst s m) (run : Reaches m turns n) where
  begins : (told : List ℕ) → IsLegalMoment told m
  begins told = first-legal (subst CanRun (sym first.job) can) (subst (λ j. IsFirst j m) (sym first.job) first) told

  pub of_job : n.job ≡ s
  of_job = (run-legal m n turns (begins []) run).0 ∙ first.job

  pub reached-legal : (told : List ℕ) → IsLegalMoment told n
  reached-legal told = (run-legal m n turns (begins told) run).1

-- at none did memory run out
going : {s : Job} {m : Moment} (n : Moment) (turns : List Turn) → IsFirst s m → Reaches m turns n → n.spent ≡ false
going {m = m} n turns first run = Reaches-unspent m n turns run first.spent

-- what it reports at its end is legal
pub runs-legal : RunsAreLegal
runs-legal told s m n turns can first run none =
    subst (λ j. IsLegal j (report_of n) told) (of_job n turns can first run)
    (report-legal (reached-legal n turns can first run told) none (going n turns first run))

-- ---- slots

-- at each moment the logs hold what is held
pub logs-exact : LogsHoldExactly
logs-exact s m n turns r can first run within =
    (reached-legal n turns can first run []).slots r (omega (arith, ap (λ j. j.shape.clients) (of_job n turns can first run)))

pub free-exact : FreeIsWhatIsLeft
free-exact s m n turns r can first run within =
    held-and-free (logs-exact s m n turns r can first run within)
    ∙ ap (λ j. j.shape.shmem + j.shape.spill) (of_job n turns can first run)

-- and at the end what is live or pending
pub held-exactly : HeldIsExact
held-exactly s m n turns r can first run none within =
    let job = of_job n turns can first run in
    let exact = held-exact (reached-legal n turns can first run []) none (going n turns first run) r (omega (arith, ap (λ j. j.shape.clients) job)) in
    subst (λ j. (census n r).held ≡ length (live_or_pending j (answering n) (journal n) r)) job exact

-- ---- no space

-- what a line needs
needs : (s : Job) (k : ℕ) (o : OpLine) → op_at s k ≡ Some o → need s k ≡ parts_of s.shape.chunk (length (bytes_brought (brought o.op)))
needs s k o is = ap (λ x. parts_of s.shape.chunk (length (bytes_brought (brought_in x)))) is

-- an event is answered NoSpace exactly where its line asks for slots and lacks them
pub no-space-exact : NoSpaceIsExact
no-space-exact s m n turns k o needed left can first run is =
    let job = of_job n turns can first run in
    let w = seen_by n k o in
    let d = (client_of n o.rank).doing in
    let free = free-exact s m n turns o.rank can first run (can.clients k o is) in
    let chunk : n.job.shape.chunk ≡ s.shape.chunk = ap (λ (j : Job). j.shape.chunk) job in
    let parts : need s k ≡ parts_of n.job.shape.chunk (length (bytes_brought (brought o.op))) =
    needs s k o is ∙ ap (λ c. parts_of c (length (bytes_brought (brought o.op)))) (sym chunk) in (
      λ refused.
          let found = asks-from w needed left n.job d o.op refused in (
            found.0,
            record {
              parts = found.1.0 ∙ sym parts;
              leaves = ap (λ i. length (held_pieces n o.rank) + i) found.1.1 ∙ free;
              few = omega (arith, found.1.1, found.1.2);
            },
          ),
      λ both.
          let left_is : left ≡ w.free = omega (arith, both.1.leaves, free) in
          refused-from w needed left n.job d o.op both.0 (both.1.parts ∙ parts, left_is, omega (arith, both.1.few, left_is)),
    )
