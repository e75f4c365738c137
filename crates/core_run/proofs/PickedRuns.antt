-- Runs that go on by one event, and the journals that they leave.
use Rattle.std.proofs.Common.{◌≡◌, ℕ, zero, suc, ◌%◌, false, cond, List, [], ◌∷◌, ◌++◌, length, map, Option, Some, None}
use Rattle.std.proofs.Common.{refl, sym, ap, subst, ◌∙◌, arith, append-nil}
use Rattle.std.specs.List.{slice_get, Contains}
use Rattle.std.specs.Str.{bytes_eq}
use Rattle.std.proofs.lemmas.Option.{same_Some, slice_get_within, get_or_from_slice_get}
use Rattle.fs_script.specs.Grammar.{IsJob}
use Rattle.fs_script.specs.Report.{Report, AreRising, journal_of, IsLegal}
use Rattle.fs_script.proofs.CallerLemmas.{IsOpLine-from_job}
use Rattle.fs_script.proofs.CallerLemmas.{not_among, same_bytes, other_bytes}
use Rattle.fs_script.specs.Job.{Job}
use Rattle.core_machine.specs.Moment.{Moment, IsFirst, ready}
use Rattle.core_machine.specs.Step.{Turn, step}
use Rattle.core_machine.specs.LegalSoFar.{HasClients, CanRun, Reaches}
use Rattle.core_machine.specs.RunLaws.{RunsAreLegal}
use Rattle.core_machine.specs.MomentReport.{report_of}
use Rattle.core_machine.proofs.Legal.Reached.{Reaches-job, Reaches-unspent}
use Rattle.core_run.specs.PickedRun.{after_turn_of, chosen, moment_after, pick_at, turns_of, turns_under, IsRunUnder, IsReportUnder}

-- a run and one more turn
pub Reaches-push : (m n : Moment) (turns : List Turn) (t : Turn) → Reaches m turns n → Contains (ready n) t.client → Reaches m (turns
    ++ t ∷ []) (step n t)
Reaches-push m n [] t run waits = (subst (λ (k : Moment). Contains (ready k) t.client) (sym run) waits, ap (λ (k : Moment). step k t) run)
Reaches-push m n (first ∷ turns) t run waits = (run.0, Reaches-push (step m first) n turns t run.1 waits)

-- the operations of a job are of its clients
HasClients-job : (s : Job) → IsJob s → HasClients s
HasClients-job s job n o is = (IsOpLine-from_job s n o job is).rank

-- so a job can be run
pub CanRun-job : (s : Job) → IsJob s → CanRun s
CanRun-job s job = record { clients = HasClients-job s job; chunk = omega (arith, job.shape.chunk_least) }

-- a client that a pick chooses is ready
pub ready-chosen : (picks : List ℕ) (k r : ℕ) (m : Moment) → chosen picks k m ≡ Some r → Contains (ready m) r
ready-chosen picks k r m is =
    let i = pick_at picks k % length (ready m) in
    (i, slice_get_within (ready m) i r is, get_or_from_slice_get (ready m) i r r is)

-- a run and one more turn, if a client has it
Reaches-turn : (m n : Moment) (turns : List Turn) (o : Option ℕ) → ((r : ℕ) → o ≡ Some r → Contains (ready n) r)
    → Reaches m turns n → Reaches m (turns ++ turns_of o) (after_turn_of n o)
Reaches-turn m n turns None waits run = subst (λ ts. Reaches m ts n) (sym (append-nil turns)) run
Reaches-turn m n turns (Some r) waits run = Reaches-push m n turns (record { client = r }) run (waits r refl)

-- what a run under picks comes to is reached by the turns that these choose
pub Reaches-moment_after : (picks : List ℕ) (m : Moment) (k : ℕ) → Reaches m (turns_under picks m k) (moment_after picks m k)
Reaches-moment_after picks m zero = refl
Reaches-moment_after picks m (suc k) =
    let n = moment_after picks m k in
    Reaches-turn m n (turns_under picks m k) (chosen picks k n) (λ r. ready-chosen picks k r n) (Reaches-moment_after picks m k)

-- so there are turns by which a run under picks comes to its end
pub record IsReached (m n : Moment) : Type 0 where
  pub turns : List Turn
  pub reaches : Reaches m turns n
  pub unspent : n.spent ≡ false
  pub job : n.job ≡ m.job

pub IsReached-run : {picks : List ℕ} {s : Job} {m n : Moment} → IsFirst s m → IsRunUnder picks m n → IsReached m n
IsReached-run {picks = picks} {m = m} {n = n} first run =
    let turns = turns_under picks m run.events in
    let reaches = subst (λ (x : Moment). Reaches m turns x) (sym run.goes) (Reaches-moment_after picks m run.events) in
    record {
      turns = turns;
      reaches = reaches;
      unspent = Reaches-unspent m n turns reaches first.spent;
      job = Reaches-job m n turns reaches;
    }

-- and its report is legal
pub IsLegal-run : {picks : List ℕ} {s : Job} {m n : Moment} (told : List ℕ)
    → RunsAreLegal → IsJob s → IsFirst s m → IsRunUnder picks m n → IsLegal s (report_of n) told
IsLegal-run {s = s} {m = m} {n = n} told legal job first run =
    let reached = IsReached-run first run in
    legal told s m n reached.turns (CanRun-job s job) first reached.reaches run.ended

pub IsLegal-under : {picks : List ℕ} {s : Job} {report : Report} (told : List ℕ)
    → RunsAreLegal → IsJob s → IsReportUnder picks s report → IsLegal s report told
IsLegal-under {s = s} told legal job under =
    subst (λ (R : Report). IsLegal s R told) (sym under.reported) (IsLegal-run told legal job under.begins under.run)

-- ---- what is reported of each path

-- the journal of the path at a place is the one that stands there
pub entry-at : (js : List (List ℕ × List ℕ)) (i : ℕ) (p j : List ℕ) → AreRising (map (λ k. k.0) js) → slice_get (map (λ k. k.0) js) i ≡
    Some p → j ≡ journal_of js p → slice_get js i ≡ Some (p, j)
entry-at [] i p j rising at is = absurd cc
entry-at (k ∷ ks) zero p j rising at is =
    let here : k.0 ≡ p = same_Some k.0 p at in
    let own : j ≡ k.1 = is ∙ ap (λ b. cond b k.1 (journal_of ks p)) (same_bytes k.0 p here) in
    ap (λ (q : List ℕ). Some (q, k.1)) here ∙ ap (λ (l : List ℕ). Some (p, l)) (sym own)
entry-at (k ∷ ks) (suc i) p j rising at is =
    let other : bytes_eq k.0 p ≡ false = other_bytes k.0 p (λ e. not_among k.0 (map (λ l. l.0) ks) i rising.0 (at ∙ ap Some (sym e))) in
    entry-at ks i p j rising.1 at (is ∙ ap (λ b. cond b k.1 (journal_of ks p)) other)
