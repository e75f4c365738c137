-- The slots that a run under picks reports: in each log exactly the live and pending pieces take one.
use Rattle.std.proofs.Common.{◌≡◌, ℕ, zero, suc, ◌+◌, ◌-◌, ◌<◌, List, [], ◌∷◌, map, refl, sym, ap, subst, ◌∙◌, arith}
use Rattle.std.specs.List.{AllByRecursion, range_with_len}
use Rattle.fs_script.specs.Grammar.{IsJob}
use Rattle.fs_script.specs.Vocabulary.{Job, Report, SlotLine, AreCounted}
use Rattle.core_machine.specs.Moment.{Moment, IsFirst}
use Rattle.core_machine.specs.MomentReport.{report_of}
use Rattle.core_machine.specs.RunLaws.{RunsAreLegal, HeldIsExact}
use Rattle.core_machine.specs.Slots.{census}
use Rattle.core_run.specs.ExactSlots.{pieces_left, exact_slots, AreExactSlots}
use Rattle.core_run.specs.PickedRun.{IsRunUnder, IsReportUnder}
use Rattle.core_run.proofs.PickedRuns.{IsLegal-run, IsReached-run, CanRun-job}

-- a line of a legal report that has as many held as its client has live and pending pieces is exact
exact_line : (s : Job) (R : Report) (l : SlotLine) → AreCounted s R l → l.held ≡ pieces_left s R l.rank → l ≡ exact_slots s R l.rank
exact_line s R l counted held =
    let free : l.free ≡ s.shape.shmem + s.shape.spill - pieces_left s R l.rank = omega (arith, counted.whole, held) in
    ap (λ x. record l { held = x }) held ∙ ap (λ x. record l { held = pieces_left s R l.rank; free = x }) free
    ∙ ap (λ x. record (exact_slots s R l.rank) { faults = x }) counted.faults

-- so are those of a range of clients
exact_lines : (s : Job) (R : Report) (n : Moment) (a k : ℕ) → ((r : ℕ) → r < a + k → (census n r).held ≡ pieces_left s R r)
    → AllByRecursion (AreCounted s R) (map (census n) (range_with_len a k))
    → map (census n) (range_with_len a k) ≡ map (exact_slots s R) (range_with_len a k)
exact_lines s R n a zero held counted = refl
exact_lines s R n a (suc k) held counted =
    ap (λ l. l ∷ map (census n) (range_with_len (a + 1) k)) (exact_line s R (census n a) counted.0 (held a (omega arith)))
    ∙ ap (λ ls. exact_slots s R a ∷ ls) (exact_lines s R n (a + 1) k (λ r below. held r (omega arith)) counted.1)

-- and those that a run reports at its end
AreExactSlots-run : {picks : List ℕ} {s : Job} {m n : Moment}
    → RunsAreLegal → HeldIsExact → IsJob s → IsFirst s m → IsRunUnder picks m n → AreExactSlots s (report_of n)
AreExactSlots-run {s = s} {m = m} {n = n} legal exact job first run =
    let reached = IsReached-run first run in
    let clients : n.job.shape.clients ≡ s.shape.clients = ap (λ (j : Job). j.shape.clients) (reached.job ∙ first.job) in
    let held : (r : ℕ) → r < 0 + n.job.shape.clients → (census n r).held ≡ pieces_left s (report_of n) r =
    λ r below. exact s m n reached.turns r (CanRun-job s job) first reached.reaches run.ended (omega (arith, clients)) in
    exact_lines s (report_of n) n 0 n.job.shape.clients held (IsLegal-run [] legal job first run).slots
    ∙ ap (λ count. map (exact_slots s (report_of n)) (range_with_len 0 count)) clients

pub AreExactSlots-under : {picks : List ℕ} {s : Job} {report : Report}
    → RunsAreLegal → HeldIsExact → IsJob s → IsReportUnder picks s report → AreExactSlots s report
AreExactSlots-under {s = s} legal exact job under =
    subst (AreExactSlots s) (sym under.reported) (AreExactSlots-run legal exact job under.begins under.run)
