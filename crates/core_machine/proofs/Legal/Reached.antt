-- What each moment that a run reaches keeps of the first, and which event gave each of its answers.
use Rattle.fs_types.proofs.Common.{◌≡◌, ℕ, false, List, [], ◌∷◌, Option, Some, None, Contains}
use Rattle.fs_types.proofs.Common.{refl, sym, ap, ◌∙◌, subst, inl, inr, ◌⊎◌, cases_eq, none-some}
use Rattle.fs_types.specs.declared.answer.Answer.{Answer}
use Rattle.fs_script.specs.Vocabulary.{Job, answer_at, op_at, put_answer}
use Rattle.core_machine.specs.Vocabulary.{OpLine, Moment, Turn, answers_with, client_of, event_at, next_line, printed, ready}
use Rattle.core_machine.specs.Vocabulary.{Reaches, step, step_at, step_line}
use Rattle.core_machine.specs.RunLaws.{WasGiven, AnswersWereGiven}
use Rattle.fs_script.proofs.CallerLemmas.{AddsAnswer-put, program-op}

-- ---- memory

unspent_line : (m : Moment) (r n : ℕ) (o : Option OpLine) → m.spent ≡ false → (step_line m r n o).spent ≡ false
unspent_line m r n None unspent = unspent
unspent_line m r n (Some o) unspent = refl

unspent_at : (m : Moment) (r : ℕ) (n : Option ℕ) → m.spent ≡ false → (step_at m r n).spent ≡ false
unspent_at m r None unspent = unspent
unspent_at m r (Some n) unspent = unspent_line m r n (op_at m.job n) unspent

-- a run of events never runs out of memory
pub Reaches-unspent : (m n : Moment) (turns : List Turn) → Reaches m turns n → m.spent ≡ false → n.spent ≡ false
Reaches-unspent m n [] run unspent = ap (λ (k : Moment). k.spent) (sym run) ∙ unspent
Reaches-unspent m n (t ∷ turns) run unspent = Reaches-unspent (step m t) n turns run.1 (unspent_at m t.client (next_line m t.client)
    unspent)

-- ---- the job

job_after_line : (m : Moment) (r n : ℕ) (o : Option OpLine) → (step_line m r n o).job ≡ m.job
job_after_line m r n None = refl
job_after_line m r n (Some o) = refl

job_after : (m : Moment) (r : ℕ) (n : Option ℕ) → (step_at m r n).job ≡ m.job
job_after m r None = refl
job_after m r (Some n) = job_after_line m r n (op_at m.job n)

-- it is of one job
pub Reaches-job : (m n : Moment) (turns : List Turn) → Reaches m turns n → n.job ≡ m.job
Reaches-job m n [] run = ap (λ (k : Moment). k.job) (sym run)
Reaches-job m n (t ∷ turns) run = Reaches-job (step m t) n turns run.1 ∙ job_after m t.client (next_line m t.client)

-- ---- answers

module _ (s : Job) (k : ℕ) (a : Answer) where
  -- an answer that stands after the event of client r's line j stood before, or came with it
  after_event-gives : (m : Moment) (r j : ℕ) (o : OpLine) (b : Option Answer) → answer_at (answers_with j b m.answers) k ≡ Some a
      → (printed m k ≡ Some a) ⊎ (k ≡ j) × (b ≡ Some a)
  after_event-gives m r j o None is = inl is
  after_event-gives m r j o (Some b) is =
      let adds = AddsAnswer-put m.answers j b in
      elim (cases_eq k j) [
        | inl same ↦ inr (same, sym adds.added ∙ ap (answer_at (put_answer j b m.answers)) (sym same) ∙ is)
        | inr other ↦ inl (sym (adds.others k other) ∙ is)
      ]

  -- so the turn of a client gave it, or it stood before
  turn-gives : (m : Moment) (t : Turn) (turns : List Turn) → m.job ≡ s → Contains (ready m) t.client
      → (x : Option ℕ) → next_line m t.client ≡ x → printed (step_at m t.client x) k ≡ Some a
      → (printed m k ≡ Some a) ⊎ WasGiven s m (t ∷ turns) k a
  turn-gives m t turns job waits None next is = inl is
  turn-gives m t turns job waits (Some j) next is =
      let op = program-op m.job t.client (client_of m t.client).place j next in
      let o = op.0 in
      let e = event_at m j o in
      let there = ap (λ x. printed (step_line m t.client j x) k) (sym op.1) ∙ is in
      elim (after_event-gives m t.client j o e.answer there) [
        | inl before ↦ inl before
        | inr given ↦
            let line : j ≡ k = sym given.0 in
            inr (record {
              before = [];
              after = turns;
              then = m;
              op = o;
              all = ap (λ r. record { client = r } ∷ turns) (sym op.2);
              reaches = refl;
              waits = subst (λ r. Contains (ready m) r) (sym op.2) waits;
              next = ap (next_line m) op.2 ∙ next ∙ ap Some line;
              is = ap (λ (q : Job). op_at q k) (sym job) ∙ ap (op_at m.job) given.0 ∙ op.1;
              gives = ap (λ i. (event_at m i o).answer) given.0 ∙ given.1;
            })
      ]

  -- one turn earlier
  earlier : (m : Moment) (t : Turn) (turns : List Turn) → Contains (ready m) t.client → WasGiven s (step m t) turns k a
      → WasGiven s m (t ∷ turns) k a
  earlier m t turns waits given = record {
    before = t ∷ given.before;
    after = given.after;
    then = given.then;
    op = given.op;
    all = ap (λ ts. t ∷ ts) given.all;
    reaches = (waits, given.reaches);
    waits = given.waits;
    next = given.next;
    is = given.is;
    gives = given.gives;
  }

  -- an answer that stands after some turns stood before them, or one of them gave it
  turns-give : (m n : Moment) (turns : List Turn) → m.job ≡ s → Reaches m turns n → printed n k ≡ Some a
      → (printed m k ≡ Some a) ⊎ WasGiven s m turns k a
  turns-give m n [] job run is = inl (ap (λ (x : Moment). printed x k) run ∙ is)
  turns-give m n (t ∷ turns) job run is =
      elim (turns-give (step m t) n turns (job_after m t.client (next_line m t.client) ∙ job) run.1 is) [
        | inl before ↦ turn-gives m t turns job run.0 (next_line m t.client) refl before
        | inr given ↦ inr (earlier m t turns run.0 given)
      ]

-- at the first moment none stands
pub were-given : AnswersWereGiven
were-given s m n turns k a first run is =
    elim (turns-give s k a m n turns first.job run is) [
      | inl before ↦ absurd (none-some a (sym (ap (λ xs. answer_at xs k) first.answers) ∙ before))
      | inr given ↦ given
    ]
