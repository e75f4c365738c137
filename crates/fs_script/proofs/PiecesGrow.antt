-- Live and pending pieces as the next answer comes: a piece that is live then was live or pending, and one that is pending then
-- was pending, or is of the line itself.
use Rattle.fs_types.specs.PlainFile.{File}
use Rattle.fs_script.specs.AnswerKinds.{is_accepted, empties}
use Rattle.fs_script.specs.Pending.{with_write}
use Rattle.fs_script.specs.Payload.{write_of}
use Rattle.fs_script.specs.declared.line.Op.TheVariants as ops
use Rattle.std.proofs.lemmas.List.Folds.{Any-from_list_any}
use Rattle.fs_types.proofs.Common.{or_left, or_right, ◌≡◌, [], arith, None, ap, ◌<◌, length, refl, suc, ◌≤◌, List, ◌∷◌, ◌++◌, ◌∙◌, inl, inr}
use Rattle.fs_types.proofs.Common.{Option, Some, ◌≢◌, sym, subst, ◌==◌, true, bytes_eq, ◌⊎◌, IsSome, true≢false, ◌||◌, cond_both, cases_eq}
use Rattle.fs_types.proofs.Common.{Bool, false, cases_Bool, false≢true, or_cases, length_push, same_Some, bytes_eq-Decides, ℕ, if◌then◌else◌}
use Rattle.fs_script.specs.Vocabulary.{Answer, Mark, Piece, is_enabled, effect_in, makes, Job, rank_at, op_at, rank_in, own_at, need}
use Rattle.fs_script.specs.Vocabulary.{marks_at, marks_put, cells_of, present_marks, bears, named_paths, is_live, past_lines, pending_marks}
use Rattle.fs_script.specs.Vocabulary.{is_pending, JournalsByPath, IsLegalJournal, marks_in, Answering, pending_at, pending, pending_for}
use Rattle.fs_script.specs.Vocabulary.{one_more, after_answer, ComesNext, IsNextAnswer, Pushes, Op, OpLine}
use Rattle.fs_script.proofs.Agreement.{pending-agree}
use Rattle.fs_script.proofs.Jobs.{op_at-within}
use Rattle.fs_script.proofs.JournalGrows.{own_op-rank, AgreeBefore-next, pending_at-next, pending_at-in_journal}
use Rattle.fs_script.proofs.LivePaths.{named-passes, live-by_any_path, pending-by_any_path}
use Rattle.fs_script.proofs.LivePieces.{IsPart, IsPart-lines}
use Rattle.fs_script.proofs.MarksGrow.{marks_at-push_last, marks_put-append, marks_at-agree, present_marks-agree, pending_marks-agree}
use Rattle.fs_script.proofs.PendingLines.{pending-past}
use Rattle.fs_script.proofs.PutLines.{bears-put_lines, bears-cut}
use Rattle.fs_script.specs.Effect.{with_lines, cut_to, as_frozen, view_of}

-- a piece of line n, which is client r's, and whose bytes were accepted
pub record IsNewPiece (s : Job) (n : ℕ) (o : OpLine) (a : Answer) (r : ℕ) (x : Piece) : Type 0 where
  pub rank : r ≡ o.rank
  pub line : x.line ≡ n
  pub part : x.part < need s n
  pub accepted : is_accepted a ≡ true

-- ---- what an effect bears

module _ (s : Job) (x : Piece) where
  -- was borne by the file, or is by what is pending, put on an empty file
  abbrev WasBorne : List ℕ → File (Option Mark) → Type 0
  WasBorne q f = (bears (cells_of f) x || bears (marks_put s q) x) ≡ true

  with_lines-bears : (q : List ℕ) (f : File (Option Mark)) → bears (cells_of (with_lines s (marks_in s) q f)) x ≡ true → WasBorne q f
  with_lines-bears q None borne = absurd (false≢true borne)
  with_lines-bears q (Some f) borne = bears-put_lines s q f.cells x borne

  cut_to-bears : (n : ℕ) (f : File (Option Mark)) → bears (cells_of (cut_to None n f)) x ≡ true → bears (cells_of f) x ≡ true
  cut_to-bears n None borne = borne
  cut_to-bears n (Some f) borne = bears-cut f.cells n x borne

  as_frozen-bears : (f : File (Option Mark)) → bears (cells_of (as_frozen f)) x ≡ true → bears (cells_of f) x ≡ true
  as_frozen-bears None borne = borne
  as_frozen-bears (Some f) borne = borne

  makes-bears : (op : Op) (q : List ℕ) (f : File (Option Mark)) → bears (cells_of (makes s (marks_in s) op q f)) x ≡ true → WasBorne q f
  makes-bears ops.Create q f borne = absurd (false≢true borne)
  makes-bears ops.Open q f borne = or_left (bears (cells_of f) x) (bears (marks_put s q) x) borne
  makes-bears (ops.Write off text) q f borne = or_left (bears (cells_of f) x) (bears (marks_put s q) x) borne
  makes-bears ops.Sync q f borne = with_lines-bears q f borne
  makes-bears (ops.Read off len own) q f borne = or_left (bears (cells_of f) x) (bears (marks_put s q) x) borne
  makes-bears ops.Size q f borne = or_left (bears (cells_of f) x) (bears (marks_put s q) x) borne
  makes-bears (ops.Trunc n) q f borne = with_lines-bears q f (cut_to-bears n (with_lines s (marks_in s) q f) borne)
  makes-bears ops.Laminate q f borne = with_lines-bears q f (as_frozen-bears (with_lines s (marks_in s) q f) borne)
  makes-bears ops.Unlink q f borne = absurd (false≢true borne)

  effect-bears : (o : Option OpLine) (q : List ℕ) (f : File (Option Mark)) → bears (cells_of (effect_in s (marks_in s) o q f)) x ≡ true
      → WasBorne q f
  effect-bears None q f borne = or_left (bears (cells_of f) x) (bears (marks_put s q) x) borne
  effect-bears (Some o) q f borne = cond_both (is_enabled o.op f) (makes s (marks_in s) o.op q f) f
      (λ g. bears (cells_of g) x ≡ true → WasBorne q f)
      (λ _. makes-bears o.op q f) (λ _. or_left (bears (cells_of f) x) (bears (marks_put s q) x)) borne

  -- what a client sees of a file bears no other piece either
  pub view_of-bears : (own : Bool) (q : List ℕ) (f : File (Option Mark)) → bears (cells_of (view_of s (marks_in s) own q f)) x ≡ true
      → WasBorne q f
  view_of-bears false q f borne = or_left (bears (cells_of f) x) (bears (marks_put s q) x) borne
  view_of-bears true q f borne = with_lines-bears q f borne

-- ---- what is pending after an answer bears

module _ (s : Job) (some : 0 < s.shape.chunk) (x : Piece) (n : ℕ) where
  -- what was pending, or the line itself, where its bytes were accepted
  abbrev WasPending : Answer → List ℕ → Type 0
  WasPending a q = (bears (marks_put s q) x ≡ true) ⊎ (IsPart s (λ m. m ≡ n) x × (is_accepted a ≡ true))

  write-bears : (a : Answer) (bytes q : List ℕ) → is_accepted a ≡ true → bears (marks_put s (with_write n bytes q)) x ≡ true
      → WasPending a q
  write-bears a bytes q accepted = cond_both (length bytes == 0) q (q ++ n ∷ [])
      (λ ns. bears (marks_put s ns) x ≡ true → WasPending a q)
      (λ _ borne. inl borne)
      (λ _ borne.
      let over = ap (λ ms. bears ms x) (sym (marks_put-append s q (n ∷ []))) ∙ borne in
      elim (or_cases (bears (marks_put s q) x) (bears (marks_put s (n ∷ [])) x) (bears-put_lines s (n ∷ []) (marks_put s q) x over)) [
        | inl before ↦ inl before
        | inr new ↦ inr (IsPart-lines s some (λ m. m ≡ n) (n ∷ []) x (refl, tt) new, accepted)
      ])

  emptied-bears : (a : Answer) (q : List ℕ) → bears (marks_put s (if empties a then [] else q)) x ≡ true → WasPending a q
  emptied-bears a q = cond_both (empties a) [] q (λ ns. bears (marks_put s ns) x ≡ true → WasPending a q)
      (λ _ borne. absurd (false≢true borne)) (λ _ borne. inl borne)

  answer-bears : (op : Op) (a : Answer) (q : List ℕ) → bears (marks_put s (after_answer op a n q)) x ≡ true → WasPending a q
  answer-bears ops.Create a q borne = inl borne
  answer-bears ops.Open a q borne = inl borne
  answer-bears (ops.Write off text) a q borne = cond_both (is_accepted a) (with_write n (write_of off text).bytes q) q
      (λ ns. bears (marks_put s ns) x ≡ true → WasPending a q) (write-bears a (write_of off text).bytes q)
      (λ _ is. inl is) borne
  answer-bears ops.Sync a q borne = emptied-bears a q borne
  answer-bears (ops.Read off len own) a q borne = inl borne
  answer-bears ops.Size a q borne = inl borne
  answer-bears (ops.Trunc size) a q borne = emptied-bears a q borne
  answer-bears ops.Laminate a q borne = emptied-bears a q borne
  answer-bears ops.Unlink a q borne = emptied-bears a q borne

-- ---- a line that comes next

module _ {s : Job} {A : Answering} {n : ℕ} {o : OpLine} (is : op_at s n ≡ Some o) (next : ComesNext s A n) where
  within : n ≤ past_lines s
  within = omega (arith, (op_at-within s n o is).1)

  -- its client has no answer from there on
  own-unanswered : (p : List ℕ) (k : ℕ) → n ≤ k → IsSome (own_at s o.rank p k) → A k ≡ None
  own-unanswered p k from own = by (A k) refl where
    by : (b : Option Answer) → A k ≡ b → A k ≡ None
    by None e = e
    by (Some b) e =
        let before = next.last k b e (own_op-rank o.rank p (op_at s k) own ∙ sym (ap rank_in is)) in
        absurd (omega arith)

  -- so what is pending at it is pending after all that the client was answered
  pending-now : (p : List ℕ) → pending s A o.rank p (past_lines s) ≡ pending s A o.rank p n
  pending-now p = pending-past s A o.rank p n (own-unanswered p) within

  -- and its pieces are pending for the client
  pub is_pending-now : 0 < s.shape.chunk → (p : List ℕ) (x : Piece) → bears (marks_put s (pending s A o.rank p n)) x ≡ true
      → is_pending s A o.rank x ≡ true
  is_pending-now some p x borne =
      pending-by_any_path s A o.rank p x some (ap (λ q. bears (marks_put s q) x) (pending-now p) ∙ borne)

-- ---- the next answer

module _ {s : Job} {A B : Answering} {n : ℕ} {o : OpLine} {a : Answer} (here : IsNextAnswer s A n o a B) where
  -- what is pending after all that its client was answered is what the answer leaves of that
  pending-then : (p : List ℕ) → pending s B o.rank p (past_lines s)
      ≡ one_more after_answer (own_at s o.rank p n) (B n) n (pending s A o.rank p (past_lines s))
  pending-then p =
      pending-past s B o.rank p (suc n)
      (λ k past own. here.adds.others k (λ e. omega arith) ∙ own-unanswered here.op here.next p k (omega arith) own)
      (omega (arith, (op_at-within s n o here.op).1))
      ∙ ap (one_more after_answer (own_at s o.rank p n) (B n) n)
      (sym (pending-agree s o.rank p A B n (AgreeBefore-next s o.rank p n here.adds (omega arith))) ∙ sym (pending-now here.op here.next p))

  module _ (some : 0 < s.shape.chunk) (x : Piece) where
    own-pending : (p : List ℕ) → bears (pending_marks s B o.rank p) x ≡ true
        → (bears (pending_marks s A o.rank p) x ≡ true) ⊎ IsNewPiece s n o a o.rank x
    own-pending p borne =
        by (own_at s o.rank p n) (ap (λ q. bears (marks_put s q) x) (sym (pending-then p)) ∙ borne)
      where
        q : List ℕ
        q = pending s A o.rank p (past_lines s)

        by : (op : Option Op) → bears (marks_put s (one_more after_answer op (B n) n q)) x ≡ true
            → (bears (marks_put s q) x ≡ true) ⊎ IsNewPiece s n o a o.rank x
        by None is = inl is
        by (Some op) is =
            elim (answer-bears s some x n op a q
            (ap (λ b. bears (marks_put s (one_more after_answer (Some op) b n q)) x) (sym here.adds.added) ∙ is)) [
              | inl before ↦ inl before
              | inr new ↦ inr (record {
                rank = refl;
                line = new.0.line;
                part = subst (λ m. x.part < need s m) new.0.line new.0.part;
                accepted = new.1;
              })
            ]

    other-pending : (r : ℕ) (p : List ℕ) → r ≢ o.rank → pending_marks s A r p ≡ pending_marks s B r p
    other-pending r p other = pending_marks-agree s r p A B (λ k below own. sym (here.adds.others k (λ e.
        other (same_Some r o.rank (sym (own_op-rank r p (op_at s k) own) ∙ ap (rank_at s) e ∙ ap rank_in here.op)))))

    -- a piece that is pending for a client then was pending for it, or is one of the line, which is that client's and was accepted
    pub is_pending-next : (r : ℕ) → is_pending s B r x ≡ true → (is_pending s A r x ≡ true) ⊎ IsNewPiece s n o a r x
    is_pending-next r waits =
        let h = Any-from_list_any (λ p. bears (pending_marks s B r p) x) (named_paths s) waits in
        elim (cases_eq r o.rank) [
          | inl same ↦
              elim (own-pending h.1 (subst (λ q. bears (pending_marks s B q h.1) x ≡ true) same h.4)) [
                | inl before ↦ inl (pending-by_any_path s A r h.1 x some
                    (subst (λ q. bears (pending_marks s A q h.1) x ≡ true) (sym same) before))
                | inr new ↦ inr (subst (λ q. IsNewPiece s n o a q x) (sym same) new)
              ]
          | inr other ↦ inl (pending-by_any_path s A r h.1 x some
              (ap (λ ms. bears ms x) (other-pending r h.1 other) ∙ h.4))
        ]

  module _ {journals after : JournalsByPath} (legal : (p : List ℕ) → IsLegalJournal s A p (journals p))
      (pushes : Pushes journals o.path n after) (x : Piece) where
    pushed-bears : bears (present_marks s B (journals o.path ++ n ∷ [])) x ≡ true
        → (is_live s A journals x || is_pending s A o.rank x) ≡ true
    pushed-bears borne =
        let J = journals o.path in
        let same = marks_at-agree s A B J (length J) (pending_at-in_journal here.adds here.next (legal o.path)) in
        let made = ap cells_of (marks_at-push_last s B J n (length (J ++ n ∷ [])) (omega (arith, length_push J n))) in
        let is = effect-bears s x (op_at s n) (pending_at s B n) (marks_at s B J (length J)) (ap (λ ms. bears ms x) (sym made) ∙ borne) in
        let q = sym (pending_at-next s here.adds) ∙ ap (pending_for s A n) here.op ∙ sym (pending-now here.op here.next o.path) in
        let before = (λ i. bears (cells_of (same i)) x || bears (marks_put s (sym q i)) x) ∙ is in
        elim (or_cases (bears (present_marks s A J) x) (bears (pending_marks s A o.rank o.path) x) before) [
          | inl live ↦ or_left (is_live s A journals x) (is_pending s A o.rank x)
              (live-by_any_path s A journals o.path x (legal o.path) live)
          | inr waits ↦ or_right (is_live s A journals x) (is_pending s A o.rank x)
              (named-passes s n o o.path (λ p. bears (pending_marks s A o.rank p) x) here.op refl waits)
        ]

    -- a piece that is live once the line is committed was live, or pending for its client
    pub is_live-next : is_live s B after x ≡ true → (is_live s A journals x || is_pending s A o.rank x) ≡ true
    is_live-next live =
        let h = Any-from_list_any (λ p. bears (present_marks s B (after p)) x) (named_paths s) live in
        elim (cases_Bool (bytes_eq o.path h.1)) [
          | inl same ↦
              let is = (bytes_eq-Decides o.path h.1).0 same in
              let there = subst (λ p. bears (present_marks s B (after p)) x ≡ true) (sym is) h.4 in
              pushed-bears (ap (λ J. bears (present_marks s B J) x) (sym pushes.here) ∙ there)
          | inr other ↦
              let apart = pushes.others h.1 (λ e. true≢false (sym ((bytes_eq-Decides o.path h.1).1 e) ∙ other)) in
              let same = present_marks-agree s A B (journals h.1) (pending_at-in_journal here.adds here.next (legal h.1)) in
              or_left (is_live s A journals x) (is_pending s A o.rank x) (live-by_any_path s A journals h.1 x (legal h.1)
              (ap (λ ms. bears ms x) same ∙ ap (λ J. bears (present_marks s B J) x) (sym apart) ∙ h.4))
        ]
