-- Whether a piece has an owner at a moment is what is kept for its line's path: the file has it, or it is pending for its client.
use Rattle.fs_types.proofs.Common.{◌≡◌, ℕ, ◌<◌, Bool, true, false, ◌||◌, List, length, map, Option, Some, None, IsSome, is_some}
use Rattle.fs_types.proofs.Common.{slice_get, position, bytes_eq, Contains, true≢false, refl, sym, ap, ◌∙◌, subst, arith}
use Rattle.fs_types.proofs.Common.{bytes_eq-Decides, cases_Bool, false_from_ne_true, inl, inr, IfSome}
use Rattle.fs_types.proofs.Common.{IfNone, slice_get_within, and_parts, eqb-true, cond, ◌==◌, ◌&&◌}
use Rattle.std.proofs.lemmas.List.Folds.{Any-from_list_any}
use Rattle.fs_script.specs.Vocabulary.{Job, Piece, op_at, own_at, own_op, Answering, JournalsByPath}
use Rattle.fs_script.specs.Vocabulary.{journal_of, bears, present_marks, cells_of, named_paths}
use Rattle.fs_script.specs.Vocabulary.{is_live, is_pending, pending_marks, marks_put, ArePaths}
use Rattle.fs_script.proofs.CallerLemmas.{journal_of-zip, journal_of-absent, slice_get-map_some, slice_get-position}
use Rattle.fs_script.proofs.CallerLemmas.{absent-from_position, named-passes, IsPart-pending_marks}
use Rattle.fs_script.proofs.CallerLemmas.{slice_get-some}
use Rattle.core_machine.specs.Vocabulary.{OpLine, PathState, ClientPath, journals_of, file_hold, pending_hold, keeps, Stands}
use Rattle.core_machine.proofs.Refines.JournalsKept.{journal_kept}
use Rattle.core_machine.proofs.Refines.KeptPieces.{file-bears, pending-bears}

-- one answer of two tests
same_answer : (a b : Bool) → (a ≡ true → b ≡ true) → (b ≡ true → a ≡ true) → a ≡ b
same_answer true b to from = sym (to refl)
same_answer false b to from = sym (false_from_ne_true b (λ h. true≢false (sym (from h))))

-- the path of an operation of a client on it
pub own-path : (s : Job) (r : ℕ) (p : List ℕ) (n : ℕ) (o : OpLine) → op_at s n ≡ Some o → IsSome (own_at s r p n) → (o.rank ≡ r) × (o.path ≡ p)
own-path s r p n o is own = by (subst (λ x. IsSome (own_op r p x)) is own) where
  by : IsSome (own_op r p (Some o)) → (o.rank ≡ r) × (o.path ≡ p)
  by h = elim (cases_Bool (o.rank == r && bytes_eq o.path p)) [
    | inl both ↦
        let parts = and_parts (o.rank == r) (bytes_eq o.path p) both in
        (eqb-true o.rank r parts.0, (bytes_eq-Decides o.path p).0 parts.1)
    | inr other ↦ absurd (true≢false (sym h ∙ ap (λ b. is_some (cond b (Some o.op) None)) other))
  ]

module _ {s : Job} {A : Answering} {now : ℕ} (paths : List (List ℕ)) (states : List PathState) (named : ArePaths s paths)
    (chunk : 0 < s.shape.chunk) (kept : length states ≡ length paths)
    (each : (i : ℕ) (p : List ℕ) (x : PathState) → slice_get paths i ≡ Some p → slice_get states i ≡ Some x → Stands s A now p x)
    (q : Piece) (o : OpLine) (is : op_at s q.line ≡ Some o) where
  abbrev journals : JournalsByPath
  journals p = journal_of (journals_of paths states) p

  -- what the present file of a path bears is in the file that is kept
  present-kept : (i : ℕ) (p : List ℕ) (x : PathState) → slice_get paths i ≡ Some p → slice_get states i ≡ Some x
      → bears (present_marks s A (journals p)) q ≡ is_some (file_hold x.owned.path.file q)
  present-kept i p x at there =
      let J : journals p ≡ x.owned.path.journal = journal_of-zip paths (map journal_kept states) i p (journal_kept x) named.rising at
      (slice_get-map_some journal_kept states i x there) in
      let owned = (each i p x at there).owned in
      ap (λ (j : List ℕ). bears (present_marks s A j) q) J ∙ ap (λ f. bears (cells_of f) q) (sym owned.marks)
      ∙ sym (file-bears x.owned.path.file q owned.written)

  -- no path but the line's own bears the piece
  own_path : (p : List ℕ) → bears (present_marks s A (journals p)) q ≡ true → p ≡ o.path
  own_path p borne = by (position (λ r. bytes_eq r p) paths) refl where
    by : (at : Option ℕ) → position (λ r. bytes_eq r p) paths ≡ at → p ≡ o.path
    by None e =
        let none = journal_of-absent paths (map journal_kept states) p
        (subst (λ r. IfNone r (Contains paths p → ⊥)) e (absent-from_position paths p)) in
        absurd (true≢false (sym borne ∙ ap (λ (j : List ℕ). bears (present_marks s A j) q) none))
    by (Some i) e =
        let at = subst (λ r. IfSome r (λ k. slice_get paths k ≡ Some p)) e (slice_get-position paths p) in
        let x = slice_get-some states i (let lt = slice_get_within paths i p at in omega arith) in
        let on = (each i p x.0 at x.1).owned.pieces q (sym (present-kept i p x.0 at x.1) ∙ borne) in
        sym (own-path s on.client p q.line o is on.by_client.own).1

  module _ (i : ℕ) (x : PathState) (k : ClientPath) (at : slice_get paths i ≡ Some o.path) (there : slice_get states i ≡ Some x)
      (beside : slice_get x.clients o.rank ≡ Some k) where
    live-kept : is_live s A journals q ≡ is_some (file_hold x.owned.path.file q)
    live-kept =
        let test = λ (p : List ℕ). bears (present_marks s A (journals p)) q in
        same_answer (is_live s A journals q) (is_some (file_hold x.owned.path.file q))
        (λ live.
        let h = Any-from_list_any test (named_paths s) live in
        sym (present-kept i o.path x at there) ∙ subst (λ p. test p ≡ true) (own_path h.1 h.4) h.4)
        (λ held. named-passes s q.line o o.path test is refl (present-kept i o.path x at there ∙ held))

    pending-kept : is_pending s A o.rank q ≡ is_some (pending_hold k q)
    pending-kept =
        let stands = (each i o.path x at there).clients o.rank k beside in
        let test = λ (p : List ℕ). bears (pending_marks s A o.rank p) q in
        let here : test o.path ≡ is_some (pending_hold k q) =
        ap (λ (ns : List ℕ). bears (marks_put s ns) q) (sym stands.pending) ∙ sym (pending-bears k.pending q stands.whole) in
        same_answer (is_pending s A o.rank q) (is_some (pending_hold k q))
        (λ waits.
        let h = Any-from_list_any test (named_paths s) waits in
        let own = (IsPart-pending_marks s chunk A o.rank h.1 q h.4).line.own in
        sym here ∙ subst (λ p. test p ≡ true) (sym (own-path s o.rank h.1 q.line o is own).1) h.4)
        (λ held. named-passes s q.line o o.path test is refl (here ∙ held))

    -- it has an owner exactly where it is kept
    pub owned-kept : (is_live s A journals q || is_pending s A o.rank q) ≡ keeps x.owned k q
    owned-kept = λ b. live-kept b || pending-kept b
