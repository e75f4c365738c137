-- A piece is live where the present file of any path bears it, and pending where what its client has pending to any path does:
-- a file that is there is of a path that the script names, and so is every write.
use Rattle.fs_types.proofs.Common.{◌≡◌, ℕ, zero, suc, ◌<◌, Bool, true, ◌||◌, ◌&&◌, ◌==◌, List, [], ◌∷◌, filter_map, list_any}
use Rattle.fs_types.proofs.Common.{Option, Some, None, IsSome, is_some, option_map, cons_option, bytes_eq, bytes_eq-Decides, cond}
use Rattle.fs_types.proofs.Common.{cases_Bool, none-some, same_Some, true≢false, refl, sym, ap, ◌∙◌, inl, inr, and_parts}
use Rattle.fs_types.proofs.Common.{slice_get, cond-false, nat_list_eq_equiv}
use Rattle.std.proofs.Math.Bool.{or-true}
use Rattle.std.proofs.lemmas.List.Folds.{Any-from_list_any, list_any_at}
use Rattle.fs_types.specs.Pieces.{Piece}
use Rattle.fs_script.specs.declared.line.Line.{Line}
use Rattle.fs_script.specs.declared.line.OpLine.{OpLine}
use Rattle.fs_script.specs.Job.{Job, op_at, operation, own_op}
use Rattle.fs_script.specs.Journal.{committed, commit_in, commit_by, IsLegalJournal}
use Rattle.fs_script.specs.Live.{path_in, named_paths, bears, is_live, is_pending, pending_marks}
use Rattle.fs_script.specs.FileMarks.{present_marks}
use Rattle.fs_script.specs.Pending.{Answering, pending}
use Rattle.fs_script.specs.Journal.{JournalsByPath}
use Rattle.fs_script.proofs.LivePieces.{IsPart-pending_marks}
use Rattle.fs_script.proofs.PiecesOnce.{list_any-each_once}

-- ---- the paths that a script names

list_any-later : {X : Type 0} (test : X → Bool) (y : Option X) (xs : List X) → list_any test xs ≡ true
    → list_any test (cons_option y xs) ≡ true
list_any-later test None xs h = h
list_any-later test (Some y) xs h = ap (λ b. test y || b) h ∙ or-true (test y)

-- the path of an operation is among those of the lines
op-named : (ls : List Line) (k : ℕ) (o : OpLine) → operation (slice_get ls k) ≡ Some o
    → list_any (bytes_eq o.path) (filter_map path_in ls) ≡ true
op-named [] k o is = absurd (none-some o is)
op-named (l ∷ ls) zero o is = first (operation (Some l)) is where
  first : (x : Option OpLine) → x ≡ Some o
      → list_any (bytes_eq o.path) (cons_option (option_map (λ q. q.path) x) (filter_map path_in ls)) ≡ true
  first None e = absurd (none-some o e)
  first (Some q) e = ap (λ b. b || list_any (bytes_eq o.path) (filter_map path_in ls))
      ((bytes_eq-Decides o.path q.path).1 (ap (λ l. l.path) (sym (same_Some q o e))))
op-named (l ∷ ls) (suc k) o is = list_any-later (bytes_eq o.path) (path_in l) (filter_map path_in ls) (op-named ls k o is)

-- so it is among those that the script names
pub path-named : (s : Job) (n : ℕ) (o : OpLine) → op_at s n ≡ Some o → list_any (bytes_eq o.path) (named_paths s) ≡ true
path-named s zero o is = absurd (none-some o is)
path-named s (suc zero) o is = absurd (none-some o is)
path-named s (suc (suc k)) o is =
    list_any-each_once bytes_eq nat_list_eq_equiv o.path (filter_map path_in s.lines) ∙ op-named s.lines k o is

-- a test that such a path passes, some path that the script names passes
pub named-passes : (s : Job) (n : ℕ) (o : OpLine) (p : List ℕ) (test : List ℕ → Bool) → op_at s n ≡ Some o → o.path ≡ p → test p ≡ true
    → list_any test (named_paths s) ≡ true
named-passes s n o p test is on passes =
    let h = Any-from_list_any (bytes_eq o.path) (named_paths s) (path-named s n o is) in
    let same : h.1 ≡ p = sym ((bytes_eq-Decides o.path h.1).0 h.4) ∙ on in
    list_any_at test (named_paths s) h.0 h.1 h.2 (ap test (h.3 ∙ same) ∙ passes)

-- ---- live

-- what a line committed to a path is an operation on it
committed-op : (s : Job) (A : Answering) (p : List ℕ) (n v : ℕ) → committed s A p n ≡ Some v
    → (o : OpLine) × (op_at s n ≡ Some o) × (o.path ≡ p)
committed-op s A p n v commits = by (op_at s n) refl commits where
  by : (x : Option OpLine) → op_at s n ≡ x → commit_in s A p n x ≡ Some v → (o : OpLine) × (op_at s n ≡ Some o) × (o.path ≡ p)
  by None is e = absurd (none-some v e)
  by (Some o) is e = elim (cases_Bool (bytes_eq o.path p)) [
    | inl same ↦ (o, is, (bytes_eq-Decides o.path p).0 same)
    | inr other ↦
        let none = cond-false (bytes_eq o.path p) (commit_by o.op (pending s A o.rank o.path n) (A n)) None other in
        absurd (none-some v (sym none ∙ e))
  ]

-- with legal journals, a piece that the present file of any path bears is live
pub live-by_any_path : (s : Job) (A : Answering) (journals : JournalsByPath) (p : List ℕ) (x : Piece) → IsLegalJournal s A p (journals p)
    → bears (present_marks s A (journals p)) x ≡ true → is_live s A journals x ≡ true
live-by_any_path s A journals p x legal borne = by (journals p) refl legal where
  by : (J : List ℕ) → journals p ≡ J → IsLegalJournal s A p J → is_live s A journals x ≡ true
  by [] is legal = absurd (true≢false (sym borne ∙ ap (λ J. bears (present_marks s A J) x) is))
  by (n ∷ J) is legal =
      let op = committed-op s A p n 1 (legal.entries 0 n refl).committed in
      named-passes s n op.0 p (λ q. bears (present_marks s A (journals q)) x) op.1 op.2 borne

-- ---- pending

own_op-path : (r : ℕ) (p : List ℕ) (x : Option OpLine) → IsSome (own_op r p x) → (o : OpLine) × (x ≡ Some o) × (o.path ≡ p)
own_op-path r p None h = absurd (true≢false (sym h))
own_op-path r p (Some o) h = elim (cases_Bool (o.rank == r && bytes_eq o.path p)) [
  | inl both ↦ (o, refl, (bytes_eq-Decides o.path p).0 (and_parts (o.rank == r) (bytes_eq o.path p) both).1)
  | inr other ↦ absurd (true≢false (sym h ∙ ap (λ b. is_some (cond b (Some o.op) None)) other))
]

-- a piece that what a client has pending to any path bears is pending
pub pending-by_any_path : (s : Job) (A : Answering) (r : ℕ) (p : List ℕ) (x : Piece) → 0 < s.shape.chunk
    → bears (pending_marks s A r p) x ≡ true → is_pending s A r x ≡ true
pending-by_any_path s A r p x some borne =
    let op = own_op-path r p (op_at s x.line) (IsPart-pending_marks s some A r p x borne).line.own in
    named-passes s x.line op.0 p (λ q. bears (pending_marks s A r q) x) op.1 op.2 borne
