-- What stays true of the places of a file as pending lines are put holds of them at each version.
use Rattle.fs_types.proofs.Common.{◌≡◌, ℕ, List, [], ◌∷◌, take, Option, Some, None, All, AllByRecursion, All-nil, cond_both, refl}
use Rattle.fs_types.specs.Overwrite.{cut}
use Rattle.fs_types.specs.PlainFile.{File, written}
use Rattle.fs_types.proofs.CallerLemmas.{All-written, All-cut}
use Rattle.fs_script.specs.declared.line.OpLine.{OpLine}
use Rattle.fs_script.specs.declared.line.Op.{Op}
use Rattle.fs_script.specs.declared.line.Op.TheVariants as ops
use Rattle.fs_script.specs.Job.{Job, op_at}
use Rattle.fs_script.specs.Payload.{Cells, offset}
use Rattle.fs_script.specs.Pending.{Answering, pending_at}
use Rattle.fs_script.specs.Effect.{put_lines, with_lines, cut_to, as_frozen, is_enabled, makes, effect_in, effect, after_all, state_in}
use Rattle.fs_script.specs.FileMarks.{cells_of}

module _ {X : Type 0} (Q : List X → Type 0) (s : Job) (c : Cells X) (of_nothing : Q []) where
  -- it stays true as these lines are put
  abbrev pub StaysTrue : List ℕ → Type 0
  StaysTrue ns = (xs : List X) → Q xs → Q (put_lines s c ns xs)

  -- it stays true as a file is cut to n places
  abbrev pub StaysTrueInCut : ℕ → Type 0
  StaysTrueInCut n = (xs : List X) → Q xs → Q (cut c.blank xs n)

  holds-with_lines : (q : List ℕ) (f : File X) → StaysTrue q → Q (cells_of f) → Q (cells_of (with_lines s c q f))
  holds-with_lines q None stays holds = holds
  holds-with_lines q (Some f) stays holds = stays f.cells holds

  holds-cut_to : (n : ℕ) (f : File X) → StaysTrueInCut n → Q (cells_of f) → Q (cells_of (cut_to c.blank n f))
  holds-cut_to n None cuts holds = holds
  holds-cut_to n (Some f) cuts holds = cuts f.cells holds

  holds-as_frozen : (f : File X) → Q (cells_of f) → Q (cells_of (as_frozen f))
  holds-as_frozen None holds = holds
  holds-as_frozen (Some f) holds = holds

  holds-makes : (op : Op) (q : List ℕ) (f : File X) → StaysTrue q → ((n : ℕ) → op ≡ ops.Trunc n → StaysTrueInCut n)
      → Q (cells_of f) → Q (cells_of (makes s c op q f))
  holds-makes ops.Create q f stays cuts holds = of_nothing
  holds-makes ops.Open q f stays cuts holds = holds
  holds-makes (ops.Write off text) q f stays cuts holds = holds
  holds-makes ops.Sync q f stays cuts holds = holds-with_lines q f stays holds
  holds-makes (ops.Read off len own) q f stays cuts holds = holds
  holds-makes ops.Size q f stays cuts holds = holds
  holds-makes (ops.Trunc n) q f stays cuts holds =
      holds-cut_to n (with_lines s c q f) (cuts n refl) (holds-with_lines q f stays holds)
  holds-makes ops.Laminate q f stays cuts holds = holds-as_frozen (with_lines s c q f) (holds-with_lines q f stays holds)
  holds-makes ops.Unlink q f stays cuts holds = of_nothing

  -- it stays true as the operation of a line cuts a file
  abbrev pub StaysTrueInCutsOf : Option OpLine → Type 0
  StaysTrueInCutsOf o = (l : OpLine) (n : ℕ) → o ≡ Some l → l.op ≡ ops.Trunc n → StaysTrueInCut n

  holds-effect_in : (o : Option OpLine) (q : List ℕ) (f : File X) → StaysTrue q → StaysTrueInCutsOf o
      → Q (cells_of f) → Q (cells_of (effect_in s c o q f))
  holds-effect_in None q f stays cuts holds = holds
  holds-effect_in (Some o) q f stays cuts holds = cond_both (is_enabled o.op f) (makes s c o.op q f) f (λ g. Q (cells_of g))
      (λ _. holds-makes o.op q f stays (λ n is. cuts o n refl is) holds) (λ _. holds)

  module _ (A : Answering) (each : (n : ℕ) → StaysTrue (pending_at s A n)) (cuts : (n : ℕ) → StaysTrueInCutsOf (op_at s n)) where
    holds-after_all : (J : List ℕ) (f : File X) → Q (cells_of f) → Q (cells_of (after_all s c A J f))
    holds-after_all [] f holds = holds
    holds-after_all (n ∷ J) f holds =
        holds-after_all J (effect s c A n f) (holds-effect_in (op_at s n) (pending_at s A n) f (each n) (cuts n) holds)

    pub holds-state_in : (J : List ℕ) (v : ℕ) → Q (cells_of (state_in s c A J v))
    holds-state_in J v = holds-after_all (take v J) None of_nothing

-- what holds of the blank and of all that the pending lines bring holds of each place
module _ {X : Type 0} (P : X → Type 0) (s : Job) (c : Cells X) (of_blank : P c.blank) where
  -- it holds of all that these lines bring
  abbrev pub OfLines : List ℕ → Type 0
  OfLines ns = AllByRecursion (λ n. All P (c.of_line n)) ns

  pub All-put_lines : (ns : List ℕ) (xs : List X) → OfLines ns → All P xs → All P (put_lines s c ns xs)
  All-put_lines [] xs each all = all
  All-put_lines (n ∷ ns) xs each all = All-put_lines ns (written c.blank xs (offset s n) (c.of_line n)) each.1
      (All-written P c.blank xs (offset s n) (c.of_line n) of_blank all each.0)

  pub All-state_in : (A : Answering) → ((n : ℕ) → OfLines (pending_at s A n)) → (J : List ℕ) (v : ℕ) → All P (cells_of (state_in s c A J v))
  All-state_in A each =
      holds-state_in (All P) s c (All-nil P) A (λ n xs all. All-put_lines (pending_at s A n) xs (each n) all)
      (λ n l m at is xs all. All-cut P c.blank xs m of_blank all)
