-- Of which paths all clients know, as lines come to their end, and as the clients are told of these lines' paths.
use Rattle.fs_types.proofs.Common.{◌≡◌, ◌≢◌, ℕ, false, ◌||◌, List, [], ◌∷◌, ◌++◌, Some, None, sym, ap, ◌∙◌, inl, inr, true≢false, bytes_eq}
use Rattle.std.proofs.lemmas.Bool.{or_parts}
use Rattle.std.proofs.lemmas.List.Folds.{list_any-append}
use Rattle.std.specs.List.{list_any}
use Rattle.client_files.proofs.CallerLemmas.{changed-cases}
use Rattle.client_files.specs.PathMap.{Changes}
use Rattle.fs_script.specs.Vocabulary.{Job, op_at}
use Rattle.fs_script.proofs.CallerLemmas.{other_bytes, same_bytes}
use Rattle.core_machine.specs.PathStates.{AreToldBut, is_on}
use Rattle.core_machine.specs.Vocabulary.{Book, KeptBoard, OpLine, PlainHold, noted_now, path_at, told_in}

-- an operation on another path isn't on this one
off-path : (o : OpLine) (p : List ℕ) → p ≢ o.path → is_on p (Some o) ≡ false
off-path o p other = other_bytes o.path p (λ e. other (sym e))

-- what is noted of each path is what was
pub told-same : {s : Job} {board : KeptBoard} {books books' : List (Book PlainHold)} {lines : List ℕ}
    → ((q : List ℕ) → noted_now (path_at books' q) ≡ noted_now (path_at books q)) → AreToldBut s lines board books
    → AreToldBut s lines board books'
told-same same told = record { each = λ q none. told.each q none ∙ sym (same q) }

-- one line more ended, and changed its own path alone
pub told-ended : {s : Job} {board : KeptBoard} {books books' : List (Book PlainHold)} {lines : List ℕ} (n : ℕ) (o : OpLine)
    → op_at s n ≡ Some o → ((q : List ℕ) → q ≢ o.path → path_at books' q ≡ path_at books q) → AreToldBut s lines board books
    → AreToldBut s (lines ++ n ∷ []) board books'
told-ended {s} {lines = lines} n o is same told = record {
  each = λ q none.
      let test = λ (m : ℕ). is_on q (op_at s m) in
      let both = or_parts (list_any test lines) (list_any test (n ∷ [])) (sym (list_any-append test lines (n ∷ [])) ∙ none) in
      let off : bytes_eq o.path q ≡ false = sym (ap (is_on q) is) ∙ (or_parts (test n) false both.1).0 in
      let other : q ≢ o.path = λ e. true≢false (sym (same_bytes o.path q (sym e)) ∙ off) in
      told.each q both.0 ∙ ap noted_now (sym (same q other));
}

-- all clients are told of the path of the first of some lines
pub told-next : {s : Job} {board board' : KeptBoard} {books : List (Book PlainHold)} {n : ℕ} {lines : List ℕ} (o : OpLine)
    → op_at s n ≡ Some o → Changes (told_in board) (told_in board') o.path (noted_now (path_at books o.path))
    → AreToldBut s (n ∷ lines) board books → AreToldBut s lines board' books
told-next {books = books} o is changes told = record {
  each = λ q none. elim (changed-cases changes q) [
    | inl here ↦ here.1 ∙ ap (λ p. noted_now (path_at books p)) (sym here.0)
    | inr other ↦ other.1 ∙ told.each q (λ i. (ap (is_on q) is ∙ off-path o q other.0) i || none i)
  ];
}

-- the first of some lines is on no path
pub told-skip : {s : Job} {board : KeptBoard} {books : List (Book PlainHold)} {n : ℕ} {lines : List ℕ} → op_at s n ≡ None
    → AreToldBut s (n ∷ lines) board books → AreToldBut s lines board books
told-skip is told = record { each = λ q none. told.each q (λ i. is_on q (is i) || none i) }
