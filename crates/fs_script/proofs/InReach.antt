-- A line that is answered now: its front is at most the present length of the journal, and which versions it may print.
use Rattle.fs_types.proofs.Common.{common_steps, ◌≡◌, ℕ, zero, suc, ◌≤◌, ◌<◌, List, [], ◌∷◌, length, Option, Some, None, IsSome, ◌++◌, ◌==◌}
use Rattle.fs_types.proofs.Common.{◌&&◌, bytes_eq, eqb-true, refl, sym, ap, ◌∙◌, arith, ⊤, none-some, cond_some, MatchOption-at_some}
use Rattle.fs_types.proofs.Common.{and_parts, length_push, bytes_eq-Decides, AllByRecursion}
use Rattle.fs_script.specs.Vocabulary.{Answer, OpLine, Op, Job, op_at, rank_at, rank_in, own_op, own_at, phase, Answering, one_more}
use Rattle.fs_script.specs.Vocabulary.{version_of, at_least, seen, front, IsNoLater, IsInReach, IsLegalJournal, AllFit, ComesNext}
use Rattle.fs_script.specs.Vocabulary.{IsOfNoEarlierPhase}
use Rattle.fs_script.proofs.Fronts.{of_earlier_phases-le-length, front-push}
use Rattle.fs_script.proofs.JournalGrows.{answered-in_journal}
use Rattle.fs_script.proofs.PlainLists.{AllByRecursion-from_get, AllByRecursion-at, AllByRecursion-take, some_of, AllByRecursion-push}

-- ---- the front

at_least-le : (m k : ℕ) (v : Option ℕ) → m ≤ k → ((w : ℕ) → v ≡ Some w → w ≤ k) → at_least m v ≤ k
at_least-le m k None h each = h
at_least-le m k (Some v) h each = let here = each v refl in omega arith

-- what each answer before the line printed bounds what its client has seen
pub seen-le : (s : Job) (A : Answering) (r : ℕ) (p : List ℕ) (n k : ℕ)
    → ((m : ℕ) (a : Answer) (v : ℕ) → m < n → IsSome (own_at s r p m) → A m ≡ Some a → version_of a ≡ Some v → v ≤ k) → seen s A r p n ≤ k
seen-le s A r p zero k each = omega arith
seen-le s A r p (suc n) k each =
    one (own_at s r p n) (A n) (λ a v. each n a v (omega arith)) (seen-le s A r p n k (λ m a v before. each m a v (omega arith)))
  where
    one : (o : Option Op) (a : Option Answer) → ((b : Answer) (v : ℕ) → IsSome o → a ≡ Some b → version_of b ≡ Some v → v ≤ k)
        → seen s A r p n ≤ k → one_more (λ op b i m. at_least m (version_of b)) o a n (seen s A r p n) ≤ k
    one None a here h = h
    one (Some op) None here h = h
    one (Some op) (Some a) here h = at_least-le (seen s A r p n) k (version_of a) h (λ v is. here a v refl refl is)

-- where no answer before the line printed more than the journal's length, its front isn't more
pub front-le-length : (s : Job) (A : Answering) (J : List ℕ) (r : ℕ) (p : List ℕ) (n : ℕ)
    → ((m : ℕ) (a : Answer) (v : ℕ) → m < n → IsSome (own_at s r p m) → A m ≡ Some a → version_of a ≡ Some v → v ≤ length J)
    → front s A J r p n ≤ length J
front-le-length s A J r p n each = grind (arith, common_steps, seen-le, of_earlier_phases-le-length)

-- ---- where every answered line of the path fits the journal

own_op-is : {C : Type 0} (r : ℕ) (p : List ℕ) (o : Option OpLine) (op : Op) → own_op r p o ≡ Some op
    → ((l : OpLine) → o ≡ Some l → l.rank ≡ r → l.path ≡ p → l.op ≡ op → C) → C
own_op-is r p None op h k = absurd (none-some op h)
own_op-is r p (Some l) op h k =
    let parts = cond_some (l.rank == r && bytes_eq l.path p) l.op op h in
    let both = and_parts (l.rank == r) (bytes_eq l.path p) parts.0 in
    k l refl (eqb-true l.rank r both.0) ((bytes_eq-Decides l.path p).0 both.1) parts.1

-- no version that was printed is more than the journal's length
versions-le : {told : List ℕ} {s : Job} {A : Answering} {J : List ℕ} (r : ℕ) {p : List ℕ} (m : ℕ) (a : Answer) (v : ℕ)
    → AllFit told s A p J → IsSome (own_at s r p m) → A m ≡ Some a → version_of a ≡ Some v → v ≤ length J
versions-le {s} {A} {J} r {p} m a v fit own given prints =
    let op = some_of (own_at s r p m) own in
    own_op-is r p (op_at s m) op.0 op.1 (λ o is of_rank on does.
    let fits = fit.each m o a is on given in
    (MatchOption-at_some ⊤ (λ w. IsInReach s A J m o w) v prints fits.version).length)

-- so a line's front isn't either
pub front-le-length_fit : {told : List ℕ} {s : Job} {A : Answering} {J : List ℕ} (r : ℕ) {p : List ℕ} (n : ℕ) → AllFit told s A p J
    → front s A J r p n ≤ length J
front-le-length_fit {told} {s} {A} {J} r {p} n fit = front-le-length s A J r p n
    (λ m a v before own given prints. versions-le r m a v fit own given prints)

-- ---- the versions that a line may print as it is answered

-- no line of the journal is a later one
pub IsNoLater-now : {s : Job} {A : Answering} {p : List ℕ} {J : List ℕ} {n : ℕ} (r : ℕ) → IsLegalJournal s A p J → ComesNext s A n
    → rank_at s n ≡ Some r → IsOfNoEarlierPhase s n J → AllByRecursion (λ m. IsNoLater s r n m) J
IsNoLater-now {s} {A} {p} {J} {n} r legal next mine later = AllByRecursion-from_get (λ m. IsNoLater s r n m) J (λ k m at. record {
  phase = AllByRecursion-at (λ j. phase s j ≤ phase s n) J k m later at;
  own = λ of_rank.
      let given = some_of (A m) (answered-in_journal k m legal at) in
      let before = next.last m given.0 given.1 (of_rank ∙ sym mine) in
      omega arith;
})

-- each from its front up to the length of the journal
pub IsInReach-now : {s : Job} {A : Answering} {J : List ℕ} {n : ℕ} (o : OpLine) (v : ℕ) → IsLegalJournal s A o.path J → ComesNext s A n
    → op_at s n ≡ Some o → IsOfNoEarlierPhase s n J → front s A J o.rank o.path n ≤ v → v ≤ length J → IsInReach s A J n o v
IsInReach-now {s} {A} {J} {n} o v legal next is later from to = record {
  front = from;
  length = to;
  no_later = AllByRecursion-take (λ m. IsNoLater s o.rank n m) v J (IsNoLater-now o.rank legal next (ap rank_in is) later);
}

-- and the version that it makes itself, in the journal with the line at its end
pub IsInReach-made : {s : Job} {A : Answering} {J : List ℕ} {n : ℕ} (o : OpLine) → IsLegalJournal s A o.path J → ComesNext s A n
    → op_at s n ≡ Some o → IsOfNoEarlierPhase s n J
    → front s A J o.rank o.path n ≤ length J → IsInReach s A (J ++ n ∷ []) n o (suc (length J))
IsInReach-made {s} {A} {J} {n} o legal next is later from =
    let size = length_push J n in
    let same = front-push s A J o.rank o.path n n (omega arith) in
    let before = IsNoLater-now o.rank legal next (ap rank_in is) later in
    record {
      front = omega arith;
      length = omega arith;
      no_later = AllByRecursion-take (λ m. IsNoLater s o.rank n m) (suc (length J)) (J ++ n ∷ [])
          (AllByRecursion-push (λ m. IsNoLater s o.rank n m) J n before (record { phase = omega arith; own = λ _. omega arith }));
    }
