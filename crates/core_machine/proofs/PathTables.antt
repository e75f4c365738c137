-- The paths of a script's lines: which they are, their order, and their places; and the gfids of the paths, by line.
use Rattle.std.proofs.lemmas.List.Elements.{Contains-push_cases}
use Rattle.std.specs.Ordering.{ordering_reverse}
use Rattle.std.specs.List.Sorted.{IsStrictlySortedBy}
use Rattle.fs_types.proofs.Common.{◌≡◌, ℕ, zero, suc, ◌+◌, ◌-◌, ◌<◌, ◌≤◌, Bool, true, false, cond, ltb, not, List, [], ◌∷◌, ◌++◌}
use Rattle.fs_types.proofs.Common.{length, map, take, get_or, position, Option, Some, None, Contains, Vec, nat_eq, refl, sym, ap, subst, ◌∙◌}
use Rattle.fs_types.proofs.Common.{arith, true≢false, inl, inr, fold, if◌then◌else◌, ◌⊎◌, ◌||◌, AllByRecursion, slice_get}
use Rattle.fs_types.proofs.Common.{list_any, prefix_len, IsDistinct, IsSorted, IsPermutation, bytes_eq, IsTotalOrder}
use Rattle.fs_types.proofs.Common.{unsigned_ties, slice_cmp, pointwise, lists_ties, nat_cmp, is_lt, is_eq, eq_by_cmp}
use Rattle.fs_types.proofs.Common.{Ordering, Less, Equal, Greater, nat_list_cmp_total, nat_list_eq_equiv, on_total}
use Rattle.fs_types.proofs.Common.{sorted_from_all_adjacent, apart_from_distinct, sorted_head, sorted_tail, map_push, length-map}
use Rattle.fs_types.proofs.Common.{Contains-append_left, IsPermutation-map, IsPermutation-sym, Contains-permutation}
use Rattle.fs_types.proofs.Common.{bytes_eq-Decides}
use Rattle.fs_types.proofs.Common.{IfSome}
use Rattle.placement.specs.Placement.{gfid}
use Rattle.indexmap.specs.IndexSet.{insert_key}
use Rattle.fs_script.specs.Vocabulary.{Job, Names, operation, op_at, AreRising, ArePaths}
use Rattle.fs_script.proofs.CallerLemmas.{slice_get-position}
use Rattle.core_machine.specs.Vocabulary.{Line, OpLine, texts, with_path, with_op, with_path_of, paths_of}
use Rattle.core_machine.specs.Vocabulary.{AreGfids, gfid_in, gfids_of}
use Rattle.indexmap.proofs.CallerLemmas.{Contains-insert_key}

-- ---- vectors, and their bytes
module _ {A : Type 0} where
  -- whether the bytes are among those of the vectors
  pub list_any-texts : (p : List ℕ) (vs : List (Vec ℕ A)) → list_any (bytes_eq p) (texts vs) ≡ list_any (λ v. bytes_eq p v.items) vs
  list_any-texts p [] = refl
  list_any-texts p (v ∷ vs) = ap (λ b. bytes_eq p v.items || b) (list_any-texts p vs)

  -- an inserted vector brings its bytes
  pub texts-insert_key : (vs : List (Vec ℕ A)) (v : Vec ℕ A)
      → texts (insert_key (λ x y. pointwise nat_eq x.items y.items) vs v) ≡ with_path (texts vs) v.items
  texts-insert_key vs v = by (list_any (λ x. bytes_eq v.items x.items) vs) refl
    where
      by : (b : Bool) → list_any (λ x. bytes_eq v.items x.items) vs ≡ b
          → texts (insert_key (λ x y. pointwise nat_eq x.items y.items) vs v) ≡ with_path (texts vs) v.items
      by true e = ap (λ b. texts (if b then vs else vs ++ v ∷ [])) e
          ∙ sym (ap (λ b. if b then texts vs else texts vs ++ v.items ∷ []) (list_any-texts v.items vs ∙ e))
      by false e = ap (λ b. texts (if b then vs else vs ++ v ∷ [])) e ∙ map_push (λ x. x.items) vs v
          ∙ sym (ap (λ b. if b then texts vs else texts vs ++ v.items ∷ []) (list_any-texts v.items vs ∙ e))

  -- bytes that are there bring no path
  pub with_path-there : (vs : List (Vec ℕ A)) (p : List ℕ) → list_any (λ v. bytes_eq p v.items) vs ≡ true
      → with_path (texts vs) p ≡ texts vs
  with_path-there vs p there = ap (λ b. if b then texts vs else texts vs ++ p ∷ []) (list_any-texts p vs ∙ there)

  -- as many texts as vectors stand before the bytes
  prefix_len-texts : (p : List ℕ) (vs : List (Vec ℕ A)) → prefix_len (λ q. not (bytes_eq q p)) (texts vs)
      ≡ prefix_len (λ v. not (pointwise nat_eq p v.items)) vs
  prefix_len-texts p [] = refl
  prefix_len-texts p (v ∷ vs) =
      ap (λ b. cond (not b) (1 + prefix_len (λ q. not (bytes_eq q p)) (texts vs)) 0) (nat_list_eq_equiv.symm v.items p)
      ∙ ap (λ n. cond (not (pointwise nat_eq p v.items)) (1 + n) 0) (prefix_len-texts p vs)

  -- the place of the bytes, by the vectors
  pub position-texts : (p : List ℕ) (vs : List (Vec ℕ A))
      → position (λ v. pointwise nat_eq p v.items) vs ≡ position (λ q. bytes_eq q p) (texts vs)
  position-texts p vs = sym (
      ap (λ n. cond (ltb n (length (texts vs))) (Some n) None) (prefix_len-texts p vs)
      ∙ ap (λ m. cond (ltb (prefix_len (λ v. not (pointwise nat_eq p v.items)) vs) m)
      (Some (prefix_len (λ v. not (pointwise nat_eq p v.items)) vs)) None) (length-map vs (λ v. v.items)))

  -- where bytes are found among the vectors, the texts have them
  pub path-there : (p : List ℕ) (vs : List (Vec ℕ A))
      → IfSome (position (λ v. pointwise nat_eq p v.items) vs) (λ i. slice_get (texts vs) i ≡ Some p)
  path-there p vs =
      subst (λ r. IfSome r (λ i. slice_get (texts vs) i ≡ Some p)) (sym (position-texts p vs)) (slice_get-position (texts vs) p)

  -- bytes that bring a path put their value behind those of the texts
  pub values-with_path : {X : Type 0} (f : List ℕ → X) (vs : List (Vec ℕ A)) (p : List ℕ) → list_any (λ v. bytes_eq p v.items) vs ≡ false
      → map f (with_path (texts vs) p) ≡ map f (texts vs) ++ f p ∷ []
  values-with_path f vs p absent = ap (λ b. map f (if b then texts vs else texts vs ++ p ∷ [])) (list_any-texts p vs ∙ absent)
      ∙ map_push f (texts vs) p

  -- what is below each vector's bytes is below each text
  above_texts : (p : List ℕ) (vs : List (Vec ℕ A)) → AllByRecursion (λ v. slice_cmp nat_cmp p v.items ≡ Less) vs
      → AllByRecursion (λ q. is_lt (slice_cmp nat_cmp p q) ≡ true) (texts vs)
  above_texts p [] all = tt
  above_texts p (v ∷ vs) all = (ap is_lt all.0, above_texts p vs all.1)

  -- vectors that rise have rising texts
  AreRising-from_IsStrictlySortedBy : (vs : List (Vec ℕ A)) → IsStrictlySortedBy (λ x y. slice_cmp nat_cmp x.items y.items) vs
      → AreRising (texts vs)
  AreRising-from_IsStrictlySortedBy [] sorted = tt
  AreRising-from_IsStrictlySortedBy (v ∷ vs) sorted = (
    above_texts v.items vs (sorted_head _ v vs sorted),
    AreRising-from_IsStrictlySortedBy vs (sorted_tail _ v vs sorted),
  )

-- ---- a sorted list without equal elements
-- an ordering is `Less` where it is neither of the others
Less-from_others : (o : Ordering) → (o ≡ Equal → ⊥) → (o ≡ Greater → ⊥) → o ≡ Less
Less-from_others Less unequal ungreater = refl
Less-from_others Equal unequal ungreater = absurd (unequal refl)
Less-from_others Greater unequal ungreater = absurd (ungreater refl)

module _ {K : Type 0} {R : K → K → Ordering} (order : IsTotalOrder R) {E : K → K → Bool} (ties : (x y : K) → E x y ≡ eq_by_cmp R x y) where
  -- an element is below the next where the next is not below it, nor equal to it
  Less-from_neighbours : (x y : K) → is_lt (R y x) ≡ false → E x y ≡ false → R x y ≡ Less
  Less-from_neighbours x y not_after apart =
      Less-from_others (R x y) (λ e. true≢false (sym (ties x y ∙ ap is_eq e) ∙ apart))
      (λ e. true≢false (sym (ap is_lt (order.antisymm y x) ∙ (ap (λ x. is_lt (ordering_reverse x)) e)) ∙ not_after))

  -- so a sorted list of distinct elements rises
  IsStrictlySortedBy-from_distinct : (ks : List K) → IsSorted R ks → IsDistinct E ks → IsStrictlySortedBy R ks
  unfolding IsStrictlySortedBy
  IsStrictlySortedBy-from_distinct [] sorted distinct = tt
  IsStrictlySortedBy-from_distinct (x ∷ xs) sorted distinct =
      sorted_from_all_adjacent order (x ∷ xs) x (λ k within.
      Less-from_neighbours (get_or (x ∷ xs) k x) (get_or (x ∷ xs) (k + 1) x) (sorted k x (omega arith) within)
      (apart_from_distinct E (x ∷ xs) k (k + 1) x distinct (omega arith) within))

-- sorted vectors, no two of which are equal, have rising bytes
pub AreRising-from_sort : {A : Type 0} (vs : List (Vec ℕ A)) → IsSorted (λ x y. slice_cmp nat_cmp x.items y.items) vs
    → IsDistinct (λ x y. pointwise nat_eq x.items y.items) vs → AreRising (texts vs)
AreRising-from_sort {A} vs sorted distinct =
    AreRising-from_IsStrictlySortedBy vs (IsStrictlySortedBy-from_distinct (on_total (λ (v : Vec ℕ A). v.items) nat_list_cmp_total)
    (λ x y. lists_ties nat_cmp unsigned_ties x.items y.items) vs sorted distinct)

-- ---- the paths of lines
-- one line more brings its path
fold-with_path_of-more : (acc : List (List ℕ)) (ls : List Line) (k : ℕ) → k < length ls
    → fold with_path_of acc (take (suc k) ls) ≡ with_op (fold with_path_of acc (take k ls)) (operation (slice_get ls k))
fold-with_path_of-more acc [] k within = absurd (omega arith)
fold-with_path_of-more acc (l ∷ ls) zero within = refl
fold-with_path_of-more acc (l ∷ ls) (suc k) within = fold-with_path_of-more (with_path_of acc l) ls k (omega arith)

-- the paths of the lines before n and of line n
pub paths_of-more : (s : Job) (n : ℕ) → 2 ≤ n → n < length s.lines + 2
    → paths_of (take (n + 1 - 2) s.lines) ≡ with_op (paths_of (take (n - 2) s.lines)) (op_at s n)
paths_of-more s zero past within = absurd (omega arith)
paths_of-more s (suc zero) past within = absurd (omega arith)
paths_of-more s (suc (suc k)) past within =
    let next : suc (suc k) + 1 - 2 ≡ suc k = omega arith in
    let here : suc (suc k) - 2 ≡ k = omega arith in
    ap (λ i. paths_of (take i s.lines)) next ∙ fold-with_path_of-more [] s.lines k (omega arith)
    ∙ sym (ap (λ i. with_op (paths_of (take i s.lines)) (operation (slice_get s.lines k))) here)

-- the test for equal bytes tells paths apart
same_from_bytes : (p q : List ℕ) → bytes_eq p q ≡ true → p ≡ q
same_from_bytes p q e = (bytes_eq-Decides p q).0 e

-- a path that is added takes none away
Contains-with_path : (ps : List (List ℕ)) (p q : List ℕ) → Contains ps q → Contains (with_path ps p) q
Contains-with_path ps p q there = by (list_any (bytes_eq p) ps)
  where
    by : (b : Bool) → Contains (if b then ps else ps ++ p ∷ []) q
    by true = there
    by false = Contains-append_left ps (p ∷ []) q there

-- and nothing else comes
Contains-with_path-cases : (ps : List (List ℕ)) (p q : List ℕ) → Contains (with_path ps p) q → Contains ps q ⊎ (p ≡ q)
Contains-with_path-cases ps p q = by (list_any (bytes_eq p) ps)
  where
    by : (b : Bool) → Contains (if b then ps else ps ++ p ∷ []) q → Contains ps q ⊎ (p ≡ q)
    by true there = inl there
    by false there = Contains-push_cases ps p q there

-- an operation's path takes none away
Contains-with_op : (ps : List (List ℕ)) (o : Option OpLine) (q : List ℕ) → Contains ps q → Contains (with_op ps o) q
Contains-with_op ps None q there = there
Contains-with_op ps (Some o) q there = Contains-with_path ps o.path q there

-- nor do the paths of lines
Contains-fold : (acc : List (List ℕ)) (ls : List Line) (q : List ℕ) → Contains acc q → Contains (fold with_path_of acc ls) q
Contains-fold acc [] q there = there
Contains-fold acc (l ∷ ls) q there = Contains-fold (with_path_of acc l) ls q (Contains-with_op acc (operation (Some l)) q there)

-- the path of each line that is an operation is there
Contains-fold-from_line : (acc : List (List ℕ)) (ls : List Line) (k : ℕ) (o : OpLine) → operation (slice_get ls k) ≡ Some o
    → Contains (fold with_path_of acc ls) o.path
Contains-fold-from_line acc [] k o is = absurd cc
Contains-fold-from_line acc (l ∷ ls) zero o is =
    Contains-fold (with_path_of acc l) ls o.path (subst (λ x. Contains (with_op acc x) o.path) (sym is)
    (Contains-insert_key bytes_eq same_from_bytes acc o.path))
Contains-fold-from_line acc (l ∷ ls) (suc k) o is = Contains-fold-from_line (with_path_of acc l) ls k o is

-- some of these lines is an operation on this path
record IsNamedIn (ls : List Line) (p : List ℕ) : Type 0 where
  place : ℕ
  op : OpLine
  is : operation (slice_get ls place) ≡ Some op
  on : op.path ≡ p

-- a line before them changes nothing of that
IsNamedIn-later : (l : Line) {ls : List Line} {p : List ℕ} → IsNamedIn ls p → IsNamedIn (l ∷ ls) p
IsNamedIn-later l named = record { place = suc named.place; op = named.op; is = named.is; on = named.on }

-- a path was there before an operation, or is its path
Contains-with_op-cases : (ps : List (List ℕ)) (o : Option OpLine) (q : List ℕ) → Contains (with_op ps o) q
    → Contains ps q ⊎ ((x : OpLine) × (o ≡ Some x) × (x.path ≡ q))
Contains-with_op-cases ps None q there = inl there
Contains-with_op-cases ps (Some o) q there = elim (Contains-with_path-cases ps o.path q there) [
  | inl before ↦ inl before
  | inr same ↦
      inr (o, refl, same)
]

-- a path was there before these lines, or one of them names it
Contains-fold-cases : (acc : List (List ℕ)) (ls : List Line) (q : List ℕ) → Contains (fold with_path_of acc ls) q
    → Contains acc q ⊎ IsNamedIn ls q
Contains-fold-cases acc [] q there = inl there
Contains-fold-cases acc (l ∷ ls) q there = elim (Contains-fold-cases (with_path_of acc l) ls q there) [
  | inl before ↦ elim (Contains-with_op-cases acc (operation (Some l)) q before) [
    | inl earlier ↦ inl earlier
    | inr here ↦ inr (record { place = 0; op = here.0; is = here.1; on = here.2 })
  ]
  | inr named ↦ inr (IsNamedIn-later l named)
]

-- each path of a job's lines is one that it names
Names-from_Contains : (s : Job) (p : List ℕ) → Contains (paths_of s.lines) p → Names s p
Names-from_Contains s p there = elim (Contains-fold-cases [] s.lines p there) [
  | inl before ↦ absurd (let short : before.0 < 0 = before.1 in omega arith)
  | inr named ↦ record { line = suc (suc named.place); op = named.op; is = named.is; on = named.on }
]

-- and the path of each of its operations is among them
Contains-from_op_at : (s : Job) (n : ℕ) (o : OpLine) → op_at s n ≡ Some o → Contains (paths_of s.lines) o.path
Contains-from_op_at s zero o is = absurd cc
Contains-from_op_at s (suc zero) o is = absurd cc
Contains-from_op_at s (suc (suc k)) o is = Contains-fold-from_line [] s.lines k o is

-- the paths of a job's lines in byte order are those that it names
pub ArePaths-from_sort : {A : Type 0} (s : Job) (vs ws : List (Vec ℕ A)) → texts vs ≡ paths_of s.lines → IsPermutation vs ws
    → AreRising (texts ws) → ArePaths s (texts ws)
ArePaths-from_sort s vs ws are moved rising =
    let texts_moved = IsPermutation-map (λ v. v.items) vs ws moved in
    record {
      rising = rising;
      named = λ p there. Names-from_Contains s p (subst (λ l. Contains l p) are
          (Contains-permutation (texts ws) (texts vs) p (IsPermutation-sym (texts vs) (texts ws) texts_moved) there));
      each = λ p named. Contains-permutation (texts vs) (texts ws) p texts_moved
          (subst (λ l. Contains l p) (sym are) (subst (Contains (paths_of s.lines)) named.on
          (Contains-from_op_at s named.line named.op named.is)));
    }

-- ---- the gfids of lines
-- one line more brings that of its path
gfids_of-next : (ls : List Line) (k : ℕ) → k < length ls
    → gfids_of (take (suc k) ls) ≡ gfids_of (take k ls) ++ gfid_in (operation (slice_get ls k)) ∷ []
gfids_of-next [] k within = absurd (omega arith)
gfids_of-next (l ∷ ls) zero within = refl
gfids_of-next (l ∷ ls) (suc k) within = ap (λ gs. gfid_in (operation (Some l)) ∷ gs) (gfids_of-next ls k (omega arith))

-- the gfids of the lines before n, and of line n
pub gfids_of-more : (s : Job) (n : ℕ) → 2 ≤ n → n < length s.lines + 2
    → gfids_of (take (n + 1 - 2) s.lines) ≡ gfids_of (take (n - 2) s.lines) ++ gfid_in (op_at s n) ∷ []
gfids_of-more s zero past within = absurd (omega arith)
gfids_of-more s (suc zero) past within = absurd (omega arith)
gfids_of-more s (suc (suc k)) past within =
    let next : suc (suc k) + 1 - 2 ≡ suc k = omega arith in
    let here : suc (suc k) - 2 ≡ k = omega arith in
    ap (λ i. gfids_of (take i s.lines)) next ∙ gfids_of-next s.lines k (omega arith)
    ∙ sym (ap (λ i. gfids_of (take i s.lines) ++ gfid_in (operation (slice_get s.lines k)) ∷ []) here)

-- at the place of an operation stands that of its path
slice_get-gfids_of : (ls : List Line) (k : ℕ) (o : OpLine) → operation (slice_get ls k) ≡ Some o
    → slice_get (gfids_of ls) k ≡ Some (gfid o.path)
slice_get-gfids_of [] k o is = absurd cc
slice_get-gfids_of (l ∷ ls) zero o is = ap (λ x. Some (gfid_in x)) is
slice_get-gfids_of (l ∷ ls) (suc k) o is = slice_get-gfids_of ls k o is

-- the gfids of a job's lines are kept by line
pub AreGfids-from_lines : (s : Job) (gfids : List ℕ) → gfids ≡ gfids_of s.lines → AreGfids s gfids
AreGfids-from_lines s gfids are = subst (AreGfids s) (sym are) (record { each = each }) where
  each : (n : ℕ) (o : OpLine) → op_at s n ≡ Some o → slice_get (gfids_of s.lines) (n - 2) ≡ Some (gfid o.path)
  each zero o is = absurd cc
  each (suc zero) o is = absurd cc
  each (suc (suc k)) o is =
      let here : suc (suc k) - 2 ≡ k = omega arith in
      ap (slice_get (gfids_of s.lines)) here ∙ slice_get-gfids_of s.lines k o is

pub ruleset added_paths = (with_path-there)

pub ruleset named_paths = (paths_of-more, gfids_of-more)

pub ruleset sorted_paths = (AreRising-from_sort, ArePaths-from_sort, AreGfids-from_lines)
