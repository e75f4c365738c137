-- The file after some lines of a journal: as the journal grows at its end, and as answers come that change nothing pending at its lines.
use Rattle.fs_types.proofs.Common.{common_steps, ◌≡◌, ℕ, suc, ◌≤◌, List, [], ◌∷◌, ◌++◌, length, take, None, refl, ap, ◌∙◌, arith}
use Rattle.fs_types.proofs.Common.{take-append-le, length_push}
use Rattle.fs_script.specs.Vocabulary.{File, written, Job, Cells, offset, Answering, pending_at, put_lines, effect, after_all, state_in}
use Rattle.fs_script.specs.Vocabulary.{SamePending}
use Rattle.fs_script.proofs.Agreement.{effect-agree}
use Rattle.fs_script.proofs.PlainLists.{AllByRecursion-take}

-- ---- the journal grows

-- putting the lines of two lists is putting one after the other
pub put_lines-append : {X : Type 0} (s : Job) (c : Cells X) (ns ms : List ℕ) (xs : List X)
    → put_lines s c (ns ++ ms) xs ≡ put_lines s c ms (put_lines s c ns xs)
put_lines-append s c [] ms xs = refl
put_lines-append s c (n ∷ ns) ms xs = put_lines-append s c ns ms (written c.blank xs (offset s n) (c.of_line n))

pub after_all-append : {X : Type 0} (s : Job) (c : Cells X) (A : Answering) (J K : List ℕ) (f : File X)
    → after_all s c A (J ++ K) f ≡ after_all s c A K (after_all s c A J f)
after_all-append s c A [] K f = refl
after_all-append s c A (n ∷ J) K f = after_all-append s c A J K (effect s c A n f)

-- a later commit changes no version that was there
pub state_in-push : {X : Type 0} (s : Job) (c : Cells X) (A : Answering) (J : List ℕ) (n v : ℕ) → v ≤ length J
    → state_in s c A (J ++ n ∷ []) v ≡ state_in s c A J v
state_in-push s c A J n v le = ap (λ K. after_all s c A K None) (take-append-le v J (n ∷ []) le)

-- the new version is the last one with the effect of the new line
pub state_in-push_last : {X : Type 0} (s : Job) (c : Cells X) (A : Answering) (J : List ℕ) (n v : ℕ) → v ≡ suc (length J)
    → state_in s c A (J ++ n ∷ []) v ≡ effect s c A n (state_in s c A J (length J))
state_in-push_last s c A J n v is = grind (arith, common_steps, length_push, length, after_all-append)

-- ---- answers come

after_all-agree : {X : Type 0} (s : Job) (c : Cells X) (A B : Answering) (J : List ℕ) (f : File X) → SamePending s A B J
    → after_all s c A J f ≡ after_all s c B J f
after_all-agree s c A B [] f h = refl
after_all-agree s c A B (n ∷ J) f h = ap (λ g. after_all s c A J g) (effect-agree s c A B n f h.0)
    ∙ after_all-agree s c A B J (effect s c B n f) h.1

-- the file at a version, where nothing pending at the lines of the journal changes
pub state_in-agree : {X : Type 0} (s : Job) (c : Cells X) (A B : Answering) (J : List ℕ) (v : ℕ) → SamePending s A B J
    → state_in s c A J v ≡ state_in s c B J v
state_in-agree s c A B J v h = after_all-agree s c A B (take v J) None
    (AllByRecursion-take (λ m. pending_at s A m ≡ pending_at s B m) v J h)
