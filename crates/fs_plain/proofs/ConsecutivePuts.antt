-- Parts of a list that are put one after the other.
use Rattle.std.proofs.Common.{◌≡◌, ℕ, zero, suc, ◌+◌, ◌-◌, ◌<◌, ◌≤◌, List, length, take, drop, add-zero, refl, ◌∙◌, inl, inr, arith}
use Rattle.std.proofs.lemmas.Bool.{cases_lt}
use Rattle.std.proofs.lemmas.Bool.Decides.{nat_tests}
use Rattle.std.proofs.lemmas.List.{ext_get_or, length-take, length-drop, get_or-take, get_or-drop}
use Rattle.fs_types.specs.Overwrite.{put}
use Rattle.fs_types.proofs.CallerLemmas.{length-put, get_or-put}

-- the first a bytes, and then those up to b, are the first b
pub put-more : (xs p : List ℕ) (off a b : ℕ) → a < b → b ≤ length p
    → put 0 (put 0 xs off (take a p)) (off + a) (take (b - a) (drop a p)) ≡ put 0 xs off (take b p)
put-more xs p off zero b less within = let all : b - 0 ≡ b = omega arith in rw (add-zero, all) refl
put-more xs p off (suc a) b less within =
    let n = suc a in
    let one = take n p in
    let two = take (b - n) (drop n p) in
    let ys = put 0 xs off one in
    let both = take b p in
    let len_one = length-take n p in
    let len_two = length-take (b - n) (drop n p) in
    let len_rest = length-drop n p in
    let len_both = length-take b p in
    let size_one = length-put 0 xs off one (omega arith) in
    let size_two = length-put 0 ys (off + n) two (omega arith) in
    let size = length-put 0 xs off both (omega arith) in
    ext_get_or 0 (put 0 ys (off + n) two) (put 0 xs off both) (omega arith) (λ k below.
    let at_one = get_or-put 0 xs off one k in
    let at_both = get_or-put 0 xs off both k in
    let of_both = get_or-take b p (k - off) 0 in
    let of_one = get_or-take n p (k - off) 0 in
    let of_two = get_or-take (b - n) (drop n p) (k - (off + n)) 0 in
    let of_rest = get_or-drop n p (k - (off + n)) 0 in
    get_or-put 0 ys (off + n) two k ∙ elim (cases_lt k (off + n)) [
      | inl lt ↦ grind (arith, nat_tests, at_one, at_both, of_one, of_both)
      | inr le ↦ grind (arith, nat_tests, at_one, at_both, of_both, of_two, of_rest)
    ])

-- what a function's attribute cites
pub ruleset consecutive_puts = (put-more)
