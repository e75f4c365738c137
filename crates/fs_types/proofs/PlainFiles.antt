-- Files after a write: how long they are, and what stands in them.
use Rattle.fs_types.proofs.Common.{ℕ, ◌+◌, ◌≤◌, List, length, All, nat_le, cond_both, leb-true}
use Rattle.fs_types.specs.declared.limits.TheConstants.{LONGEST_FILE}
use Rattle.fs_types.specs.Overwrite.{put}
use Rattle.fs_types.specs.PlainFile.{written}
use Rattle.fs_types.proofs.Overwrites.{All-put, length-put-le}

-- what holds of the blank, of a file's places and of what is written holds of its places afterwards
pub All-written : {X : Type 0} (P : X → Type 0) (blank : X) (xs : List X) (off : ℕ) (ys : List X)
    → P blank → All P xs → All P ys → All P (written blank xs off ys)
All-written P blank xs off ys of_blank of_xs of_ys =
    cond_both (nat_le (off + length ys) LONGEST_FILE) (put blank xs off ys) xs (λ zs. All P zs)
    (λ _. All-put P blank xs off ys of_blank of_xs of_ys) (λ _. of_xs)

-- a file that is no longer than the longest is so afterwards
pub length-written : {X : Type 0} (blank : X) (xs : List X) (off : ℕ) (ys : List X)
    → length xs ≤ LONGEST_FILE → length (written blank xs off ys) ≤ LONGEST_FILE
length-written blank xs off ys within =
    cond_both (nat_le (off + length ys) LONGEST_FILE) (put blank xs off ys) xs (λ zs. length zs ≤ LONGEST_FILE)
    (λ fits. length-put-le blank xs off ys LONGEST_FILE within (leb-true (off + length ys) LONGEST_FILE fits)) (λ _. within)
