-- A digest is sixteen bytes.
use Rattle.fs_types.proofs.Common.{ℕ, zero, suc, ◌<◌, List, arith, slice_index, w32, byte_at, bytes_low_first, to_le_bytes, All-nil}
use Rattle.fs_types.proofs.Common.{All-cons, All-append, recursion_from_All}
use Rattle.md5.specs.Md5.{md5, digest_bytes}
use Rattle.fs_script.specs.Vocabulary.{IsDigest}
use Rattle.md5.proofs.StandardFacts.{length-md5}
use Rattle.fs_script.proofs.FileBytes.{AllBytes}

byte_at-below : (i n : ℕ) → byte_at i n < 256
byte_at-below zero n = omega arith
byte_at-below (suc i) n = omega arith

AllBytes-bytes_low_first : (i k n : ℕ) → AllBytes (bytes_low_first i k n)
AllBytes-bytes_low_first i zero n = All-nil (λ b. b < 256)
AllBytes-bytes_low_first i (suc k) n =
    let rest = AllBytes-bytes_low_first (suc i) k n in
    All-cons (λ b. b < 256) (byte_at i n) (bytes_low_first (suc i) k n) (byte_at-below i n) rest

AllBytes-digest_bytes : (h : List ℕ) (n : ℕ) → AllBytes (digest_bytes h n)
unfolding digest_bytes
AllBytes-digest_bytes h zero = All-nil (λ b. b < 256)
AllBytes-digest_bytes h (suc n) =
    let word = AllBytes-bytes_low_first 0 4 (slice_index h n) in
    All-append (λ b. b < 256) (digest_bytes h n) (to_le_bytes w32 (slice_index h n)) (AllBytes-digest_bytes h n) word

AllBytes-md5 : (bytes : List ℕ) → AllBytes (md5 bytes)
unfolding md5
AllBytes-md5 bytes = AllBytes-digest_bytes _ 4

pub IsDigest-md5 : (bytes : List ℕ) → IsDigest (md5 bytes)
IsDigest-md5 bytes = record { size = length-md5 bytes; bytes = recursion_from_All (λ b. b < 256) (md5 bytes) (AllBytes-md5 bytes) }
