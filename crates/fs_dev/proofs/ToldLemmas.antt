-- Told bytes, one portion after another.
use Rattle.std.proofs.Common.{◌≡◌, List, [], ◌++◌, ◌+◌, ℕ, take, drop, refl, ap, sym, append_assoc, append-nil}
use Rattle.std.specs.Prelude.{Option, None, Some}
use Rattle.std.proofs.Math.Seq.{take-add}
use Rattle.fs_dev.specs.Told.{bytes_then, then_bytes}

-- no bytes and then the rest
pub bytes_then-nil : (left : Option (List ℕ)) → left ≡ bytes_then [] left
bytes_then-nil None = refl
bytes_then-nil (Some rest) = refl

-- two portions in a row are one
pub bytes_then-append : (front back : List ℕ) (left : Option (List ℕ))
    → bytes_then front (bytes_then back left) ≡ bytes_then (front ++ back) left
bytes_then-append front back None = refl
bytes_then-append front back (Some rest) = ap Some (sym (append_assoc front back rest))

-- what there was, and no bytes
pub then_bytes-nil : (had : Option (List ℕ)) → had ≡ then_bytes had []
then_bytes-nil None = refl
then_bytes-nil (Some bytes) = ap Some (sym (append-nil bytes))

-- two portions in a row are one
pub then_bytes-append : (had : Option (List ℕ)) (front back : List ℕ)
    → then_bytes (then_bytes had front) back ≡ then_bytes had (front ++ back)
then_bytes-append None front back = refl
then_bytes-append (Some bytes) front back = ap Some (append_assoc bytes front back)

pub ruleset bytes_steps = (bytes_then-nil, bytes_then-append, then_bytes-nil, then_bytes-append)

-- a source that gave some bytes and then more gave both
pub bytes_then-portion : (had between left : Option (List ℕ)) (front back : List ℕ)
    → had ≡ bytes_then front between → between ≡ bytes_then back left
    → had ≡ bytes_then (front ++ back) left
bytes_then-portion had between left front back first second =
    rw (first, second) (bytes_then-append front back left)

-- a text is written portion by portion
pub then_bytes-portion : (had between held : Option (List ℕ)) (text rest : List ℕ) (at n : ℕ)
    → between ≡ then_bytes had (take at text) → held ≡ then_bytes between (take n rest)
    → rest ≡ drop at text → held ≡ then_bytes had (take (at + n) text)
then_bytes-portion had between held text rest at n first second left =
    rw (second, first, left, take-add at n text)
    (then_bytes-append had (take at text) (take n (drop at text)))
