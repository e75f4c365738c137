-- What a read takes from a source of bytes.
use Rattle.std.specs.Prelude.{ℕ, ◌≡◌, ◌<◌, List, length, take, drop, Option, IfSome}
use Rattle.fs_dev.specs.Told.{bytes_then, IsAtEnd}

-- A read gave n bytes. Where the source tells what it has left, they are the next ones, the rest of
-- the buffer is as it was, and none came for a buffer with room only at the end.
pub record IsReadOf (n : ℕ) (had left : Option (List ℕ)) (old new : List ℕ) : Type 0 where
  pub next : had ≡ bytes_then (take n new) left
  pub beyond : IfSome had (λ _. drop n new ≡ drop n old)
  pub at_end : n ≡ 0 → 0 < length old → IsAtEnd left

-- A failed read moved nothing.
pub record IsUnread (had left : Option (List ℕ)) (old new : List ℕ) : Type 0 where
  pub kept : left ≡ had
  pub buffer : IfSome had (λ _. new ≡ old)
