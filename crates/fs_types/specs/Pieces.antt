-- Pieces of written bytes, and the fragments of a file that name them.
use Rattle.std.specs.Prelude.{ℕ}

-- a part of what a line wrote, from part 0 on
pub record Piece : Type 0 where
  pub line : ℕ
  pub part : ℕ

-- a range of a file, and from which place of a piece on its bytes stand there
pub record Fragment : Type 0 where
  pub at : ℕ
  pub len : ℕ
  pub piece : Piece
  pub from : ℕ
