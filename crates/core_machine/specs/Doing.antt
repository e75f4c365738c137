-- What a client is in the midst of between two events of one line.
use Rattle.std.specs.Prelude.{ℕ, List, Option}
use Rattle.fs_script.specs.Vocabulary.{Mark}

-- A read under way: the version that it looked up, the marks of the bytes that it shows, and how many runs of them it fetched.
pub record Reading : Type 0 where
  pub version : ℕ
  pub marks : List (Option Mark)
  pub fetched : ℕ

pub data Doing : Type 0 where
  nothing : Doing
  reading : Reading → Doing
