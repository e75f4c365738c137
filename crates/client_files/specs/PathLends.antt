-- What a map ends as, once the loan of a value has ended.
use Rattle.std.specs.Prelude.{◌≡◌, ℕ, List, Option, Some, OnSome}
use Rattle.std.specs.Borrow.{Fml, RattleType, MutBor, LendsSo}
use Rattle.client_files.specs.PathMap.{Changes, Entries, entry_at}
use Rattle.client_files.specs.contracts.path_map.PathMap.{the_row}

-- the path has the value that was left behind r, and every other what it had; without r all is as it was
abbrev pub lends_value : (T : RattleType) → MutBor (Entries T.Denot) → List ℕ → Option (MutBor T.Denot) → Fml
lends_value T s p r = LendsSo (the_row T) T s r
    (λ n w. OnSome r (Changes (entry_at s.now) (entry_at n) p (Some w))) (λ n. n ≡ s.now)
