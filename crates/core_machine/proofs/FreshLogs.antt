-- The logs at first, as they are made from the last client's to the first's.
use Rattle.std.proofs.Common.{◌≡◌, ℕ, suc, ◌+◌, ◌<◌, List, [], ◌∷◌, ◌++◌, length, take, drop, reverse, get_or, add-one, arith, sym, ◌∙◌, ap}
use Rattle.std.proofs.lemmas.List.{drop_more, length-take, length_push, reverse-append, same_from_push, take_more}
use Rattle.fs_script.specs.declared.shape.Shape.{Shape}
use Rattle.slot_plain.specs.Log.{DeviceState, Log}
use Rattle.core_machine.specs.Logs.{fresh_log, fresh_logs}

-- the last element goes of the first ones of a list
module _ {X : Type 0} (all now rest : List X) (x : X) (front : now ≡ take (length now) all) (split : now ≡ rest ++ x ∷ []) where
  many : length now ≡ length rest + 1
  many = ap length split ∙ length_push rest x

  pub last-within : length rest < length all
  last-within = let cut = ap length front ∙ length-take (length now) all in omega (arith, many, cut)

  parts : (rest ≡ take (length rest) all) × (x ≡ get_or all (length rest) x)
  parts = same_from_push rest (take (length rest) all) x (get_or all (length rest) x)
      (sym split ∙ front ∙ ap (λ n. take n all) many ∙ take_more all (length rest) x last-within)

  pub last-rest : rest ≡ take (length rest) all
  last-rest = parts.0

  pub last-is : get_or all (length rest) x ≡ x
  last-is = sym parts.1

-- the log of one client more, before the others
pub fresh-more : (h : Shape) (k many : ℕ) (devices : List DeviceState) (device : DeviceState) (logs : List Log) → many ≡ k + 1
    → k < length devices → get_or devices k device ≡ device → logs ≡ reverse (fresh_logs h many (drop many devices))
    → logs ++ fresh_log h k device ∷ [] ≡ reverse (fresh_logs h k (drop k devices))
fresh-more h k many devices device logs one_more lt at is =
    let next : many ≡ suc k = omega (arith, one_more) in
    rw (drop_more devices k device lt, at, add-one, is, next)
    (sym (reverse-append (fresh_log h k device ∷ []) (fresh_logs h (suc k) (drop (suc k) devices))))
