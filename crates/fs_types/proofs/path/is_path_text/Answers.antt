use Rattle.fs_types.proofs.Common.{◌≡◌, ◌-◌, Bool, true, false, ◌&&◌, length, take, drop, List, ℕ, nat_le, nat_eq, arith, nat_tests}
use Rattle.fs_types.proofs.Common.{common_steps, list_all, starts_with}
use Rattle.fs_types.specs.PathText.{is_component, between_slashes, mount_point}
use Rattle.fs_types.proofs.path.is_path_text.Goals.{then-b-le-LONGEST_PATH, else-b-le-LONGEST_PATH}
use Rattle.fs_types.proofs.path.is_path_text.Goals as goal

and_last : (a b c r : Bool) → a ≡ true → b ≡ true → r ≡ c → r ≡ (a && b && c)
and_last true true c r h k e = e
and_last true false c r h k e = cc
and_last false b c r h k e = cc

rest_of : (b : List ℕ) → take (length b - 9) (drop 9 b) ≡ drop 9 b
rest_of b = grind (arith, common_steps)

pub returns-then-starts_with : goal.returns-then-starts_with
returns-then-starts_with c =
    elim c.if-b-le-LONGEST_PATH.branch [
      | then-b-le-LONGEST_PATH w ↦
          let b = c.args.b.now in
          let short : nat_le (length b) 255 ≡ true = grind (arith, nat_tests) in
          let starts : starts_with nat_eq b mount_point ≡ true = cc w.starts_with.ensures.value in
          let rest = rw rest_of at c.are_components.ensures in
          and_last (nat_le (length b) 255) (starts_with nat_eq b mount_point) (list_all is_component (between_slashes (drop 9 b)))
          c.are_components.result short starts rest
      | else-b-le-LONGEST_PATH w ↦ grind (arith, nat_tests)
    ]
