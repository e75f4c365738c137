use Rattle.std.proofs.Common.{◌≡◌, ℕ, ◌-◌, ◌%◌, take, drop, replicate, refl, arith}
use Rattle.std.proofs.lemmas.List.{length-take, length-drop, length-replicate}
use Rattle.std.proofs.lemmas.List.Elements.{All-take, All-drop, All-replicate}
use Rattle.fs_plain.proofs.Blocks.{keeps_before}
use Rattle.fs_plain.proofs.sparse_bytes.clear_from.Goals as goal

pub returns-clause-ok : goal.returns-clause-ok
returns-clause-ok c =
    let at = c.args.n % 4096 in
    let block = replicate {A = ℕ} 4096 0 in
    let blanks = take (4096 - at) (drop at block) in
    let is_zero = λ (b : ℕ). b ≡ 0 in
    keeps_before c.args.n blanks _ _ _
    (omega (arith, length-take (4096 - at) (drop at block), length-drop at block, length-replicate {A = ℕ} 4096 0))
    (All-take is_zero (4096 - at) (drop at block) (All-drop is_zero at block (All-replicate is_zero 4096 0 refl)))
    c.in_ok-put_in_block.ensures.ok c.drop_blocks_after.ensures
