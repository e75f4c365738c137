use Rattle.std.proofs.Common.{◌≡◌, ℕ, List, refl, slice_index, replicate, option_copied, ap, ◌∙◌}
use Rattle.std.proofs.lemmas.Result.{IfOk-weaker}
use Rattle.fs_plain.specs.Blocks.{byte_in}
use Rattle.fs_plain.proofs.Blocks.{zeros}
use Rattle.fs_plain.proofs.block.bytes_of.Goals as goal

pub returns-in-None-clause-bytes : goal.returns-in-None-clause-bytes
returns-in-None-clause-bytes c =
    IfOk-weaker c.zeros.result (λ v. v.items ≡ replicate 4096 0)
    (λ v. (k : ℕ) → slice_index v.items k ≡ byte_in (option_copied c.args.block) k)
    (λ v is k. ap (λ (xs : List ℕ). slice_index xs k) is ∙ zeros 4096 k ∙ rw c.in-None.is refl) c.zeros.ensures
