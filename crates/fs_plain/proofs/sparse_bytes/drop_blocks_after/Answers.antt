use Rattle.std.proofs.Common.{nat_le, rules, ap, ◌∙◌}
use Rattle.std.proofs.lemmas.Map.Made.{filter_same_pairs}
use Rattle.fs_plain.specs.Blocks.{byte_at}
use Rattle.fs_plain.proofs.Blocks.{byte_at-filter}
use Rattle.fs_plain.proofs.sparse_bytes.drop_blocks_after.Goals as goal

pub returns : goal.returns
returns c = λ k.
    let kept = filter_same_pairs _ (λ e. nat_le e.0 c.args.last) _ (λ number v b w f t. search rules) _ _ c.retain.ensures.filtered in
    ap (λ m. byte_at m k) kept ∙ byte_at-filter c.args.blocks.now.entries c.args.last k
