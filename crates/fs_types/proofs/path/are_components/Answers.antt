use Rattle.fs_types.proofs.Common.{rules, tests, ◌==◌, all_from_yields_List, YieldsList-from_slice_split}
use Rattle.fs_types.specs.PathText.{is_component}
use Rattle.fs_types.proofs.path.are_components.Goals as goal

pub returns : goal.returns
returns c =
    all_from_yields_List is_component _ _ _ c.all.ensures.ran
    (YieldsList-from_slice_split _ (λ b. b == 47) c.args.text.now c.split.ensures.rest c.split.ensures.done c.split.ensures.closure
    (λ x b q k. search (rules, tests)))
    (λ x b q k. search (rules, tests))
