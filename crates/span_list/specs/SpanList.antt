-- What is seen of a `SpanList`.
use Rattle.std.specs.Prelude.{ℕ, ◌-◌, List, vec_len, vec_capacity}
use Rattle.fs_types.specs.Pieces.{Fragment}
use Rattle.span_list.specs.declared.span_list.SpanList.{SpanList}

-- its fragments, in order of place
abbrev pub fragments_of : SpanList → List Fragment
fragments_of list = list.frags.items

-- how many more fragments fit into its memory
abbrev pub spare_of : SpanList → ℕ
spare_of list = vec_capacity list.frags - vec_len list.frags
