use Rattle.std.proofs.Common.{length, sym, ap, ◌∙◌}
use Rattle.std.proofs.lemmas.List.FromFn.{length-map-range_with_len}
use Rattle.fs_script.specs.Payload.{pattern_byte, data_bytes}
use Rattle.fs_script.proofs.line.Data.len.Goals as goal

pub returns-in-Pattern : goal.returns-in-Pattern
returns-in-Pattern c =
    let p = c.in-Pattern in
    c.from.ensures ∙ sym (length-map-range_with_len (pattern_byte p.seed) 0 p.len) ∙ ap (λ d. length (data_bytes d)) (sym p.is)
