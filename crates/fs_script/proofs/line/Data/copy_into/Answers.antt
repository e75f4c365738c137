use Rattle.std.proofs.Common.{◌≡◌, ℕ, ◌+◌, ◌≤◌, length, map, take, drop, sym, ap, ◌∙◌, arith, length-drop}
use Rattle.std.specs.List.{range_with_len}
use Rattle.std.proofs.lemmas.List.{length-take, get_or-take, get_or-drop}
use Rattle.std.proofs.lemmas.List.FromFn.{length-map-range_with_len, get_or-map-range_with_len, fill_by_all}
use Rattle.fs_script.specs.Payload.{pattern_byte, data_bytes}
use Rattle.fs_script.proofs.line.Data.copy_into.Goals as goal

-- a part of a list that is made from a function of the place
part-map : (f : ℕ → ℕ) (from n len : ℕ) → from + n ≤ len
    → take n (drop from (map f (range_with_len 0 len))) ≡ map (λ k. f (from + k)) (range_with_len 0 n)
part-map f from n len le =
    let all = map f (range_with_len 0 len) in
    let size = length-map-range_with_len f 0 len in
    fill_by_all (λ k. f (from + k)) (take n (drop from all)) n 0 (omega (arith, length-take n (drop from all), length-drop from all, size))
    (λ k below. get_or-take n (drop from all) k 0 below
    ∙ rw get_or-drop (get_or-map-range_with_len f 0 len (from + k) (from + k) 0 (omega arith) (omega arith)))

pub returns-in-Pattern : goal.returns-in-Pattern
returns-in-Pattern c =
    let p = c.in-Pattern in
    let bytes = pattern_byte p.seed in
    let is = ap data_bytes p.is in
    let within : c.args.from + length c.args.out.now ≤ p.len =
    omega (arith, c.requires.within, ap length is, length-map-range_with_len bytes 0 p.len) in
    c.fill_pattern.ensures ∙ sym (part-map bytes c.args.from (length c.args.out.now) p.len within)
    ∙ ap (λ xs. take (length c.args.out.now) (drop c.args.from xs)) (sym is)
