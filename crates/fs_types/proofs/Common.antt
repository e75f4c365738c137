-- The names of std that proofs cite, passed on from one place. Declares nothing.
pub use Rattle.std.proofs.Common.{◌≡◌, [], vec_len, arith, None, ap, ◌-◌, ◌<◌, length, refl, rules, ℕ, zero, suc, ◌+◌, ◌≤◌, max, min, cond}
pub use Rattle.std.proofs.Common.{ltb, leb, List, ◌∷◌, ◌++◌, take, drop, replicate, get_or, ◌∙◌, inl, inr, All, ◌&&◌, Option, Some, codes}
pub use Rattle.std.proofs.Common.{◌≢◌, set, sym, subst, nat_le, tests, ◌==◌, Bool, true, false, nat_eq, not, bytes_eq, if◌then◌else◌, ◌⊎◌}
pub use Rattle.std.proofs.Common.{Ok, Contains, slice_get, Result, slice_index, ◌^◌, map, flat_map, decimal, IsSome, is_some}
pub use Rattle.std.proofs.Common.{slice_index_or, w32, true≢false, count_by, subst₂, take-take, filter, Bor, option_copied, Ordering, Less}
pub use Rattle.std.proofs.Common.{Equal, Greater, nat_cmp, is_lt, is_eq, ◌/◌, ◌%◌, nat_lt, IsTrue, IsNone, IfSome, MatchBool, Err}
pub use Rattle.std.proofs.Common.{append_assoc, position, le-ltb, ◌*◌, lit≤, add-one, ltb-true, ltb-false, ◌||◌, le-leb, IfNone, zip, Vec}
pub use Rattle.std.proofs.Common.{option_map, sum_by, zero-add, fold, filter_map, Global, vec_capacity, slice_set, unwrap_or, IsSorted}
pub use Rattle.std.proofs.Common.{IsPermutation, IfOk, OnOk}
pub use Rattle.std.proofs.Math.Nat.{div-le_self}
pub use Rattle.std.proofs.Math.Seq.{map-set_same}
pub use Rattle.std.proofs.lemmas.Bool.{cases_lt, cond_both, leb-true, and_parts, and_from, eqb-false, cond-true, cases_eq, cases_order}
pub use Rattle.std.proofs.lemmas.Bool.{eqb-true, ne_eqb, cases_Bool, cond-false, false_from_ne_true, eq-eqb, false≢true, or_cases, lt-leb}
pub use Rattle.std.proofs.lemmas.Bool.{or_left, or_right, lt-ltb, and_right}
pub use Rattle.std.proofs.lemmas.Bool.Decides.{nat_tests, Decides-eqb}
pub use Rattle.std.proofs.lemmas.Cmp.{nat_list_cmp_total, nat_list_eq_equiv, on_total, tied_itself}
pub use Rattle.std.proofs.lemmas.Fmt.{decimal_is_IsNumeral, decimal_by_steps}
pub use Rattle.std.proofs.lemmas.Fn.{filter_same}
pub use Rattle.std.proofs.lemmas.Grind.{common_steps}
pub use Rattle.std.proofs.lemmas.Int.Digits.{digits_value_more}
pub use Rattle.std.proofs.lemmas.Iterator.{YieldsList-from_slice}
pub use Rattle.std.proofs.lemmas.Iterator.Adapters.{option_map_id}
pub use Rattle.std.proofs.lemmas.Iterator.Consumers.{YieldsList-from_filter_map, min_from_yields_List}
pub use Rattle.std.proofs.lemmas.Iterator.Search.{all_from_yields_List}
pub use Rattle.std.proofs.lemmas.Iterator.Splits.{YieldsList-from_slice_split}
pub use Rattle.std.proofs.lemmas.List.{length-append, length-take, length-take-le, length-drop, length-replicate, get_or_append_left}
pub use Rattle.std.proofs.lemmas.List.{get_or-append_right, get_or-take, get_or-drop, append_cancel_left, length-map, length_push}
pub use Rattle.std.proofs.lemmas.List.{get_or-map, take-append-le, take_min, get_or-replicate, get_or-set_same, get_or-set_other}
pub use Rattle.std.proofs.lemmas.List.{length-set, map-append, map-set, set-get_or, append-nil, places, map_push, with_items_is, take_more}
pub use Rattle.std.proofs.lemmas.List.{nil_from_length, get_or_past}
pub use Rattle.std.proofs.lemmas.List.Edits.{map_over_more}
pub use Rattle.std.proofs.lemmas.List.Elements.{All-append, All-take, All-drop, All-replicate, All-nil, All-cons, All-weaker, All-head}
pub use Rattle.std.proofs.lemmas.List.Elements.{All-tail, All-from_recursion, recursion_from_All, All-push, All-filter, filter_passes}
pub use Rattle.std.proofs.lemmas.List.Elements.{All-contains, All-contains_itself, Contains-append_left, Contains-push, All-map}
pub use Rattle.std.proofs.lemmas.List.Elements.{filter-append, filter_agree, Contains-append_right}
pub use Rattle.std.proofs.lemmas.List.Folds.{list_all-append}
pub use Rattle.std.proofs.lemmas.List.FromFn.{length-range_with_len, get_or-range_with_len, map-range_with_len_more}
pub use Rattle.std.proofs.lemmas.List.FromFn.{get_or-map-range_with_len, length-map-range_with_len, fill_by_all}
pub use Rattle.std.proofs.lemmas.List.Kept.{AllPairs-filter}
pub use Rattle.std.proofs.lemmas.List.Quantifiers.{position-Some}
pub use Rattle.std.proofs.lemmas.List.Sorted.{IsPermutation-map, IsPermutation-sym, Contains-permutation}
pub use Rattle.std.proofs.lemmas.List.Splits.{join_with_byte-slice_split, length-slice_split, slice_split_at, slice_split_none}
pub use Rattle.std.proofs.lemmas.List.Splits.{slice_split_first}
pub use Rattle.std.proofs.lemmas.List.Sums.{AllPass-from_list_all, list_all-from_AllPass, sum_by-take-le, fails_before_first, sum_by_push}
pub use Rattle.std.proofs.lemmas.List.Sums.{count_by-le-length, fold_more, sum_by-cons, sum_by-le-sum_by}
pub use Rattle.std.proofs.lemmas.Map.Keys.{IsDistinct-from_apart, sorted_from_all_adjacent, apart_from_distinct, sorted_head, sorted_tail}
pub use Rattle.std.proofs.lemmas.Map.Made.{Contains-tail}
pub use Rattle.std.proofs.lemmas.Map.Steps.{length-le_from_distinct_below}
pub use Rattle.std.proofs.lemmas.Map.Text.{is_eq-slice_cmp}
pub use Rattle.std.proofs.lemmas.Map.Views.{Contains-from_any}
pub use Rattle.std.proofs.lemmas.Option.{none-some, same_Some, slice_get_within, get_or_from_slice_get, slice_get-get_or, slice_get_past}
pub use Rattle.std.proofs.lemmas.Option.{slice_get_read, cond_some, MatchOption-at_some, slice_get-map, slice_get_cases}
pub use Rattle.std.proofs.lemmas.Result.{on_ok_weaker}
pub use Rattle.std.proofs.lemmas.Simd.{map-map}
pub use Rattle.std.proofs.lemmas.Slice.Eq.{starts_is, bytes_eq-Decides}
pub use Rattle.std.proofs.lemmas.Slice.Zip.{firsts-zip}
pub use Rattle.std.proofs.lemmas.Str.Parse.{IsNumeralModel, numerals_by_value, tells_all_ascii_digits, digit_at, digits_value-take-le}
pub use Rattle.std.specs.Char.{is_ascii_digit, digit_value}
pub use Rattle.std.specs.Cmp.{IsTotalOrder, unsigned_ties}
pub use Rattle.std.specs.Cmp.Lexicographic.{slice_cmp, pointwise, lists_ties}
pub use Rattle.std.specs.Int.{byte_at, bytes_low_first, to_le_bytes, from_bool}
pub use Rattle.std.specs.List.{list_all, starts_with, join_with_byte, AllByRecursion, range_with_len, IsDistinct, slice_split}
pub use Rattle.std.specs.List.{position_or_len, reduce, cons_option, list_any, prefix_len}
pub use Rattle.std.specs.Ordering.{eq_by_cmp}
pub use Rattle.std.specs.Prelude.{⊤}
pub use Rattle.std.specs.Result.{result_unwrap_or}
pub use Rattle.std.specs.Slice.{IsItemAt}
pub use Rattle.std.specs.Str.{all_ascii_digits}
pub use Rattle.std.specs.Str.Parse.{digits_value}
pub use Rattle.std.specs.Vec.{with_items}
