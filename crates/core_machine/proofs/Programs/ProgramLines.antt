-- The lines of the clients' programs, as the lines of the script come one by one.
use Rattle.fs_types.proofs.Common.{common_steps, ◌≡◌, ℕ, suc, ◌+◌, ◌-◌, ◌<◌, ◌≤◌, cond, List, [], ◌∷◌, ◌++◌, length, map, filter, get_or}
use Rattle.fs_types.proofs.Common.{set, replicate, Option, Some, None, refl, sym, ap, ◌∙◌, inl, inr, arith, range_with_len, cases_eq}
use Rattle.fs_types.proofs.Common.{eq-eqb, ne_eqb, length-replicate, get_or-replicate, get_or-map, map-set, length-set, get_or-set_same}
use Rattle.fs_types.proofs.Common.{get_or-set_other, append-nil, filter-append, fill_by_all, get_or-map-range_with_len}
use Rattle.fs_types.proofs.Common.{length-map-range_with_len}
use Rattle.fs_script.specs.Vocabulary.{Job, op_at, is_of_rank}
use Rattle.core_machine.specs.Vocabulary.{OpLine, Program, with_program_line}
use Rattle.fs_script.proofs.CallerLemmas.{range-push}

-- of a client's program the lines before line n
abbrev pub lines_before : Job → ℕ → ℕ → List ℕ
lines_before s n r = filter (λ m. is_of_rank r (op_at s m)) (range_with_len 2 (n - 2))

lines_before-more : (s : Job) (n r : ℕ) → 2 ≤ n
    → lines_before s (n + 1) r ≡ lines_before s n r ++ cond (is_of_rank r (op_at s n)) (n ∷ []) []
lines_before-more s n r from =
    let test = λ (m : ℕ). is_of_rank r (op_at s m) in
    let longer : n + 1 - 2 ≡ suc (n - 2) = omega arith in
    let last : 2 + (n - 2) ≡ n = omega arith in
    let range = ap (range_with_len 2) longer ∙ sym (range-push 2 (n - 2)) ∙ ap (λ m. range_with_len 2 (n - 2) ++ m ∷ []) last in
    ap (filter test) range ∙ filter-append test (range_with_len 2 (n - 2)) (n ∷ [])

-- the client's program with line n at its end
pub map-with_program_line : (n r : ℕ) (o : OpLine) (ps : List Program) (p q : Program) → r ≡ o.rank
    → r < length ps → q.lines.items ≡ (get_or ps r p).lines.items ++ n ∷ []
    → map (λ p. p.lines.items) (set ps r q) ≡ with_program_line n (Some o) (map (λ p. p.lines.items) ps)
map-with_program_line n r o ps p q rank lt more = grind (arith, common_steps, map-set, get_or-map)

length-with_program_line : (n : ℕ) (x : Option OpLine) (ls : List (List ℕ)) → length (with_program_line n x ls) ≡ length ls
length-with_program_line n None ls = refl
length-with_program_line n (Some o) ls = length-set ls o.rank (get_or ls o.rank [] ++ n ∷ [])

with_program_line-at : (n : ℕ) (x : Option OpLine) (ls : List (List ℕ)) (r : ℕ) → r < length ls
    → get_or (with_program_line n x ls) r [] ≡ get_or ls r [] ++ cond (is_of_rank r x) (n ∷ []) []
with_program_line-at n None ls r lt = sym (append-nil (get_or ls r []))
with_program_line-at n (Some o) ls r lt = elim (cases_eq o.rank r) [
  | inl is ↦ rw (eq-eqb o.rank r is) (rw is (get_or-set_same ls r (get_or ls r [] ++ n ∷ []) [] lt))
  | inr other ↦
      let same = get_or-set_other ls o.rank r (get_or ls o.rank [] ++ n ∷ []) [] (λ e. other (sym e)) in
      rw (ne_eqb o.rank r other) (same ∙ sym (append-nil (get_or ls r [])))
]

-- with line n each program has its lines before line n + 1
pub with_program_line-more : (s : Job) (n : ℕ) (ls : List (List ℕ)) → 2 ≤ n → ls ≡ map (lines_before s n) (range_with_len 0 s.shape.clients)
    → with_program_line n (op_at s n) ls ≡ map (lines_before s (n + 1)) (range_with_len 0 s.shape.clients)
with_program_line-more s n ls from is =
    let clients = s.shape.clients in
    let before = map (lines_before s n) (range_with_len 0 clients) in
    let sized = length-map-range_with_len (lines_before s n) 0 clients in
    let now = with_program_line n (op_at s n) before in
    let each : (r : ℕ) → r < clients → get_or now r [] ≡ lines_before s (n + 1) r =
    λ r lt. (let was = get_or-map-range_with_len (lines_before s n) 0 clients r r [] lt (omega arith) in
    with_program_line-at n (op_at s n) before r (omega arith) ∙ rw was (sym (lines_before-more s n r from))) in
    ap (with_program_line n (op_at s n)) is ∙ fill_by_all (lines_before s (n + 1)) now clients []
    (length-with_program_line n (op_at s n) before ∙ sized) each

-- before the first line each is empty
pub map-lines_before-first : (s : Job) (clients : ℕ) → replicate clients [] ≡ map (lines_before s 2) (range_with_len 0 clients)
map-lines_before-first s clients =
    fill_by_all (lines_before s 2) (replicate clients []) clients [] (length-replicate clients [])
    (λ r lt. get_or-replicate clients r [] [] lt)
