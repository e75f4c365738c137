-- What the programs that are kept say of the lines that come next, and of their phases.
use Rattle.fs_types.proofs.Common.{common_steps, ◌≡◌, ℕ, ◌<◌, ◌≤◌, List, [], length, map, get_or, Option, Some, None, slice_get}
use Rattle.fs_types.proofs.Common.{slice_index, Contains, refl, sym, ap, ◌∙◌, zero-add, inl, inr, arith, IfNone, IfSome, unwrap_or}
use Rattle.fs_types.proofs.Common.{range_with_len, option_map, length-map, All-contains, length-map-range_with_len, same_Some}
use Rattle.fs_types.proofs.Common.{slice_get-map, slice_get_within, slice_get_cases, slice_get_read, get_or_from_slice_get}
use Rattle.fs_script.specs.Vocabulary.{Job, phase, program}
use Rattle.core_machine.specs.Vocabulary.{Program, HasClients, Places, next_in, going, IsInPhase, IsLeast, next_of, next_phases}
use Rattle.core_machine.specs.Vocabulary.{ArePrograms, places_of}
use Rattle.fs_script.proofs.CallerLemmas.{slice_get-range, program-op}
use Rattle.core_machine.proofs.Programs.LeastPhase.{next_phases-at, next_phases-from}
use Rattle.core_machine.proofs.Programs.Going.{Goes, none-goes, IsInPhase-from_some}

-- a client with a next line is one of the job's
pub next_in-within : (v : Places) (r n : ℕ) → HasClients v.job → next_in v r ≡ Some n → r < v.job.shape.clients
next_in-within v r n job next = grind (arith, common_steps, program-op)

none-from : (x : Option ℕ) → ((n : ℕ) → x ≡ Some n → ⊥) → x ≡ None
none-from None never = refl
none-from (Some n) never = absurd (never n refl)

module _ (s : Job) (ps : List Program) (are : ArePrograms s ps) where
  pub length-programs : length ps ≡ s.shape.clients
  length-programs = sym (length-map ps (λ p. p.lines.items)) ∙ ap length are ∙ length-map-range_with_len (program s) 0 s.shape.clients

  program-at : (r : ℕ) → r < s.shape.clients → (p : Program) × (slice_get ps r ≡ Some p)
  program-at r lt = elim (slice_get_cases ps r).1 [
    | inl there ↦ (there.0, there.2)
    | inr past ↦ absurd (omega (arith, past.0, length-programs))
  ]

  module _ (r : ℕ) (p : Program) (at : slice_get ps r ≡ Some p) where
    pub program-within : r < s.shape.clients
    program-within = omega (arith, slice_get_within ps r p at, length-programs)

    pub lines-at : p.lines.items ≡ program s r
    lines-at =
        let lines = λ (q : Program). q.lines.items in
        let here = slice_get-map lines ps r ∙ ap (option_map lines) at in
        let range = slice_get-range 0 s.shape.clients r program-within ∙ ap Some (zero-add r) in
        let there = slice_get-map (program s) (range_with_len 0 s.shape.clients) r ∙ ap (option_map (program s)) range in
        same_Some p.lines.items (program s r) (sym here ∙ ap (λ (ls : List (List ℕ)). slice_get ls r) are ∙ there)

    pub place-at : slice_index (map (λ q. q.place) ps) r ≡ p.place
    place-at =
        let place = λ (q : Program). q.place in
        get_or_from_slice_get (map place ps) r p.place 0 (slice_get-map place ps r ∙ ap (option_map place) at)

    -- the client's next line is that of its program
    pub next_of-at : (k : ℕ) → next_of p ≡ next_in (places_of s ps k) r
    next_of-at k = ap (λ (ls : List ℕ). slice_get ls p.place) lines-at ∙ ap (slice_get (program s r)) (sym place-at)

  -- also of a program that was read at the client's place
  pub next_of-read : (k r : ℕ) (p : Program) → r < length ps → p ≡ get_or ps r p → next_of p ≡ next_in (places_of s ps k) r
  next_of-read k r p lt read = next_of-at r p (slice_get_read ps (length ps) r p refl lt read) k

  module _ (job : HasClients s) (k : ℕ) where
    next-phase : (r n : ℕ) → next_in (places_of s ps k) r ≡ Some n → Contains (next_phases s ps) (phase s n)
    next-phase r n next =
        let here = program-at r (next_in-within (places_of s ps k) r n job next) in
        next_phases-at s ps r here.0 n here.1 (next_of-at r here.0 here.1 k ∙ next)

    -- where no line comes next the run may be in any phase
    pub IsInPhase-none : next_phases s ps ≡ [] → IsInPhase (places_of s ps k)
    IsInPhase-none none =
        record {
          none_earlier = λ r n next. absurd (never r n next);
          none_left = λ empty r lt. none-from (next_in (places_of s ps k) r) (never r);
        }
      where
        never : (r n : ℕ) → next_in (places_of s ps k) r ≡ Some n → ⊥
        never r n next = (let there = next-phase r n next in let short = ap length none in omega (arith, there.1))

    -- in the least phase of the next lines
    module _ (least : IsLeast (next_phases s ps) k) where
      -- some client goes
      pub Goes-least : (r : ℕ) × (n : ℕ) × (r < s.shape.clients) × Goes (places_of s ps k) r n
      Goes-least =
          let from = next_phases-from s ps k least.there in
          let next = sym (next_of-at from.0 from.1 from.3 k) ∙ from.4 in
          (from.0, from.2, program-within from.0 from.1 from.3, record { next = next; of_phase = from.5 })

      pub going-least : going (places_of s ps k) ≡ [] → ⊥
      going-least empty = none-goes empty Goes-least.2 Goes-least.3

      pub IsInPhase-least : IsInPhase (places_of s ps k)
      IsInPhase-least = IsInPhase-from_some (places_of s ps k)
          (λ r n next. All-contains (λ x. k ≤ x) (next_phases s ps) (phase s n) least.least (next-phase r n next)) going-least

  -- before the first answer the run is in the least phase of the first lines
  pub IsInPhase-first : (o : Option ℕ) → HasClients s → IfNone o (next_phases s ps ≡ []) → IfSome o (IsLeast (next_phases s ps))
      → IsInPhase (places_of s ps (unwrap_or o 0))
  IsInPhase-first None job none least = IsInPhase-none job 0 none
  IsInPhase-first (Some k) job none least = IsInPhase-least job k least

  -- and in phase 0 where there is none
  pub phase-first : (o : Option ℕ) → HasClients s → IfSome o (IsLeast (next_phases s ps)) → going (places_of s ps (unwrap_or o 0)) ≡ []
      → unwrap_or o 0 ≡ 0
  phase-first None job least empty = refl
  phase-first (Some k) job least empty = absurd (going-least job k least empty)
