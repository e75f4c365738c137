-- What is kept path by path, as one path's part and one client's change, or as all clients are told.
use Rattle.fs_types.proofs.Common.{◌≡◌, ◌≢◌, ℕ, zero, suc, List, [], ◌∷◌, length, map, set, get_or, slice_get, Some, refl, sym, ap, ◌∙◌, subst}
use Rattle.fs_types.proofs.Common.{arith, none-some, same_Some, get_or_from_slice_get, slice_get_within, set-get_or, length-set, map-map, All}
use Rattle.fs_types.proofs.Common.{All-map, All-from_recursion, AllByRecursion, recursion_from_All}
use Rattle.std.proofs.lemmas.List.Elements.{All-set}
use Rattle.client_map.specs.Kept.{pending_end}
use Rattle.fs_script.specs.Vocabulary.{AreRising, Job}
use Rattle.fs_script.proofs.CallerLemmas.{place_unique}
use Rattle.core_machine.specs.Kept.{owned_of}
use Rattle.core_machine.specs.PathStates.{AreKept, own_parts, state_of, states_of}
use Rattle.core_machine.specs.Vocabulary.{Book, BookPath, ChangesOwn, ClientPath, KeptClient, Noted, PathState, PlainHold, IsFreshClient}
use Rattle.core_machine.specs.Vocabulary.{IsFreshPath, no_path, noted_now, own_of, unseen, with_told}

-- ---- what the clients keep for a path

-- a client whose part of one path changed keeps for another what it kept
pub own-elsewhere : {old new : KeptClient} {p : List ℕ} → ChangesOwn old new p → (q : List ℕ) → q ≢ p → (lines : List ℕ)
    → own_of new q lines ≡ own_of old q lines
own-elsewhere elsewhere q other lines i = record {
  is_open = (elsewhere.files q other i).is_open;
  pending = record {
    lines = lines;
    held = elsewhere.pending q other i;
    end = pending_end (elsewhere.pending q other i).fragments;
  };
  noted = (elsewhere.files q other i).noted;
}

pub parts-size : (lines : ℕ → List ℕ) (p : List ℕ) (cs : List KeptClient) → length (own_parts lines p cs) ≡ length cs
parts-size lines p [] = refl
parts-size lines p (c ∷ cs) = ap suc (parts-size (λ r. lines (suc r)) p cs)

-- what the client of a rank keeps
pub parts-at : (lines : ℕ → List ℕ) (p : List ℕ) (cs : List KeptClient) (r : ℕ) (c : KeptClient) → slice_get cs r ≡ Some c
    → slice_get (own_parts lines p cs) r ≡ Some (own_of c p (lines r))
parts-at lines p [] r c at = absurd (none-some c at)
parts-at lines p (d ∷ cs) zero c at = λ i. Some (own_of (same_Some d c at i) p (lines 0))
parts-at lines p (d ∷ cs) (suc r) c at = parts-at (λ k. lines (suc k)) p cs r c at

-- one client changes, and no lines but its own
pub parts-set : (lines lines' : ℕ → List ℕ) (p : List ℕ) (cs : List KeptClient) (r : ℕ) (c : KeptClient)
    → ((k : ℕ) → k ≢ r → lines' k ≡ lines k) → own_parts lines' p (set cs r c) ≡ set (own_parts lines p cs) r (own_of c p (lines' r))
parts-set lines lines' p [] r c same = refl
parts-set lines lines' p (d ∷ cs) zero c same = λ i. own_of c p (lines' 0) ∷ own_parts (λ k. same (suc k) (λ e. omega arith) i) p cs
parts-set lines lines' p (d ∷ cs) (suc r) c same = λ i.
    own_of d p (same 0 (λ e. omega arith) i)
    ∷ parts-set (λ k. lines (suc k)) (λ k. lines' (suc k)) p cs r c (λ k other. same (suc k) (λ e. other (omega arith))) i

-- nothing changes where the client keeps for the path what it kept
pub parts-same : (lines : ℕ → List ℕ) (p : List ℕ) (cs : List KeptClient) (r : ℕ) (was now : KeptClient) → slice_get cs r ≡ Some was
    → own_of now p (lines r) ≡ own_of was p (lines r) → own_parts lines p (set cs r now) ≡ own_parts lines p cs
parts-same lines p cs r was now at same =
    let parts = own_parts lines p cs in
    let own = own_of was p (lines r) in
    parts-set lines lines p cs r now (λ k other. refl) ∙ ap (set parts r) same
    ∙ ap (set parts r) (sym (get_or_from_slice_get parts r own own (parts-at lines p cs r was at))) ∙ set-get_or parts r own

-- the client did nothing on any path
abbrev pub DidNothing : KeptClient → Type 0
DidNothing c = (p : List ℕ) → IsFreshClient (own_of c p [])

fresh-parts : (p : List ℕ) (cs : List KeptClient) → AllByRecursion DidNothing cs → AllByRecursion IsFreshClient (own_parts (λ r. []) p cs)
fresh-parts p [] fresh = tt
fresh-parts p (c ∷ cs) fresh = (fresh.0 p, fresh-parts p cs fresh.1)

-- so many servers and clients are there as one path of one server and one client change
pub AreKept-changed : {s : Job} {books books' : List (Book PlainHold)} {clients : List KeptClient} {was now : KeptClient} {p : List ℕ} (r : ℕ)
    → length books' ≡ length books → slice_get clients r ≡ Some was → ChangesOwn was now p → AreKept s books clients
    → AreKept s books' (set clients r now)
AreKept-changed {s} {clients = clients} {was} {now} r sized at elsewhere kept =
    let chunk = subst (λ (c : KeptClient). c.pending.chunk ≡ s.shape.chunk) (get_or_from_slice_get clients r was was at)
    (kept.chunks r was (slice_get_within clients r was at)) in
    record {
      servers = sized ∙ kept.servers;
      ranks = length-set clients r now ∙ kept.ranks;
      chunks = All-set (λ (c : KeptClient). c.pending.chunk ≡ s.shape.chunk) clients r now (elsewhere.chunk ∙ chunk) kept.chunks;
    }

-- ---- what is kept for each path

-- what a function gives at each of some paths, as it changes at one
map-changed : {X : Type 0} (f g : List ℕ → X) (ps : List (List ℕ)) (i : ℕ) (p : List ℕ) → ((q : List ℕ) → q ≢ p → g q ≡ f q)
    → ((k : ℕ) → slice_get ps k ≡ Some p → k ≡ i) → slice_get ps i ≡ Some p → map g ps ≡ set (map f ps) i (g p)
map-changed f g [] i p same once at = absurd (none-some p at)
map-changed f g (q ∷ ps) zero p same once at = λ j. g (same_Some q p at j) ∷ map-same ps (λ k here. let e = once (suc k) here in omega arith) j
  where
    map-same : (qs : List (List ℕ)) → ((k : ℕ) → slice_get qs k ≡ Some p → ⊥) → map g qs ≡ map f qs
    map-same [] absent = refl
    map-same (r ∷ qs) absent = λ j. same r (λ e. absent 0 (ap Some e)) j ∷ map-same qs (λ k. absent (suc k)) j
map-changed f g (q ∷ ps) (suc i) p same once at = λ j.
    same q (λ e. let first = once 0 (ap Some e) in omega arith) j
    ∷ map-changed f g ps i p same (λ k here. let e = once (suc k) here in omega arith) at j

-- the place of the one path whose part changes
pub states-set : (f g : List ℕ → PathState) (ps : List (List ℕ)) (i : ℕ) (p : List ℕ) → AreRising ps → slice_get ps i ≡ Some p
    → ((q : List ℕ) → q ≢ p → g q ≡ f q) → map g ps ≡ set (map f ps) i (g p)
states-set f g ps i p rising at same = map-changed f g ps i p same (λ k here. place_unique ps k i p rising here at) at

module _ (at : List ℕ → BookPath PlainHold) (lines : ℕ → List ℕ → List ℕ) (clients : List KeptClient) (paths : List (List ℕ)) where
  -- all clients are told of each path
  pub states-told : (told told' : List ℕ → Noted) → ((q : List ℕ) → told' q ≡ noted_now (at q))
      → states_of at told' lines clients paths ≡ map with_told (states_of at told lines clients paths)
  states-told told told' are = (λ i. states_of at (λ q. are q i) lines clients paths) ∙ sym (map-map with_told (state_of at told lines clients) paths)

  -- nothing was done to any path
  pub states-fresh : (count : ℕ) (told : List ℕ → Noted) → ((q : List ℕ) → at q ≡ no_path) → ((q : List ℕ) → told q ≡ unseen)
      → ((r : ℕ) (q : List ℕ) → lines r q ≡ []) → length clients ≡ count
      → All DidNothing clients → All (IsFreshPath count) (states_of at told lines clients paths)
  states-fresh count told none untold no_lines many fresh =
      All-map (IsFreshPath count) (state_of at told lines clients) paths (λ k d below. path (get_or paths k d))
    where
      path : (p : List ℕ) → IsFreshPath count (state_of at told lines clients p)
      path p = record {
        owned = λ i. owned_of (none p i) (untold p i);
        sized = parts-size (λ r. lines r p) p clients ∙ many;
        clients = subst (λ (ks : List ClientPath). All IsFreshClient ks) (λ i. own_parts (λ r. sym (no_lines r p) i) p clients)
            (All-from_recursion IsFreshClient (own_parts (λ r. []) p clients)
            (fresh-parts p clients (recursion_from_All DidNothing clients fresh)));
      }
