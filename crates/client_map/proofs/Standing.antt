-- What is pending after one deed more.
use Rattle.std.proofs.lemmas.Grind.{fold-append}
use Rattle.fs_types.proofs.Common.{◌≡◌, ℕ, Bool, true, false, if◌then◌else◌, List, [], ◌∷◌, ◌++◌, refl, sym, ap, ◌∙◌, subst, arith}
use Rattle.fs_types.proofs.Common.{bytes_eq, bytes_eq-Decides}
use Rattle.fs_types.specs.Pieces.{Piece}
use Rattle.piece_table.specs.HeldSpans.{Held}
use Rattle.client_map.specs.Calls.{Changes}
use Rattle.client_map.specs.Kept.{MapKept, nothing_pending, pending_in}
use Rattle.client_map.specs.PendingWrites.{AddedStands, Deed, HaveMarks, LentStands, NewStands, SameStands, StandsFor, TakenStands, TakingEmpties}
use Rattle.client_map.specs.PendingWrites.{addition, pending_writes, taking, writes_after}
use Rattle.client_map.specs.Writes.{Write}
use Rattle.client_map.proofs.Paths.{at-changed, at-other, bytes_eq-itself}
use Rattle.client_map.proofs.WriteMarks.{have-added}

have-none : (chunk : ℕ) → HaveMarks chunk [] []
have-none chunk = record { marks = refl; within = λ k d below. absurd (omega (arith, below)) }

-- the writes after one deed more, at its path and at another
writes-more : (deeds : List Deed) (d : Deed) (q : List ℕ) → pending_writes (deeds ++ d ∷ []) q ≡ writes_after q (pending_writes deeds q) d
writes-more deeds d q = fold-append (writes_after q) [] deeds (d ∷ [])

added-here : (deeds : List Deed) (p : List ℕ) (w : Write) → pending_writes (deeds ++ addition p w ∷ []) p ≡ pending_writes deeds p ++ w ∷ []
added-here deeds p w =
    writes-more deeds (addition p w) p
    ∙ ap (λ b. if b then pending_writes deeds p ++ w ∷ [] else pending_writes deeds p) (bytes_eq-itself p)

added-there : (deeds : List Deed) (p : List ℕ) (w : Write) (q : List ℕ) → bytes_eq q p ≡ false
    → pending_writes (deeds ++ addition p w ∷ []) q ≡ pending_writes deeds q
added-there deeds p w q other =
    writes-more deeds (addition p w) q
    ∙ ap (λ b. if b then pending_writes deeds q ++ w ∷ [] else pending_writes deeds q) other

pub taking-empties : TakingEmpties
taking-empties deeds p =
    writes-more deeds (taking p) p ∙ ap (λ b. if b then [] else pending_writes deeds p) (bytes_eq-itself p)

taken-there : (deeds : List Deed) (p q : List ℕ) → bytes_eq q p ≡ false
    → pending_writes (deeds ++ taking p ∷ []) q ≡ pending_writes deeds q
taken-there deeds p q other = writes-more deeds (taking p) q ∙ ap (λ b. if b then [] else pending_writes deeds q) other

module _ {H : Type 0} where
  have : (deeds : List Deed) (map : MapKept H) (q : List ℕ) (chunk : ℕ) (ws : List Write) (x : Held H) → map.chunk ≡ chunk
      → pending_writes deeds q ≡ ws → pending_in map q ≡ x → HaveMarks chunk ws x.fragments
      → HaveMarks map.chunk (pending_writes deeds q) (pending_in map q).fragments
  have deeds map q chunk ws x same_chunk same_writes same_held h =
      subst (λ c. HaveMarks c (pending_writes deeds q) (pending_in map q).fragments) (sym same_chunk)
      (subst (λ us. HaveMarks chunk us (pending_in map q).fragments) (sym same_writes)
      (subst (λ y. HaveMarks chunk ws y.fragments) (sym same_held) h))

  -- one path changed, and the writes that are pending there
  changed-stands : (deeds deeds' : List Deed) (old new : MapKept H) (p : List ℕ) (x : Held H) (ws : List Write) → Changes old new p x
      → ((q : List ℕ) → bytes_eq q p ≡ false → pending_writes deeds' q ≡ pending_writes deeds q) → pending_writes deeds' p ≡ ws
      → HaveMarks old.chunk ws x.fragments → StandsFor deeds old → StandsFor deeds' new
  changed-stands deeds deeds' old new p x ws changes others here marks stands q = by (bytes_eq q p) refl
    where
      by : (b : Bool) → bytes_eq q p ≡ b → HaveMarks new.chunk (pending_writes deeds' q) (pending_in new q).fragments
      by true e =
          subst (λ (r : List ℕ). HaveMarks new.chunk (pending_writes deeds' r) (pending_in new r).fragments)
          (sym ((bytes_eq-Decides q p).0 e))
          (have deeds' new p old.chunk ws x changes.chunk here (at-changed old new p x changes) marks)
      by false e =
          have deeds' new q old.chunk (pending_writes deeds q) (pending_in old q) changes.chunk (others q e)
          (at-other old new p x changes q e) (stands q)

  pub added-stands : (piece : H → Piece) → AddedStands piece
  added-stands piece deeds old new p w holds some has_bytes in_file puts changes stands =
      changed-stands deeds (deeds ++ addition p w ∷ []) old new p (pending_in new p) (pending_writes deeds p ++ w ∷ []) changes
      (added-there deeds p w) (added-here deeds p w)
      (have-added old.chunk w some (pending_writes deeds p) (pending_in old p).fragments (pending_in new p).fragments has_bytes in_file
      puts.fragments (stands p))
      stands

  pub new-stands : NewStands H
  new-stands map none q = have [] map q map.chunk [] nothing_pending refl refl (none q) (have-none map.chunk)

  pub taken-stands : TakenStands H
  taken-stands deeds old new p changes stands =
      changed-stands deeds (deeds ++ taking p ∷ []) old new p nothing_pending [] changes (taken-there deeds p) (taking-empties deeds p)
      (have-none old.chunk) stands

  pub lent-stands : LentStands H
  lent-stands deeds old new p id h changes stands =
      changed-stands deeds deeds old new p _ (pending_writes deeds p) changes (λ q other. refl) refl (stands p) stands

  pub same-stands : SameStands H
  same-stands deeds old new same stands q =
      have deeds new q old.chunk (pending_writes deeds q) (pending_in old q) same.chunk refl (same.paths q) (stands q)
