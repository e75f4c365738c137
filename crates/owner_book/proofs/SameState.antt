-- A path's file is the state of its journal after a look-up, and with another hold of a piece; and a replica shows that state.
use Rattle.fs_types.proofs.Common.{◌≡◌, ℕ, ◌≤◌, true, List, All, Option, Some, None, option_map, refl, sym, ap, ◌∙◌, subst, inl, inr, true≢false}
use Rattle.fs_types.specs.FragmentMarks.{marks_of_fragments}
use Rattle.fs_types.specs.Fragments.{end_of}
use Rattle.fs_types.specs.Pieces.{Fragment, Piece}
use Rattle.fs_types.specs.declared.hold.Hold as hold
use Rattle.owner_book.specs.Calls.{attr, attr_in}
use Rattle.owner_book.specs.HoldLends.{with_file_hold}
use Rattle.owner_book.specs.Journals.{Entry, LentStands, LookedStands, ReplicaShows, StandsFor, marked}
use Rattle.owner_book.specs.Kept.{BookFile, BookPath, held_at, held_in}
use Rattle.owner_book.proofs.States.{IsWithin}

module _ {H : Type 0} where
  -- of a file with the same attributes and fragments the marks are the same, and the fragments end within it
  same-marks : (old new : Option (BookFile H)) → attr_in new ≡ attr_in old → (held_in new).fragments ≡ (held_in old).fragments
      → marked new ≡ marked old
  same-marks None None told fragments = refl
  same-marks None (Some g) told fragments = absurd (true≢false (ap (λ a. a.exists) told))
  same-marks (Some f) None told fragments = absurd (true≢false (sym (ap (λ a. a.exists) told)))
  same-marks (Some f) (Some g) told fragments =
      λ i. Some (record { cells = marks_of_fragments (fragments i) (told i).size; frozen = (told i).frozen })

  same-within : (old new : Option (BookFile H)) → attr_in new ≡ attr_in old → (held_in new).fragments ≡ (held_in old).fragments
      → IsWithin old → IsWithin new
  same-within old None told fragments within = tt
  same-within None (Some g) told fragments within = absurd (true≢false (ap (λ a. a.exists) told))
  same-within (Some f) (Some g) told fragments within =
      subst (λ n. All (λ h. end_of h ≤ n) g.held.fragments) (sym (ap (λ a. a.size) told))
      (subst (All (λ h. end_of h ≤ f.size)) (sym fragments) within)

  same-stands : (entries : List Entry) (old new : BookPath H) → new.journal ≡ old.journal → attr new ≡ attr old
      → (held_at new).fragments ≡ (held_at old).fragments → StandsFor entries old → StandsFor entries new
  same-stands entries old new journal told fragments stands = record {
    journal = journal ∙ stands.journal;
    file = same-marks old.file new.file told fragments ∙ stands.file;
    within = same-within old.file new.file told fragments stands.within;
  }

  pub looked-stands : (met : hold.Ghosts H) → LookedStands met
  looked-stands met entries old new pieces looked stands = elim looked [
    | inl all ↦ same-stands entries old new all.journal all.attr all.held.fragments stands
    | inr some ↦ same-stands entries old new some.journal some.attr some.held.fragments stands
  ]

  -- another hold of a piece changes neither the attributes of a file nor its fragments
  lent-attr : (id : Piece) (w : H) (file : Option (BookFile H)) → attr_in (option_map (with_file_hold id w) file) ≡ attr_in file
  lent-attr id w None = refl
  lent-attr id w (Some f) = refl

  lent-fragments : (id : Piece) (w : H) (file : Option (BookFile H))
      → (held_in (option_map (with_file_hold id w) file)).fragments ≡ (held_in file).fragments
  lent-fragments id w None = refl
  lent-fragments id w (Some f) = refl

  pub lent-stands : LentStands H
  lent-stands entries x id w stands = record {
    journal = stands.journal;
    file = same-marks x.file (option_map (with_file_hold id w) x.file) (lent-attr id w x.file) (lent-fragments id w x.file) ∙ stands.file;
    within = same-within x.file (option_map (with_file_hold id w) x.file) (lent-attr id w x.file) (lent-fragments id w x.file) stands.within;
  }

  -- fragments and a size that are those of a frozen file have its marks
  shown-marks : (file : Option (BookFile H)) (frags : List Fragment) (size : ℕ) → (attr_in file).frozen ≡ true → size ≡ (attr_in file).size
      → frags ≡ (held_in file).fragments → marked file ≡ Some (record { cells = marks_of_fragments frags size; frozen = true })
  shown-marks None frags size frozen told fragments = absurd (true≢false (sym frozen))
  shown-marks (Some f) frags size frozen told fragments =
      λ i. Some (record { cells = marks_of_fragments (sym fragments i) (sym told i); frozen = frozen i })

  pub replica-shows : (met : hold.Ghosts H) → ReplicaShows met
  replica-shows met entries given p x r stands frozen replica =
      sym stands.file ∙ shown-marks x.file r.frags.items r.size frozen replica.size replica.fragments
