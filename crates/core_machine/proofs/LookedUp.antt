-- A look-up in a book whose holds are plain: its pins are the file's own holds, and it leaves each path as it was.
use Rattle.fs_types.proofs.Common.{◌≡◌, ℕ, ◌+◌, Bool, true, false, not, List, [], ◌∷◌, map, filter, get_or, All}
use Rattle.fs_types.proofs.Common.{Option, Some, None, IfSome, is_some, refl, sym, ap, ◌∙◌, inl, inr, cases_Bool}
use Rattle.fs_types.proofs.Common.{true≢false}
use Rattle.std.specs.Option.{option_map_or}
use Rattle.fs_types.specs.Pieces.{Piece}
use Rattle.fs_types.specs.Room.{is_at_most}
use Rattle.fs_types.specs.declared.attr.Attr.{Attr}
use Rattle.fs_types.specs.declared.hold.Hold as hold
use Rattle.piece_table.specs.HeldSpans.{Held, is_named}
use Rattle.owner_book.specs.Calls.{Changes, IsAsBefore, attr, attr_in, version}
use Rattle.owner_book.specs.Kept.{Book, BookFile, BookPath, held_at, held_in, path_in}
use Rattle.owner_book.specs.Lookups.{Asks, HoldsBecome, IsAsked, IsLike, IsLooked, MayAsk, MayBeAsked, Pins, is_bare, is_one_of}
use Rattle.owner_book.specs.Lookups.{parts_in, pieces_named}
use Rattle.owner_book.specs.declared.looked.Looked.{Looked}
use Rattle.owner_book.proofs.CallerLemmas.{holds-none}
use Rattle.owner_book.proofs.Paths.{unchanged}
use Rattle.fs_script.proofs.CallerLemmas.{none_from-is_some}
use Rattle.core_machine.specs.declared.plain_hold.PlainHold.{PlainHold}
use Rattle.core_machine.specs.BookFiles.{IsFile}
use Rattle.core_machine.specs.PlainHolds.{AreHeldPlain}
use Rattle.core_machine.specs.Reads.{IsFoundIn}

-- plain holds as holds: each is ready, and has room without end
abbrev pub plain : hold.Ghosts PlainHold
plain = record {
  is_ready = λ _. true;
  piece = λ h. h.piece;
  bytes = λ h. h.bytes;
  room = λ _. None;
  Place = ℕ × ℕ;
  place = λ h. (h.rank, h.slot);
}

-- a hold like another is that one
like-same : (g h : PlainHold) → IsLike plain g h → h ≡ g
like-same g h like = λ i. record { piece = like.piece i; bytes = like.bytes i; rank = (like.place i).0; slot = (like.place i).1 }

-- ---- what was found

-- no piece is bare
none-bare : (x : Held PlainHold) (q : Piece) → not (is_bare plain x q) ≡ true
none-bare x q = by (x.hold_of q) where
  by : (o : Option PlainHold) → not (option_map_or (λ h. is_at_most None 0) o false) ≡ true
  by None = refl
  by (Some h) = refl

all-pass : (ps : List Piece) → filter (λ q. true) ps ≡ ps
all-pass [] = refl
all-pass (p ∷ ps) = ap (λ us. p ∷ us) (all-pass ps)

module _ (f : BookFile PlainHold) (off len : ℕ) (found : Looked PlainHold) (file : IsFile f)
    (frags : found.frags.items ≡ parts_in off (off + len) f.held.fragments)
    (pins : Pins plain f.held (pieces_named found.frags.items) found.holds.items found.bare.items) where
  -- so there is a pin of each
  pinned-each : map (λ h. h.piece) found.holds.items ≡ pieces_named found.frags.items
  pinned-each =
      pins.pinned ∙ ap (λ (p : Piece → Bool). filter p (pieces_named found.frags.items)) (λ i q. none-bare f.held q i)
      ∙ all-pass (pieces_named found.frags.items)

  -- which is the file's hold of it
  pins-own : All (λ h. f.held.hold_of h.piece ≡ Some h) found.holds.items
  pins-own k d within =
      let own = pins.each k d within in
      own.1 ∙ ap Some (sym (like-same own.0 (let h : PlainHold = get_or found.holds.items k d in h) own.2))

  IsFoundIn-pinned : found.attr ≡ attr_in (Some f) → IsFoundIn f off len found
  IsFoundIn-pinned told = record { frags = frags; size = ap (λ a. a.size) told; holds = pinned-each; each = pins-own }

-- what is told of a path says that it has no file
pub file-absent : (x : BookPath PlainHold) (told : ℕ × Attr) → told ≡ (version x, attr x) → told.1.exists ≡ false → x.file ≡ None
file-absent x told is absent = by x.file (sym (ap (λ t. t.1.exists) is) ∙ absent) where
  by : (file : Option (BookFile PlainHold)) → (attr_in file).exists ≡ false → file ≡ None
  by None e = refl
  by (Some f) e = absurd (true≢false e)

-- where it has one, this is what a look-up found of the file
pub looked-file : (x : BookPath PlainHold) (told : ℕ × Attr) (off len : ℕ) (found : Looked PlainHold) → IfSome x.file IsFile
    → told ≡ (version x, attr x) → told.1.exists ≡ true → found.attr ≡ attr x
    → found.frags.items ≡ parts_in off (off + len) (held_at x).fragments
    → Pins plain (held_at x) (pieces_named found.frags.items) found.holds.items found.bare.items
    → (f : BookFile PlainHold) × (x.file ≡ Some f) × IsFile f × IsFoundIn f off len found
looked-file x told off len found files is there = by x.file files (sym (ap (λ t. t.1.exists) is) ∙ there) where
  by : (file : Option (BookFile PlainHold)) → IfSome file IsFile → (attr_in file).exists ≡ true → found.attr ≡ attr_in file
      → found.frags.items ≡ parts_in off (off + len) (held_in file).fragments
      → Pins plain (held_in file) (pieces_named found.frags.items) found.holds.items found.bare.items
      → (f : BookFile PlainHold) × (file ≡ Some f) × IsFile f × IsFoundIn f off len found
  by None none e = absurd (true≢false (sym e))
  by (Some f) is_file e = λ same frags pins. (f, refl, is_file, IsFoundIn-pinned f off len found is_file frags pins same)

-- ---- the path after it

-- a path has its holds where its file has them
holds-kept : (file : Option (BookFile PlainHold)) → IfSome file IsFile → AreHeldPlain (held_in file)
holds-kept None _ = holds-none (λ _. true) (λ (h : PlainHold). h.piece) (λ (h : PlainHold). h.bytes)
holds-kept (Some f) is_file = is_file.are_held

-- holds that became their own are the same
module _ (R : PlainHold → PlainHold → Type 0) (same : (g h : PlainHold) → R g h → h ≡ g) (ps : List Piece) (old new : Held PlainHold)
    (was : AreHeldPlain old) (now : AreHeldPlain new) (became : HoldsBecome R ps old new) where
  asked-hold : (q : Piece) → is_one_of ps q ≡ true → new.hold_of q ≡ old.hold_of q
  asked-hold q asked = by (old.hold_of q) refl where
    by : (o : Option PlainHold) → old.hold_of q ≡ o → new.hold_of q ≡ old.hold_of q
    by (Some h) is = let one = became.became q h asked is in one.1 ∙ ap Some (same h one.0 one.2) ∙ sym is
    by None none =
        none_from-is_some (new.hold_of q) (now.named q ∙ ap (λ fs. is_named fs q) became.fragments ∙ sym (was.named q) ∙ ap is_some none)
        ∙ sym none

  hold-same : (q : Piece) → new.hold_of q ≡ old.hold_of q
  hold-same q = elim (cases_Bool (is_one_of ps q)) [
    | inl asked ↦ asked-hold q asked
    | inr not ↦ became.others q not
  ]

  held-same : new ≡ old
  held-same = λ i. record { fragments = became.fragments i; hold_of = λ q. hold-same q i }

file-same : (was now : Option (BookFile PlainHold)) → attr_in now ≡ attr_in was → held_in now ≡ held_in was → now ≡ was
file-same None None told held = refl
file-same None (Some g) told held = absurd (true≢false (ap (λ a. a.exists) told))
file-same (Some f) None told held = absurd (true≢false (sym (ap (λ a. a.exists) told)))
file-same (Some f) (Some g) told held = λ i. Some (record { size = (told i).size; frozen = (told i).frozen; held = held i })

-- so the path is the same
path-same : (R : PlainHold → PlainHold → Type 0) → ((g h : PlainHold) → R g h → h ≡ g) → (ps : List Piece) (old new : BookPath PlainHold)
    → AreHeldPlain (held_at old) → AreHeldPlain (held_at new) → IsLooked (HoldsBecome R ps) old new → new ≡ old
path-same R same ps old new was now looked =
    let files = file-same old.file new.file looked.attr (held-same R same ps (held_at old) (held_at new) was now looked.held) in
    λ i. record { journal = looked.journal i; file = files i }

maybe-same : (g h : PlainHold) → MayBeAsked plain g h → h ≡ g
maybe-same g h (inl same) = same
maybe-same g h (inr tried) = like-same g h tried.like

-- and so is the book, after a look-up and after one that had no memory
module _ (old new : Book PlainHold) (gfid : ℕ) (p : List ℕ) (ps : List Piece) (files : IfSome (path_in old gfid p).file IsFile)
    (changes : Changes old new gfid p (path_in new gfid p)) (now : AreHeldPlain (held_at (path_in new gfid p))) where
  path-kept : (R : PlainHold → PlainHold → Type 0) → ((g h : PlainHold) → R g h → h ≡ g)
      → IsLooked (HoldsBecome R ps) (path_in old gfid p) (path_in new gfid p) → IsAsBefore old new
  path-kept R same looked =
      unchanged old new gfid p (path_in new gfid p) changes
      (path-same R same ps (path_in old gfid p) (path_in new gfid p) (holds-kept (path_in old gfid p).file files) now looked)

  pub IsAsBefore-looked : IsLooked (Asks plain ps) (path_in old gfid p) (path_in new gfid p) → IsAsBefore old new
  IsAsBefore-looked looked = path-kept (IsAsked plain) (λ g h asked. like-same g h asked.like) looked

  pub IsAsBefore-tried : IsLooked (MayAsk plain ps) (path_in old gfid p) (path_in new gfid p) → IsAsBefore old new
  IsAsBefore-tried looked = path-kept (MayBeAsked plain) maybe-same looked
