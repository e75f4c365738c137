-- What a look-up finds: the parts of a file's fragments in a range, and a pin of each piece that they name, or the piece alone.
use Rattle.std.specs.Prelude.{◌≡◌, ℕ, nat_le, nat_lt, ◌⊎◌, Bool, ◌&&◌, true, false, not, IsTrue, List, [], ◌∷◌, ◌++◌, map, filter, fold, All}
use Rattle.std.specs.Prelude.{Some, None, if◌then◌else◌}
use Rattle.std.specs.List.{flat_map, list_any}
use Rattle.std.specs.Option.{option_map_or}
use Rattle.fs_types.specs.FragmentMarks.{mark_at}
use Rattle.fs_types.specs.Fragments.{piece_eq}
use Rattle.fs_types.specs.Pieces.{Fragment, Piece}
use Rattle.fs_types.specs.Room.{IsAtLeast, is_at_most, lowered}
use Rattle.fs_types.specs.declared.hold.Hold as hold
use Rattle.span_list.specs.Spans.{cut_fragments, rest_from}
use Rattle.piece_table.specs.HeldSpans.{Held}
use Rattle.owner_book.specs.Kept.{BookPath, held_at}
use Rattle.owner_book.specs.Calls.{attr}

-- what of fragments stands in a range, from a place to before another
abbrev pub parts_in : ℕ → ℕ → List Fragment → List Fragment
parts_in from to fs = flat_map (rest_from from) (cut_fragments to fs)

-- fragments bear in a range the marks that others bear there, and none outside it
abbrev pub NameRange : ℕ → ℕ → List Fragment → List Fragment → Type 0
NameRange from to fs parts = (k : ℕ) → mark_at parts k ≡ (if nat_le from k && nat_lt k to then mark_at fs k else None)

-- the piece is one of these
abbrev pub is_one_of : List Piece → Piece → Bool
is_one_of ps q = list_any (piece_eq q) ps

-- the pieces that fragments name, each once, in the order of the first fragments that name them
abbrev pub pieces_named : List Fragment → List Piece
pieces_named fs = fold (λ ps f. if is_one_of ps f.piece then ps else ps ++ f.piece ∷ []) [] fs

module _ {H : Type 0} where
  -- the holds of these pieces became others in this way, and all else stays
  pub record HoldsBecome (R : H → H → Type 0) (pieces : List Piece) (old new : Held H) : Type 0 where
    pub fragments : new.fragments ≡ old.fragments
    pub became : (q : Piece) (h : H) → is_one_of pieces q ≡ true → old.hold_of q ≡ Some h → (g : H) × (new.hold_of q ≡ Some g) × R h g
    pub others : (q : Piece) → is_one_of pieces q ≡ false → new.hold_of q ≡ old.hold_of q

  -- a path is as it was but for the rooms of its file's holds
  pub record IsLooked (Asked : Held H → Held H → Type 0) (old new : BookPath H) : Type 0 where
    pub journal : new.journal ≡ old.journal
    pub attr : attr new ≡ attr old
    pub held : Asked (held_at old) (held_at new)

module _ {H : Type 0} (met : hold.Ghosts H) where
  -- a piece whose hold has too little room for a pin with so much: its room is at most that
  abbrev pub lacks_room : ℕ → Held H → Piece → Bool
  lacks_room given x q = option_map_or (λ h. is_at_most (met.room h) given) (x.hold_of q) false

  -- a piece whose hold has no room for a pin
  abbrev pub is_bare : Held H → Piece → Bool
  is_bare x q = lacks_room 0 x q

  -- a ready hold of the same piece in the same place
  pub record IsLike (was now : H) : Type 0 where
    pub ready : IsTrue (met.is_ready now)
    pub piece : met.piece now ≡ met.piece was
    pub bytes : met.bytes now ≡ met.bytes was
    pub place : met.place now ≡ met.place was

  -- a pin is like the hold of its piece, which is there
  abbrev pub IsPinOf : Held H → H → Type 0
  IsPinOf x pin = (h : H) × (x.hold_of (met.piece pin) ≡ Some h) × IsLike h pin

  -- Each of the pieces has one pin, or is bare, which it is exactly where its hold has no room for a pin.
  pub record Pins (x : Held H) (pieces : List Piece) (holds : List H) (bare : List Piece) : Type 0 where
    pub without : bare ≡ filter (is_bare x) pieces
    pub pinned : map met.piece holds ≡ filter (λ q. not (is_bare x q)) pieces
    pub each : All (IsPinOf x) holds

  -- a pin of a piece that has at least this room
  pub record IsPinWith (given : ℕ) (x : Held H) (pin : H) : Type 0 where
    pub of : IsPinOf x pin
    pub room : IsAtLeast given (met.room pin)

  -- each of the pieces has one pin, in their order, with at least this room
  pub record ArePinned (given : ℕ) (x : Held H) (pieces : List Piece) (pins : List H) : Type 0 where
    pub one_each : map met.piece pins ≡ pieces
    pub each : All (IsPinWith given x) pins

  -- a hold that was asked for a pin with so much room, or with none: what that takes from its room is gone, if it has any
  pub record IsAskedFor (given : ℕ) (was now : H) : Type 0 where
    pub like : IsLike was now
    pub room : met.room now ≡ lowered given (met.room was)

  abbrev pub IsAsked : H → H → Type 0
  IsAsked = IsAskedFor 0

  -- a hold that gave no pin, and kept its room
  pub record IsRefused (was now : H) : Type 0 where
    pub like : IsLike was now
    pub room : met.room now ≡ met.room was

  -- a hold that was asked for a pin, and may have given none
  pub record WasTriedFor (given : ℕ) (was now : H) : Type 0 where
    pub like : IsLike was now
    pub room : (met.room now ≡ met.room was) ⊎ (met.room now ≡ lowered given (met.room was))

  -- a hold that is as it was, or was asked so
  abbrev pub MayBeAskedFor : ℕ → H → H → Type 0
  MayBeAskedFor given was now = (now ≡ was) ⊎ WasTriedFor given was now

  abbrev pub MayBeAsked : H → H → Type 0
  MayBeAsked = MayBeAskedFor 0

  -- the holds of these pieces were asked for pins with so much room, or with none, and all else stays
  abbrev pub AsksFor : ℕ → List Piece → Held H → Held H → Type 0
  AsksFor given pieces old new = HoldsBecome (IsAskedFor given) pieces old new

  abbrev pub Asks : List Piece → Held H → Held H → Type 0
  Asks = AsksFor 0

  -- some of them were
  abbrev pub MayAskFor : ℕ → List Piece → Held H → Held H → Type 0
  MayAskFor given pieces old new = HoldsBecome (MayBeAskedFor given) pieces old new

  abbrev pub MayAsk : List Piece → Held H → Held H → Type 0
  MayAsk = MayAskFor 0

  -- One more piece was asked for a pin: that was added to the pins, or the piece to the bare ones.
  pub record AsksOne (p : Piece) (old new : Held H) (holds holds' : List H) (bare bare' : List Piece) : Type 0 where
    pub asks : Asks (p ∷ []) old new
    pub adds : ((is_bare old p ≡ true) × (holds' ≡ holds) × (bare' ≡ bare ++ p ∷ []))
        ⊎ ((is_bare old p ≡ false) × (bare' ≡ bare)
        × (pin : H) × (holds' ≡ holds ++ pin ∷ []) × (met.piece pin ≡ p) × IsPinOf old pin)
