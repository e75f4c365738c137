-- What a map keeps, and what is pending on each path.
use Rattle.std.specs.Prelude.{◌≡◌, ℕ, ◌≤◌, max, Bool, List, [], ◌∷◌, length, Option, Some, None, Vec, vec_len, vec_capacity}
use Rattle.std.specs.Map.{lookup}
use Rattle.std.specs.Str.{bytes_eq}
use Rattle.std.specs.declared.alloc.Global.{Global}
use Rattle.fs_types.specs.Fragments.{end_of}
use Rattle.fs_types.specs.Pieces.{Fragment}
use Rattle.piece_table.specs.HeldSpans.{Held, Kept, held}
use Rattle.client_map.specs.declared.push_room.PushRoom.{PushRoom}

-- what is kept: how many bytes a part has at most, and what is pending, by the text of its path
pub record MapKept (H : Type 0) : Type 0 where
  pub chunk : ℕ
  pub paths : List (Vec ℕ Global × Kept H)

-- two empty vectors have room for all fragments, of which there are at most so many, and for the holds of their pieces
pub record HasRoomForAll {H : Type 0} (kept : Kept H) (room : PushRoom H) : Type 0 where
  pub no_frags : vec_len room.frags ≡ 0
  pub no_holds : vec_len room.holds ≡ 0
  pub most : length kept.fragments ≤ room.most
  pub frags : room.most ≤ vec_capacity room.frags
  pub holds : length kept.pieces.entries ≤ vec_capacity room.holds

-- where the last byte of fragments ends, and 0 where there are none
abbrev pub pending_end : List Fragment → ℕ
pending_end [] = 0
pending_end (f ∷ fs) = max (end_of f) (pending_end fs)

-- the last byte that is kept of a path ends there, and there is room for all
pub record IsPathKept {H : Type 0} (kept : Kept H) (last : ℕ) (vectors : PushRoom H) : Type 0 where
  pub end : last ≡ pending_end kept.fragments
  pub room : HasRoomForAll kept vectors

-- a key is this text
abbrev pub is_text : List ℕ → Vec ℕ Global → Bool
is_text p key = bytes_eq p key.items

module _ {H : Type 0} where
  -- no fragments
  abbrev pub nothing_pending : Held H
  nothing_pending = record { fragments = []; hold_of = λ _. None }

  -- what is found of a path
  abbrev pub pending_found : Option (Kept H) → Held H
  pending_found None = nothing_pending
  pending_found (Some kept) = held kept

  -- what is pending on a path: the fragments, and the hold of each piece that they name
  abbrev pub pending_in : MapKept H → List ℕ → Held H
  pending_in map p = pending_found (lookup (is_text p) map.paths)
