-- What a client wrote to a path and hasn't committed: the lines, and the fragments that they put over one another.
use Rattle.std.specs.Prelude.{◌≡◌, ℕ, ◌+◌, ◌<◌, ◌≤◌, ◌==◌, List, length, slice_get, Some, None, IsSome, All, if◌then◌else◌}
use Rattle.std.specs.List.{AllByRecursion}
use Rattle.fs_types.specs.FragmentMarks.{marks_of_fragments}
use Rattle.fs_types.specs.Fragments.{IsWellFormedPush, end_of}
use Rattle.fs_types.specs.declared.push.Push.{Push}
use Rattle.fs_script.specs.Vocabulary.{LONGEST_FILE, Job, Piece, need, part, write_at, payload, offset, marks_put}
use Rattle.piece_table.specs.HeldSpans.{AreGone, Held, is_named, pushed}
use Rattle.client_map.specs.Kept.{pending_in}
use Rattle.slot_plain.specs.Log.{Log}
use Rattle.core_machine.specs.Logs.{ReleasesAll}
use Rattle.core_machine.specs.PlainHolds.{AreHeldPlain}
use Rattle.core_machine.specs.ClientPath.{Pending}
use Rattle.core_machine.specs.declared.client.Client.{Client}
use Rattle.core_machine.specs.declared.plain_hold.PlainHold.{PlainHold}

-- line n is a write that brings bytes and ends within the longest file
pub record BringsBytes (s : Job) (n : ℕ) : Type 0 where
  pub write : IsSome (write_at s n)
  pub some : 0 < length (payload s n)
  pub end : offset s n + length (payload s n) ≤ LONGEST_FILE

-- the lines are such writes, and the fragments have the marks of what they bring, put in order on an empty file
pub record ArePending (s : Job) (q : Pending) : Type 0 where
  pub are_held : AreHeldPlain q.held
  pub lines : AllByRecursion (BringsBytes s) q.lines
  pub marks : marks_of_fragments q.held.fragments q.end ≡ marks_put s q.lines
  pub within : All (λ f. end_of f ≤ q.end) q.held.fragments
  pub most : q.end ≤ LONGEST_FILE

-- nothing is pending
pub record IsNonePending (q : Pending) : Type 0 where
  pub are_held : AreHeldPlain q.held
  pub lines : length q.lines ≡ 0
  pub fragments : length q.held.fragments ≡ 0
  pub holds : (x : Piece) → q.held.hold_of x ≡ None
  pub end : q.end ≡ 0

-- nothing is pending any more, and the holds of what was pending are let go of in the logs, each once
pub record DropsPending (old new : Pending) (was now : List Log) : Type 0 where
  pub none : IsNonePending new
  pub gone : List PlainHold
  pub are_gone : AreGone (λ h. h.piece) old.held new.held gone
  pub logs : ReleasesAll gone was now

-- a push of these fragments with their holds
pub record IsPushOf (x : Held PlainHold) (push : Push PlainHold) : Type 0 where
  pub well_formed : IsWellFormedPush (λ h. h.piece) (λ h. h.bytes) push
  pub fragments : push.frags.items ≡ x.fragments
  pub holds : (q : Piece) → (pushed (λ h. h.piece) push.frags.items push.holds.items).hold_of q ≡ x.hold_of q

-- ---- the holds of a line's parts

-- a hold of part p of line n
pub record IsPartHold (s : Job) (n p : ℕ) (h : PlainHold) : Type 0 where
  pub piece : h.piece ≡ record { line = n; part = p }
  pub bytes : h.bytes ≡ length (part s n p)

-- one hold of each part of line n, in order
pub record ArePartHolds (s : Job) (n : ℕ) (holds : List PlainHold) : Type 0 where
  pub each : length holds ≡ need s n
  pub parts : (p : ℕ) (h : PlainHold) → slice_get holds p ≡ Some h → IsPartHold s n p h

-- the parts of line n have these holds, and every other piece its own while some fragment names it
pub record AddsHolds (n : ℕ) (given : List PlainHold) (old new : Held PlainHold) : Type 0 where
  pub holds : (x : Piece) → new.hold_of x
      ≡ (if x.line == n then slice_get given x.part else if is_named new.fragments x then old.hold_of x else None)

-- what line n writes, so many bytes from a place on, may be put over what a client has pending on path p, by these holds: there is one
-- of each of its parts, and none of these is pending there yet
pub record MayAddLine (s : Job) (n off len : ℕ) (holds : List PlainHold) (c : Client) (p : List ℕ) : Type 0 where
  pub chunk : c.pending.chunk ≡ s.shape.chunk
  pub some : 0 < s.shape.chunk
  pub brings : BringsBytes s n
  pub place : offset s n ≡ off
  pub size : length (payload s n) ≡ len
  pub of_parts : ArePartHolds s n holds
  pub new_pieces : (q : ℕ) → (pending_in c.pending p).hold_of (record { line = n; part = q }) ≡ None
