-- Events of a simulated run: what happens at once, and what it sees of its path.
use Rattle.std.specs.Prelude.{ℕ, Bool, true, false, List, length, Option, Some, None, if◌then◌else◌}
use Rattle.fs_types.specs.declared.attr.Attr.{Attr}
use Rattle.fs_script.specs.Vocabulary.{Answer, File, Mark}
use Rattle.core_machine.specs.Doing.{Doing, Reading, nothing, reading}
use Rattle.fs_types.specs.declared.answer.Answer.TheVariants as answers

-- an answer to the line, if it has come to its end; whether the owner commits the line; whether the line's pieces go into
-- slots of its client's log; and what its client does from then on
pub record Event : Type 0 where
  pub answer : Option Answer
  pub commits : Bool
  pub fills : Bool
  pub doing : Doing

-- the line ends with an answer that commits nothing
abbrev pub answered : Answer → Event
answered a = record { answer = Some a; commits = false; fills = false; doing = nothing }

-- the line ends as version v of its path
abbrev pub committed_as : ℕ → Event
committed_as v = record { answer = Some (answers.Done v); commits = true; fills = false; doing = nothing }

-- the line ends with its pieces in so many slots
abbrev pub wrote_into : ℕ → Event
wrote_into slots = record { answer = Some (answers.Wrote slots); commits = false; fills = true; doing = nothing }

-- the line goes on with a read under way
abbrev pub goes_on_reading : Reading → Event
goes_on_reading d = record { answer = None; commits = false; fills = false; doing = reading d }

-- what a client knows of a file: its attributes
abbrev pub known_of : {X : Type 0} → File X → Attr
known_of None = record { exists = false; size = 0; frozen = false }
known_of (Some f) = record { exists = true; size = length f.cells; frozen = f.frozen }

-- what an event sees of its path: the file now, by its bytes and by their marks, and how many lines were committed; what is
-- pending for its client and whether the client has opened the path; the client's front with what it knows of the file
-- there; and how many slots of the client's log are free
pub record PathNow : Type 0 where
  pub file : File ℕ
  pub marks : File (Option Mark)
  pub version : ℕ
  pub pending : List ℕ
  pub is_open : Bool
  pub front : ℕ
  pub at_front : Attr
  pub free : ℕ

-- an operation that needs an open path
abbrev pub if_open : PathNow → Event → Event
if_open w e = if w.is_open then e else answered answers.BadF
