-- What is kept for the paths of a job, path by path: at its owner, and by each client.
use Rattle.std.specs.Prelude.{◌≡◌, ℕ, suc, Bool, false, List, [], ◌∷◌, All, Option, Some, None, length, map, bytes_eq}
use Rattle.std.specs.List.{list_any}
use Rattle.fs_script.specs.Vocabulary.{Answering, Given, Job, answer_at, op_at, past_lines, pending}
use Rattle.fs_script.specs.declared.line.OpLine.{OpLine}
use Rattle.client_files.specs.Kept.{KeptBoard, told_in}
use Rattle.client_files.specs.declared.noted.Noted.{Noted}
use Rattle.owner_book.specs.Kept.{Book, BookPath}
use Rattle.core_machine.specs.ClientPath.{ClientPath, own_of}
use Rattle.core_machine.specs.Books.{path_at}
use Rattle.core_machine.specs.declared.client.Client.{Client}
use Rattle.core_machine.specs.declared.plain_hold.PlainHold.{PlainHold}
use Rattle.core_machine.specs.Kept.{PathState, noted_now, owned_of}

-- what each of these clients keeps for path p, where these lines of each are pending, by its place among them
abbrev pub own_parts : (ℕ → List ℕ) → List ℕ → List Client → List ClientPath
own_parts lines p [] = []
own_parts lines p (c ∷ cs) = own_of c p (lines 0) ∷ own_parts (λ r. lines (suc r)) p cs

-- what is kept for path p, where the owners' books have this of a path, all clients were told this, and these lines of each client
-- are pending on it
abbrev pub state_of : (List ℕ → BookPath PlainHold) → (List ℕ → Noted) → (ℕ → List ℕ → List ℕ) → List Client → List ℕ → PathState
state_of at told lines clients p = record { owned = owned_of (at p) (told p); clients = own_parts (λ r. lines r p) p clients }

-- and for each of the paths
abbrev pub states_of : (List ℕ → BookPath PlainHold) → (List ℕ → Noted) → (ℕ → List ℕ → List ℕ) → List Client → List (List ℕ) → List PathState
states_of at told lines clients paths = map (state_of at told lines clients) paths

-- the lines of client r on path p that are pending after these answers
abbrev pub pending_after : Job → Answering → ℕ → List ℕ → List ℕ
pending_after s A r p = pending s A r p (past_lines s)

-- what is kept for each of the paths, by the books and the board of a job, its clients, and the answers so far
abbrev pub states_in : Job → List (Book PlainHold) → KeptBoard → List Client → Given → List (List ℕ) → List PathState
states_in s books board clients answers paths =
    states_of (path_at books) (told_in board) (pending_after s (answer_at answers.list)) clients paths

-- so many servers have a book each, and so many clients keep their parts, cut into parts of so many bytes
pub record AreKept (s : Job) (books : List (Book PlainHold)) (clients : List Client) : Type 0 where
  pub servers : length books ≡ s.shape.servers
  pub ranks : length clients ≡ s.shape.clients
  pub chunks : All (λ c. c.pending.chunk ≡ s.shape.chunk) clients

-- an operation is on path p
abbrev pub is_on : List ℕ → Option OpLine → Bool
is_on p None = false
is_on p (Some o) = bytes_eq o.path p

-- of each path that none of these lines is on, all clients were told what is noted of it now
pub record AreToldBut (s : Job) (lines : List ℕ) (board : KeptBoard) (books : List (Book PlainHold)) : Type 0 where
  pub each : (p : List ℕ) → list_any (λ n. is_on p (op_at s n)) lines ≡ false → told_in board p ≡ noted_now (path_at books p)
