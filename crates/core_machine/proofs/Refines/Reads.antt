-- What is read of a path in what the core keeps: its journal and its file at the moment.
use Rattle.fs_types.proofs.Common.{common_steps, ◌≡◌, ℕ, List, [], length, map, Some, None, false, sym, ap}
use Rattle.fs_types.proofs.Common.{◌∙◌, ◌<◌, arith, get_or, slice_get, Contains, slice_get-get_or, get_or_from_slice_get, IfSome, Option, true, true≢false, is_some}
use Rattle.fs_script.specs.Vocabulary.{Given, answer_at, Job, marked_bytes, state, AreRising, journal_of}
use Rattle.slot_plain.specs.Log.{Log}
use Rattle.core_machine.specs.Logs.{AreInMemory}
use Rattle.core_machine.specs.Kept.{owned_of}
use Rattle.core_machine.specs.Core.{states}
use Rattle.core_machine.specs.PathStates.{pending_after, state_of}
use Rattle.core_machine.specs.declared.run.Run.{Run}
use Rattle.core_machine.specs.Vocabulary.{path_at, told_in, ClientPath, OwnedPath, PathState, Task}
use Rattle.core_machine.specs.Vocabulary.{file_of, file_now, Places}
use Rattle.core_machine.specs.Vocabulary.{journals_of, moment_of, Holds, HoldsStand, Stands, file_hold}
use Rattle.fs_script.proofs.CallerLemmas.{slice_get-map_some}
use Rattle.fs_script.proofs.CallerLemmas.{journal_of-zip, journal_of-absent, state-by_marks}
use Rattle.core_machine.proofs.Refines.JournalsKept.{journal_kept}

-- the place of a path of which this is kept at its owner, and what is kept for the path there
pub record IsThere (paths : List (List ℕ)) (states : List PathState) (p : List ℕ) (x : OwnedPath) : Type 0 where
  pub place : ℕ
  pub clients : List ClientPath
  pub at : slice_get paths place ≡ Some p
  pub there : slice_get states place ≡ Some (record { owned = x; clients = clients })

pub there-kept : {D : Type 0} (r : Run D) (p : List ℕ) → Contains r.paths p
    → IsThere r.paths (states r) p (owned_of (path_at r.books.items p) (told_in r.board p))
there-kept r p has =
    let state = state_of (path_at r.books.items) (told_in r.board) (pending_after r.script.now (answer_at r.answers.list)) r.clients.items in
    let at = slice_get-get_or r.paths has.0 p has.1 ∙ ap Some has.2 in
    record { place = has.0; clients = (state p).clients; at = at; there = slice_get-map_some state r.paths has.0 p at }

-- a path that was found among them is one of them
pub found-there : (place : Option ℕ) (paths : List (List ℕ)) (p : List ℕ) → is_some place ≡ true → IfSome place (λ i. i < length paths)
    → IfSome place (λ i. slice_get paths i ≡ Some p) → Contains paths p
found-there None paths p some within there = absurd (true≢false (sym some))
found-there (Some i) paths p some within there = (i, within, get_or_from_slice_get paths i p p there)

-- the journal of a path that has a place
pub journal-read : (paths : List (List ℕ)) (states : List PathState) (p : List ℕ) (x : OwnedPath) → AreRising paths
    → IsThere paths states p x → x.path.journal ≡ journal_of (journals_of paths states) p
journal-read paths states p x rising here =
    sym (journal_of-zip paths (map journal_kept states) here.place p x.path.journal rising here.at
    (slice_get-map_some journal_kept states here.place (record { owned = x; clients = here.clients }) here.there))

pub journal-absent : (paths : List (List ℕ)) (states : List PathState) (p : List ℕ) → (Contains paths p → ⊥)
    → [] ≡ journal_of (journals_of paths states) p
journal-absent paths states p absent = sym (journal_of-absent paths (map journal_kept states) p absent)

-- what was found of a path stands for it
pub Stands-read : {s : Job} {paths : List (List ℕ)} {states : List PathState} {answers : Given} {turns : Places} {tasks : List Task}
    {logs : List Log} (p : List ℕ) (x : OwnedPath) (held : Holds s paths states answers turns tasks logs) (here : IsThere paths states p x)
    → Stands s (answer_at answers.list) turns.phase p (record { owned = x; clients = here.clients })
Stands-read p x held here = held.each here.place p (record { owned = x; clients = here.clients }) here.at here.there

-- and each hold of it is of a slot that has its piece
pub stand-read : {s : Job} {paths : List (List ℕ)} {states : List PathState} {answers : Given} {turns : Places} {tasks : List Task}
    {logs : List Log} (p : List ℕ) (x : OwnedPath) → Holds s paths states answers turns tasks logs → IsThere paths states p x
    → HoldsStand s logs (file_hold x.path.file)
stand-read p x held here = (held.path_holds here.place (record { owned = x; clients = here.clients }) here.there).files

-- and all logs are in memory
pub memory-read : {s : Job} {paths : List (List ℕ)} {states : List PathState} {answers : Given} {turns : Places} {tasks : List Task}
    {logs : List Log} → Holds s paths states answers turns tasks logs → AreInMemory s logs
memory-read {logs} held k d within = (held.logs_stand.each k (get_or logs k d) (slice_get-get_or logs k d within)).memory

-- the file of a path is that of the moment
pub file-read : {s : Job} {paths : List (List ℕ)} {states : List PathState} {answers : Given} {turns : Places} {tasks : List Task}
    {logs : List Log} (p : List ℕ) (x : OwnedPath) → Holds s paths states answers turns tasks logs → IsThere paths states p x
    → file_of s x.path.file ≡ file_now (moment_of s paths states answers turns tasks logs false) p
file-read {s} {paths} {states} {answers} p x held here =
    let J = x.path.journal in
    ap (marked_bytes s) (Stands-read p x held here).owned.marks ∙ state-by_marks s (answer_at answers.list) J (length J) held.job.chunk
    ∙ ap (λ (j : List ℕ). state s (answer_at answers.list) j (length j)) (journal-read paths states p x held.named.rising here)

-- a path that isn't among them has no file
pub file-absent : (s : Job) (paths : List (List ℕ)) (states : List PathState) (answers : Given) (turns : Places) (tasks : List Task)
    (logs : List Log) (p : List ℕ) → (Contains paths p → ⊥) → None ≡ file_now (moment_of s paths states answers turns tasks logs false) p
file-absent s paths states answers turns tasks logs p absent = grind (arith, common_steps, length, journal-absent)

pub ruleset kept_reads = (journal-absent, file-absent)
