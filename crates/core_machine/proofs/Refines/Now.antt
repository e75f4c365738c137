-- What the event of a line sees is what is kept for its path and its client.
use Rattle.fs_types.proofs.Common.{◌≡◌, ℕ, ◌<◌, length, List, Option, Some, None, max}
use Rattle.fs_types.proofs.Common.{leb, refl, sym, ap, ◌∙◌, arith, nat_lt, count_by, cond_both, true, length-map}
use Rattle.fs_script.specs.Vocabulary.{File, Job, Mark, Piece, phase, Answering, marks_at, marked_byte, marked_bytes, seen, front, of_earlier_phases, past_lines}
use Rattle.core_machine.specs.Vocabulary.{OpLine, OwnedPath, ClientPath, PathNow, known_of, kept_now, later_of}
use Rattle.client_files.proofs.CallerLemmas.{version-later_of}
use Rattle.fs_script.proofs.CallerLemmas.{state-by_marks}
use Rattle.core_machine.specs.Vocabulary.{empty_slots, StandsForOwner, StandsForClient, path_now}
use Rattle.core_machine.proofs.Refines.NextAnswers.{over_answers-until}
use Rattle.core_machine.proofs.Refines.Clients.{IsOwn}

-- the front of the line is the greater of what its client noted and the board
front-kept : {s : Job} {A : Answering} {now n : ℕ} {o : OpLine} {x : OwnedPath} {k : ClientPath} → phase s n ≡ now
    → IsOwn s A o.rank o.path n o → StandsForOwner s A now o.path x → StandsForClient s A o.rank o.path x k
    → (later_of k.noted x.told).version ≡ front s A x.path.journal o.rank o.path n
front-kept {s} {A} {n} {o} {x} {k} is own owned client =
    let lt = own.within in
    let saw : k.noted.version ≡ seen s A o.rank o.path n = client.seen
    ∙ over_answers-until _ _ s o.rank o.path A n (past_lines s) (omega arith) own.from in
    let told : x.told.version ≡ of_earlier_phases s n x.path.journal = owned.told
    ∙ ap (λ j. count_by (λ m. nat_lt (phase s m) j) x.path.journal) (sym is) in
    version-later_of k.noted x.told ∙ ap (λ v. max v x.told.version) saw ∙ ap (max (seen s A o.rank o.path n)) told

same_now : (v w : PathNow) → v.file ≡ w.file → v.marks ≡ w.marks → v.version ≡ w.version → v.pending ≡ w.pending → v.is_open ≡ w.is_open
    → v.front ≡ w.front → v.at_front ≡ w.at_front → v.free ≡ w.free → v ≡ w
same_now v w a m b c d e f g i =
    record { file = a i; marks = m i; version = b i; pending = c i; is_open = d i; front = e i; at_front = f i; free = g i }

-- what is known of a file by its marks is what is known of it by its bytes
known-bytes : (s : Job) (f : File (Option Mark)) → known_of f ≡ known_of (marked_bytes s f)
known-bytes s None = refl
known-bytes s (Some f) =
    λ i. record { exists = true; size = sym (length-map f.cells (marked_byte s)) i; frozen = f.frozen }

pub kept_now-is : {s : Job} {A : Answering} {now n free : ℕ} {o : OpLine} {x : OwnedPath} {k : ClientPath} (log : List (Option Piece))
    → 0 < s.shape.chunk → phase s n ≡ now → IsOwn s A o.rank o.path n o → StandsForOwner s A now o.path x
    → StandsForClient s A o.rank o.path x k → free ≡ length (empty_slots log)
    → kept_now s x k free ≡ path_now s A x.path.journal log n o
kept_now-is {s} {A} {now} {n} {free} {o} {x} {k} log chunk is own owned client room =
    let lt = own.within in
    let J = x.path.journal in
    let at = λ (v : ℕ). known_of (marks_at s A J v) in
    let front = front-kept is own owned client in
    same_now (kept_now s x k free) (path_now s A J log n o)
    (ap (marked_bytes s) owned.marks ∙ state-by_marks s A J (length J) chunk) owned.marks refl
    (client.pending ∙ over_answers-until _ _ s o.rank o.path A n (past_lines s) (omega arith) own.from)
    (client.opened ∙ over_answers-until _ _ s o.rank o.path A n (past_lines s) (omega arith) own.from)
    front ((cond_both (leb x.told.version k.noted.version) k.noted x.told (λ x. x.attr ≡ at x.version) (λ _. client.known)
    (λ _. owned.known)) ∙ ap at front ∙ known-bytes s (marks_at s A J (front_of front))
    ∙ ap known_of (state-by_marks s A J (front_of front) chunk)) room
  where
    front_of : {u v : ℕ} → u ≡ v → ℕ
    front_of {v = v} e = v
