use Rattle.fs_types.proofs.Common.{◌≡◌, ◌∙◌, ℕ, List, Option, Some, set, get_or, ap, sym, arith, slice_get, slice_get-get_or}
use Rattle.fs_types.proofs.Common.{slice_get_within, same_Some, subst, length-set, IfOk, Result, Ok, Err}
use Rattle.fs_types.specs.declared.want.Want.{Want}
use Rattle.owner_book.specs.Kept.{path_in}
use Rattle.slot_plain.specs.Log.{Log}
use Rattle.fs_script.specs.Vocabulary.{Answer, Job}
use Rattle.core_machine.specs.Books.{ChangesOne}
use Rattle.core_machine.specs.Follows.{FollowsAt, IsSoundAt}
use Rattle.core_machine.specs.Kept.{owned_in, owned_of}
use Rattle.core_machine.specs.PathStates.{AreKept}
use Rattle.core_machine.specs.Vocabulary.{Book, ChangesOwn, KeptBoard, KeptClient, Op, PlainHold, Task, EventFollows, EventSound, IsWhole}
use Rattle.core_machine.specs.Vocabulary.{lines_then, own_of, path_at, told_in}
use Rattle.core_machine.proofs.BooksOfPaths.{IsHome, changes-here, is-home, path-here, path-then}
use Rattle.core_machine.proofs.Refines.StatesOfPaths.{AreKept-changed}
use Rattle.core_machine.proofs.run.event_on_path.Given.{Over}
use Rattle.core_machine.proofs.run.event_on_path.Goals as goal
use Rattle.core_machine.proofs.run.event_on_path.Goals.{After-index-books-owner, After-index-tasks-at}

-- what is read at the place of a client that has something there is that
read-at : {X : Type 0} (xs : List X) (r i : ℕ) (d k : X) → i ≡ r → slice_get xs r ≡ Some k → slice_get xs r ≡ Some (get_or xs i d)
read-at xs r i d k at there = slice_get-get_or xs r d (slice_get_within xs r k there) ∙ ap (λ j. Some (get_or xs j d)) (sym at)

module _ {books : List (Book PlainHold)} {p : List ℕ} {o hash : ℕ} {book : Book PlainHold} (here : IsHome books p o hash book) (s : Job) (n : ℕ)
    (op : Op) (r : ℕ) (board : KeptBoard) (clients : List KeptClient) (k : KeptClient) (tasks : List Task) (t : Task) (logs : List Log)
    (beside : slice_get clients r ≡ Some k) (midst : slice_get tasks r ≡ Some t) where
  path : path_at books p ≡ path_in book hash p
  path = path-here books p o hash book here.at here.is here.there

  -- what the path's own book has, and what stands at the client's place, is sound
  sound-here : (lines : List ℕ) → IsSoundAt p s n op r books board clients tasks logs lines
      → EventSound s n op r (record { owned = owned_in book hash p board; client = own_of k p lines; task = t; logs = logs })
  sound-here lines sound =
      let own = same_Some sound.client k (sym sound.beside ∙ beside) in
      let task = same_Some sound.task t (sym sound.midst ∙ midst) in
      subst (λ (X : Type 0). X) (λ i. EventSound s n op r
      (record { owned = owned_of (path i) (told_in board p); client = own_of (own i) p lines; task = task i; logs = logs })) sound.sound

  -- and what follows in it follows at the servers
  follows-here : (new : Book PlainHold) (i j : ℕ) (l : KeptClient) (u : Task) (logs' : List Log) (lines : List ℕ)
      (result : Result (Option Answer) Want) → i ≡ r → j ≡ r → ChangesOne book new hash p → ChangesOwn k l p
      → IfOk result (λ a. EventFollows s n op r
      (record { owned = owned_in book hash p board; client = own_of k p lines; task = t; logs = logs })
      (record { owned = owned_in new hash p board; client = own_of l p (lines_then op n lines a); task = u; logs = logs' }) a)
      → IfOk result (λ a. IsWhole s op
      (record { owned = owned_in new hash p board; client = own_of l p (lines_then op n lines a); task = u; logs = logs' }))
      → IfOk result (λ a. FollowsAt p s n op r books (set books o new) board clients (set clients i l) tasks (set tasks j u) logs logs' lines a)
  follows-here new i j l u logs' lines (Err e) at at_task changes elsewhere follows whole = tt
  follows-here new i j l u logs' lines (Ok a) at at_task changes elsewhere follows whole =
      let then = path-then here new in
      record {
        was = k;
        now = l;
        beside = beside;
        changed = ap (λ q. set clients q l) at;
        changes = changes-here here new changes;
        elsewhere = elsewhere;
        task_was = t;
        task_now = u;
        midst = midst;
        goes_on = ap (λ q. set tasks q u) at_task;
        follows = subst (λ (X : Type 0). X) (λ q. EventFollows s n op r
            (record { owned = owned_of (sym path q) (told_in board p); client = own_of k p lines; task = t; logs = logs })
            (record {
              owned = owned_of (sym then q) (told_in board p);
              client = own_of l p (lines_then op n lines a);
              task = u;
              logs = logs';
            }) a) follows;
        whole = subst (λ (X : Type 0). X) (λ q. IsWhole s op (record {
          owned = owned_of (sym then q) (told_in board p);
          client = own_of l p (lines_then op n lines a);
          task = u;
          logs = logs';
        })) whole;
      }

-- the book at the place of the path's owner
home-here : (g : Over) (c : After-index-books-owner g) → IsHome c.args.books.now c.args.o.now.path c.owner.inside.0 c.of_line-gfid.result
    (get_or c.args.books.now c.owner.inside.0 c.index-books-owner.result)
home-here g c =
    let servers = ap (λ s. s.servers) (sym c.shape.ensures.shape) in
    let below = c.owner_of-owner.ensures.below in
    is-home c.args.books.now c.args.o.now.path c.shape.result.servers c.owner.inside.0 c.of_line-gfid.result c.index-books-owner.result
    (c.requires.kept.servers ∙ servers) (c.of_line-gfid.ensures c.args.s.now c.args.o.now c.requires.gfids c.requires.line) (c.owner.view_is ∙ c.owner_of-owner.ensures.owner)
    (omega (arith, below, c.owner.view_is))

-- the client whose line it is, and what it is in the midst of
client-there : (g : Over) (c : After-index-tasks-at g) → slice_get c.args.clients.now c.args.o.now.rank
    ≡ Some (get_or c.args.clients.now c.r.inside.0 c.index-clients-at.result)
client-there g c = read-at c.args.clients.now c.args.o.now.rank c.r.inside.0 c.index-clients-at.result c.requires.sound.1.client c.r.view_is
    c.requires.sound.1.beside

task-there : (g : Over) (c : After-index-tasks-at g) → slice_get c.args.tasks.now c.args.o.now.rank
    ≡ Some (get_or c.args.tasks.now c.r.inside.0 c.index-tasks-at.result)
task-there g c = read-at c.args.tasks.now c.args.o.now.rank c.r.inside.0 c.index-tasks-at.result c.requires.sound.1.task c.r.view_is
    c.requires.sound.1.midst

pub event-requires-clause-chunk : goal.event-requires-clause-chunk
event-requires-clause-chunk g c =
    c.requires.kept.chunks c.r.inside.0 c.index-clients-at.result
    (let at = slice_get_within c.args.clients.now c.args.o.now.rank c.requires.sound.1.client c.requires.sound.1.beside in
    omega (arith, at, c.r.view_is))

pub event-requires-clause-sound : goal.event-requires-clause-sound
event-requires-clause-sound g c =
    let at = goal.at.event-requires-clause-sound g c in
    let sound = c.requires.sound in (
      sound.0,
      sound-here (home-here g at.After-index-books-owner) c.args.s.now c.args.n c.args.o.now.op c.args.o.now.rank c.args.board.now
          c.args.clients.now _ c.args.tasks.now _ c.args.logs.now (client-there g at.After-index-tasks-at)
          (task-there g at.After-index-tasks-at) sound.0 sound.1,
    )

pub returns-clause-kept : goal.returns-clause-kept
returns-clause-kept g c =
    let at = goal.at.returns-clause-kept g c in
    subst (λ q. AreKept c.args.s.now (set c.args.books.now c.owner.inside.0 c.event.new.book) (set c.args.clients.now q c.event.new.client))
    (sym c.r.view_is)
    (AreKept-changed c.args.o.now.rank (length-set c.args.books.now c.owner.inside.0 c.event.new.book)
    (client-there g at.After-index-tasks-at) c.event.ensures.elsewhere c.requires.kept)

pub returns-clause-changes : goal.returns-clause-changes
returns-clause-changes g c =
    changes-here (home-here g (goal.at.returns-clause-changes g c).After-index-books-owner) c.event.new.book c.event.ensures.others

pub returns-clause-follows : goal.returns-clause-follows
returns-clause-follows g c = λ lines sound.
    let at = goal.at.returns-clause-follows g c in
    let home = home-here g at.After-index-books-owner in
    let o = c.args.o.now in
    let clients = c.args.clients.now in
    let tasks = c.args.tasks.now in
    let beside = client-there g at.After-index-tasks-at in
    let midst = task-there g at.After-index-tasks-at in
    let here = sound-here home c.args.s.now c.args.n o.op o.rank c.args.board.now clients _ tasks _ c.args.logs.now beside midst lines sound in
    follows-here home c.args.s.now c.args.n o.op o.rank c.args.board.now clients _ tasks _ c.args.logs.now beside midst c.event.new.book
    c.r.inside.0 c.r.inside.0 c.event.new.client c.event.new.task c.event.new.logs lines c.event.result c.r.view_is c.r.view_is
    c.event.ensures.others c.event.ensures.elsewhere (c.event.ensures.follows lines here) (c.event.ensures.whole lines here)

pub bounds-clients-at : goal.bounds-clients-at
bounds-clients-at g c =
    let sound = c.requires.sound.1 in
    omega (arith, slice_get_within c.args.clients.now c.args.o.now.rank sound.client sound.beside, c.r.view_is)

pub bounds-tasks-at : goal.bounds-tasks-at
bounds-tasks-at g c =
    let sound = c.requires.sound.1 in
    omega (arith, slice_get_within c.args.tasks.now c.args.o.now.rank sound.task sound.midst, c.r.view_is)
