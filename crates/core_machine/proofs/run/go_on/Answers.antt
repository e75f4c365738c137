use Rattle.fs_types.proofs.Common.{◌≡◌, ◌∙◌, List, [], map, sym, ap, subst, refl}
use Rattle.fs_script.specs.Vocabulary.{answer_at}
use Rattle.core_machine.specs.Core.{states}
use Rattle.core_machine.specs.PathStates.{AreToldBut, pending_after, states_in}
use Rattle.core_machine.specs.Vocabulary.{Book, Holds, KeptBoard, PathState, Places, PlainHold, after_line, moment_of, noted_now, path_at, told_in, with_told}
use Rattle.core_machine.specs.declared.run.Run.{Run}
use Rattle.core_machine.proofs.Refines.StatesOfPaths.{states-told}
use Rattle.core_machine.proofs.Refines.PhaseEnds.{Holds-told, moment-told}
use Rattle.core_machine.proofs.run.go_on.Goals as goal

-- what is kept for each path, once all clients were told of each
then-told : {D : Type 0} (r : Run D) {books : List (Book PlainHold)} {board : KeptBoard} → books ≡ r.books.items
    → AreToldBut r.script.now [] board books
    → states_in r.script.now r.books.items board r.clients.items r.answers r.paths ≡ map with_told (states r)
then-told r {board = board} are told =
    states-told (path_at r.books.items) (pending_after r.script.now (answer_at r.answers.list)) r.clients.items r.paths
    (told_in r.board) (told_in board) (λ q. told.each q refl ∙ ap (λ bs. noted_now (path_at bs q)) are)

pub returns-in_ok-tell-clause-holds : goal.returns-in_ok-tell-clause-holds
returns-in_ok-tell-clause-holds g c =
    let r = c.args.run.now in
    subst (λ (xs : List PathState). Holds r.script.now r.paths xs r.answers c.advance.new.self r.tasks.items r.logs.items)
    (sym (then-told r c.deref.ensures.value c.in_ok-tell.ensures))
    (Holds-told c.advance.new.self c.advance.ensures.job c.advance.ensures.places (c.advance.ensures.begins c.if-advance.true) c.requires.holds)

pub returns-in_ok-tell-clause-moment : goal.returns-in_ok-tell-clause-moment
returns-in_ok-tell-clause-moment g c =
    let r = c.args.run.now in
    let next = after_line r.turns c.args.r in
    ap (λ (xs : List PathState). moment_of r.script.now r.paths xs r.answers c.advance.new.self r.tasks.items r.logs.items r.spent)
    (then-told r c.deref.ensures.value c.in_ok-tell.ensures)
    ∙ moment-told r.script.now r.paths (states r) r.answers next c.advance.new.self r.tasks.items r.logs.items r.spent c.advance.ensures.places
    ∙ ap (moment_of r.script.now r.paths (states r) r.answers next r.tasks.items r.logs.items) c.requires.unspent

same_places : (v w : Places) → v.job ≡ w.job → v.places ≡ w.places → v.phase ≡ w.phase → v ≡ w
same_places v w j p n i = record { job = j i; places = p i; phase = n i }

pub returns-else-advance-clause-holds : goal.returns-else-advance-clause-holds
returns-else-advance-clause-holds g c =
    let r = c.args.run.now in
    let is = same_places c.advance.new.self (after_line r.turns c.args.r) c.advance.ensures.job c.advance.ensures.places
    (c.advance.ensures.goes_on c.if-advance.false) in
    subst (λ (v : Places). Holds r.script.now r.paths (states r) r.answers v r.tasks.items r.logs.items) (sym is) c.requires.holds
