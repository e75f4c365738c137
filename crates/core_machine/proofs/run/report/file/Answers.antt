use Rattle.fs_types.proofs.Common.{◌≡◌, ◌∙◌, ap, arith, length-set, not, subst, sym, IfOk, IfSome}
use Rattle.fs_script.specs.Vocabulary.{file_state_of}
use Rattle.std.specs.Vec.{with_item}
use Rattle.core_machine.specs.BookFiles.{IsFile}
use Rattle.core_machine.specs.Books.{path_at}
use Rattle.core_machine.specs.Core.{IsRun, moment, states}
use Rattle.core_machine.specs.Kept.{file_hold, file_of, owned_of}
use Rattle.core_machine.specs.Logs.{HoldsStand}
use Rattle.owner_book.specs.Kept.{path_in}
use Rattle.core_machine.specs.Moment.{file_now}
use Rattle.core_machine.specs.MomentKept.{moment_of}
use Rattle.core_machine.specs.Vocabulary.{BookPath, OwnedPath, PlainHold, told_in}
use Rattle.core_machine.proofs.BooksOfPaths.{IsHome, is-home, path-here, paths-same}
use Rattle.core_machine.proofs.LentVecs.{with_items-same}
use Rattle.core_machine.proofs.Refines.BooksRead.{IsRun-same, moment-same}
use Rattle.core_machine.proofs.Refines.Reads.{IsThere, file-read, found-there, memory-read, stand-read, Stands-read, there-kept}
use Rattle.core_machine.proofs.run.report.file.Given.{Over}
use Rattle.core_machine.proofs.run.report.file.Goals as goal
use Rattle.core_machine.proofs.run.report.file.Goals.{After-index_mut-book}

-- the book at the place of the path's owner
home : (g : Over) (c : After-index_mut-book g) → IsHome c.args.run.now.books.items c.args.p.now c.owner.inside.0 c.gfid_of-gfid.result
    c.index_mut-book.result.now
home g c =
    let books = c.args.run.now.books.items in
    let servers = ap (λ s. s.servers) (sym c.shape.ensures.shape) in
    let below = c.owner_of-owner.ensures.below in
    subst (IsHome books c.args.p.now c.owner.inside.0 c.gfid_of-gfid.result) (sym c.index_mut-book.ensures.value)
    (is-home books c.args.p.now c.shape.result.servers c.owner.inside.0 c.gfid_of-gfid.result c.index_mut-book.result.now
    (c.requires.kept.servers ∙ servers) c.gfid_of-gfid.ensures (c.owner.view_is ∙ c.owner_of-owner.ensures.owner)
    (omega (arith, below, c.owner.view_is)))

-- what it has of the path
path : (g : Over) (c : After-index_mut-book g) → path_at c.args.run.now.books.items c.args.p.now
    ≡ path_in c.index_mut-book.result.now c.gfid_of-gfid.result c.args.p.now
path g c = path-here c.args.run.now.books.items c.args.p.now c.owner.inside.0 c.gfid_of-gfid.result c.index_mut-book.result.now (home g c).at
    (home g c).is (home g c).there

-- what is kept for it
abbrev owned : (g : Over) (c : After-index_mut-book g) → OwnedPath
owned g c = owned_of (path_at c.args.run.now.books.items c.args.p.now) (told_in c.args.run.now.board c.args.p.now)

here : (g : Over) (c : After-index_mut-book g) → IsThere c.args.run.now.paths (states c.args.run.now) c.args.p.now (owned g c)
here g c = there-kept c.args.run.now c.args.p.now
    (found-there c.index_of.result c.args.run.now.paths c.args.p.now (c.is_none.ensures ∙ ap not c.if-is_none.false) c.index_of.ensures.within
    c.index_of.ensures.there)

-- each hold of its file is of a slot that has its piece
stand : (g : Over) (c : After-index_mut-book g) → HoldsStand c.args.run.now.script.now c.args.run.now.logs.items
    (file_hold (path_in c.index_mut-book.result.now c.gfid_of-gfid.result c.args.p.now).file)
stand g c = subst (λ (x : BookPath PlainHold). HoldsStand c.args.run.now.script.now c.args.run.now.logs.items (file_hold x.file)) (path g c)
    (stand-read c.args.p.now (owned g c) (c.requires.holds c.if-run.false) (here g c))

pub file_state-requires-clause-file : goal.file_state-requires-clause-file
file_state-requires-clause-file g c =
    let at = (goal.at.file_state-requires-clause-file g c).After-index_mut-book in
    subst (λ (x : BookPath PlainHold). IfSome x.file IsFile) (path g at)
    (Stands-read c.args.p.now (owned g at) (c.requires.holds c.if-run.false) (here g at)).owned.written

pub file_state-requires-clause-stand : goal.file_state-requires-clause-stand
file_state-requires-clause-stand g c = (
  c.args.run.now.script.now,
  rw c.deref_mut.ensures.value (stand g (goal.at.file_state-requires-clause-stand g c).After-index_mut-book),
  rw c.deref_mut.ensures.value (memory-read (c.requires.holds c.if-run.false)),
)

pub returns-clause-file : goal.returns-clause-file
returns-clause-file g c =
    let at = (goal.at.returns-clause-file g c).After-index_mut-book in
    let r = c.args.run.now in
    subst (λ f. IfOk c.file_state.result (λ y. y ≡ file_state_of f))
    (ap (λ (y : BookPath PlainHold). file_of r.script.now y.file) (sym (path g at))
    ∙ file-read c.args.p.now (owned g at) (c.requires.holds c.if-run.false) (here g at)
    ∙ ap (λ b. file_now (moment_of r.script.now r.paths (states r) r.answers r.turns r.tasks.items r.logs.items b) c.args.p.now)
    (sym c.if-run.false))
    (c.file_state.ensures.state r.script.now (rw c.deref_mut.ensures.value (stand g at)))

pub returns-clause-run : goal.returns-clause-run
returns-clause-run g c =
    let r = c.args.run.now in
    let there = (home g (goal.at.returns-clause-run g c).After-index_mut-book).there in
    let books = with_item r.books c.owner.inside.0 c.file_state.new.book in
    subst (λ ls. IsRun (record r { books = books; logs = ls }))
    (sym (with_items-same r.logs c.file_state.new.logs (c.file_state.ensures.logs ∙ c.deref_mut.ensures.value)))
    (IsRun-same r books (length-set r.books.items c.owner.inside.0 c.file_state.new.book)
    (paths-same r.books.items c.owner.inside.0 c.index_mut-book.result.now c.file_state.new.book there c.file_state.ensures.same) c.requires)

pub returns-clause-same : goal.returns-clause-same
returns-clause-same g c =
    let r = c.args.run.now in
    let there = (home g (goal.at.returns-clause-same g c).After-index_mut-book).there in
    let books = with_item r.books c.owner.inside.0 c.file_state.new.book in
    ap (λ ls. moment (record r { books = books; logs = ls }))
    (with_items-same r.logs c.file_state.new.logs (c.file_state.ensures.logs ∙ c.deref_mut.ensures.value))
    ∙ moment-same r books (length-set r.books.items c.owner.inside.0 c.file_state.new.book)
    (paths-same r.books.items c.owner.inside.0 c.index_mut-book.result.now c.file_state.new.book there c.file_state.ensures.same)
