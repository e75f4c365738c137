use Rattle.fs_types.proofs.Common.{◌≡◌, ◌∙◌, ◌+◌, ap, arith, drop, option_copied, subst, suc, sym, List, ℕ, ◌∷◌}
use Rattle.std.proofs.Common.{drop-cons}
use Rattle.core_machine.specs.PathStates.{AreToldBut}
use Rattle.core_machine.specs.Vocabulary.{KeptBoard}
use Rattle.core_machine.proofs.Refines.Told.{told-next, told-skip}
use Rattle.core_machine.proofs.run.tell.Goals as goal
use Rattle.core_machine.proofs.run.tell.Goals.{in-Some+in_ok-tell_path, in_default}

pub tell_path-requires-clause-line : goal.tell_path-requires-clause-line
tell_path-requires-clause-line c = sym c.operation.ensures ∙ ap option_copied c.in-Some.is

pub loop-n-preserved : goal.loop-n-preserved
loop-n-preserved c =
    let s = c.args.s.now in
    let books = c.args.books.now in
    let next : suc c.loop-n.n-index ≡ c.loop-n.n-index + 1 = omega arith in
    let rest = drop (c.loop-n.n-index + 1) c.args.changing.now in
    let left : drop c.loop-n.n-index c.args.changing.now ≡ c.n-item.result ∷ rest =
    drop-cons c.args.changing.now c.loop-n.n-index c.n-item.result c.loop-n-test.true ∙ (λ i. sym c.n-item.is i ∷ drop (next i) c.args.changing.now) in
    let told = subst (λ (ls : List ℕ). AreToldBut s ls c.loop-n.board books) left c.loop-n.invariant in
    elim c.match-operation.branch [
      | in-Some+in_ok-tell_path w ↦ subst (λ (b : KeptBoard). AreToldBut s rest b books) (sym w.board-is)
          (told-next w.in-Some.o.now (sym c.operation.ensures ∙ ap option_copied w.in-Some.is) w.in_ok-tell_path.ensures told)
      | in_default w ↦ subst (λ (b : KeptBoard). AreToldBut s rest b books) (sym w.board-is)
          (told-skip (sym c.operation.ensures ∙ ap option_copied w.in_default.is) told)
    ]
