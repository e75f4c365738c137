use Rattle.fs_types.proofs.Common.{◌≡◌, ◌∙◌, None, ap, sym}
use Rattle.piece_table.specs.HeldSpans.{held, pushed}
use Rattle.piece_table.proofs.CallerLemmas.{of_named_held}
use Rattle.span_list.proofs.CallerLemmas.{cut_ends}
use Rattle.owner_book.specs.Changes.{file_changed}
use Rattle.owner_book.specs.Commits.{size_after}
use Rattle.owner_book.specs.Kept.{BookFile, file_of}
use Rattle.owner_book.specs.Laminations.{frozen}
use Rattle.owner_book.specs.Truncations.{with_size}
use Rattle.owner_book.proofs.Pushes.{laid-file, within-laid}
use Rattle.owner_book.proofs.Truncations.{cut-file, handed-both, handed-one}
use Rattle.owner_book.proofs.owned_file.OwnedFile.put.Goals as goal
use Rattle.owner_book.proofs.owned_file.OwnedFile.put.Goals.{in-Leave, in-Resize, in-Freeze}

pub invariant_of-self-in-Leave : goal.invariant_of-self-in-Leave
invariant_of-self-in-Leave g c =
    let size = c.size_after-size_put.ensures ∙ ap (size_after c.self.inside.size) c.deref.ensures.value in
    let fragments = c.in_ok-put_push.ensures.put.fragments in
    rw (size, fragments) (within-laid c.args.push.frags.items c.self.inside.held.fragments c.self.inside.size c.requires.well_formed.in_file
    c.self.invariant)

pub invariant_of-self-in-Freeze : goal.invariant_of-self-in-Freeze
invariant_of-self-in-Freeze g c =
    let size = c.size_after-size_put.ensures ∙ ap (size_after c.self.inside.size) c.deref.ensures.value in
    let fragments = c.in_ok-put_push.ensures.put.fragments in
    rw (size, fragments) (within-laid c.args.push.frags.items c.self.inside.held.fragments c.self.inside.size c.requires.well_formed.in_file
    c.self.invariant)

pub invariant_of-self-in-Resize : goal.invariant_of-self-in-Resize
invariant_of-self-in-Resize g c =
    let cuts = rw c.unwrap.ensures at c.cut.ensures.cut in
    record {
      ends = rw cuts.fragments (cut_ends c.in-Resize.size c.put_push.new.self.fragments);
      most = rw c.in-Resize.is at c.requires.size;
    }

-- the file over which the push was put, and what the line did with it then
pub returns-clause-put : goal.returns-clause-put
returns-clause-put g c =
    let piece = g.H.Hold.piece in
    let old : BookFile g.row.H.Denot =
    record { size = c.self.inside.size; frozen = c.self.inside.frozen; held = held c.self.inside.held } in
    let size = c.size_after-size_put.ensures ∙ ap (size_after c.self.inside.size) c.deref.ensures.value in
    let put = laid-file piece c.args.push old c.size_after-size_put.result (held c.put_push.new.self) size c.in_ok-put_push.ensures.put in
    let is = ap (λ kept. file_changed piece c.args.push c.args.after (file_of kept)) c.self.view_is in
    elim c.match-after.branch [
      | in-Leave w ↦ ap file_of w.self-is ∙ put ∙ ap (λ a. file_changed piece c.args.push a old) (sym w.in-Leave.is) ∙ is
      | in-Resize w ↦
          let cuts = rw w.unwrap.ensures at w.cut.ensures.cut in
          let cut = cut-file w.in-Resize.size
          (record { size = c.size_after-size_put.result; frozen = c.self.inside.frozen; held = held c.put_push.new.self })
          (held w.cut.new.self) cuts in
          ap file_of w.self-is ∙ cut ∙ ap (with_size w.in-Resize.size) put
          ∙ ap (λ a. file_changed piece c.args.push a old) (sym w.in-Resize.is) ∙ is
      | in-Freeze w ↦ ap file_of w.self-is ∙ ap frozen put ∙ ap (λ a. file_changed piece c.args.push a old) (sym w.in-Freeze.is) ∙ is
    ]

pub returns-clause-dead : goal.returns-clause-dead
returns-clause-dead g c =
    let piece = g.H.Hold.piece in
    let over = pushed piece c.args.push.frags.items c.args.push.holds.items in
    let old = held c.self.inside.held in
    let put = held c.put_push.new.self in
    let one = handed-one piece old put c.in-Ok.dead.items c.put_push.new.dead.items c.in-Ok.ensures.none c.in_ok-put_push.ensures.dead in
    elim c.match-after.branch [
      | in-Leave w ↦ rw (w.in-Leave.is, w.self-is, w.dead-is, ← c.self.view_is) one
      | in-Resize w ↦
          rw (w.in-Resize.is, w.self-is, w.dead-is, ← c.self.view_is)
          (handed-both g.H.Hold.is_ready piece g.H.Hold.bytes over old put (held w.cut.new.self) w.in-Resize.size
          c.in_ok-put_push.ensures.put (rw w.unwrap.ensures at w.cut.ensures.cut) c.put_push.ensures.are_held w.cut.ensures.are_held
          (of_named_held piece g.H.Hold.bytes g.H.Hold.is_ready c.args.push.frags.items c.args.push.holds.items c.requires.well_formed
          (λ q. old.hold_of q ≡ None) (rw (← c.self.view_is) at c.requires.new_pieces))
          c.in-Ok.dead.items c.put_push.new.dead.items w.cut.new.dead.items c.in-Ok.ensures.none c.in_ok-put_push.ensures.dead
          (rw w.unwrap.ensures at w.cut.ensures.dead))
      | in-Freeze w ↦ rw (w.in-Freeze.is, w.self-is, w.dead-is, ← c.self.view_is) one
    ]
