-- A piece has a hold in a file, or in what is pending, exactly where their marks bear it.
use Rattle.fs_types.proofs.Common.{◌≡◌, Option, Some, None, IfSome, is_some, refl, ap, ◌∙◌}
use Rattle.fs_script.specs.Vocabulary.{Job, Piece, bears, cells_of, marks_put}
use Rattle.core_machine.specs.Vocabulary.{ArePending, BookFile, PlainHold, IsFile, Pending, file_hold, file_marks}
use Rattle.core_machine.proofs.NamedPieces.{is_named-bears}

pub file-bears : (f : Option (BookFile PlainHold)) (q : Piece) → IfSome f IsFile → is_some (file_hold f q) ≡ bears (cells_of (file_marks f)) q
file-bears None q is = refl
file-bears (Some f) q is = is.are_held.named q ∙ is_named-bears f.held.fragments f.size q is.are_held.spans is.within

pub pending-bears : {s : Job} (p : Pending) (q : Piece) → ArePending s p → is_some (p.held.hold_of q) ≡ bears (marks_put s p.lines) q
pending-bears p q are =
    are.are_held.named q ∙ is_named-bears p.held.fragments p.end q are.are_held.spans are.within ∙ ap (λ ms. bears ms q) are.marks
