use Rattle.owner_book.proofs.Parts.{parts-marks}
use Rattle.owner_book.proofs.laws.lookups_name_the_marks_of_their_range.Goals as goal

pub returns : goal.returns
returns c = parts-marks
