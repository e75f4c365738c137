-- What a caller cites of answers by line and of lists that are written over: the crates above import from here alone.

-- the answer to a line, by the first of the list
pub use Rattle.fs_types.proofs.Tables.{answer_at-same, answer_at-other, IsRisingFrom-lower}
-- the answers of a rising list, and what putting one more makes of it
pub use Rattle.fs_types.proofs.AnswerOrder.{cases_line, answer_at-each, answer_at-rising_below}
pub use Rattle.fs_types.proofs.AnswerOrder.{IsRisingFrom-put_answer, answer_at-put_answer}
-- what stands at each place of a list that is written over, cut or shown, and how long it is
pub use Rattle.fs_types.proofs.Overwrites.{length-put, get_or-put, length-shown, length-cut, get_or-cut, get_or-cut_anywhere, All-cut}
pub use Rattle.fs_types.proofs.PlainFiles.{All-written, length-written}
-- each byte of a path is visible
pub use Rattle.fs_types.proofs.PathsAndNames.{path_is_visible}
