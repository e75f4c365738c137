use Rattle.fs_script.proofs.Reading.Numbers.{number_is_text, text_is_number}
use Rattle.fs_script.proofs.laws.scripts.numbers_are_decimal.Goals as goal

pub returns-clause-spelled : goal.returns-clause-spelled
returns-clause-spelled c = λ w n e. let t = number_is_text w n e in (t.below, t.text)

pub returns-clause-read : goal.returns-clause-read
returns-clause-read c = text_is_number
