-- For bytes and for marks alike.
use Rattle.fs_types.proofs.Common.{ℕ}
use Rattle.fs_types.specs.Marks.{no_mark}
use Rattle.fs_types.proofs.Overwrites.{get_or-put, length-put, put-nothing}
use Rattle.fs_types.proofs.laws.overwriting_is_by_place.Goals as goal

pub returns-clause-bytes : goal.returns-clause-bytes
returns-clause-bytes c = record { place = get_or-put {X = ℕ} 0; length = length-put {X = ℕ} 0; nothing = put-nothing {X = ℕ} 0 }

pub returns-clause-marks : goal.returns-clause-marks
returns-clause-marks c = record { place = get_or-put no_mark; length = length-put no_mark; nothing = put-nothing no_mark }
