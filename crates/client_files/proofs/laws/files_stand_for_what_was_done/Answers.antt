use Rattle.client_files.proofs.Stands.{noted-stands, opened-stands, told-stands}
use Rattle.client_files.proofs.laws.files_stand_for_what_was_done.Goals as goal

pub returns-clause-opened : goal.returns-clause-opened
returns-clause-opened c = opened-stands

pub returns-clause-noted : goal.returns-clause-noted
returns-clause-noted c = noted-stands

pub returns-clause-told : goal.returns-clause-told
returns-clause-told c = told-stands
