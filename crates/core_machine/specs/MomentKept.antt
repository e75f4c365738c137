-- The moment that what the core keeps stands for.
use Rattle.std.specs.Prelude.{ℕ, Bool, List, map, zip}
use Rattle.slot_plain.specs.Log.{Log}
use Rattle.fs_script.specs.Vocabulary.{Given, Job}
use Rattle.core_machine.specs.declared.task.Task.{Task}
use Rattle.core_machine.specs.Kept.{PathState}
use Rattle.core_machine.specs.Logs.{pieces_in}
use Rattle.core_machine.specs.Moment.{Client, Moment}
use Rattle.core_machine.specs.Task.{doing_of}
use Rattle.core_machine.specs.Turns.{Places}

-- a client that has come to this place of its program, in the midst of this
abbrev pub client_at : ℕ × Task → Client
client_at c = record { place = c.0; doing = doing_of c.1 }

abbrev pub clients_of : List ℕ → List Task → List Client
clients_of places tasks = map client_at (zip places tasks)

-- the journals that are kept, each beside its path
abbrev pub journals_of : List (List ℕ) → List PathState → List (List ℕ × List ℕ)
journals_of paths states = zip paths (map (λ x. x.owned.path.journal) states)

abbrev pub moment_of : Job → List (List ℕ) → List PathState → Given → Places → List Task → List Log → Bool → Moment
moment_of s paths states answers turns tasks logs spent = record {
  job = s;
  clients = clients_of turns.places tasks;
  answers = answers.list;
  journals = journals_of paths states;
  logs = map pieces_in logs;
  spent = spent;
}
