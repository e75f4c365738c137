-- A run of which the books alone came back, and have of each path what they had: it is at the same moment.
use Rattle.fs_types.proofs.Common.{◌≡◌, ◌∙◌, ℕ, List, Vec, length, sym, ap, subst}
use Rattle.client_files.specs.Kept.{told_in}
use Rattle.fs_script.specs.Vocabulary.{answer_at}
use Rattle.core_machine.specs.Books.{path_at}
use Rattle.core_machine.specs.Core.{IsRun, moment, states}
use Rattle.core_machine.specs.LegalSoFar.{IsLegalMoment}
use Rattle.core_machine.specs.PathStates.{pending_after, states_of}
use Rattle.core_machine.specs.Vocabulary.{Book, Holds, PathState, PlainHold, moment_of, noted_now}
use Rattle.core_machine.specs.declared.run.Run.{Run}
use Rattle.core_machine.proofs.Refines.Told.{told-same}

module _ {D : Type 0} (r : Run D) (books : Vec (Book PlainHold) _) (size : length books.items ≡ length r.books.items)
    (same : (q : List ℕ) → path_at books.items q ≡ path_at r.books.items q) where
  states-same : states (record r { books = books }) ≡ states r
  states-same = λ i.
      states_of (λ q. same q i) (told_in r.board) (pending_after r.script.now (answer_at r.answers.list)) r.clients.items r.paths

  pub moment-same : moment (record r { books = books }) ≡ moment r
  moment-same =
      ap (λ (xs : List PathState). moment_of r.script.now r.paths xs r.answers r.turns r.tasks.items r.logs.items r.spent) states-same

  pub IsRun-same : IsRun r → IsRun (record r { books = books })
  IsRun-same run = record {
    gfids = run.gfids;
    kept = record { servers = size ∙ run.kept.servers; ranks = run.kept.ranks; chunks = run.kept.chunks };
    told = λ going. told-same (λ q. ap noted_now (same q)) (run.told going);
    phases = run.phases;
    holds = λ going. subst (λ (xs : List PathState). Holds r.script.now r.paths xs r.answers r.turns r.tasks.items r.logs.items)
        (sym states-same) (run.holds going);
    legal = λ told going. subst (IsLegalMoment told) (sym moment-same) (run.legal told going);
    logged = run.logged;
    no_device = run.no_device;
    room = run.room;
  }
