use Rattle.fs_types.proofs.Common.{◌≡◌, ◌∙◌, ap, sym, length, map, replicate, All, arith, length-map}
use Rattle.slot_plain.proofs.Shapes.{slots_fit}
use Rattle.slot_plain.specs.Log.{Log}
use Rattle.fs_script.specs.Vocabulary.{answer_at}
use Rattle.core_machine.specs.Logs.{device_state}
use Rattle.core_machine.specs.Books.{path_at}
use Rattle.core_machine.specs.PathStates.{pending_after, state_of, states_in}
use Rattle.core_machine.specs.Vocabulary.{Idle, KeptClient, noted_now, told_in}
use Rattle.core_machine.proofs.Legal.First.{first-legal}
use Rattle.core_machine.proofs.Refines.First.{CanRun-job, Holds-first, IsFirst-first, devices-fresh, length-fresh, no_spill, none-pending}
use Rattle.core_machine.proofs.Refines.StatesOfPaths.{states-fresh}
use Rattle.core_machine.proofs.run.first_run.Goals as goal

pub returns : goal.returns
returns g c =
    let s = c.args.s.now in
    let job = c.shape-shape.ensures.job in
    let shape = c.shape-shape.ensures.shape in
    let paths = c.in_ok-paths.paths in
    let books = c.in_ok-books.books.items in
    let board = c.in_ok-board.board in
    let clients = c.in_ok-clients.clients.items in
    let answers = c.in_ok-answers.answers in
    let empty = c.in_ok-answers.ensures.0 in
    let states = states_in s books board clients answers paths in
    let turns = c.in_ok-turns.ensures in
    let tasks = c.in_ok-tasks.tasks.items in
    let idle : tasks ≡ replicate s.shape.clients Idle = rw (← shape) c.in_ok-tasks.ensures in
    let logs = c.in_ok-logs.logs.items in
    let fresh_logs = c.in_ok-logs.ensures.fresh in
    let ds = map (λ (d : g.row.D.Denot). device_state (g.D.SpillDev.size d) (g.D.SpillDev.cells d) (g.D.SpillDev.faults d)) c.args.devices.items in
    let many : length ds ≡ s.shape.clients = length-map c.args.devices.items _ ∙ c.requires.one_each in
    let servers : length books ≡ s.shape.servers = rw (← shape) c.in_ok-books.ensures.sized in
    let count : length clients ≡ s.shape.clients = rw (← shape) c.in_ok-clients.ensures.sized in
    let chunks : All (λ (k : KeptClient). k.pending.chunk ≡ s.shape.chunk) clients = rw (← shape) c.in_ok-clients.ensures.chunks in
    let sized = length-map paths (state_of (path_at books) (told_in board) (pending_after s (answer_at answers.list)) clients) in
    let fresh = states-fresh (path_at books) (pending_after s (answer_at answers.list)) clients paths s.shape.clients (told_in board)
    c.in_ok-books.ensures.fresh c.in_ok-board.ensures (λ r q. ap (λ xs. pending_after s (answer_at xs) r q) empty ∙ none-pending s r q) count
    c.in_ok-clients.ensures.fresh in
    let limits = job.shape.clients in
    let first = IsFirst-first states answers c.in_ok-turns.turns tasks logs ds c.in_ok-paths.ensures.paths sized fresh empty turns.places idle fresh_logs
    many in
    record {
      run = record {
        gfids = c.in_ok-paths.ensures.gfids;
        kept = record { servers = servers; ranks = count; chunks = chunks };
        told = λ _. record { each = λ q _. c.in_ok-board.ensures q ∙ sym (ap noted_now (c.in_ok-books.ensures.fresh q)) };
        phases = turns.phase;
        holds = λ _. Holds-first states answers c.in_ok-turns.turns tasks logs ds (CanRun-job job) c.in_ok-paths.ensures.paths sized fresh empty
            (omega (arith, c.in_ok-answers.ensures.1, c.lines.ensures.lines)) turns.job turns.places idle fresh_logs many (no_spill job.shape)
            (omega (arith, slots_fit s.shape job.shape)) (omega (arith, limits));
        legal = λ told _. first-legal (CanRun-job job) first told;
        logged = ap length fresh_logs ∙ length-fresh s.shape 0 ds ∙ many;
        no_device = c.in_ok-logs.ensures.emptied;
        room = omega (
          arith,
          ap length fresh_logs,
          length-fresh s.shape 0 ds,
          many,
          c.requires.one_each,
          c.in_ok-logs.ensures.room,
          c.args.devices.ok,
        );
      };
      first = first;
      job = job;
      devices = ap (map (λ (log : Log). log.device)) fresh_logs ∙ devices-fresh s.shape 0 ds;
    }
