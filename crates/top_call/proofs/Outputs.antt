-- What the output took of a simulated job's answer, and which status that leaves.
use Rattle.std.proofs.Common.{◌≡◌, ◌≢◌, ◌⊎◌, inl, inr, ℕ, List, Option, Some, refl, sym, ap, subst, ◌∙◌}
use Rattle.std.proofs.Common.{arith}
use Rattle.std.specs.Option.{IfSome}
use Rattle.std.specs.Result.{IsErr}
use Rattle.std.proofs.lemmas.Option.{IfSome_then}
use Rattle.fs_types.specs.declared.status.Status.{Status}
use Rattle.fs_types.specs.declared.status.Status.TheVariants as statuses
use Rattle.fs_script.specs.Job.{Job}
use Rattle.fs_script.specs.Grammar.{IsScript}
use Rattle.fs_script.specs.Reading.Scripts.{job_of}
use Rattle.fs_script.proofs.CallerLemmas.{script_is_job}
use Rattle.fs_types.specs.Faults.{HasRisen}
use Rattle.fs_dev.specs.Told.{IsAtEnd, then_bytes}
use Rattle.top_call.specs.declared.words.Command.{Command}
use Rattle.top_call.specs.declared.words.Command.TheVariants.{Sim}
use Rattle.top_call.specs.CommandWords.{command_of}
use Rattle.top_call.specs.CommandAnswer.{IsSimAnswer, IsCommandAnswer, IsAnswer}
use Rattle.top_call.specs.Output.{IsOutput, WritesAnswer}
use Rattle.top_call.specs.Top.{InputChange, OutputChange, AsksForJob, AsksWithFault, IsTopCall}

-- each command is `sim` with a seed
pub only_sim : (k : Command) → (seed : ℕ) × (k ≡ Sim seed)
only_sim (Sim seed) = (seed, refl)

-- what `sim` answers is what the words ask for
IsAnswer-sim : (words : List (List ℕ)) (seed : ℕ) (input : List ℕ) (status : Status)
    (text : List ℕ)
    → command_of words ≡ Some (Sim seed) → IsSimAnswer seed input status text
    → IsAnswer words input status text
IsAnswer-sim words seed input status text command sim =
    subst (λ (o : Option Command). IsCommandAnswer o input status text) (sym command) sim

-- an answer that was written whole
IsOutput-whole : (words : List (List ℕ)) (seed : ℕ) (input : List ℕ) (status : Status) (text : List ℕ)
    (had held : Option (List ℕ))
    → IsAnswer words input status text → IsSimAnswer seed input status text → held ≡ then_bytes had text
    → IsOutput words input status had held
IsOutput-whole words seed input statuses.Done text had held answer sim took =
    record { written = text; answer = answer; took = took }
IsOutput-whole words seed input statuses.Refused text had held answer sim took =
    record { written = text; answer = answer; took = took }
IsOutput-whole words seed input status text had held answer sim took = absurd sim

-- an answer that was written whole, or cut off
IsOutput-sim : (words : List (List ℕ)) (seed : ℕ) (input : List ℕ) (status result : Status) (text : List ℕ)
    (had held : Option (List ℕ))
    → IsAnswer words input status text → IsSimAnswer seed input status text
    → WritesAnswer status text result had held → IsOutput words input result had held
IsOutput-sim words seed input status result text had held answer sim (inl whole) =
    subst (λ (s : Status). IsOutput words input s had held) (sym whole.0)
    (IsOutput-whole words seed input status text had held answer sim whole.1)
IsOutput-sim words seed input status result text had held answer sim (inr cut) =
    subst (λ (s : Status). IsOutput words input s had held) (sym cut.0)
    record { status = status; written = text; answer = answer; took = cut.1 }

-- the answer to the script of a job is its report
Done-script : (seed : ℕ) (input : List ℕ) (s : Job) (status : Status) (text : List ℕ)
    → IsScript input s → IsSimAnswer seed input status text → status ≡ statuses.Done
Done-script seed input s statuses.Done text script sim = refl
Done-script seed input s statuses.Refused text script sim = cc (script_is_job input s script, sim.first)
Done-script seed input s status text script sim = absurd sim

-- only the script of a job is reported on
Done-refused : (seed : ℕ) (input : List ℕ) (status : Status) (text : List ℕ)
    → IsSimAnswer seed input status text → IsErr (job_of input) → status ≢ statuses.Done
Done-refused seed input statuses.Done text sim refused = λ done.
    cc (subst IsErr (script_is_job input sim.job sim.script) refused)
Done-refused seed input status text sim refused = λ done. cc

-- the answer to a script with a fault is its refusal
Refused-fault : (seed : ℕ) (input : List ℕ) (status : Status) (text : List ℕ)
    → IsErr (job_of input) → IsSimAnswer seed input status text → status ≡ statuses.Refused
Refused-fault seed input statuses.Refused text fault sim = refl
Refused-fault seed input statuses.Done text fault sim =
    cc (subst IsErr (script_is_job input sim.job sim.script) fault)
Refused-fault seed input status text fault sim = absurd sim

-- a simulated job whose answer was written, whole or in part
pub IsTopCall-sim : {S K H : Type 0} (words : List (List ℕ)) (k : Command) (seed : ℕ)
    (status result : Status) (text : List ℕ)
    (input : InputChange S) (out : OutputChange K) (host host_after : H)
    → command_of words ≡ Some k → Sim seed ≡ k
    → IfSome (input.left input.old) (λ bytes. IsSimAnswer seed bytes status text)
    → (status ≡ statuses.Done) ⊎ (status ≡ statuses.Refused)
    → (status ≡ statuses.Done → IsAtEnd (input.left input.new))
    → input.faults input.new ≡ input.faults input.old
    → WritesAnswer status text result (out.held out.old) (out.held out.new)
    → (result ≡ statuses.WriteFault → HasRisen (out.faults out.old) (out.faults out.new))
    → (result ≢ statuses.WriteFault → out.faults out.new ≡ out.faults out.old)
    → host_after ≡ host
    → IsTopCall words result input out host host_after
IsTopCall-sim words k seed status result text input out host host_after
    asked is sim which to_end calm writes risen quiet stays =
    let command : command_of words ≡ Some (Sim seed) = asked ∙ ap Some (sym is) in
    let told = input.left input.old in
    let had = out.held out.old in
    let held = out.held out.new in
    let P : Option (List ℕ) → Type 0 = λ o. IfSome o (λ bytes. IsSimAnswer seed bytes status text) in
    let output : IfSome told (λ bytes. IsOutput words bytes result had held) =
    IfSome_then told sim (λ bytes answer. IsOutput-sim words seed bytes status result text had held
    (IsAnswer-sim words seed bytes status text command answer) answer writes) in
    let refused : IfSome told (λ bytes. IsErr (job_of bytes) → status ≢ statuses.Done) =
    IfSome_then told sim (λ bytes answer bad. Done-refused seed bytes status text answer bad) in
    let reported : AsksForJob words told → status ≡ statuses.Done = λ asks.
    Done-script seed asks.bytes asks.job status text asks.script (subst P asks.input sim) in
    let turned_down : AsksWithFault words told → status ≡ statuses.Refused = λ asks.
    Refused-fault seed asks.bytes status text asks.fault (subst P asks.input sim) in
    grind (arith, output, refused, reported, turned_down)
