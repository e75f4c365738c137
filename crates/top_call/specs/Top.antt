-- The contract of the call that the program makes, in one place for every function that keeps it.
use Rattle.std.specs.Prelude.{◌≡◌, ◌≢◌, ◌⊎◌, ℕ, List, Option, Some, None, IfSome, IsErr}
use Rattle.fs_types.specs.declared.status.Status.{Status}
use Rattle.fs_types.specs.declared.status.Status.TheVariants.{Done, Usage, Refused, ReadFault, WriteFault}
use Rattle.fs_types.specs.declared.status.Status.TheVariants.{Memory}
use Rattle.fs_script.specs.Job.{Job}
use Rattle.fs_script.specs.Grammar.{IsScript}
use Rattle.fs_script.specs.Reading.Scripts.{job_of}
use Rattle.fs_types.specs.Faults.{HasRisen}
use Rattle.fs_dev.specs.Told.{IsAtEnd, then_bytes}
use Rattle.fs_dev.specs.Sink.{TookFront}
use Rattle.top_call.specs.declared.words.Command.TheVariants.{Sim}
use Rattle.top_call.specs.CommandWords.{command_of}
use Rattle.top_call.specs.UsageAndRefusals.{usage_line}
use Rattle.top_call.specs.Output.{IsOutput}

-- the input before and after a call, seen by the functions of the trait `Source`
pub record InputChange (S : Type 0) : Type 0 where
  -- the bytes that are left, where they are told
  pub left : S → Option (List ℕ)
  -- how many calls have failed
  pub faults : S → ℕ
  pub old : S
  pub new : S

-- the output before and after a call, seen by the functions of the trait `Sink`
pub record OutputChange (K : Type 0) : Type 0 where
  -- the bytes that were taken, where they are told
  pub held : K → Option (List ℕ)
  -- how many calls have failed
  pub faults : K → ℕ
  pub old : K
  pub new : K

-- a read of the input failed in this call: its count of faults rose
abbrev pub InputFailed : {S : Type 0} → InputChange S → Type 0
InputFailed input = HasRisen (input.faults input.old) (input.faults input.new)

-- a write to the output failed in this call: its count of faults rose
abbrev pub OutputFailed : {K : Type 0} → OutputChange K → Type 0
OutputFailed out = HasRisen (out.faults out.old) (out.faults out.new)

-- the words are `sim SEED`, and the input tells its bytes, which are the script of a job
pub record AsksForJob (words : List (List ℕ)) (told : Option (List ℕ)) : Type 0 where
  pub seed : ℕ
  pub command : command_of words ≡ Some (Sim seed)
  pub bytes : List ℕ
  pub input : told ≡ Some bytes
  pub job : Job
  pub script : IsScript bytes job

-- the words are `sim SEED`, and the input tells its bytes, which have a fault
pub record AsksWithFault (words : List (List ℕ)) (told : Option (List ℕ)) : Type 0 where
  pub seed : ℕ
  pub command : command_of words ≡ Some (Sim seed)
  pub bytes : List ℕ
  pub input : told ≡ Some bytes
  pub fault : IsErr (job_of bytes)

-- What holds of a call for these words: of the status that it ends with, and of the input, the
-- output and the host before and after it.
pub record IsTopCall {S K H : Type 0} (words : List (List ℕ)) (status : Status)
    (input : InputChange S) (out : OutputChange K) (old_host new_host : H) : Type 0 where
  -- The output took the report of the input's job, a refusal, the usage line, a part of one of
  -- these, or nothing.
  pub output : IfSome (input.left input.old)
      (λ bytes. IsOutput words bytes status (out.held out.old) (out.held out.new))
  -- An input that was reported on was read to its end.
  pub to_end : status ≡ Done → IsAtEnd (input.left input.new)
  -- An input that is refused is never reported on.
  pub refused : IfSome (input.left input.old) (λ bytes. IsErr (job_of bytes) → status ≢ Done)
  -- A job that is asked for is reported on, unless memory runs out or the input or output fails.
  pub job : AsksForJob words (input.left input.old)
      → (status ≡ Done) ⊎ (status ≡ Memory) ⊎ (status ≡ ReadFault) ⊎ (status ≡ WriteFault)
  -- Where neither of these fails, it is reported on unless memory runs out.
  pub calm_job : AsksForJob words (input.left input.old)
      → ¬ InputFailed input → ¬ OutputFailed out → (status ≡ Done) ⊎ (status ≡ Memory)
  -- A script with a fault is refused, unless memory runs out or the input or output fails.
  pub refusal : AsksWithFault words (input.left input.old)
      → (status ≡ Refused) ⊎ (status ≡ Memory) ⊎ (status ≡ ReadFault) ⊎ (status ≡ WriteFault)
  -- Where neither of these fails, it is refused unless memory runs out.
  pub calm_refusal : AsksWithFault words (input.left input.old)
      → ¬ InputFailed input → ¬ OutputFailed out → (status ≡ Refused) ⊎ (status ≡ Memory)
  -- No other words than those that are no command end with the status `Usage`,
  pub usage : status ≡ Usage → command_of words ≡ None
  -- and these end with it unless the output fails, whatever the input is.
  pub no_command : command_of words ≡ None → (status ≡ Usage) ⊎ (status ≡ WriteFault)
  -- With that status the output took the usage line.
  pub usage_written : status ≡ Usage → out.held out.new ≡ then_bytes (out.held out.old) usage_line
  -- Where it failed, it took some of the first bytes of that line, and not all.
  pub usage_cut_off : command_of words ≡ None → status ≡ WriteFault
      → TookFront usage_line (out.held out.old) (out.held out.new)
  -- For words that are no command the input is as it was.
  pub untouched : command_of words ≡ None → input.new ≡ input.old
  -- The status that blames the input has its cause in a read that failed in this call,
  pub read_fault : status ≡ ReadFault → InputFailed input
  -- and with every other status no read failed.
  pub calm_input : status ≢ ReadFault → input.faults input.new ≡ input.faults input.old
  -- The status that blames the output has its cause in a write that failed in this call,
  pub write_fault : status ≡ WriteFault → OutputFailed out
  -- and with every other status no write failed.
  pub calm_output : status ≢ WriteFault → out.faults out.new ≡ out.faults out.old
  -- Where the input failed the output is as it was.
  pub unread : status ≡ ReadFault → out.new ≡ out.old
  -- Where memory ran out the output is as it was.
  pub memory : status ≡ Memory → out.new ≡ out.old
  -- The host is as it was.
  pub host : new_host ≡ old_host
