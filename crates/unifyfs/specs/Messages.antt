-- What standard error is told of each way to end.
use Rattle.std.specs.Prelude.{ℕ, List, Option, Some, None, codes}
use Rattle.fs_types.specs.declared.status.Status.{Status}
use Rattle.fs_types.specs.declared.status.Status.TheVariants.{Done, Usage, Refused, ReadFault, WriteFault, Memory}

-- the message for a status, where standard output tells too little of it
abbrev pub message_of : Status → Option (List ℕ)
message_of Done = None
message_of Usage = None
message_of Refused = None
message_of ReadFault = Some (codes "unifyfs: read fault")
message_of WriteFault = Some (codes "unifyfs: write fault")
message_of Memory = Some (codes "unifyfs: out of memory")
