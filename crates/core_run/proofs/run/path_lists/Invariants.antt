use Rattle.std.proofs.Common.{◌≡◌, take}
use Rattle.core_machine.specs.MomentReport.{report_of}
use Rattle.core_run.proofs.run.path_lists.Given as goal

-- the paths so far are reported, and the run stays
abbrev pub invariant-loop-i : goal.invariant-loop-i
invariant-loop-i l = record {
  journals : l.journals ≡ take l.i l.initial.core.journals;
  files : l.files ≡ take l.i (report_of l.initial.core).files;
  same : l.core ≡ l.initial.core;
}
