use Rattle.std.proofs.Common.{◌≡◌, drop}
use Rattle.fs_script.specs.Report.{journal_of}
use Rattle.fs_plain.specs.JournalEntries.{entries_of}
use Rattle.fs_plain.proofs.journals.Journals.of.Given as goal

-- the journal is the first one of the path among those that are left
abbrev pub invariant-loop-journal : goal.invariant-loop-journal
invariant-loop-journal l = journal_of (entries_of (drop l.journal-index l.journal-items)) l.p ≡ journal_of l.self l.p
