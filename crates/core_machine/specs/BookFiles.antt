-- A file in its owner's book: what of it the core goes on keeping so, and the marks that it has.
use Rattle.std.specs.Prelude.{◌≤◌, List, Option, All}
use Rattle.fs_types.specs.FragmentMarks.{marks_of_fragments}
use Rattle.fs_types.specs.Fragments.{end_of}
use Rattle.fs_script.specs.Vocabulary.{LONGEST_FILE, Mark}
use Rattle.owner_book.specs.Kept.{BookFile}
use Rattle.core_machine.specs.PlainHolds.{AreHeldPlain}
use Rattle.core_machine.specs.declared.plain_hold.PlainHold.{PlainHold}

-- the marks of the file
abbrev pub marks_of_file : BookFile PlainHold → List (Option Mark)
marks_of_file f = marks_of_fragments f.held.fragments f.size

-- each piece has its hold, and the fragments end within the file, which is no longer than the longest
pub record IsFile (f : BookFile PlainHold) : Type 0 where
  pub are_held : AreHeldPlain f.held
  pub within : All (λ g. end_of g ≤ f.size) f.held.fragments
  pub most : f.size ≤ LONGEST_FILE
