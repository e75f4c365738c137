-- What a committing line does to a file, and the file after some lines of a journal.
use Rattle.std.specs.Prelude.{ℕ, Bool, true, false, not, is_some, List, [], ◌∷◌, take, Option, Some, None, if◌then◌else◌}
use Rattle.fs_types.specs.Overwrite.{cut}
use Rattle.fs_types.specs.PlainFile.{File, written, is_open_to_change}
use Rattle.fs_script.specs.declared.line.OpLine.{OpLine}
use Rattle.fs_script.specs.declared.line.Op.{Op}
use Rattle.fs_script.specs.declared.line.Op.TheVariants as ops
use Rattle.fs_script.specs.Job.{Job, op_at}
use Rattle.fs_script.specs.Payload.{Cells, bytes_of, offset}
use Rattle.fs_script.specs.Pending.{Answering, pending_at}

-- what these lines bring, put over xs in order
abbrev pub put_lines : {X : Type 0} → Job → Cells X → List ℕ → List X → List X
put_lines s c [] xs = xs
put_lines s c (n ∷ ns) xs = put_lines s c ns (written c.blank xs (offset s n) (c.of_line n))

-- a file with what these lines bring put over it
abbrev pub with_lines : {X : Type 0} → Job → Cells X → List ℕ → File X → File X
with_lines s c q None = None
with_lines s c q (Some f) = Some (record { cells = put_lines s c q f.cells; frozen = f.frozen })

-- a file cut to n places, with blanks where it has fewer
abbrev pub cut_to : {X : Type 0} → X → ℕ → File X → File X
cut_to blank n None = None
cut_to blank n (Some f) = Some (record { cells = cut blank f.cells n; frozen = f.frozen })

-- a file with the same bytes, frozen
abbrev pub as_frozen : {X : Type 0} → File X → File X
as_frozen None = None
as_frozen (Some f) = Some (record { cells = f.cells; frozen = true })

-- what a client sees of a file: the file alone, or with its own pending lines put over it
abbrev pub view_of : {X : Type 0} → Job → Cells X → Bool → List ℕ → File X → File X
view_of s c own q f = if own then with_lines s c q f else f

-- whether an operation may be committed over this file
abbrev pub is_enabled : {X : Type 0} → Op → File X → Bool
is_enabled ops.Create f = not (is_some f)
is_enabled ops.Open f = false
is_enabled (ops.Write off text) f = false
is_enabled ops.Sync f = is_open_to_change f
is_enabled (ops.Read off len own) f = false
is_enabled ops.Size f = false
is_enabled (ops.Trunc n) f = is_open_to_change f
is_enabled ops.Laminate f = is_open_to_change f
is_enabled ops.Unlink f = is_some f

-- what it makes of the file then, with these lines pending
abbrev pub makes : {X : Type 0} → Job → Cells X → Op → List ℕ → File X → File X
makes s c ops.Create q f = Some (record { cells = []; frozen = false })
makes s c ops.Open q f = f
makes s c (ops.Write off text) q f = f
makes s c ops.Sync q f = with_lines s c q f
makes s c (ops.Read off len own) q f = f
makes s c ops.Size q f = f
makes s c (ops.Trunc n) q f = cut_to c.blank n (with_lines s c q f)
makes s c ops.Laminate q f = as_frozen (with_lines s c q f)
makes s c ops.Unlink q f = None

-- an operation's effect on a file, with these lines pending; where it isn't enabled, the file stays
abbrev pub effect_of : {X : Type 0} → Job → Cells X → Op → List ℕ → File X → File X
effect_of s c op q f = if is_enabled op f then makes s c op q f else f

abbrev pub effect_in : {X : Type 0} → Job → Cells X → Option OpLine → List ℕ → File X → File X
effect_in s c None q f = f
effect_in s c (Some o) q f = effect_of s c o.op q f

-- the effect of line n
abbrev pub effect : {X : Type 0} → Job → Cells X → Answering → ℕ → File X → File X
effect s c A n f = effect_in s c (op_at s n) (pending_at s A n) f

-- the file after all these lines, one after the other
abbrev pub after_all : {X : Type 0} → Job → Cells X → Answering → List ℕ → File X → File X
after_all s c A [] f = f
after_all s c A (n ∷ ns) f = after_all s c A ns (effect s c A n f)

-- the file at version v of a journal, from none
abbrev pub state_in : {X : Type 0} → Job → Cells X → Answering → List ℕ → ℕ → File X
state_in s c A J v = after_all s c A (take v J) None

-- its bytes
abbrev pub state : Job → Answering → List ℕ → ℕ → File ℕ
state s A J v = state_in s (bytes_of s) A J v
