-- What each answer says, one case for each.
use Rattle.std.specs.Prelude.{ℕ, Bool, true, false, Option, Some, None}
use Rattle.fs_types.specs.declared.answer.Answer.{Answer}
use Rattle.fs_types.specs.declared.answer.Answer.TheVariants as answers

-- the version that it prints
abbrev pub version_of : Answer → Option ℕ
version_of (answers.Done v) = Some v
version_of (answers.Wrote slots) = None
version_of (answers.Staged v n slots) = Some v
version_of (answers.Sized v n frozen) = Some v
version_of (answers.Shown v n body) = Some v
version_of answers.BadF = None
version_of (answers.Exists v) = Some v
version_of (answers.NoEnt v) = Some v
version_of (answers.ReadOnly v) = Some v
version_of answers.TooBig = None
version_of (answers.TooBigAt v) = Some v
version_of (answers.NoSpace need free) = None
version_of (answers.DevFault rank) = None

-- the version at which a line was done
abbrev pub done_at : Answer → Option ℕ
done_at (answers.Done v) = Some v
done_at (answers.Wrote slots) = None
done_at (answers.Staged v n slots) = Some v
done_at (answers.Sized v n frozen) = None
done_at (answers.Shown v n body) = None
done_at answers.BadF = None
done_at (answers.Exists v) = None
done_at (answers.NoEnt v) = None
done_at (answers.ReadOnly v) = None
done_at answers.TooBig = None
done_at (answers.TooBigAt v) = None
done_at (answers.NoSpace need free) = None
done_at (answers.DevFault rank) = None

-- the bytes that a line brings were accepted
abbrev pub is_accepted : Answer → Bool
is_accepted (answers.Done v) = false
is_accepted (answers.Wrote slots) = true
is_accepted (answers.Staged v n slots) = true
is_accepted (answers.Sized v n frozen) = false
is_accepted (answers.Shown v n body) = false
is_accepted answers.BadF = false
is_accepted (answers.Exists v) = false
is_accepted (answers.NoEnt v) = false
is_accepted (answers.ReadOnly v) = false
is_accepted answers.TooBig = false
is_accepted (answers.TooBigAt v) = false
is_accepted (answers.NoSpace need free) = false
is_accepted (answers.DevFault rank) = false

-- the path wasn't open
abbrev pub is_badf : Answer → Bool
is_badf (answers.Done v) = false
is_badf (answers.Wrote slots) = false
is_badf (answers.Staged v n slots) = false
is_badf (answers.Sized v n frozen) = false
is_badf (answers.Shown v n body) = false
is_badf answers.BadF = true
is_badf (answers.Exists v) = false
is_badf (answers.NoEnt v) = false
is_badf (answers.ReadOnly v) = false
is_badf answers.TooBig = false
is_badf (answers.TooBigAt v) = false
is_badf (answers.NoSpace need free) = false
is_badf (answers.DevFault rank) = false

-- an operation that takes in or drops what is pending leaves nothing pending with this answer
abbrev pub empties : Answer → Bool
empties (answers.Done v) = true
empties (answers.Wrote slots) = true
empties (answers.Staged v n slots) = true
empties (answers.Sized v n frozen) = true
empties (answers.Shown v n body) = true
empties answers.BadF = false
empties (answers.Exists v) = true
empties (answers.NoEnt v) = true
empties (answers.ReadOnly v) = true
empties answers.TooBig = false
empties (answers.TooBigAt v) = false
empties (answers.NoSpace need free) = false
empties (answers.DevFault rank) = false
