-- What the calls of a book answer, and what they make of a path.
use Rattle.std.specs.Prelude.{◌≡◌, ℕ, true, false, List, ◌∷◌, [], ◌++◌, length, Option, Some, None, Result, Ok, Err, IsErr, IfErr, if◌then◌else◌}
use Rattle.fs_types.specs.declared.attr.Attr.{Attr}
use Rattle.owner_book.specs.declared.book_no.BookNo.{BookNo}
use Rattle.owner_book.specs.declared.book_no.BookNo.TheVariants.{Exists, NoEnt, ReadOnly, Want}
use Rattle.owner_book.specs.Kept.{Book, BookPath, BookFile, empty_file, path_in}
use Rattle.owner_book.specs.Names.{same_file}

-- A call is refused exactly where there is a reason for it, and by that reason. Where there is none it may lack memory.
abbrev pub AnswersBy : {X E : Type 0} → (E → BookNo) → Option BookNo → Result X E → Type 0
AnswersBy no_of None result = IfErr result (λ e. no_of e ≡ Want)
AnswersBy no_of (Some why) result = IsErr result × IfErr result (λ e. no_of e ≡ why)

module _ {H : Type 0} where
  -- how many lines were committed to a path
  abbrev pub version : BookPath H → ℕ
  version x = length x.journal

  -- what is told of a path's file beside its bytes
  abbrev pub attr_in : Option (BookFile H) → Attr
  attr_in None = record { exists = false; size = 0; frozen = false }
  attr_in (Some f) = record { exists = true; size = f.size; frozen = f.frozen }

  -- the same by the path
  abbrev pub attr : BookPath H → Attr
  attr x = attr_in x.file

  -- the answer to an open: the version with what is told of the file, or that there is none
  abbrev pub opened : BookPath H → Result (ℕ × Attr) BookNo
  opened x = if (attr x).exists then Ok (version x, attr x) else Err (NoEnt (version x))

  -- why a file isn't created: it exists
  abbrev pub create_refusal : BookPath H → Option BookNo
  create_refusal x = if (attr x).exists then Some (Exists (version x)) else None

  -- why a file isn't changed: there is none, or it is frozen
  abbrev pub change_refusal : BookPath H → Option BookNo
  change_refusal x =
      if (attr x).exists then if (attr x).frozen then Some (ReadOnly (version x)) else None
      else Some (NoEnt (version x))

  -- why a file isn't looked up or removed: there is none
  abbrev pub no_file_refusal : BookPath H → Option BookNo
  no_file_refusal x = if (attr x).exists then None else Some (NoEnt (version x))

  -- a path once a line created its file
  abbrev pub created : ℕ → BookPath H → BookPath H
  created line x = record { journal = x.journal ++ line ∷ []; file = Some empty_file }

  -- a path once a line removed its file
  abbrev pub without_file : ℕ → BookPath H → BookPath H
  without_file line x = record { journal = x.journal ++ line ∷ []; file = None }

  -- the book has this of one path, and of every other what it had, also of those with the same gfid
  abbrev pub Changes : Book H → Book H → ℕ → List ℕ → BookPath H → Type 0
  Changes old new gfid p x = (g : ℕ) (q : List ℕ) → path_in new g q ≡ (if same_file g q gfid p then x else path_in old g q)

  -- the book has of every path what it had
  abbrev pub IsAsBefore : Book H → Book H → Type 0
  IsAsBefore old new = (g : ℕ) (q : List ℕ) → path_in new g q ≡ path_in old g q
