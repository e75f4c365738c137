-- The paths of a script's lines, each once, in the order in which they come.
use Rattle.std.specs.Prelude.{ℕ, List, [], map, fold, Option, Some, None, Vec, bytes_eq}
use Rattle.indexmap.specs.IndexSet.{insert_key}
use Rattle.fs_script.specs.declared.line.Line.{Line}
use Rattle.fs_script.specs.declared.line.OpLine.{OpLine}
use Rattle.fs_script.specs.Vocabulary.{operation}

-- the bytes of each vector
abbrev pub texts : {A : Type 0} → List (Vec ℕ A) → List (List ℕ)
texts vs = map (λ v. v.items) vs

-- the paths with one more, unless it is among them
abbrev pub with_path : List (List ℕ) → List ℕ → List (List ℕ)
with_path ps p = insert_key bytes_eq ps p

-- the paths with that of an operation, if there is one
abbrev pub with_op : List (List ℕ) → Option OpLine → List (List ℕ)
with_op ps None = ps
with_op ps (Some o) = with_path ps o.path

-- the paths with that of a line, if it is an operation
abbrev pub with_path_of : List (List ℕ) → Line → List (List ℕ)
with_path_of ps l = with_op ps (operation (Some l))

-- the paths of these lines
abbrev pub paths_of : List Line → List (List ℕ)
paths_of ls = fold with_path_of [] ls
