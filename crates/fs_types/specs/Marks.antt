-- Marks, which say where each byte of a file is from.
use Rattle.std.specs.Prelude.{ℕ, ◌/◌, ◌%◌, List, map, Option, Some, None}
use Rattle.std.specs.List.{range_with_len}

-- a byte of a piece: the line that wrote it, the part of its payload, and the place in the part
pub record Mark : Type 0 where
  pub line : ℕ
  pub part : ℕ
  pub place : ℕ

-- the blank among marks: a place that nobody wrote
abbrev pub no_mark : Option Mark
no_mark = None

-- the mark of byte i of a line's payload, in parts of chunk bytes
abbrev pub mark_of : ℕ → ℕ → ℕ → Mark
mark_of chunk n i = record { line = n; part = i / chunk; place = i % chunk }

-- the marks of a line's payload of len bytes; a place that nobody wrote has none
abbrev pub marks_of : ℕ → ℕ → ℕ → List (Option Mark)
marks_of chunk n len = map (λ i. Some (mark_of chunk n i)) (range_with_len 0 len)
