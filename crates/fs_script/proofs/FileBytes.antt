-- The files of a job: each is no longer than the longest, and its places are bytes.
use Rattle.std.proofs.Common.{◌≡◌, ℕ, ◌<◌, ◌≤◌, Bool, true, false, List, [], ◌∷◌, length, Option, Some, None, IfSome, All, refl, subst, arith}
use Rattle.std.proofs.lemmas.Bool.Decides.{nat_tests}
use Rattle.std.proofs.lemmas.List.Elements.{All-nil, All-weaker}
use Rattle.std.proofs.lemmas.List.FromFn.{length-map-range_with_len, get_or-map-range_with_len}
use Rattle.std.proofs.lemmas.List.Sums.{AllPass-from_list_all}
use Rattle.fs_types.specs.declared.limits.TheConstants.{LONGEST_FILE}
use Rattle.fs_types.specs.Overwrite.{cut}
use Rattle.fs_types.specs.PlainFile.{File, written}
use Rattle.fs_types.proofs.CallerLemmas.{All-written, length-written, All-cut, length-cut}
use Rattle.fs_script.specs.declared.line.OpLine.{OpLine}
use Rattle.fs_script.specs.declared.line.Op.{Op}
use Rattle.fs_script.specs.declared.line.Op.TheVariants as ops
use Rattle.fs_script.specs.declared.line.Data.{Data}
use Rattle.fs_script.specs.declared.line.Data.TheVariants.{Text, Pattern}
use Rattle.fs_script.specs.TextBytes.{is_text_byte}
use Rattle.fs_script.specs.Job.{Job, op_at}
use Rattle.fs_script.specs.Payload.{pattern_byte, data_bytes, brought, brought_in, bytes_brought, payload, offset, bytes_of}
use Rattle.fs_script.specs.Grammar.{IsJob, IsData, IsOp, IsOpLine}
use Rattle.fs_script.specs.Pending.{Answering, pending_at}
use Rattle.fs_script.specs.Effect.{put_lines, with_lines, view_of, state}
use Rattle.fs_script.proofs.Jobs.{IsOpLine-from_job}
use Rattle.fs_script.specs.Vocabulary.{cells_of}
use Rattle.fs_script.proofs.FileCells.{holds-state_in}

-- each is the number of a byte
abbrev pub AllBytes : List ℕ → Type 0
AllBytes bytes = All (λ b. b < 256) bytes

-- ---- payloads

text_byte_below : (b : ℕ) → is_text_byte b ≡ true → b < 256
text_byte_below b h = grind (arith, nat_tests)

AllBytes-data : (d : Data) → IsData d → AllBytes (data_bytes d)
AllBytes-data (Text bytes) is =
    All-weaker (λ b. is_text_byte b ≡ true) (λ b. b < 256) text_byte_below bytes (AllPass-from_list_all is_text_byte bytes is.0)
AllBytes-data (Pattern seed len) is = λ k d below.
    let within : k < len = omega (arith, length-map-range_with_len (pattern_byte seed) 0 len) in
    rw (get_or-map-range_with_len (pattern_byte seed) 0 len k k d within (omega arith)) (omega arith)

-- the bytes that an operation brings
AllBytes-brought : (op : Op) → IsOp op → AllBytes (bytes_brought (brought op))
AllBytes-brought ops.Create is = All-nil (λ b. b < 256)
AllBytes-brought ops.Open is = All-nil (λ b. b < 256)
AllBytes-brought (ops.Write off text) is = AllBytes-data text is.1
AllBytes-brought ops.Sync is = All-nil (λ b. b < 256)
AllBytes-brought (ops.Read off len own) is = All-nil (λ b. b < 256)
AllBytes-brought ops.Size is = All-nil (λ b. b < 256)
AllBytes-brought (ops.Trunc n) is = All-nil (λ b. b < 256)
AllBytes-brought ops.Laminate is = All-nil (λ b. b < 256)
AllBytes-brought ops.Unlink is = All-nil (λ b. b < 256)

module _ (s : Job) (job : IsJob s) where
  AllBytes-brought_in : (o : Option OpLine) → ((l : OpLine) → o ≡ Some l → IsOpLine s.shape l) → AllBytes (bytes_brought (brought_in o))
  AllBytes-brought_in None each = All-nil (λ b. b < 256)
  AllBytes-brought_in (Some l) each = AllBytes-brought l.op (each l refl).op

  AllBytes-payload : (n : ℕ) → AllBytes (payload s n)
  AllBytes-payload n = AllBytes-brought_in (op_at s n) (λ l is. IsOpLine-from_job s n l job is)

-- ---- files

-- the places of a file are bytes, and no more than the longest file has
pub record AreWithinLimits (cells : List ℕ) : Type 0 where
  pub length : length cells ≤ LONGEST_FILE
  pub bytes : AllBytes cells

-- a file, if it is there, has such places
abbrev pub IsWithinLimits : File ℕ → Type 0
IsWithinLimits f = IfSome f (λ c. AreWithinLimits c.cells)

module _ (s : Job) (job : IsJob s) where
  AreWithinLimits-put_lines : (ns xs : List ℕ) → AreWithinLimits xs → AreWithinLimits (put_lines s (bytes_of s) ns xs)
  AreWithinLimits-put_lines [] xs within = within
  AreWithinLimits-put_lines (n ∷ ns) xs within =
      let bytes = payload s n in
      AreWithinLimits-put_lines ns (written 0 xs (offset s n) bytes) (record {
        length = length-written 0 xs (offset s n) bytes within.length;
        bytes = All-written (λ b. b < 256) 0 xs (offset s n) bytes (omega arith) within.bytes (AllBytes-payload s job n);
      })

  -- a file is cut to no more places than the longest has
  AreWithinLimits-cut : (n m : ℕ) (o : OpLine) → op_at s n ≡ Some o → o.op ≡ ops.Trunc m
      → (xs : List ℕ) → AreWithinLimits xs → AreWithinLimits (cut 0 xs m)
  AreWithinLimits-cut n m o at is xs within =
      let most : m ≤ LONGEST_FILE = subst IsOp is (IsOpLine-from_job s n o job at).op in
      record { length = omega (arith, length-cut 0 xs m); bytes = All-cut (λ b. b < 256) 0 xs m (omega arith) within.bytes }

  -- the file at each version of a journal
  pub IsWithinLimits-state : (A : Answering) (J : List ℕ) (v : ℕ) → IsWithinLimits (state s A J v)
  IsWithinLimits-state A J v = by (state s A J v) (holds-state_in AreWithinLimits s (bytes_of s)
      (record { length = omega arith; bytes = All-nil (λ b. b < 256) }) A (λ n. AreWithinLimits-put_lines (pending_at s A n))
      (λ n o m. AreWithinLimits-cut n m o) J v)
    where
      by : (f : File ℕ) → AreWithinLimits (cells_of f) → IsWithinLimits f
      by None within = tt
      by (Some c) within = within

  IsWithinLimits-with_lines : (q : List ℕ) (f : File ℕ) → IsWithinLimits f → IsWithinLimits (with_lines s (bytes_of s) q f)
  IsWithinLimits-with_lines q None within = tt
  IsWithinLimits-with_lines q (Some f) within = AreWithinLimits-put_lines q f.cells within

  -- and what a client sees of it
  pub IsWithinLimits-view_of : (own : Bool) (q : List ℕ) (f : File ℕ) → IsWithinLimits f → IsWithinLimits (view_of s (bytes_of s) own q f)
  IsWithinLimits-view_of false q f within = within
  IsWithinLimits-view_of true q f within = IsWithinLimits-with_lines q f within
