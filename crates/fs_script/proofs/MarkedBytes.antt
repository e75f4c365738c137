-- The bytes of a file follow from its marks: at each version each byte is that of its mark, and 0 where there is none. So the
-- file of marks is there exactly where that of bytes is, is as long and is frozen alike.
use Rattle.fs_types.proofs.Common.{◌≡◌, ℕ, zero, suc, ◌+◌, ◌-◌, ◌*◌, ◌/◌, ◌%◌, ◌<◌, Bool, true, false, cond, nat_le, List, [], ◌∷◌}
use Rattle.fs_types.proofs.Common.{map, length, take, drop, replicate, get_or, Option, Some, None, is_some, option_map, refl, sym, ap}
use Rattle.fs_types.proofs.Common.{length-map, map-append, get_or-map, get_or-take, get_or-drop, length-map-range_with_len}
use Rattle.fs_types.proofs.Common.{◌++◌, ◌∙◌, arith, get_or-map-range_with_len}
use Rattle.std.proofs.Math.Nat.{mod-lt}
use Rattle.std.proofs.lemmas.Nat.{div-add-mod'}
use Rattle.std.proofs.lemmas.List.{take-map, drop-map, ext_get_or}
use Rattle.fs_types.specs.declared.limits.TheConstants.{LONGEST_FILE}
use Rattle.fs_types.specs.Marks.{Mark, mark_of, marks_of}
use Rattle.fs_types.specs.Overwrite.{extended, put, cut}
use Rattle.fs_types.specs.PlainFile.{File, written}
use Rattle.fs_script.specs.declared.line.OpLine.{OpLine}
use Rattle.fs_script.specs.declared.line.Op.{Op}
use Rattle.fs_script.specs.declared.line.Op.TheVariants as ops
use Rattle.fs_script.specs.Job.{Job, op_at}
use Rattle.fs_script.specs.Payload.{Cells, payload, offset, bytes_of, marks_in}
use Rattle.fs_script.specs.Pending.{Answering, pending_at}
use Rattle.fs_script.specs.Effect.{put_lines, with_lines, cut_to, as_frozen, view_of, is_enabled, makes, effect_in, effect, after_all, state_in, state}
use Rattle.fs_script.specs.FileMarks.{marks_at, marks_put, cells_of, marked_byte, file_map, marked_bytes}

-- ---- what overwriting makes of the values of a function is the values of what it makes

module _ {X Y : Type 0} (h : X → Y) where
  map-replicate : (n : ℕ) (x : X) → map h (replicate n x) ≡ replicate n (h x)
  map-replicate zero x = refl
  map-replicate (suc n) x = ap (λ ys. h x ∷ ys) (map-replicate n x)

  map-extended : (blank : X) (xs : List X) (n : ℕ) → map h (extended blank xs n) ≡ extended (h blank) (map h xs) n
  map-extended blank xs n = map-append h xs (replicate (n - length xs) blank)
      ∙ ap (λ ys. map h xs ++ ys) (map-replicate (n - length xs) blank)
      ∙ ap (λ m. map h xs ++ replicate (n - m) (h blank)) (sym (length-map xs h))

  map-cut : (blank : X) (xs : List X) (n : ℕ) → map h (cut blank xs n) ≡ cut (h blank) (map h xs) n
  map-cut blank xs n = sym (take-map h n (extended blank xs n)) ∙ ap (take n) (map-extended blank xs n)

  pub map-put : (blank : X) (xs : List X) (off : ℕ) (ys : List X) → map h (put blank xs off ys) ≡ put (h blank) (map h xs) off (map h ys)
  map-put blank xs off [] = refl
  map-put blank xs off (y ∷ ys) =
      let front = take off (extended blank xs off) in
      let rest = drop (off + length (y ∷ ys)) xs in
      map-append h (front ++ (y ∷ ys)) rest
      ∙ ap (λ zs. zs ++ map h rest) (map-append h front (y ∷ ys))
      ∙ ap (λ zs. zs ++ map h (y ∷ ys) ++ map h rest)
      (map-cut blank xs off)
      ∙ ap (λ zs. take off (extended (h blank) (map h xs) off) ++ map h (y ∷ ys) ++ zs)
      (sym (drop-map h (off + length (y ∷ ys)) xs) ∙ ap (λ n. drop (off + n) (map h xs)) (sym (length-map (y ∷ ys) h)))

  map-cond : (b : Bool) (xs ys : List X) → map h (cond b xs ys) ≡ cond b (map h xs) (map h ys)
  map-cond true xs ys = refl
  map-cond false xs ys = refl

  pub map-written : (blank : X) (xs : List X) (off : ℕ) (ys : List X)
      → map h (written blank xs off ys) ≡ written (h blank) (map h xs) off (map h ys)
  map-written blank xs off ys =
      map-cond (nat_le (off + length ys) LONGEST_FILE) (put blank xs off ys) xs
      ∙ ap (λ zs. cond (nat_le (off + length ys) LONGEST_FILE) zs (map h xs)) (map-put blank xs off ys)
      ∙ ap (λ n. cond (nat_le (off + n) LONGEST_FILE) (put (h blank) (map h xs) off (map h ys)) (map h xs)) (sym (length-map ys h))

  file_map-cut_to : (blank : X) (n : ℕ) (f : File X) → file_map h (cut_to blank n f) ≡ cut_to (h blank) n (file_map h f)
  file_map-cut_to blank n None = refl
  file_map-cut_to blank n (Some f) = ap (λ ys. Some (record { cells = ys; frozen = f.frozen })) (map-cut blank f.cells n)

  file_map-as_frozen : (f : File X) → file_map h (as_frozen f) ≡ as_frozen (file_map h f)
  file_map-as_frozen None = refl
  file_map-as_frozen (Some f) = refl

  -- a file is there, and may be changed, exactly where that of the values is and may be
  pub is_enabled-map : (op : Op) (f : File X) → is_enabled op (file_map h f) ≡ is_enabled op f
  is_enabled-map ops.Create None = refl
  is_enabled-map ops.Create (Some f) = refl
  is_enabled-map ops.Open f = refl
  is_enabled-map (ops.Write off text) f = refl
  is_enabled-map ops.Sync None = refl
  is_enabled-map ops.Sync (Some f) = refl
  is_enabled-map (ops.Read off len own) f = refl
  is_enabled-map ops.Size f = refl
  is_enabled-map (ops.Trunc n) None = refl
  is_enabled-map (ops.Trunc n) (Some f) = refl
  is_enabled-map ops.Laminate None = refl
  is_enabled-map ops.Laminate (Some f) = refl
  is_enabled-map ops.Unlink None = refl
  is_enabled-map ops.Unlink (Some f) = refl

  file_map-cond : (b : Bool) (f g : File X) → file_map h (cond b f g) ≡ cond b (file_map h f) (file_map h g)
  file_map-cond true f g = refl
  file_map-cond false f g = refl

-- ---- so it is for files, where a function takes what one kind of cells brings to what another brings

pub record TakesCells {X Y : Type 0} (h : X → Y) (c : Cells X) (d : Cells Y) : Type 0 where
  pub blank : h c.blank ≡ d.blank
  pub lines : (n : ℕ) → map h (c.of_line n) ≡ d.of_line n

module _ {X Y : Type 0} (h : X → Y) (s : Job) (c : Cells X) (d : Cells Y) (takes : TakesCells h c d) where
  pub map-put_lines : (ns : List ℕ) (xs : List X) → map h (put_lines s c ns xs) ≡ put_lines s d ns (map h xs)
  map-put_lines [] xs = refl
  map-put_lines (n ∷ ns) xs = map-put_lines ns (written c.blank xs (offset s n) (c.of_line n))
      ∙ ap (put_lines s d ns) (map-written h c.blank xs (offset s n) (c.of_line n)
      ∙ ap (λ b. written b (map h xs) (offset s n) (map h (c.of_line n))) takes.blank
      ∙ ap (λ ys. written d.blank (map h xs) (offset s n) ys) (takes.lines n))

  file_map-with_lines : (q : List ℕ) (f : File X) → file_map h (with_lines s c q f) ≡ with_lines s d q (file_map h f)
  file_map-with_lines q None = refl
  file_map-with_lines q (Some f) = ap (λ ys. Some (record { cells = ys; frozen = f.frozen })) (map-put_lines q f.cells)

  file_map-view_of : (own : Bool) (q : List ℕ) (f : File X) → file_map h (view_of s c own q f) ≡ view_of s d own q (file_map h f)
  file_map-view_of false q f = refl
  file_map-view_of true q f = file_map-with_lines q f

  file_map-makes : (op : Op) (q : List ℕ) (f : File X) → file_map h (makes s c op q f) ≡ makes s d op q (file_map h f)
  file_map-makes ops.Create q f = refl
  file_map-makes ops.Open q f = refl
  file_map-makes (ops.Write off text) q f = refl
  file_map-makes ops.Sync q f = file_map-with_lines q f
  file_map-makes (ops.Read off len own) q f = refl
  file_map-makes ops.Size q f = refl
  file_map-makes (ops.Trunc n) q f = file_map-cut_to h c.blank n (with_lines s c q f)
      ∙ ap (λ b. cut_to b n (file_map h (with_lines s c q f))) takes.blank ∙ ap (cut_to d.blank n) (file_map-with_lines q f)
  file_map-makes ops.Laminate q f = file_map-as_frozen h (with_lines s c q f) ∙ ap as_frozen (file_map-with_lines q f)
  file_map-makes ops.Unlink q f = refl

  file_map-effect_in : (o : Option OpLine) (q : List ℕ) (f : File X) → file_map h (effect_in s c o q f) ≡ effect_in s d o q (file_map h f)
  file_map-effect_in None q f = refl
  file_map-effect_in (Some o) q f =
      file_map-cond h (is_enabled o.op f) (makes s c o.op q f) f
      ∙ ap (λ g. cond (is_enabled o.op f) g (file_map h f)) (file_map-makes o.op q f)
      ∙ ap (λ b. cond b (makes s d o.op q (file_map h f)) (file_map h f)) (sym (is_enabled-map h o.op f))

  file_map-after_all : (A : Answering) (J : List ℕ) (f : File X) → file_map h (after_all s c A J f) ≡ after_all s d A J (file_map h f)
  file_map-after_all A [] f = refl
  file_map-after_all A (n ∷ J) f = file_map-after_all A J (effect s c A n f)
      ∙ ap (after_all s d A J) (file_map-effect_in (op_at s n) (pending_at s A n) f)

  pub file_map-state_in : (A : Answering) (J : List ℕ) (v : ℕ) → file_map h (state_in s c A J v) ≡ state_in s d A J v
  file_map-state_in A J v = file_map-after_all A (take v J) None

-- ---- bytes by their marks

-- the byte that a line's mark is of is the line's byte
pub marked_byte-of_line : (s : Job) (n i : ℕ) → 0 < s.shape.chunk
    → marked_byte s (Some (mark_of s.shape.chunk n i)) ≡ get_or (payload s n) i 0
marked_byte-of_line s n i some =
    let chunk = s.shape.chunk in
    get_or-take chunk (drop (i / chunk * chunk) (payload s n)) (i % chunk) 0 (mod-lt i some)
    ∙ get_or-drop (i / chunk * chunk) (payload s n) (i % chunk) 0
    ∙ ap (λ k. get_or (payload s n) k 0) (div-add-mod' i chunk)

-- the mark of byte i of what a line brings
abbrev mark_in : Job → ℕ → ℕ → Option Mark
mark_in s n i = Some (mark_of s.shape.chunk n i)

-- so a line's bytes are those of its marks
pub marked_byte-lines : (s : Job) (n : ℕ) → 0 < s.shape.chunk → map (marked_byte s) ((marks_in s).of_line n) ≡ payload s n
marked_byte-lines s n some =
    let size = length (payload s n) in
    let marks = marks_of s.shape.chunk n size in
    let long : length marks ≡ size = length-map-range_with_len (mark_in s n) 0 size in
    let long_bytes = length-map marks (marked_byte s) ∙ long in
    ext_get_or 0 (map (marked_byte s) marks) (payload s n) long_bytes (λ k below.
    get_or-map (marked_byte s) marks k None 0 (omega (arith, long_bytes, long))
    ∙ ap (marked_byte s) (get_or-map-range_with_len (mark_in s n) 0 size k k None (omega (arith, long_bytes)) (omega arith))
    ∙ marked_byte-of_line s n k some)

pub TakesCells-marks : (s : Job) → 0 < s.shape.chunk → TakesCells (marked_byte s) (marks_in s) (bytes_of s)
TakesCells-marks s some = record { blank = refl; lines = λ n. marked_byte-lines s n some }

-- the file at each version, by its marks
pub state-by_marks : (s : Job) (A : Answering) (J : List ℕ) (v : ℕ) → 0 < s.shape.chunk → marked_bytes s (marks_at s A J v) ≡ state s A J v
state-by_marks s A J v some = file_map-state_in (marked_byte s) s (marks_in s) (bytes_of s) (TakesCells-marks s some) A J v

-- what a client sees of a file, alone or with its own pending lines put over it
pub view_of-by_marks : (s : Job) (own : Bool) (q : List ℕ) (f : File (Option Mark)) → 0 < s.shape.chunk
    → marked_bytes s (view_of s (marks_in s) own q f) ≡ view_of s (bytes_of s) own q (marked_bytes s f)
view_of-by_marks s own q f some = file_map-view_of (marked_byte s) s (marks_in s) (bytes_of s) (TakesCells-marks s some) own q f

-- and what these lines bring to an empty file
pub put_lines-by_marks : (s : Job) (ns : List ℕ) → 0 < s.shape.chunk → map (marked_byte s) (marks_put s ns) ≡ put_lines s (bytes_of s) ns []
put_lines-by_marks s ns some = map-put_lines (marked_byte s) s (marks_in s) (bytes_of s) (TakesCells-marks s some) ns []

-- ---- the file of marks is there, is as long and is frozen as that of bytes

is_some-file_map : {X Y : Type 0} (h : X → Y) (f : File X) → is_some (file_map h f) ≡ is_some f
is_some-file_map h None = refl
is_some-file_map h (Some f) = refl

cells_of-file_map : {X Y : Type 0} (h : X → Y) (f : File X) → cells_of (file_map h f) ≡ map h (cells_of f)
cells_of-file_map h None = refl
cells_of-file_map h (Some f) = refl

frozen-file_map : {X Y : Type 0} (h : X → Y) (f : File X) → option_map (λ g. g.frozen) (file_map h f) ≡ option_map (λ g. g.frozen) f
frozen-file_map h None = refl
frozen-file_map h (Some f) = refl

-- a client sees a file exactly where there is one
pub is_some-view_of : {X : Type 0} (s : Job) (c : Cells X) (own : Bool) (q : List ℕ) (f : File X)
    → is_some (view_of s c own q f) ≡ is_some f
is_some-view_of s c false q f = refl
is_some-view_of s c true q None = refl
is_some-view_of s c true q (Some f) = refl

module _ (s : Job) (A : Answering) (J : List ℕ) (v : ℕ) (some : 0 < s.shape.chunk) where
  pub is_some-marks_at : is_some (marks_at s A J v) ≡ is_some (state s A J v)
  is_some-marks_at = sym (is_some-file_map (marked_byte s) (marks_at s A J v)) ∙ ap is_some (state-by_marks s A J v some)

  pub frozen-marks_at : option_map (λ g. g.frozen) (marks_at s A J v) ≡ option_map (λ g. g.frozen) (state s A J v)
  frozen-marks_at = sym (frozen-file_map (marked_byte s) (marks_at s A J v)) ∙ ap (option_map (λ g. g.frozen)) (state-by_marks s A J v some)

  cells_of-marks_at : map (marked_byte s) (cells_of (marks_at s A J v)) ≡ cells_of (state s A J v)
  cells_of-marks_at = sym (cells_of-file_map (marked_byte s) (marks_at s A J v)) ∙ ap cells_of (state-by_marks s A J v some)

  pub length-marks_at : length (cells_of (marks_at s A J v)) ≡ length (cells_of (state s A J v))
  length-marks_at = sym (length-map (cells_of (marks_at s A J v)) (marked_byte s)) ∙ ap length cells_of-marks_at

  -- the byte at a place is that of its mark
  pub get_or-state : (k : ℕ) → get_or (cells_of (state s A J v)) k 0 ≡ marked_byte s (get_or (cells_of (marks_at s A J v)) k None)
  get_or-state k = ap (λ ys. get_or ys k 0) (sym cells_of-marks_at) ∙ at (cells_of (marks_at s A J v)) k
    where
      at : (marks : List (Option Mark)) (k : ℕ) → get_or (map (marked_byte s) marks) k 0 ≡ marked_byte s (get_or marks k None)
      at [] k = refl
      at (m ∷ marks) zero = refl
      at (m ∷ marks) (suc k) = at marks k
