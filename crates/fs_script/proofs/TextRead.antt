-- The text of a printable report reads as that report, whatever follows it.
use Rattle.std.proofs.Common.{◌≡◌, ℕ, zero, suc, Result, ◌==◌, slice_index, ◌^◌, ◌<◌, Bool, true, false, List, [], ◌∷◌, ◌++◌, map, length, drop, codes, refl, sym, ap, ◌∙◌, subst, arith}
use mathlib.Core.List.{append_assoc, append-nil}
use Rattle.std.specs.List.{AllByRecursion, flat_map}
use Rattle.std.specs.Fmt.{decimal}
use Rattle.std.specs.Result.{result_unwrap_or}
use Rattle.std.proofs.lemmas.Fmt.{decimal_is_IsNumeral}
use Rattle.std.proofs.lemmas.List.{append_cancel_left}
use Rattle.hex.specs.Hex.{encode_lower, IsBytes}
use Rattle.hex.specs.declared.error.FromHexError.{FromHexError}
use Rattle.hex.proofs.HexLemmas.{decode_of-encode_lower}
use Rattle.fs_types.specs.declared.answer.Answer.{Answer}
use Rattle.fs_types.specs.declared.answer.Answer.TheVariants as answers
use Rattle.fs_types.specs.declared.answer.Body.{Body}
use Rattle.fs_types.specs.declared.answer.Body.TheVariants as bodies
use Rattle.fs_types.specs.declared.file_state.FileState.{FileState}
use Rattle.fs_types.specs.declared.file_state.FileState.TheVariants as states
use Rattle.fs_types.specs.declared.slot_line.SlotLine.{SlotLine}
use Rattle.fs_script.specs.Grammar.{spaced}
use Rattle.fs_script.specs.Report.{Report}
use Rattle.fs_script.specs.Text.{text, answer_words, answer_line, body_text, flag_text, entry_text, journal_line, file_words, file_line, path_lines, slot_words, slot_line, line_feed}
use Rattle.fs_script.specs.Printable.{AreBytes, IsPrintableBody, IsPrintableAnswer, IsPrintableLine, IsPrintableJournal, IsPrintableState, IsPrintableFile, IsPrintableSlots, IsPrintable}
use Rattle.fs_script.proofs.TextParts.{AreAbove, cut_at, cut_at-first, cut_at-none, AreAbove-append, AreAbove-lower, AreAbove-decimal, AreAbove-encode_lower, AreAbove-path}
use Rattle.fs_script.proofs.TextReader.{number, bytes_of_hex, read_body, read_four, read_answer, read_state, read_slots, with_answer, with_journal, with_file, with_slots, with_line, read_lines, read}

-- ---- numbers and hex text

-- a number that fits 32 bits fits 64
small_of_32 : (n : ℕ) → n < 2 ^ 32 → n < 2 ^ 64
small_of_32 n h = omega arith

-- the decimal text of a number spells it
number-decimal : (n : ℕ) → n < 2 ^ 64 → number (decimal n) ≡ n
number-decimal n h = (decimal_is_IsNumeral n h).1

-- bytes one by one are bytes at each place
IsBytes-from_AreBytes : (bytes : List ℕ) → AreBytes bytes → IsBytes bytes
IsBytes-from_AreBytes [] h i = omega arith
IsBytes-from_AreBytes (b ∷ bytes) h zero = h.0
IsBytes-from_AreBytes (b ∷ bytes) h (suc i) = IsBytes-from_AreBytes bytes h.1 i

-- the hex text of bytes gives them back
bytes_of_hex-encode_lower : (bytes : List ℕ) → AreBytes bytes → bytes_of_hex (encode_lower bytes) ≡ bytes
bytes_of_hex-encode_lower bytes h = ap (λ (r : Result (List ℕ) FromHexError). result_unwrap_or r []) (decode_of-encode_lower bytes (IsBytes-from_AreBytes bytes h))

-- ---- lines by their words

-- the bytes of a line are above the line feed, and these are its words
record HasWords (line : List ℕ) (words : List (List ℕ)) : Type 0 where
  above : AreAbove 10 line
  cut : cut_at 32 line ≡ words

-- a word alone
HasWords-one : (word : List ℕ) → AreAbove 32 word → HasWords word (word ∷ [])
HasWords-one word h = record { above = AreAbove-lower 10 32 word (omega arith) h; cut = cut_at-none 32 word h }

-- a word and a space before a line
HasWords-more : (word rest : List ℕ) (words : List (List ℕ)) → AreAbove 32 word → HasWords rest words → HasWords (word ++ 32 ∷ rest) (word ∷ words)
HasWords-more word rest words h more = record {
  above = AreAbove-append 10 word (32 ∷ rest) (AreAbove-lower 10 32 word (omega arith) h) more.above;
  cut = cut_at-first 32 word rest h ∙ ap (λ ws. word ∷ ws) more.cut;
}

-- the same for an equal line
HasWords-same : (line same : List ℕ) (words : List (List ℕ)) → line ≡ same → HasWords same words → HasWords line words
HasWords-same line same words e h = subst (λ l. HasWords l words) (sym e) h

-- a line reads as its words, before what follows it
read-line : (line rest : List ℕ) (words : List (List ℕ)) → HasWords line words → read ((line ++ line_feed) ++ rest) ≡ with_line words (read rest)
read-line line rest words h =
    ap (λ bytes. read bytes) (append_assoc line line_feed rest)
    ∙ (ap (λ lines. read_lines lines) (cut_at-first 10 line rest h.above) ∙ ap (λ ws. with_line ws (read rest)) h.cut)

-- words with a space between each two
HasWords-spaced : (word : List ℕ) (words : List (List ℕ)) → AreAbove 32 word → AllByRecursion (AreAbove 32) words → HasWords (spaced (word ∷ words)) (word ∷ words)
HasWords-spaced word [] h hs = HasWords-one word h
HasWords-spaced word (next ∷ words) h hs = HasWords-more word (spaced (next ∷ words)) _ h (HasWords-spaced next words hs.0 hs.1)

-- ---- answers

-- the text of a body has no space
body_above : (body : Body) → IsPrintableBody body → AreAbove 32 (body_text body)
body_above (bodies.Hex bytes) h = AreAbove-encode_lower bytes h.bytes
body_above (bodies.Md5 digest) h = AreAbove-encode_lower digest h.bytes

-- nor has that of a flag
flag_above : (flag : Bool) → AreAbove 32 (codes "frozen=" ++ flag_text flag)
flag_above false = refl
flag_above true = refl

-- nor a word of an answer
answer_above : (a : Answer) → IsPrintableAnswer a → AllByRecursion (AreAbove 32) (answer_words a)
answer_above (answers.Done v) h = (refl, (AreAbove-decimal v h, tt))
answer_above (answers.Wrote slots) h = (refl, (AreAbove-decimal slots (small_of_32 slots h), tt))
answer_above (answers.Staged v n slots) h = (refl, (AreAbove-decimal v h.0, (AreAbove-decimal n h.1, (AreAbove-decimal slots (small_of_32 slots h.2), tt))))
answer_above (answers.Sized v n frozen) h = (refl, (AreAbove-decimal v h.0, (AreAbove-decimal n h.1, (flag_above frozen, tt))))
answer_above (answers.Shown v n body) h = (refl, (AreAbove-decimal v h.version, (AreAbove-decimal n h.count, (body_above body h.shown, tt))))
answer_above answers.BadF h = (refl, tt)
answer_above (answers.Exists v) h = (refl, (AreAbove-decimal v h, tt))
answer_above (answers.NoEnt v) h = (refl, (AreAbove-decimal v h, tt))
answer_above (answers.ReadOnly v) h = (refl, (AreAbove-decimal v h, tt))
answer_above answers.TooBig h = (refl, tt)
answer_above (answers.TooBigAt v) h = (refl, (AreAbove-decimal v h, tt))
answer_above (answers.NoSpace need free) h = (refl, (AreAbove-decimal need h.0, (AreAbove-decimal free h.1, tt)))
answer_above (answers.DevFault rank) h = (refl, (AreAbove-decimal rank (small_of_32 rank h), tt))

-- the text of a body reads as the body
read_body-text : (body : Body) → IsPrintableBody body → read_body (body_text body) ≡ body
read_body-text (bodies.Hex bytes) h = ap bodies.Hex (bytes_of_hex-encode_lower bytes h.bytes)
read_body-text (bodies.Md5 digest) h = ap bodies.Md5 (bytes_of_hex-encode_lower digest h.bytes)

-- that of a flag says which one it is
read-flag : (flag : Bool) → (slice_index (codes "frozen=" ++ flag_text flag) 7 == 49) ≡ flag
read-flag false = refl
read-flag true = refl

-- three numbers, or two and what else stands in their line
alike : {X Y : Type 0} (make : ℕ → ℕ → X → Y) {v w n m : ℕ} {x y : X} → v ≡ w → n ≡ m → x ≡ y → make v n x ≡ make w m y
alike make e f g = rw (e, f, g) refl

-- a body begins with neither letter that would make it something else
read_four-body : (v n : List ℕ) (body : Body) → read_four v n (body_text body) ≡ answers.Shown (number (drop 2 v)) (number (drop 2 n)) (read_body (body_text body))
read_four-body v n (bodies.Hex bytes) = refl
read_four-body v n (bodies.Md5 digest) = refl

read_four-flag : (v n : List ℕ) (frozen : Bool) → read_four v n (codes "frozen=" ++ flag_text frozen) ≡ answers.Sized (number (drop 2 v)) (number (drop 2 n)) frozen
read_four-flag v n false = refl
read_four-flag v n true = refl

-- the words of an answer read as the answer
read_answer-words : (a : Answer) → IsPrintableAnswer a → read_answer (answer_words a) ≡ a
read_answer-words (answers.Done v) h = ap answers.Done (number-decimal v h)
read_answer-words (answers.Wrote slots) h = ap answers.Wrote (number-decimal slots (small_of_32 slots h))
read_answer-words (answers.Staged v n slots) h = alike answers.Staged (number-decimal v h.0) (number-decimal n h.1) (number-decimal slots (small_of_32 slots h.2))
read_answer-words (answers.Sized v n frozen) h =
    read_four-flag (codes "v=" ++ decimal v) (codes "n=" ++ decimal n) frozen ∙ alike answers.Sized (number-decimal v h.0) (number-decimal n h.1) refl
read_answer-words (answers.Shown v n body) h =
    read_four-body (codes "v=" ++ decimal v) (codes "n=" ++ decimal n) body ∙ alike answers.Shown (number-decimal v h.version) (number-decimal n h.count) (read_body-text body h.shown)
read_answer-words answers.BadF h = refl
read_answer-words (answers.Exists v) h = ap answers.Exists (number-decimal v h)
read_answer-words (answers.NoEnt v) h = ap answers.NoEnt (number-decimal v h)
read_answer-words (answers.ReadOnly v) h = ap answers.ReadOnly (number-decimal v h)
read_answer-words answers.TooBig h = refl
read_answer-words (answers.TooBigAt v) h = ap answers.TooBigAt (number-decimal v h)
read_answer-words (answers.NoSpace need free) h = rw (number-decimal need h.0, number-decimal free h.1) refl
read_answer-words (answers.DevFault rank) h = ap answers.DevFault (number-decimal rank (small_of_32 rank h))

-- the line of an answer reads as one more answer
read-answer_line : (a : ℕ × Answer) (rest : List ℕ) → IsPrintableLine a → read (answer_line a ++ rest) ≡ with_answer a (read rest)
read-answer_line a rest h =
    let small = small_of_32 a.0 h.line in
    read-line _ rest _ (HasWords-spaced (codes "L") (decimal a.0 ∷ answer_words a.1) refl (AreAbove-decimal a.0 small, answer_above a.1 h.answer))
    ∙ (ap (λ (n : ℕ). with_answer (n, read_answer (answer_words a.1)) (read rest)) (number-decimal a.0 small) ∙ ap (λ (b : Answer). with_answer (a.0, b) (read rest)) (read_answer-words a.1 h.answer))

-- ---- journals

-- after a word, a journal's lines are a word each
HasWords-entries : (word : List ℕ) (lines : List ℕ) → AreAbove 32 word → AllByRecursion (λ n. n < 2 ^ 32) lines → HasWords (word ++ flat_map entry_text lines) (word ∷ map decimal lines)
HasWords-entries word [] above h = HasWords-same (word ++ []) word (word ∷ []) (append-nil word) (HasWords-one word above)
HasWords-entries word (n ∷ lines) above h = HasWords-more word (decimal n ++ flat_map entry_text lines) _ above (HasWords-entries (decimal n) lines (AreAbove-decimal n (small_of_32 n h.0)) h.1)

-- the decimal texts of numbers spell them
numbers-decimals : (lines : List ℕ) → AllByRecursion (λ n. n < 2 ^ 32) lines → map number (map decimal lines) ≡ lines
numbers-decimals [] h = refl
numbers-decimals (n ∷ lines) h = let first = number-decimal n (small_of_32 n h.0) in let more = numbers-decimals lines h.1 in cc

-- the line of a journal reads as one more journal
read-journal_line : (j : List ℕ × List ℕ) (rest : List ℕ) → IsPrintableJournal j → read (journal_line j ++ rest) ≡ with_journal j (read rest)
read-journal_line j rest h =
    let line = codes "J " ++ j.0 ++ flat_map entry_text j.1 in
    let whole = HasWords-more (codes "J") (j.0 ++ flat_map entry_text j.1) _ refl (HasWords-entries j.0 j.1 (AreAbove-path j.0 h.path) h.lines) in
    read-line line rest (codes "J" ∷ j.0 ∷ map decimal j.1) whole ∙ ap (λ (lines : List ℕ). with_journal (j.0, lines) (read rest)) (numbers-decimals j.1 h.lines)

-- ---- files

-- no word of a file has a space
file_above : (f : FileState) → IsPrintableState f → AllByRecursion (AreAbove 32) (file_words f)
file_above states.Gone h = (refl, tt)
file_above (states.Whole n frozen md5) h = (AreAbove-decimal n h.count, (flag_above frozen, (AreAbove-encode_lower md5 h.digest.bytes, tt)))
file_above (states.Unread n frozen rank) h = (AreAbove-decimal n h.0, (flag_above frozen, (refl, (AreAbove-decimal rank (small_of_32 rank h.1), tt))))

-- the words of a file read as the file
read_state-words : (f : FileState) → IsPrintableState f → read_state (file_words f) ≡ f
read_state-words states.Gone h = refl
read_state-words (states.Whole n frozen md5) h =
    rw (number-decimal n h.count, read-flag frozen, bytes_of_hex-encode_lower md5 h.digest.bytes) refl
read_state-words (states.Unread n frozen rank) h =
    rw (number-decimal n h.0, read-flag frozen, number-decimal rank (small_of_32 rank h.1)) refl

-- the line of a file reads as one more file
read-file_line : (f : List ℕ × FileState) (rest : List ℕ) → IsPrintableFile f → read (file_line f ++ rest) ≡ with_file f (read rest)
read-file_line f rest h =
    read-line _ rest _ (HasWords-spaced (codes "F") (f.0 ∷ file_words f.1) refl (AreAbove-path f.0 h.path, file_above f.1 h.state))
    ∙ ap (λ (s : FileState). with_file (f.0, s) (read rest)) (read_state-words f.1 h.state)

-- ---- slots

-- no word of a client's slots has a space
slots_above : (l : SlotLine) → IsPrintableSlots l → AllByRecursion (AreAbove 32) (slot_words l)
slots_above l h = (AreAbove-decimal l.held h.held, (AreAbove-decimal l.free h.free, (AreAbove-decimal l.faults h.faults, tt)))

-- the words of a client's slots read as those slots
read_slots-words : (l : SlotLine) → IsPrintableSlots l → read_slots (number (decimal l.rank)) (slot_words l) ≡ l
read_slots-words l h = λ i. record {
  rank = number-decimal l.rank (small_of_32 l.rank h.client) i;
  held = number-decimal l.held h.held i;
  free = number-decimal l.free h.free i;
  faults = number-decimal l.faults h.faults i;
}

-- the line of a client's slots reads as those of one more client
read-slot_line : (l : SlotLine) (rest : List ℕ) → IsPrintableSlots l → read (slot_line l ++ rest) ≡ with_slots l (read rest)
read-slot_line l rest h =
    let rank = AreAbove-decimal l.rank (small_of_32 l.rank h.client) in
    read-line _ rest _ (HasWords-spaced (codes "S") (decimal l.rank ∷ slot_words l) refl (rank, slots_above l h))
    ∙ ap (λ (m : SlotLine). with_slots m (read rest)) (read_slots-words l h)

-- ---- the whole text

-- a report with these answers, journals, files and slots before its own
abbrev with_all : List (ℕ × Answer) → List (List ℕ × List ℕ) → List (List ℕ × FileState) → List SlotLine → Report → Report
with_all given js fs ls R =
    record { answers = given ++ R.answers; journals = js ++ R.journals; files = fs ++ R.files; slots = ls ++ R.slots }

-- the lines of answers read as those answers
read-answers : (given : List (ℕ × Answer)) (rest : List ℕ) → AllByRecursion IsPrintableLine given → read (flat_map answer_line given ++ rest) ≡ with_all given [] [] [] (read rest)
read-answers [] rest h = refl
read-answers (a ∷ given) rest h =
    ap (λ bytes. read bytes) (append_assoc (answer_line a) (flat_map answer_line given) rest)
    ∙ (read-answer_line a (flat_map answer_line given ++ rest) h.0 ∙ ap (λ (R : Report). with_answer a R) (read-answers given rest h.1))

-- the lines of journals and files read as those journals and files
read-path_lines : (js : List (List ℕ × List ℕ)) (fs : List (List ℕ × FileState)) (rest : List ℕ) → length js ≡ length fs
    → AllByRecursion IsPrintableJournal js → AllByRecursion IsPrintableFile fs → read (path_lines js fs ++ rest) ≡ with_all [] js fs [] (read rest)
read-path_lines [] [] rest same h k = refl
read-path_lines [] (f ∷ fs) rest same h k = absurd (omega arith)
read-path_lines (j ∷ js) [] rest same h k = absurd (omega arith)
read-path_lines (j ∷ js) (f ∷ fs) rest same h k =
    let more = path_lines js fs ++ rest in
    ap (λ bytes. read bytes) (append_assoc (journal_line j ++ file_line f) (path_lines js fs) rest ∙ append_assoc (journal_line j) (file_line f) more)
    ∙ (read-journal_line j (file_line f ++ more) h.0
    ∙ (ap (λ (R : Report). with_journal j R) (read-file_line f more k.0)
    ∙ ap (λ (R : Report). with_journal j (with_file f R)) (read-path_lines js fs rest (omega arith) h.1 k.1)))

-- the lines of clients' slots read as those slots
read-slot_lines : (ls : List SlotLine) (rest : List ℕ) → AllByRecursion IsPrintableSlots ls
    → read (flat_map slot_line ls ++ rest) ≡ with_all [] [] [] ls (read rest)
read-slot_lines [] rest h = refl
read-slot_lines (l ∷ ls) rest h =
    ap (λ bytes. read bytes) (append_assoc (slot_line l) (flat_map slot_line ls) rest)
    ∙ (read-slot_line l (flat_map slot_line ls ++ rest) h.0 ∙ ap (λ (R : Report). with_slots l R) (read-slot_lines ls rest h.1))

-- the text of a printable report reads as that report, whatever follows
pub read-text : (R : Report) (more : List ℕ) → IsPrintable R → read (text R ++ more) ≡ R
read-text R more h =
    let end = codes "end" ++ 10 ∷ more in
    let paths = path_lines R.journals R.files in
    let slots = flat_map slot_line R.slots in
    let assoc : text R ++ more ≡ flat_map answer_line R.answers ++ (paths ++ (slots ++ end)) = simp append_assoc in
    ap (λ bytes. read bytes) assoc
    ∙ (read-answers R.answers (paths ++ (slots ++ end)) h.answers
    ∙ (ap (λ (S : Report). with_all R.answers [] [] [] S)
    (read-path_lines R.journals R.files (slots ++ end) h.as_many h.journals h.files)
    ∙ (ap (λ (S : Report). with_all R.answers R.journals R.files [] S) (read-slot_lines R.slots end h.slots) ∙ simp append-nil)))

-- two printable reports with one text are one report
pub same_report : (R S : Report) → IsPrintable R → IsPrintable S → text R ≡ text S → R ≡ S
same_report R S r s e = sym (read-text R [] r) ∙ (ap (λ bytes. read (bytes ++ [])) e ∙ read-text S [] s)

-- no text of a printable report goes on after another one
pub nothing_more : (R S : Report) (more : List ℕ) → IsPrintable R → IsPrintable S → text R ++ more ≡ text S → more ≡ []
nothing_more R S more r s e =
    let same : R ≡ S = sym (read-text R more r) ∙ (ap (λ bytes. read bytes) (e ∙ sym (append-nil (text S))) ∙ read-text S [] s) in
    append_cancel_left (text R) more [] (e ∙ ap (λ (T : Report). text T) (sym same) ∙ sym (append-nil (text R)))

-- what stands before the line `end`
pub text_ends : (R : Report) → (lines : List ℕ) × (text R ≡ lines ++ codes "end" ++ line_feed)
text_ends R = (flat_map answer_line R.answers ++ path_lines R.journals R.files ++ flat_map slot_line R.slots, refl)
