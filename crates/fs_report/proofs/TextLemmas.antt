-- The texts of lists, one element after another.
use Rattle.std.proofs.Common.{◌≡◌, ◌≢◌, ℕ, suc, ◌+◌, ◌<◌, ◌≤◌, List, [], ◌∷◌, ◌++◌, Some, None, refl, sym, ap, subst, ◌∙◌, append_assoc, append-nil, arith, inl, inr, if◌then◌else◌}
use Rattle.std.specs.Prelude.{All, codes, nat_lt}
use Rattle.std.specs.List.{flat_map}
use Rattle.std.specs.List.{slice_get}
use Rattle.std.proofs.Common.{zero, take, add-one}
use Rattle.std.proofs.lemmas.Option.{same_Some, slice_get_within, get_or_from_slice_get}
use Rattle.std.proofs.lemmas.Bool.Decides.{nat_tests}
use Rattle.std.proofs.lemmas.List.{flat_map_more, take_more}
use Rattle.std.proofs.lemmas.List.Elements.{All-head, All-tail}
use Rattle.fs_types.specs.AnswerList.{answer_at, IsRisingFrom}
use Rattle.fs_types.specs.declared.answer.Answer.{Answer}
use Rattle.fs_types.proofs.CallerLemmas.{answer_at-same, answer_at-other, cases_line, answer_at-rising_below}
use Rattle.fs_script.specs.Text.{path_lines, journal_line, file_line, answer_line, slot_line, text}
use Rattle.fs_script.specs.Grammar.{spaced}
use Rattle.fs_types.specs.declared.file_state.FileState.{FileState}
use Rattle.fs_types.specs.declared.slot_line.SlotLine.{SlotLine}
use Rattle.fs_report.specs.ReportView.{report_view}
use Rattle.fs_report.specs.declared.report.Report as kept

-- the answers to lines below n
abbrev pub answers_below : ℕ → List (ℕ × Answer) → List (ℕ × Answer)
answers_below n [] = []
answers_below n (x ∷ xs) = if nat_lt x.0 n then x ∷ answers_below n xs else answers_below n xs

-- an answer to a line below n is among them
below-kept : (n k : ℕ) (a : Answer) (xs : List (ℕ × Answer)) → k < n → answers_below n ((k, a) ∷ xs) ≡ (k, a) ∷ answers_below n xs
below-kept n k a xs h = grind (arith, nat_tests)

-- an answer to any other line isn't
below-left_out : (n k : ℕ) (a : Answer) (xs : List (ℕ × Answer)) → n ≤ k → answers_below n ((k, a) ∷ xs) ≡ answers_below n xs
below-left_out n k a xs h = grind (arith, nat_tests)

-- none is below the first line
pub below-none : (xs : List (ℕ × Answer)) (n k : ℕ) → n ≤ k → IsRisingFrom k xs → answers_below n xs ≡ []
below-none [] n k l h = refl
below-none ((i, a) ∷ xs) n k l h =
    below-left_out n i a xs (omega (arith, h.0)) ∙ below-none xs n (suc i) (omega (arith, h.0)) h.1

-- all are below a line past the last one
pub below-all : (xs : List (ℕ × Answer)) (n m : ℕ) → m < n → All (λ x. x.0 ≤ m) xs → answers_below n xs ≡ xs
below-all [] n m l h = refl
below-all ((i, a) ∷ xs) n m l h =
    let first : i ≤ m = All-head (λ (x : ℕ × Answer). x.0 ≤ m) (i, a) xs h in
    below-kept n i a xs (omega arith) ∙ ap (λ ys. (i, a) ∷ ys) (below-all xs n m l (All-tail (λ (x : ℕ × Answer). x.0 ≤ m) (i, a) xs h))

-- one line more, where it is the first one
below-first : (xs : List (ℕ × Answer)) (n : ℕ) (a b : Answer) → IsRisingFrom (suc n) xs → answer_at ((n, b) ∷ xs) n ≡ Some a → answers_below (n + 1) ((n, b) ∷ xs) ≡ answers_below n ((n, b) ∷ xs) ++ (n, a) ∷ []
below-first xs n a b h e =
    let one = answer_at-same n n b xs refl in
    let kept = below-kept (n + 1) n b xs (omega arith) in
    let left_out = below-left_out n n b xs (omega arith) in
    let above = below-none xs (n + 1) (suc n) (omega arith) h in
    let below = below-none xs n (suc n) (omega arith) h in
    cc

-- one line more, where it is answered
pub below-answered : (xs : List (ℕ × Answer)) (k n : ℕ) (a : Answer) → IsRisingFrom k xs → answer_at xs n ≡ Some a → answers_below (n + 1) xs ≡ answers_below n xs ++ (n, a) ∷ []
below-answered [] k n a h e = cc
below-answered ((i, b) ∷ xs) k n a h e = elim (cases_line n i) [
  | inl l ↦
      let other = answer_at-other i n b xs (omega arith) in
      let none = answer_at-rising_below xs (suc i) n h.1 (omega arith) in
      cc
  | inr g ↦ elim g [
    | inl same ↦
        let h' = subst (λ (m : ℕ). IsRisingFrom (suc m) xs) (sym same) h.1 in
        let e' = subst (λ (m : ℕ). answer_at ((m, b) ∷ xs) n ≡ Some a) (sym same) e in
        subst (λ (m : ℕ). answers_below (n + 1) ((m, b) ∷ xs) ≡ answers_below n ((m, b) ∷ xs) ++ (n, a) ∷ []) same (below-first xs n a b h' e')
    | inr l ↦
        let more = below-kept (n + 1) i b xs (omega arith) in
        let kept = below-kept n i b xs l in
        let rest = below-answered xs (suc i) n a h.1 (sym (answer_at-other i n b xs (omega arith)) ∙ e) in
        cc
  ]
]

-- one line more, where the first one is another
below-unlike : (xs : List (ℕ × Answer)) (n i : ℕ) (b : Answer) → n ≢ i → answers_below (n + 1) xs ≡ answers_below n xs → answers_below (n + 1) ((i, b) ∷ xs) ≡ answers_below n ((i, b) ∷ xs)
below-unlike xs n i b h e = grind (arith, nat_tests)

-- one line more, where it isn't answered
pub below-unanswered : (xs : List (ℕ × Answer)) (n : ℕ) → answer_at xs n ≡ None → answers_below (n + 1) xs ≡ answers_below n xs
below-unanswered [] n e = refl
below-unanswered ((i, b) ∷ xs) n e = elim (cases_line n i) [
  | inl l ↦ below-unlike xs n i b (omega arith) (below-unanswered xs n (sym (answer_at-other i n b xs (omega arith)) ∙ e))
  | inr g ↦ elim g [
    | inl same ↦
        let one = answer_at-same i n b xs same in
        cc
    | inr l ↦ below-unlike xs n i b (omega arith) (below-unanswered xs n (sym (answer_at-other i n b xs (omega arith)) ∙ e))
  ]
]

-- the text of the answers below a line, and the line of its answer
pub lines-answered : (front old new : List ℕ) (xs : List (ℕ × Answer)) (n : ℕ) (a : Answer)
    → IsRisingFrom 1 xs → answer_at xs n ≡ Some a
    → old ≡ front ++ flat_map answer_line (answers_below n xs) → new ≡ old ++ answer_line (n, a)
    → new ≡ front ++ flat_map answer_line (answers_below (n + 1) xs)
lines-answered front old new xs n a rising found so_far written =
    rw (written, so_far, below-answered xs 1 n a rising found)
    (flat_map_more answer_line front (answers_below n xs) (n, a))

-- the text of the answers below a line that isn't answered
pub lines-unanswered : (front old new : List ℕ) (xs : List (ℕ × Answer)) (n : ℕ)
    → answer_at xs n ≡ None
    → old ≡ front ++ flat_map answer_line (answers_below n xs) → new ≡ old
    → new ≡ front ++ flat_map answer_line (answers_below (n + 1) xs)
lines-unanswered front old new xs n missing so_far same =
    rw (same, so_far, below-unanswered xs n missing) refl

-- the text of the answers below a line past the last one
pub lines-all : (front out : List ℕ) (xs : List (ℕ × Answer)) (n m : ℕ)
    → m < n → All (λ x. x.0 ≤ m) xs
    → out ≡ front ++ flat_map answer_line (answers_below n xs)
    → out ≡ front ++ flat_map answer_line xs
lines-all front out xs n m past within so_far = so_far ∙ rw (below-all xs n m past within) refl

-- no text before the first line
pub lines-none : (front : List ℕ) (xs : List (ℕ × Answer)) → IsRisingFrom 1 xs
    → front ≡ front ++ flat_map answer_line (answers_below 1 xs)
lines-none front xs rising =
    rw (below-none xs 1 1 (omega arith) rising) (sym (append-nil front))

-- one more journal with its file
path_lines-more : (js : List (List ℕ × List ℕ)) (fs : List (List ℕ × FileState)) (i : ℕ) (j : List ℕ × List ℕ) (f : List ℕ × FileState)
    → slice_get js i ≡ Some j → slice_get fs i ≡ Some f
    → path_lines (take (suc i) js) (take (suc i) fs) ≡ path_lines (take i js) (take i fs) ++ (journal_line j ++ file_line f)
path_lines-more [] fs i j f here beside = absurd cc
path_lines-more (k ∷ ks) [] i j f here beside = absurd cc
path_lines-more (k ∷ ks) (g ∷ gs) zero j f here beside =
    ap (λ x. journal_line x ++ file_line g ++ []) (same_Some k j here)
    ∙ ap (λ x. journal_line j ++ file_line x ++ []) (same_Some g f beside) ∙ append-nil (journal_line j ++ file_line f)
path_lines-more (k ∷ ks) (g ∷ gs) (suc i) j f here beside =
    ap (λ t. (journal_line k ++ file_line g) ++ t) (path_lines-more ks gs i j f here beside)
    ∙ sym (append_assoc (journal_line k ++ file_line g) (path_lines (take i ks) (take i gs)) (journal_line j ++ file_line f))

-- four texts, one after another
four : (a b c d : List ℕ) → ((a ++ b) ++ c) ++ d ≡ a ++ (b ++ (c ++ d))
four a b c d = simp append_assoc

-- and its lines after those so far
pub paths-push : (front old between new : List ℕ) (js : List (List ℕ × List ℕ)) (fs : List (List ℕ × FileState)) (i : ℕ)
    (j : List ℕ × List ℕ) (f : List ℕ × FileState)
    → slice_get js i ≡ Some j → slice_get fs i ≡ Some f
    → old ≡ front ++ path_lines (take i js) (take i fs) → between ≡ old ++ journal_line j → new ≡ between ++ file_line f
    → new ≡ front ++ path_lines (take (i + 1) js) (take (i + 1) fs)
paths-push front old between new js fs i j f here beside so_far journal file =
    let more = ap (λ n. path_lines (take n js) (take n fs)) (add-one i) ∙ path_lines-more js fs i j f here beside in
    file ∙ ap (λ t. t ++ file_line f) (journal ∙ ap (λ t. t ++ journal_line j) so_far)
    ∙ four front (path_lines (take i js) (take i fs)) (journal_line j) (file_line f) ∙ ap (λ t. front ++ t) (sym more)

-- one more client's slots
pub slots-push : (front old new : List ℕ) (ls : List SlotLine) (i : ℕ) (l : SlotLine) → slice_get ls i ≡ Some l
    → old ≡ front ++ flat_map slot_line (take i ls) → new ≡ old ++ slot_line l → new ≡ front ++ flat_map slot_line (take (i + 1) ls)
slots-push front old new ls i l here so_far written =
    let last = ap (λ k. take i ls ++ k ∷ []) (get_or_from_slice_get ls i l l here) in
    let more = take_more ls i l (slice_get_within ls i l here) ∙ last in
    written ∙ ap (λ t. t ++ slot_line l) so_far ∙ flat_map_more slot_line front (take i ls) l
    ∙ ap (λ ks. front ++ flat_map slot_line ks) (sym more)

-- the parts of a report's text, one after another
pub text-of_parts : (r : kept.Report)
    → ((flat_map answer_line r.answers.list ++ path_lines r.journals r.files) ++ flat_map slot_line r.slots) ++ codes "end\n"
    ≡ text (report_view r)
text-of_parts r = simp append_assoc

-- ---- words that were appended one by one

pub sized_text : (out v n flag : List ℕ) → ((out ++ (codes "ok v=" ++ v)) ++ (codes " n=" ++ n)) ++ (codes " frozen=" ++ flag)
    ≡ out ++ spaced (codes "ok" ∷ (codes "v=" ++ v) ∷ (codes "n=" ++ n) ∷ (codes "frozen=" ++ flag) ∷ [])
sized_text out v n flag = simp append_assoc

pub unread_text : (out n flag rank : List ℕ) → ((out ++ (codes " n=" ++ n)) ++ (codes " frozen=" ++ flag)) ++ (codes " devfault r=" ++ rank)
    ≡ out ++ 32 ∷ spaced ((codes "n=" ++ n) ∷ (codes "frozen=" ++ flag) ∷ codes "devfault" ∷ (codes "r=" ++ rank) ∷ [])
unread_text out n flag rank = simp append_assoc
