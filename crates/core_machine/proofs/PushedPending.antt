-- Pending writes as a push over a file: what it makes of the file, and that it may be committed.
use Rattle.fs_types.proofs.Common.{◌≡◌, ℕ, ◌<◌, max, Bool, true, false, not, List, [], ◌∷◌, map, length, get_or, Option, Some, None, is_some}
use Rattle.fs_types.proofs.Common.{All, Contains, nil_from_length}
use Rattle.fs_types.proofs.Common.{refl, sym, ap, ◌∙◌, subst, arith, if◌then◌else◌, All-nil, All-cons, All-head, All-tail, All-weaker}
use Rattle.std.proofs.lemmas.List.Elements.{All-contains_itself}
use Rattle.fs_types.specs.FragmentMarks.{marks_of_fragments}
use Rattle.fs_types.specs.Fragments.{HeldPiece, end_of, fragment_count, piece_eq}
use Rattle.fs_types.specs.Pieces.{Fragment}
use Rattle.fs_types.specs.declared.push.Push.{Push}
use Rattle.fs_script.specs.Vocabulary.{File, Job, Mark, Piece, marks_in, put_lines}
use Rattle.piece_table.specs.HeldSpans.{AreGone, Held, PutsAll, is_named, put_fragments, pushed}
use Rattle.piece_table.proofs.CallerLemmas.{find-All, find-own, holds_apart, some_named}
use Rattle.client_map.specs.Kept.{pending_end}
use Rattle.owner_book.specs.Commits.{MayCommit, size_after, with_push}
use Rattle.owner_book.specs.Kept.{BookFile, BookPath, held_in}
use Rattle.core_machine.specs.BookFiles.{IsFile, marks_of_file}
use Rattle.core_machine.specs.PendingWrites.{ArePending, IsPushOf}
use Rattle.core_machine.specs.PlainHolds.{AreHeldPlain}
use Rattle.core_machine.specs.ClientPath.{Pending}
use Rattle.core_machine.specs.declared.plain_hold.PlainHold.{PlainHold}
use Rattle.core_machine.proofs.Committed.{EndBy, ends-committed, marks-committed}

-- ---- how long a file is once fragments were put into it

size-after : (fs : List Fragment) (size : ℕ) → size_after size fs ≡ max size (pending_end fs)
size-after [] size = omega arith
size-after (f ∷ fs) size = let rest = size-after fs (max size (end_of f)) in omega (arith, rest)

-- ---- what the push makes of a file

-- a file with these marks
abbrev pub file_with : Bool → List (Option Mark) → File (Option Mark)
file_with frozen marks = Some (record { cells = marks; frozen = frozen })

-- what is made of a file that isn't frozen
pub unfrozen-is : (frozen after : Bool) (marks old : List (Option Mark)) → frozen ≡ false
    → (if not frozen then file_with after marks else file_with frozen old) ≡ file_with after marks
unfrozen-is frozen after marks old unfrozen = ap (λ b. if not b then file_with after marks else file_with frozen old) unfrozen

abbrev pub with_pushed : Push PlainHold → BookFile PlainHold → BookFile PlainHold
with_pushed push f = with_push (λ h. h.piece) push f

-- what is pushed is what was pending
pub pushed-is : (q : Pending) (push : Push PlainHold) → IsPushOf q.held push
    → pushed (λ (h : PlainHold). h.piece) push.frags.items push.holds.items ≡ q.held
pushed-is q push is = λ i. record { fragments = is.fragments i; hold_of = λ p. is.holds p i }

module _ (s : Job) (q : Pending) (push : Push PlainHold) (f : BookFile PlainHold) (pending : ArePending s q)
    (end : q.end ≡ pending_end q.held.fragments) (file : IsFile f) (is : IsPushOf q.held push) where
  length-pushed : (with_pushed push f).size ≡ max f.size q.end
  length-pushed = ap (size_after f.size) is.fragments ∙ size-after q.held.fragments f.size ∙ ap (max f.size) (sym end)

  pub marks-pushed : marks_of_file (with_pushed push f) ≡ put_lines s (marks_in s) q.lines (marks_of_file f)
  marks-pushed =
      (λ i. marks_of_fragments (put_fragments (is.fragments i) f.held.fragments) (length-pushed i))
      ∙ marks-committed s q.lines q.held.fragments f.held.fragments q.end f.size pending.are_held.spans pending.marks pending.within
      file.within

  pub within-pushed : EndBy (with_pushed push f).size (with_pushed push f).held.fragments
  within-pushed = subst (λ fs. EndBy (with_pushed push f).size (put_fragments fs f.held.fragments)) (sym is.fragments)
      (subst (λ e. EndBy e (put_fragments q.held.fragments f.held.fragments)) (sym length-pushed)
      (ends-committed q.held.fragments f.held.fragments q.end f.size pending.within file.within))

  pub file-pushed : AreHeldPlain (with_pushed push f).held → IsFile (with_pushed push f)
  file-pushed has = record {
    are_held = has;
    within = within-pushed;
    most = omega (arith, length-pushed, pending.most, file.most);
  }

  -- its fragments are over the file's, each with its hold
  pub puts-pushed : PutsAll q.held f.held (with_pushed push f).held
  puts-pushed = subst (λ over. PutsAll over f.held (with_pushed push f).held) (pushed-is q push is)
      (record { fragments = refl; holds = λ p. refl })

-- ---- its holds

-- where nothing is left of what was pending, they went, each once
pub gone-pushed : (x y : Held PlainHold) (push : Push PlainHold) → IsPushOf x push → length y.fragments ≡ 0
    → AreGone (λ (h : PlainHold). h.piece) x y push.holds.items
gone-pushed x y push is none =
    let holds = push.holds.items in
    let frags = push.frags.items in
    record {
      held = λ k d within. sym (is.holds (get_or holds k d).piece)
          ∙ find-own (λ (h : PlainHold). h.piece) (λ h. h.bytes) (λ _. true) frags holds is.well_formed k d within;
      unnamed = λ k d within. ap (λ fs. is_named fs (get_or holds k d).piece) (nil_from_length y.fragments none);
      each = λ q h had other. find-All (Contains holds) (λ (g : PlainHold). piece_eq g.piece q) holds h (All-contains_itself holds)
          (is.holds q ∙ had);
      once = holds_apart (λ (h : PlainHold). h.piece) (λ h. h.bytes) (λ _. true) frags holds is.well_formed;
    }

-- ---- that it may be committed

All-unmapped : {X Y : Type 0} (P : Y → Type 0) (f : X → Y) (xs : List X) → All P (map f xs) → All (λ x. P (f x)) xs
All-unmapped P f [] all = All-nil (λ x. P (f x))
All-unmapped P f (x ∷ xs) all =
    All-cons (λ y. P (f y)) x xs (All-head P (f x) (map f xs) all) (All-unmapped P f xs (All-tail P (f x) (map f xs) all))

pub may-commit : (s : Job) (q : Pending) (push : Push PlainHold) (x : BookPath PlainHold) → ArePending s q → IsPushOf q.held push
    → ((p : Piece) → is_some (q.held.hold_of p) ≡ true → (held_in x.file).hold_of p ≡ None)
    → MayCommit (λ (h : PlainHold). true) (λ h. h.piece) (λ h. h.bytes) push x
may-commit s q push x pending is apart = record {
  well_formed = is.well_formed;
  ready = λ k d below. refl;
  new_pieces =
      let named = All-unmapped (λ (g : HeldPiece). 0 < fragment_count g.piece push.frags.items)
      (λ (h : PlainHold). record { piece = h.piece; bytes = h.bytes }) push.holds.items is.well_formed.named in
      All-weaker (λ (h : PlainHold). 0 < fragment_count h.piece push.frags.items) (λ h. (held_in x.file).hold_of h.piece ≡ None)
      (λ h some. apart h.piece (pending.are_held.named h.piece
      ∙ ap (λ fs. is_named fs h.piece) (sym is.fragments) ∙ some_named h.piece push.frags.items some)) push.holds.items named;
}
