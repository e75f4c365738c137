-- What a client sees of a range of a file: what was found there alone, and with its own pending writes put over it.
use Rattle.fs_types.proofs.Common.{◌≡◌, ℕ, ◌+◌, ◌-◌, ◌<◌, ◌≤◌, min, max, true, List, [], ◌∷◌, length, get_or, All, All-head, All-tail}
use Rattle.fs_types.proofs.Common.{Option, Some, None, IsSome, is_some, nat_le, nat_lt, refl, sym, ap, ◌∙◌, subst, arith, nat_tests, inl, inr}
use Rattle.fs_types.proofs.Common.{cases_lt, cond_both, cond-true, and_parts, leb-true, ltb-true, same_Some, none-some}
use Rattle.fs_types.proofs.Common.{le-leb, lt-ltb, and_from, get_or_past, length-map-range_with_len, true≢false, false_from_ne_true, Vec, Global}
use Rattle.std.specs.Prelude.{find}
use Rattle.std.specs.Option.{option_or}
use Rattle.fs_types.proofs.Overwrites.{length-shown, get_or-shown}
use Rattle.fs_types.specs.Fragments.{end_of, piece_eq}
use Rattle.fs_types.specs.FragmentMarks.{is_within, mark_at, mark_within, marks_of_fragments}
use Rattle.fs_types.specs.Marks.{Mark}
use Rattle.fs_types.specs.Pieces.{Fragment, Piece}
use Rattle.fs_types.specs.declared.attr.Attr.{Attr}
use Rattle.slot_plain.specs.Log.{Log}
use Rattle.span_list.specs.Spans.{AreSpans, cut_fragments}
use Rattle.span_list.proofs.CallerLemmas.{AreSpans-cut, AreSpans-from, get_or-marks}
use Rattle.piece_table.specs.HeldSpans.{Held, LiesIn, is_named, put_fragments}
use Rattle.piece_table.specs.PieceTable.{AreTheirs}
use Rattle.piece_table.proofs.CallerLemmas.{mark_at-put_fragments}
use Rattle.owner_book.specs.Calls.{attr, version}
use Rattle.owner_book.specs.Kept.{BookFile, held_at}
use Rattle.owner_book.specs.Lookups.{Pins, parts_in, pieces_named}
use Rattle.owner_book.specs.declared.looked.Looked.{Looked}
use Rattle.owner_book.proofs.Parts.{parts-marks}
use Rattle.fs_script.specs.Live.{is_of_piece}
use Rattle.fs_script.specs.Vocabulary.{Job, marks_in, piece_of, put_lines, shown}
use Rattle.fs_script.proofs.CallerLemmas.{piece_eq_equiv, some_of, none_from-is_some}
use Rattle.core_machine.specs.ClientPath.{ClientPath}
use Rattle.core_machine.specs.ClientPath.{Pending}
use Rattle.core_machine.specs.declared.plain_hold.PlainHold.{PlainHold}
use Rattle.core_machine.specs.declared.task.Task.{Task}
use Rattle.core_machine.specs.BookFiles.{IsFile, marks_of_file}
use Rattle.core_machine.specs.Follows.{KeptStand}
use Rattle.core_machine.specs.Kept.{AreSound, OwnedPath, file_hold, pending_hold}
use Rattle.core_machine.specs.Logs.{HoldsStand, IsHeldIn}
use Rattle.core_machine.specs.PendingWrites.{ArePending}
use Rattle.core_machine.specs.Pins.{either_hold}
use Rattle.core_machine.specs.PlainHolds.{AreHeldPlain}
use Rattle.core_machine.specs.Reads.{HasHold, IsFoundIn, IsSeenIn, found_hold}
use Rattle.core_machine.proofs.Committed.{ends-committed, marks-committed}
use Rattle.core_machine.proofs.FoundHolds.{find-held, once-held}
use Rattle.core_machine.proofs.LookedUp.{looked-file, plain}
use Rattle.core_machine.proofs.NamedPieces.{named-from_place}

-- ---- marks of fragments with holds

-- a mark of fragments is of a byte of a piece that is held
mark-lies : (hold_at : Piece → Option PlainHold) (fs : List Fragment) (k : ℕ) (m : Mark) → All (LiesIn (λ h. h.bytes) hold_at) fs
    → mark_at fs k ≡ Some m → (h : PlainHold) → hold_at (piece_of m) ≡ Some h → m.place < h.bytes
mark-lies hold_at [] k m lie is h there = absurd (none-some m is)
mark-lies hold_at (f ∷ fs) k m lie is h there =
    cond_both (is_within f k) (Some (mark_within f k)) (mark_at fs k) (λ o. o ≡ Some m → m.place < h.bytes)
    (λ inside same.
    let mark = same_Some (mark_within f k) m same in
    let parts = and_parts (nat_le f.at k) (nat_lt k (end_of f)) inside in
    let from = leb-true f.at k parts.0 in
    let to = ltb-true k (end_of f) parts.1 in
    let bound : f.from + f.len ≤ h.bytes =
    All-head (LiesIn (λ h. h.bytes) hold_at) f fs lie h (ap (λ (n : Mark). hold_at (piece_of n)) mark ∙ there) in
    let place : f.from + (k - f.at) ≡ m.place = ap (λ (n : Mark). n.place) mark in
    omega (arith, from, to, bound, place))
    (λ _ later. mark-lies hold_at fs k m (All-tail (LiesIn (λ h. h.bytes) hold_at) f fs lie) later h there)
    is

-- the piece of a mark is named
mark-named : (fs : List Fragment) (k : ℕ) (m : Mark) → mark_at fs k ≡ Some m → is_named fs (piece_of m) ≡ true
mark-named fs k m is = named-from_place fs k (piece_of m) (ap (is_of_piece (piece_of m)) is ∙ piece_eq_equiv.refl (piece_of m))

-- so it has a hold
mark-held : (x : Held PlainHold) (k : ℕ) (m : Mark) → AreHeldPlain x → mark_at x.fragments k ≡ Some m → HasHold x.hold_of m
mark-held x k m are is =
    let h = some_of (x.hold_of (piece_of m)) (are.named (piece_of m) ∙ mark-named x.fragments k m is) in
    record { hold = h.0; is = h.1; within = mark-lies x.hold_of x.fragments k m are.within is h.0 h.1 }

-- also where it is looked for by other holds that have the same of its piece
held-by : (hold_at other : Piece → Option PlainHold) (m : Mark) → other (piece_of m) ≡ hold_at (piece_of m) → HasHold hold_at m
    → HasHold other m
held-by hold_at other m same has = record { hold = has.hold; is = same ∙ has.is; within = has.within }

-- ---- the parts in a range

parts-spans : (from to : ℕ) (fs : List Fragment) → AreSpans fs → AreSpans (parts_in from to fs)
parts-spans from to fs spans = AreSpans-from from (cut_fragments to fs) (AreSpans-cut to fs spans)

-- they have the fragments' mark at each place of the range
part-inside : (off len : ℕ) (fs : List Fragment) (k : ℕ) → k < len → mark_at (parts_in off (off + len) fs) (off + k) ≡ mark_at fs (off + k)
part-inside off len fs k lt =
    parts-marks off (off + len) fs (off + k)
    ∙ cond-true _ (mark_at fs (off + k)) None (and_from _ _ (le-leb off (off + k) (omega arith)) (lt-ltb (off + k) (off + len) (omega (arith, lt))))

-- and none outside
part-before : (off len : ℕ) (fs : List Fragment) (k : ℕ) → k < off → mark_at (parts_in off (off + len) fs) k ≡ None
part-before off len fs k lt = parts-marks off (off + len) fs k ∙ grind (arith, nat_tests, lt)

part-past : (off len : ℕ) (fs : List Fragment) (k : ℕ) → len ≤ k → mark_at (parts_in off (off + len) fs) (off + k) ≡ None
part-past off len fs k le = parts-marks off (off + len) fs (off + k) ∙ grind (arith, nat_tests, le)

-- nothing is shown behind so many
shown-past : (marks : List (Option Mark)) (off len k : ℕ) → len ≤ k → get_or (shown marks off len) k None ≡ None
shown-past marks off len k le = get_or_past (shown marks off len) k None (omega (arith, le, length-shown marks off len))

-- ---- what is seen of the file alone

module _ (f : BookFile PlainHold) (off len : ℕ) (found : Looked PlainHold) (file : IsFile f) (is : IsFoundIn f off len found) where
  -- what was found is in order
  pub found-spans : AreSpans found.frags.items
  found-spans = subst AreSpans (sym is.frags) (parts-spans off (off + len) f.held.fragments file.are_held.spans)

  -- a hold that was found is the file's
  pub found-own : (q : Piece) (h : PlainHold) → found_hold found q ≡ Some h → f.held.hold_of q ≡ Some h
  found-own q h there =
      cond_both (is_named found.frags.items q) (f.held.hold_of q) None (λ o. o ≡ Some h → f.held.hold_of q ≡ Some h) (λ _ same. same)
      (λ _ none. absurd (none-some h none))
      (sym (find-held (λ h. h.piece) f.held.hold_of found.frags.items found.holds.items is.holds is.each q) ∙ there)

  -- and a piece that has a mark there has one
  mark-found : (k : ℕ) (m : Mark) → k < len → mark_at f.held.fragments (off + k) ≡ Some m
      → found_hold found (piece_of m) ≡ f.held.hold_of (piece_of m)
  mark-found k m lt at =
      find-held (λ h. h.piece) f.held.hold_of found.frags.items found.holds.items is.holds is.each (piece_of m)
      ∙ cond-true (is_named found.frags.items (piece_of m)) (f.held.hold_of (piece_of m)) None
      (mark-named found.frags.items (off + k) m
      (ap (λ fs. mark_at fs (off + k)) is.frags ∙ part-inside off len f.held.fragments k lt ∙ at))

  -- the marks that the file shows there are those of its fragments
  shown-mark : (k : ℕ) → k < len → get_or (shown (marks_of_file f) off len) k None ≡ mark_at f.held.fragments (off + k)
  shown-mark k lt =
      get_or-shown (marks_of_file f) off len k None lt ∙ get_or-marks f.held.fragments f.size (off + k) file.within

  module _ (hold_at : Piece → Option PlainHold) (theirs : AreTheirs (λ h. h.piece) hold_at)
      (agree : (q : Piece) → IsSome (found_hold found q) → hold_at q ≡ found_hold found q) where
    pub IsSeenIn-found : IsSeenIn (shown (marks_of_file f) off len) off len hold_at found
    IsSeenIn-found = record {
      spans = found-spans;
      before = λ k lt. ap (λ fs. mark_at fs k) is.frags ∙ part-before off len f.held.fragments k lt;
      shows = λ k. ap (λ fs. mark_at fs (off + k)) is.frags ∙ elim (cases_lt k len) [
        | inl inside ↦ part-inside off len f.held.fragments k inside ∙ sym (shown-mark k inside)
        | inr past ↦ part-past off len f.held.fragments k past ∙ sym (shown-past (marks_of_file f) off len k past)
      ];
      size = length-shown (marks_of_file f) off len
          ∙ ap (λ n. min len (n - off)) (length-map-range_with_len (mark_at f.held.fragments) 0 f.size ∙ sym is.size);
      once = once-held (λ h. h.piece) found.frags.items found.holds.items is.holds;
      theirs = theirs;
      held = λ k m at. elim (cases_lt k len) [
        | inr past ↦ absurd (none-some m (sym (shown-past (marks_of_file f) off len k past) ∙ at))
        | inl inside ↦
            let here = sym (shown-mark k inside) ∙ at in
            let own = mark-held f.held (off + k) m file.are_held here in
            let same = mark-found k m inside here in
            held-by f.held.hold_of hold_at m (agree (piece_of m) (ap is_some (same ∙ own.is)) ∙ same) own
      ];
    }

  -- by the holds that were found alone
  module _ (hold_at : Piece → Option PlainHold) (among : (q : Piece) → hold_at q ≡ found_hold found q) where
    found-own_by : (q : Piece) (h : PlainHold) → hold_at q ≡ Some h → f.held.hold_of q ≡ Some h
    found-own_by q h there = found-own q h (sym (among q) ∙ there)

    pub IsSeenIn-by_found : IsSeenIn (shown (marks_of_file f) off len) off len hold_at found
    IsSeenIn-by_found = IsSeenIn-found hold_at (λ q h there. file.are_held.piece q h (found-own_by q h there)) (λ q some. among q)

    pub found-stand : (s : Job) (logs : List Log) → HoldsStand s logs f.held.hold_of → HoldsStand s logs hold_at
    found-stand s logs stand q h there = stand q h (found-own_by q h there)

-- ---- the holds that were found, and the client's own beside them

-- what was found goes first
found-first : (o p : Option PlainHold) → IsSome o → option_or o p ≡ o
found-first None p some = absurd (true≢false (sym some))
found-first (Some h) p some = refl

module _ (s : Job) (f : BookFile PlainHold) (q : Pending) (off len : ℕ) (found : Looked PlainHold) (file : IsFile f)
    (is : IsFoundIn f off len found) (pending : ArePending s q) where
  abbrev hold_seen : Piece → Option PlainHold
  hold_seen = either_hold (found_hold found) q.held.hold_of

  -- each is of its piece
  seen-theirs : AreTheirs (λ h. h.piece) hold_seen
  seen-theirs p h there = by (found_hold found p) refl there where
    by : (o : Option PlainHold) → found_hold found p ≡ o → option_or o (q.held.hold_of p) ≡ Some h → h.piece ≡ p
    by None none own = pending.are_held.piece p h own
    by (Some g) at same = file.are_held.piece p h (found-own f off len found file is p h (at ∙ same))

  -- so the file alone is seen by them too
  pub IsSeenIn-alone : IsSeenIn (shown (marks_of_file f) off len) off len hold_seen found
  IsSeenIn-alone =
      IsSeenIn-found f off len found file is hold_seen seen-theirs (λ p some. found-first (found_hold found p) (q.held.hold_of p) some)

  -- ---- with the client's pending writes over it

  module _ (apart : (p : Piece) → is_some (q.held.hold_of p) ≡ true → f.held.hold_of p ≡ None) where
    abbrev over : List Fragment
    over = q.held.fragments

    abbrev under : List Fragment
    under = f.held.fragments

    abbrev cells : List (Option Mark)
    cells = put_lines s (marks_in s) q.lines (marks_of_file f)

    -- the file's fragments with the pending ones put over them have the marks of the lines
    whole : marks_of_fragments (put_fragments over under) (max f.size q.end) ≡ cells
    whole = marks-committed s q.lines over under q.end f.size pending.are_held.spans pending.marks pending.within file.within

    seen-mark : (k : ℕ) → k < len → get_or (shown cells off len) k None ≡ option_or (mark_at over (off + k)) (mark_at under (off + k))
    seen-mark k lt =
        get_or-shown cells off len k None lt ∙ ap (λ ms. get_or ms (off + k) None) (sym whole)
        ∙ get_or-marks (put_fragments over under) (max f.size q.end) (off + k)
        (ends-committed over under q.end f.size pending.within file.within)
        ∙ mark_at-put_fragments over under (off + k) pending.are_held.spans

    -- a pending piece wasn't found in the file
    not-found : (p : Piece) → is_some (q.held.hold_of p) ≡ true → found_hold found p ≡ None
    not-found p waits = none_from-is_some (found_hold found p) (false_from_ne_true (is_some (found_hold found p)) (λ some.
        let h = some_of (found_hold found p) some in
        none-some h.0 (sym (apart p waits) ∙ found-own f off len found file is p h.0 h.1)))

    -- each mark that is seen has a hold
    seen-held : (k : ℕ) (m : Mark) → k < len → option_or (mark_at over (off + k)) (mark_at under (off + k)) ≡ Some m → HasHold hold_seen m
    seen-held k m lt at = by (mark_at over (off + k)) refl at where
      by : (o : Option Mark) → mark_at over (off + k) ≡ o → option_or o (mark_at under (off + k)) ≡ Some m → HasHold hold_seen m
      by (Some n) here same =
          let own = mark-held q.held (off + k) m pending.are_held (here ∙ same) in
          held-by q.held.hold_of hold_seen m
          (ap (λ o. option_or o (q.held.hold_of (piece_of m))) (not-found (piece_of m) (ap is_some own.is))) own
      by None none here =
          let own = mark-held f.held (off + k) m file.are_held here in
          let same = mark-found f off len found file is k m lt here in
          held-by f.held.hold_of hold_seen m
          (found-first (found_hold found (piece_of m)) (q.held.hold_of (piece_of m)) (ap is_some (same ∙ own.is)) ∙ same) own

    module _ (v : Vec Fragment Global) (size : ℕ) (spans : AreSpans v.items)
        (puts : v.items ≡ put_fragments (parts_in off (off + len) over) found.frags.items) (size_is : size ≡ max found.attr.size q.end) where
      seen-at : (k : ℕ) → mark_at v.items k
          ≡ option_or (mark_at (parts_in off (off + len) over) k) (mark_at (parts_in off (off + len) under) k)
      seen-at k =
          ap (λ fs. mark_at fs k) puts
          ∙ mark_at-put_fragments (parts_in off (off + len) over) found.frags.items k (parts-spans off (off + len) over pending.are_held.spans)
          ∙ ap (λ fs. option_or (mark_at (parts_in off (off + len) over) k) (mark_at fs k)) is.frags

      pub IsSeenIn-own : IsSeenIn (shown cells off len) off len hold_seen
          (record found { attr = record found.attr { size = size }; frags = v })
      IsSeenIn-own = record {
        spans = spans;
        before = λ k lt. seen-at k ∙ (λ i. option_or (part-before off len over k lt i) (part-before off len under k lt i));
        shows = λ k. seen-at (off + k) ∙ elim (cases_lt k len) [
          | inl inside ↦
              (λ i. option_or (part-inside off len over k inside i) (part-inside off len under k inside i)) ∙ sym (seen-mark k inside)
          | inr past ↦
              (λ i. option_or (part-past off len over k past i) (part-past off len under k past i)) ∙ sym (shown-past cells off len k past)
        ];
        size = length-shown cells off len ∙ ap (λ n. min len (n - off))
            (ap length (sym whole) ∙ length-map-range_with_len (mark_at (put_fragments over under)) 0 (max f.size q.end)
            ∙ ap (λ n. max n q.end) (sym is.size) ∙ sym size_is);
        once = once-held (λ h. h.piece) found.frags.items found.holds.items is.holds;
        theirs = seen-theirs;
        held = λ k m at. elim (cases_lt k len) [
          | inr past ↦ absurd (none-some m (sym (shown-past cells off len k past) ∙ at))
          | inl inside ↦ seen-held k m inside (sym (seen-mark k inside) ∙ at)
        ];
      }

-- ---- what was found of a path's file, for a client on it

-- the file is whole, as are the client's pending writes, and each hold of the two is of a slot that has its piece
pub record IsFoundFor (s : Job) (logs : List Log) (x : OwnedPath) (k : ClientPath) (off len : ℕ) (found : Looked PlainHold) : Type 0 where
  pub file : BookFile PlainHold
  pub there : x.path.file ≡ Some file
  pub is_file : IsFile file
  pub found_in : IsFoundIn file off len found
  pub pending : ArePending s k.pending
  pub apart : (p : Piece) → is_some (pending_hold k p) ≡ true → file.held.hold_of p ≡ None
  pub files_stand : HoldsStand s logs file.held.hold_of
  pub pending_stand : HoldsStand s logs (pending_hold k)

pub found-for : (s : Job) (logs : List Log) (x : OwnedPath) (k : ClientPath) (t : Task) (told : ℕ × Attr) (off len : ℕ)
    (found : Looked PlainHold) → AreSound s x k → KeptStand s logs x k t → told ≡ (version x.path, attr x.path) → told.1.exists ≡ true
    → found.attr ≡ attr x.path → found.frags.items ≡ parts_in off (off + len) (held_at x.path).fragments
    → Pins plain (held_at x.path) (pieces_named found.frags.items) found.holds.items found.bare.items → IsFoundFor s logs x k off len found
found-for s logs x k t told off len found sound stand is exists same frags pins =
    let at = looked-file x.path told off len found sound.written is exists same frags pins in
    record {
      file = at.0;
      there = at.1;
      is_file = at.2;
      found_in = at.3;
      pending = sound.pending;
      apart = λ p waits. ap (λ o. file_hold o p) (sym at.1) ∙ sound.apart p waits;
      files_stand = subst (λ (o : Option (BookFile PlainHold)). HoldsStand s logs (file_hold o)) at.1 stand.files;
      pending_stand = stand.pending;
    }

-- so each hold that its range is seen by is of a slot that has its piece
pub seen-stand : (s : Job) (logs : List Log) (x : OwnedPath) (k : ClientPath) (off len : ℕ) (found seen : Looked PlainHold)
    → IsFoundFor s logs x k off len found → seen.holds ≡ found.holds → HoldsStand s logs (either_hold (found_hold seen) (pending_hold k))
seen-stand s logs x k off len found seen is same p h there =
    by (found_hold found p) refl (ap (λ hs. option_or (find (λ h. piece_eq h.piece p) (items hs)) (pending_hold k p)) (sym same) ∙ there)
  where
    items : Vec PlainHold Global → List PlainHold
    items hs = hs.items

    by : (o : Option PlainHold) → found_hold found p ≡ o → option_or o (pending_hold k p) ≡ Some h → (h.piece ≡ p) × IsHeldIn s logs h
    by None none own = is.pending_stand p h own
    by (Some g) at one = is.files_stand p h (found-own is.file off len found is.is_file is.found_in p h (at ∙ one))
