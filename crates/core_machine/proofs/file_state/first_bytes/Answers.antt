use Rattle.std.proofs.Common.{arith, ◌≡◌, ◌∙◌, ◌+◌, ◌<◌, ◌^◌, ap, sym, subst, length, replicate, rules, find, All, AllPairs, false}
use Rattle.std.proofs.lemmas.List.{length-replicate, with_items_is}
use Rattle.fs_types.specs.Fragments.{piece_eq}
use Rattle.fs_types.specs.Pieces.{Fragment, Piece}
use Rattle.piece_table.specs.PieceTable.{hold_of}
use Rattle.fs_script.specs.declared.limits.TheConstants.{DIGEST_LIMIT}
use Rattle.fs_script.specs.Vocabulary.{shown}
use Rattle.core_machine.specs.declared.plain_hold.PlainHold.{PlainHold}
use Rattle.core_machine.specs.Fetching.{AreFetchable}
use Rattle.core_machine.specs.BookFiles.{marks_of_file}
use Rattle.core_machine.specs.ReadRuns.{joined_from}
use Rattle.core_machine.specs.Reads.{found_hold}
use Rattle.core_machine.proofs.FileStates.{bytes-of_runs}
use Rattle.core_machine.proofs.FoundHolds.{once-held}
use Rattle.core_machine.proofs.SeenMarks.{IsSeenIn-by_found, found-spans, found-stand}
use Rattle.core_machine.proofs.SeenRuns.{seen-fetchable, seen-runs}
use Rattle.core_machine.proofs.file_state.first_bytes.Goals as goal

pub runs_of-requires-clause-small : goal.runs_of-requires-clause-small
runs_of-requires-clause-small g c =
    let need = c.requires.found in
    subst (All (λ (f : Fragment). f.at + f.len < 2 ^ 64)) (sym c.deref.ensures.value)
    (λ k d within. let end = ((found-spans need.0 0 DIGEST_LIMIT c.args.found.now need.1 need.2).each k d within).in_file in omega (arith, end))

pub table_of-requires : goal.table_of-requires
table_of-requires g c = record {
  apart = subst (AllPairs (λ (x y : PlainHold). piece_eq x.piece y.piece ≡ false)) (sym c.deref-2.ensures.value)
      (once-held (λ (h : PlainHold). h.piece) c.args.found.now.frags.items c.args.found.now.holds.items c.requires.found.2.holds);
}

pub fetch_all-requires-clause-runs : goal.fetch_all-requires-clause-runs
fetch_all-requires-clause-runs g c =
    let need = c.requires.found in
    let found = c.args.found.now in
    let hold_at = hold_of c.in_ok-holds.holds in
    let marks = shown (marks_of_file need.0) 0 DIGEST_LIMIT in
    let seen = IsSeenIn-by_found need.0 0 DIGEST_LIMIT found need.1 need.2 hold_at
    (λ q. c.in_ok-holds.ensures q ∙ ap (find (λ (h : PlainHold). piece_eq h.piece q)) c.deref-2.ensures.value) in
    let zeros : c.in_ok-bytes.bytes.items ≡ replicate c.min.result 0 = search rules in
    let kept = ap length (c.deref_mut.ensures.value ∙ zeros) ∙ length-replicate c.min.result 0 in
    let len = seen.size in
    let least = c.min.ensures in
    let size : length c.deref_mut.result.now ≡ length marks = omega (arith, kept, len, least) in
    rw size
    (subst (AreFetchable hold_at (length marks)) (sym (c.deref-3.ensures.value ∙ c.in_ok-runs.ensures ∙ ap (joined_from 0) c.deref.ensures.value))
    (seen-fetchable marks 0 DIGEST_LIMIT hold_at found seen))

pub fetch_all-requires-clause-stand : goal.fetch_all-requires-clause-stand
fetch_all-requires-clause-stand g c =
    let need = c.requires.found in (
      need.3,
      found-stand need.0 0 DIGEST_LIMIT c.args.found.now need.1 need.2 (hold_of c.in_ok-holds.holds)
          (λ q. c.in_ok-holds.ensures q ∙ ap (find (λ (h : PlainHold). piece_eq h.piece q)) c.deref-2.ensures.value) need.3
          c.args.logs.now need.4,
      need.5,
    )

pub returns-clause-bytes : goal.returns-clause-bytes
returns-clause-bytes g c = λ s f file is stand.
    let found = c.args.found.now in
    let hold_at = hold_of c.in_ok-holds.holds in
    let among : (q : Piece) → hold_at q ≡ found_hold found q = λ q.
    c.in_ok-holds.ensures q ∙ ap (find (λ (h : PlainHold). piece_eq h.piece q)) c.deref-2.ensures.value in
    let marks = shown (marks_of_file f) 0 DIGEST_LIMIT in
    let seen = IsSeenIn-by_found f 0 DIGEST_LIMIT found file is hold_at among in
    let zeros : c.in_ok-bytes.bytes.items ≡ replicate c.min.result 0 = search rules in
    let kept : length c.fetch_all.new.bytes ≡ length c.in_ok-bytes.bytes.items = c.fetch_all.auto.bytes ∙ ap length c.deref_mut.ensures.value in
    let many = kept ∙ ap length zeros ∙ length-replicate c.min.result 0 in
    let len = seen.size in
    let least = c.min.ensures in
    let size : length c.fetch_all.new.bytes ≡ length marks = omega (arith, many, len, least) in
    with_items_is c.in_ok-bytes.bytes c.fetch_all.new.bytes (kept ∙ sym c.in_ok-bytes.bytes.ok.0)
    ∙ bytes-of_runs s marks c.deref-3.result.now c.fetch_all.new.bytes
    (c.deref-3.ensures.value ∙ c.in_ok-runs.ensures ∙ ap (joined_from 0) c.deref.ensures.value
    ∙ seen-runs marks 0 DIGEST_LIMIT hold_at found seen) size
    (c.fetch_all.ensures.bytes s (found-stand f 0 DIGEST_LIMIT found file is hold_at among s c.args.logs.now stand))
