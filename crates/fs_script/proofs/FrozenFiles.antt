-- After a lamination a legal journal has an unlink, since no other line is enabled on a frozen file.
use Rattle.fs_types.proofs.Common.{◌≡◌, ℕ, suc, true, false, not, List, [], ◌∷◌, ◌++◌, take, Option, Some, None, refl, sym, ap, ◌∙◌, subst}
use Rattle.fs_types.proofs.Common.{arith, cond-true, false≢true, slice_get_within, get_or_from_slice_get, if◌then◌else◌}
use Rattle.std.proofs.Math.Seq.{take-suc}
use Rattle.std.specs.List.{slice_get}
use Rattle.fs_types.specs.PlainFile.{File, is_frozen, is_open_to_change}
use Rattle.fs_script.specs.declared.line.Op.{Op}
use Rattle.fs_script.specs.declared.line.Op.TheVariants as ops
use Rattle.fs_script.specs.declared.line.OpLine.{OpLine}
use Rattle.fs_script.specs.Effect.{after_all, as_frozen, effect, effect_in, effect_of, is_enabled, makes, state, state_in, with_lines}
use Rattle.fs_script.specs.FrozenFiles.{OnlyAnUnlinkFollows}
use Rattle.fs_script.specs.Journal.{enabled_in}
use Rattle.fs_script.specs.Payload.{Cells, bytes_of}
use Rattle.fs_script.specs.Pending.{pending_at}
use Rattle.fs_script.specs.Vocabulary.{Answering, Job, op_at}
use Rattle.fs_script.proofs.States.{after_all-append}

-- ---- the next version of a journal

-- is this one with the effect of the line that stands there
pub state_in-next : {X : Type 0} (s : Job) (c : Cells X) (A : Answering) (J : List ℕ) (k m : ℕ) → slice_get J k ≡ Some m
    → state_in s c A J (suc k) ≡ effect s c A m (state_in s c A J k)
state_in-next s c A J k m is =
    ap (λ K. after_all s c A K None)
    (take-suc J k 0 (slice_get_within J k m is) ∙ ap (λ n. take k J ++ n ∷ []) (get_or_from_slice_get J k m 0 is))
    ∙ after_all-append s c A (take k J) (m ∷ []) None

-- ---- frozen files

-- only an unlink is enabled on one
unlinks : (op : Op) (f : File ℕ) → is_frozen f ≡ true → is_enabled op f ≡ true → op ≡ ops.Unlink
unlinks op None frozen enabled = absurd (false≢true frozen)
unlinks ops.Create (Some f) frozen enabled = absurd (false≢true enabled)
unlinks ops.Open (Some f) frozen enabled = absurd (false≢true enabled)
unlinks (ops.Write off text) (Some f) frozen enabled = absurd (false≢true enabled)
unlinks ops.Sync (Some f) frozen enabled = absurd (false≢true (ap not (sym frozen) ∙ enabled))
unlinks (ops.Read off len own) (Some f) frozen enabled = absurd (false≢true enabled)
unlinks ops.Size (Some f) frozen enabled = absurd (false≢true enabled)
unlinks (ops.Trunc n) (Some f) frozen enabled = absurd (false≢true (ap not (sym frozen) ∙ enabled))
unlinks ops.Laminate (Some f) frozen enabled = absurd (false≢true (ap not (sym frozen) ∙ enabled))
unlinks ops.Unlink (Some f) frozen enabled = refl

-- a lamination that is enabled leaves one
laminated-frozen : (s : Job) (c : Cells ℕ) (q : List ℕ) (f : File ℕ) → is_enabled ops.Laminate f ≡ true
    → is_frozen (effect_of s c ops.Laminate q f) ≡ true
laminated-frozen s c q None enabled = absurd (false≢true enabled)
laminated-frozen s c q (Some f) enabled =
    ap is_frozen (cond-true (not f.frozen) (makes s c ops.Laminate q (Some f)) (Some f) enabled)

module _ (s : Job) (A : Answering) (J : List ℕ) (k m : ℕ) (o : OpLine) (is : op_at s m ≡ Some o) (laminates : o.op ≡ ops.Laminate)
    (there : slice_get J k ≡ Some m) (enabled : enabled_in (op_at s m) (λ op. is_enabled op (state s A J k)) ≡ true) where
  frozen-after : is_frozen (state s A J (suc k)) ≡ true
  frozen-after =
      let f = state s A J k in
      ap is_frozen (state_in-next s (bytes_of s) A J k m there ∙ ap (λ l. effect_in s (bytes_of s) l (pending_at s A m) f) is
      ∙ ap (λ op. effect_of s (bytes_of s) op (pending_at s A m) f) laminates)
      ∙ laminated-frozen s (bytes_of s) (pending_at s A m) f
      (ap (λ op. is_enabled op f) (sym laminates) ∙ ap (λ l. enabled_in l (λ op. is_enabled op f)) (sym is) ∙ enabled)

pub only_unlinks : OnlyAnUnlinkFollows
only_unlinks s A p J k m n o next legal at is laminates after is_next =
    unlinks next.op (state s A J (suc k)) (frozen-after s A J k m o is laminates at (legal.entries k m at).enabled)
    (ap (λ l. enabled_in l (λ op. is_enabled op (state s A J (suc k)))) (sym is_next) ∙ (legal.entries (suc k) n after).enabled)
