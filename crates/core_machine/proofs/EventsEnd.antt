-- An event that brings its line to its end, put together of its answer, of what is kept after it, and of the logs.
use Rattle.fs_types.proofs.Common.{◌≡◌, ℕ, Bool, false, true≢false, List, Some, None, is_some, refl, sym, ap, ◌∙◌, subst}
use Rattle.slot_plain.specs.Log.{Log}
use Rattle.fs_types.specs.declared.answer.Answer.{Answer}
use Rattle.fs_script.specs.Vocabulary.{Job, asked}
use Rattle.fs_script.specs.declared.line.Op.{Op}
use Rattle.core_machine.specs.ClientPath.{ClientPath}
use Rattle.core_machine.specs.Kept.{AreSound, OwnedPath}
use Rattle.core_machine.specs.declared.task.Task.{Task}
use Rattle.core_machine.specs.declared.task.Task.TheVariants.{Idle, Read}
use Rattle.core_machine.specs.Event.{Event}
use Rattle.core_machine.specs.Follows.{Ends, EndsLine, EndsQuietly, EventFollows, EventKept, EventSound, Follows, IsWhole, LogsSettle}
use Rattle.core_machine.specs.Follows.{MayBeIn, free_in, kept_event}
use Rattle.core_machine.proofs.LetGo.{idle_kept, settle-same}

-- what is kept, with a client in the midst of this
abbrev pub kept_in : Task → OwnedPath → ClientPath → List Log → EventKept
kept_in t x k logs = record { owned = x; client = k; task = t; logs = logs }

module _ (s : Job) (n : ℕ) (op : Op) (r : ℕ) (x : OwnedPath) (k : ClientPath) (logs : List Log) where
  module _ (y : OwnedPath) (l : ClientPath) (a : Answer) where
    abbrev event : Event
    event = kept_event s x k (free_in logs r) Idle op

    pub event-ends : (fills : Bool) (new : List Log) → Ends event fills a → Follows s n op Idle event x k y l a
        → LogsSettle s n r fills (idle_kept x k logs) (idle_kept y l new)
        → EventFollows s n op r (idle_kept x k logs) (idle_kept y l new) (Some a)
    event-ends fills new ends follows settles = record {
      event = event;
      is = refl;
      answer = ends.answer;
      doing = ends.doing;
      attr = tt;
      kept = follows;
      settles = subst (λ b. LogsSettle s n r b (idle_kept x k logs) (idle_kept y l new)) (sym ends.filling) settles;
    }

    -- an event that puts nothing into slots
    pub event-line : (new : List Log) → EndsLine s n op x k logs y l new a
        → EventFollows s n op r (idle_kept x k logs) (idle_kept y l new) (Some a)
    event-line new line = event-ends false new (line.ends (free_in logs r)) (line.follows (free_in logs r)) (line.logs r)

    -- and one that lets no hold go either
    pub event-quiet : EventSound s n op r (idle_kept x k logs) → EndsQuietly s n op x k y l a
        → EventFollows s n op r (idle_kept x k logs) (idle_kept y l logs) (Some a)
    event-quiet sound quiet =
        event-ends false logs (quiet.ends (free_in logs r)) (quiet.follows (free_in logs r))
        (settle-same s n r x y k l logs quiet.holds sound.stand sound.held)

  -- before an event of an operation that isn't a read, its client is in the midst of nothing
  module _ (t : Task) (none : asked op ≡ None) (sound : EventSound s n op r (kept_in t x k logs)) where
    is_idle : t ≡ Idle
    is_idle = by t sound.whole.midst
      where
        by : (u : Task) → MayBeIn op u → u ≡ Idle
        by Idle may = refl
        by (Read u) may = absurd (true≢false (sym may ∙ ap is_some none))

    pub sound-idle : EventSound s n op r (idle_kept x k logs)
    sound-idle = subst (λ u. EventSound s n op r (kept_in u x k logs)) is_idle sound

    module _ (y : OwnedPath) (l : ClientPath) (a : Answer) where
      pub event-idle : (new : List Log) → EventFollows s n op r (idle_kept x k logs) (idle_kept y l new) (Some a)
          → EventFollows s n op r (kept_in t x k logs) (kept_in t y l new) (Some a)
      event-idle new follows =
          subst (λ u. EventFollows s n op r (kept_in u x k logs) (kept_in u y l new) (Some a)) (sym is_idle) follows

      pub follows-line : (new : List Log) → EndsLine s n op x k logs y l new a
          → EventFollows s n op r (kept_in t x k logs) (kept_in t y l new) (Some a)
      follows-line new line = event-idle new (event-line y l a new line)

      pub follows-quiet : EndsQuietly s n op x k y l a → EventFollows s n op r (kept_in t x k logs) (kept_in t y l logs) (Some a)
      follows-quiet quiet = event-idle logs (event-quiet y l a sound-idle quiet)

      -- what is kept stays whole
      pub whole-then : (new : List Log) → AreSound s y l → IsWhole s op (kept_in t y l new)
      whole-then new kept = record { sound = kept; task = sound.whole.task; midst = sound.whole.midst }
