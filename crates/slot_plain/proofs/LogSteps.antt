-- What the calls of a log do to its table and its device, and to the log that a clause sees.
use Rattle.std.proofs.Common.{◌≡◌, ◌≢◌, ℕ, ◌+◌, ◌-◌, ◌≤◌, ◌<◌, nat_lt, Bool, true, false, List, Option, Some, None, IfSome, IsSomeAnd}
use Rattle.std.proofs.Common.{if◌then◌else◌, length, set, slice_range, arith, sym, ◌∙◌, ap, refl, inl, inr, subst}
use Rattle.std.specs.Option.{option_map, ForSome}
use Rattle.std.proofs.lemmas.Bool.{cases_lt, ltb-true, ltb-false}
use Rattle.fs_types.specs.Pieces.{Piece}
use Rattle.fs_types.specs.Faults.{HasRisen, next_count}
use Rattle.fs_dev.specs.SpillDev.{Wrote, LeftOpen, WasWritten, HoldsAt}
use Rattle.slot_plain.specs.Slots.{StoredPiece, Slot, free_slot, pinned, released, filled, slot_at, free_slots, held_count, with_taken}
use Rattle.slot_plain.specs.Slots.{bytes_of_slot, HasPieceOf}
use Rattle.slot_plain.specs.Entries.{Table}
use Rattle.slot_plain.specs.Log.{DeviceState, Log, spill_place, bytes_from, told_piece, told_slot, told_slots, log_of, Backs}
use Rattle.slot_plain.specs.Log.{Fills, FailsToFill}
use Rattle.slot_plain.proofs.TableSteps.{with_slot}
use Rattle.slot_plain.proofs.Cells.{LeftOpen-other, Wrote-same, Wrote-LeftOpen, WasWritten-part, HoldsAt-part}
use Rattle.slot_plain.proofs.Logs.{slot_at-told, told-set, told-with_taken, free_slots-told, held_count-told, told-released}
use Rattle.slot_plain.proofs.Logs.{told-in_memory, told-spilled, told-alike, ranges_apart, place_within, Backs-set, Backs-with_taken}
use Rattle.slot_plain.proofs.Logs.{every_told, held-within, piece-within}

-- the log with other slots
abbrev pub with_slots : Log → List Slot → Log
with_slots log slots = record log { slots = slots }

none_mapped : {X Y : Type 0} (o : Option X) (f : X → Y) → option_map f o ≡ None → o ≡ None
none_mapped None f is = refl
none_mapped (Some x) f is = cc

mapped_alike : {X Y : Type 0} (o : Option X) (f g : X → Y) → ((x : X) → o ≡ Some x → f x ≡ g x) → option_map f o ≡ option_map g o
mapped_alike None f g alike = refl
mapped_alike (Some x) f g alike = ap Some (alike x refl)

-- a piece of so many bytes, where the slot is told to have one
told_len : (b : Bool) (p other : StoredPiece) → other.len ≡ p.len → (if b then p else other).len ≡ p.len
told_len true p other same = refl
told_len false p other same = same

some_piece : (shmem chunk : ℕ) (cells : Option (List (Option ℕ))) (n : ℕ) (o : Option StoredPiece) (len : ℕ)
    → IsSomeAnd (option_map (told_piece shmem chunk cells n) o) (λ p. len ≤ p.len)
    → (p : StoredPiece) × (o ≡ Some p) × (len ≤ p.len)
some_piece shmem chunk cells n None len has = absurd has
some_piece shmem chunk cells n (Some p) len has =
    let same = told_len (nat_lt n shmem) p (record p { bytes = bytes_from (spill_place shmem chunk n) p.len cells }) refl in
    (p, refl, omega (arith, has, same))

released_piece : (b : Bool) (s : Slot) (p : StoredPiece)
    → (if b then free_slot else record { count = s.count - 1; piece = s.piece }).piece ≡ Some p → s.piece ≡ Some p
released_piece true s p at = cc
released_piece false s p at = at

module _ {t : Table} {device : DeviceState} (backs : Backs t device) where
  -- a slot that has no other piece than it had
  kept_backs : (n : ℕ) {now : Table} (s : Slot) → now ≡ with_slot t n s
      → ((p : StoredPiece) → s.piece ≡ Some p → (slot_at t.slots n).piece ≡ Some p) → Backs now device
  kept_backs n s does kept =
      rw does (Backs-set t device n s backs (λ p at. (backs.fits n p (kept p at), λ le. backs.written n p le (kept p at))))

  pub pinned_backs : (n : ℕ) {now : Table} → now ≡ with_slot t n (pinned (slot_at t.slots n)) → Backs now device
  pinned_backs n does = kept_backs n _ does (λ p at. at)

  pub released_backs : (n : ℕ) {now : Table} → now ≡ with_slot t n (released (slot_at t.slots n)) → Backs now device
  released_backs n does = kept_backs n _ does (released_piece _ (slot_at t.slots n))

  pub taken_backs : (numbers : List ℕ) {made : ℕ} {now : Table}
      → now ≡ record { shmem = t.shmem; chunk = t.chunk; made = made; slots = with_taken numbers t.slots } → Backs now device
  taken_backs numbers {made} does = rw does (Backs-with_taken t device made numbers backs)

  module _ {rank faults : ℕ} {log : Log} (is : log_of rank t device faults ≡ log) where
    slot_is : (n : ℕ) → slot_at log.slots n ≡ told_slot t.shmem t.chunk device.cells n (slot_at t.slots n)
    slot_is n = rw (← is) (slot_at-told t.shmem t.chunk device.cells t.slots n)

    pub count_is : (n : ℕ) → (slot_at t.slots n).count ≡ (slot_at log.slots n).count
    count_is n = sym (ap (λ (s : Slot). s.count) (slot_is n))

    pub held_is : (n : ℕ) → 0 < (slot_at log.slots n).count → 0 < (slot_at t.slots n).count
    held_is n held = omega (arith, count_is n, held)

    pub free_is : free_slots t.slots ≡ free_slots log.slots
    free_is = rw (← is) (sym (free_slots-told t.shmem t.chunk device.cells t.slots))

    pub held_count_is : held_count t.slots ≡ held_count log.slots
    held_count_is = rw (← is) (sym (held_count-told t.shmem t.chunk device.cells t.slots))

    -- a slot that is changed
    changed : (n : ℕ) {now : Table} (s s' : Slot) → now ≡ with_slot t n s → told_slot t.shmem t.chunk device.cells n s ≡ s'
        → log_of rank now device faults ≡ with_slots log (set log.slots n s')
    changed n s s' does told = rw (does, ← is) (let h = told-set t.shmem t.chunk device.cells t.slots n s in cc)

    pub pinned_log : (n : ℕ) {now : Table} → now ≡ with_slot t n (pinned (slot_at t.slots n))
        → log_of rank now device faults ≡ with_slots log (set log.slots n (pinned (slot_at log.slots n)))
    pinned_log n does = changed n _ _ does (ap pinned (sym (slot_is n)))

    pub released_log : (n : ℕ) {now : Table} → now ≡ with_slot t n (released (slot_at t.slots n))
        → log_of rank now device faults ≡ with_slots log (set log.slots n (released (slot_at log.slots n)))
    released_log n does =
        changed n _ _ does (told-released t.shmem t.chunk device.cells n (slot_at t.slots n) ∙ ap released (sym (slot_is n)))

    pub taken_log : (numbers : List ℕ) {made : ℕ} {now : Table}
        → now ≡ record { shmem = t.shmem; chunk = t.chunk; made = made; slots = with_taken numbers t.slots }
        → log_of rank now device faults ≡ with_slots log (with_taken numbers log.slots)
    taken_log numbers does = rw (does, ← is) (let h = told-with_taken t.shmem t.chunk device.cells numbers t.slots in cc)

    -- ---- a slot that is filled

    module _ (n : ℕ) (text : List ℕ) (fits : length text ≤ log.chunk) {in_memory : Bool} (test : in_memory ≡ nat_lt n t.shmem) where
      fits_table : length text ≤ t.chunk
      fits_table = let c = ap (λ (l : Log). l.chunk) is in omega (arith, c, fits)

      -- in shared memory
      module _ (id : Piece) {now : Table} (shared : in_memory ≡ true)
          (does : now ≡ with_slot t n (filled (record { id = id; len = length text; bytes = Some text }) (slot_at t.slots n))) where
        pub filled_backs : Backs now device
        filled_backs =
            let lt = ltb-true n t.shmem (sym test ∙ shared) in
            let piece : StoredPiece = record { id = id; len = length text; bytes = Some text } in
            rw does (Backs-set t device n (filled piece (slot_at t.slots n)) backs
            (λ p at. let same : piece ≡ p = cc in rw (← same) (fits_table, λ le. absurd (omega (arith, lt, le)))))

        pub filled_log : Fills n id text log (log_of rank now device faults)
        filled_log =
            let here : nat_lt n t.shmem ≡ true = sym test ∙ shared in
            let lt = ltb-true n t.shmem here in
            let s = filled (record { id = id; len = length text; bytes = Some text }) (slot_at t.slots n) in
            let set_slot = told-set t.shmem t.chunk device.cells t.slots n s in
            let told = told-in_memory t.shmem t.chunk device.cells n s lt in
            let was = slot_at-told t.shmem t.chunk device.cells t.slots n
            ∙ told-in_memory t.shmem t.chunk device.cells n (slot_at t.slots n) lt in
            rw (does, ← is) (record { slots = rw here cc; device = rw here refl; rest = refl })

      -- behind shared memory
      module _ (no : in_memory ≡ false) (whole : IfSome device.cells (λ held. length held ≡ device.size))
          (taken : 0 < (slot_at log.slots n).count) (unfilled : (slot_at log.slots n).piece ≡ None)
          {at : ℕ} (place : at ≡ spill_place t.shmem t.chunk n + 0) where
        behind : t.shmem ≤ n
        behind = ltb-false n t.shmem (sym test ∙ no)

        at_is : at ≡ spill_place t.shmem t.chunk n
        at_is = omega (arith, place)

        pub write_inside : at + length text ≤ device.size
        write_inside =
            omega (arith, at_is, place_within t device n (length text) backs (held-within t.slots n (held_is n taken)) behind fits_table)

        room : ForSome device.cells (λ held. at + length text ≤ length held)
        room held told =
            let size = every_told device.cells (λ cells. length cells ≡ device.size) whole held told in
            omega (arith, write_inside, size)

        no_piece : (slot_at t.slots n).piece ≡ None
        no_piece =
            none_mapped (slot_at t.slots n).piece (told_piece t.shmem t.chunk device.cells n)
            (ap (λ (s : Slot). s.piece) (sym (slot_is n)) ∙ unfilled)

        module _ (device' : DeviceState) (size : device'.size ≡ device.size) where
          module _ (left : LeftOpen at (length text) device.cells device'.cells) where
            -- each other piece is left as it was
            piece_kept : (m : ℕ) (p : StoredPiece) → t.shmem ≤ m → (slot_at t.slots m).piece ≡ Some p
                → (bytes_from (spill_place t.shmem t.chunk m) p.len device'.cells
                ≡ bytes_from (spill_place t.shmem t.chunk m) p.len device.cells)
                × (WasWritten (spill_place t.shmem t.chunk m) p.len device.cells
                → WasWritten (spill_place t.shmem t.chunk m) p.len device'.cells)
            piece_kept m p le is_at =
                let le_n = behind in
                let other : m - t.shmem ≢ n - t.shmem = λ e.
                let same : m ≡ n = omega arith in
                let here = ap (λ k. (slot_at t.slots k).piece) same in let none = no_piece in cc in
                LeftOpen-other at (length text) (spill_place t.shmem t.chunk m) p.len device.cells device'.cells room
                (rw at_is (ranges_apart (m - t.shmem) (n - t.shmem) t.chunk p.len (length text) other (backs.fits m p is_at) fits_table))
                left

            pub left_backs : Backs t device'
            left_backs = record {
              room = let room = backs.room in omega (arith, room, size);
              fits = backs.fits;
              written = λ m p le is_at. (piece_kept m p le is_at).1 (backs.written m p le is_at);
            }

            slots_kept : told_slots t.shmem t.chunk device'.cells 0 t.slots ≡ told_slots t.shmem t.chunk device.cells 0 t.slots
            slots_kept = told-alike t.shmem t.chunk device'.cells device.cells t.slots (λ m. elim (cases_lt m t.shmem) [
              | inl lt ↦
                  told-in_memory t.shmem t.chunk device'.cells m (slot_at t.slots m) lt
                  ∙ sym (told-in_memory t.shmem t.chunk device.cells m (slot_at t.slots m) lt)
              | inr le ↦
                  ap (λ o. record { count = (slot_at t.slots m).count; piece = o })
                  (mapped_alike (slot_at t.slots m).piece _ _ (λ p is_at.
                  told-spilled t.shmem t.chunk device'.cells m p le
                  ∙ ap (λ bytes. record p { bytes = bytes }) (piece_kept m p le is_at).0
                  ∙ sym (told-spilled t.shmem t.chunk device.cells m p le)))
            ])

            -- the write failed
            pub unfilled_log : {faults' : ℕ} → HasRisen device.faults device'.faults → faults' ≡ next_count faults
                → FailsToFill n (length text) log (log_of rank t device' faults')
            unfilled_log risen raised =
                rw (raised, ← is) (record {
                  spilled = behind;
                  range = rw (← at_is) left;
                  size = size;
                  risen = risen;
                  rest = let kept = slots_kept in cc;
                })

          -- the write went well
          module _ (id : Piece) {now : Table} (other : List ℕ) (calm : device'.faults ≡ device.faults)
              (wrote : Wrote at text device.cells device'.cells)
              (does : now ≡ with_slot t n (filled (record { id = id; len = length text; bytes = Some other }) (slot_at t.slots n))) where
            there : (bytes_from (spill_place t.shmem t.chunk n) (length text) device'.cells ≡ option_map (λ _. text) device.cells)
                × WasWritten (spill_place t.shmem t.chunk n) (length text) device'.cells
            there = rw (← at_is) (Wrote-same at text device.cells device'.cells room wrote)

            left_open : LeftOpen at (length text) device.cells device'.cells
            left_open = Wrote-LeftOpen at text device.cells device'.cells wrote

            pub wrote_backs : Backs now device'
            wrote_backs =
                let piece : StoredPiece = record { id = id; len = length text; bytes = Some other } in
                rw does (Backs-set t device' n (filled piece (slot_at t.slots n)) (left_backs left_open)
                (λ p is_at. let same : piece ≡ p = cc in rw (← same) (fits_table, λ le. there.1)))

            pub wrote_log : Fills n id text log (log_of rank now device' faults)
            wrote_log =
                let out : nat_lt n t.shmem ≡ false = sym test ∙ no in
                let s = filled (record { id = id; len = length text; bytes = Some other }) (slot_at t.slots n) in
                let set_slot = told-set t.shmem t.chunk device'.cells t.slots n s in
                let kept = slots_kept left_open in
                let was = slot_at-told t.shmem t.chunk device.cells t.slots n in
                let now_told = there.0 in
                rw (does, ← is) (record {
                  slots = set_slot ∙ ap (λ xs. set xs n (told_slot t.shmem t.chunk device'.cells n s)) kept
                      ∙ rw (was, out, now_told) refl;
                  device = rw (out, ← at_is) (record { bytes = wrote; rest = rw (← size, ← calm) refl });
                  rest = refl;
                })

    -- ---- a piece that is read

    module _ (n from size : ℕ) (inside : HasPieceOf (slot_at log.slots n) (from + size)) where
      the_piece : (p : StoredPiece) × ((slot_at t.slots n).piece ≡ Some p) × (from + size ≤ p.len)
      the_piece =
          some_piece t.shmem t.chunk device.cells n (slot_at t.slots n).piece (from + size)
          (subst (λ (s : Slot). HasPieceOf s (from + size)) (slot_is n) inside)

      pub inside_table : HasPieceOf (slot_at t.slots n) (from + size)
      inside_table = rw the_piece.1 the_piece.2

      module _ {in_memory : Bool} (test : in_memory ≡ nat_lt n t.shmem) where
        -- from shared memory
        pub read_log : (out : List ℕ) → in_memory ≡ true
            → IfSome (bytes_of_slot (slot_at t.slots n)) (λ bytes. out ≡ slice_range bytes from (from + size))
            → IfSome (bytes_of_slot (slot_at log.slots n)) (λ bytes. out ≡ slice_range bytes from (from + size))
        read_log out shared given =
            let told = told-in_memory t.shmem t.chunk device.cells n (slot_at t.slots n) (ltb-true n t.shmem (sym test ∙ shared)) in
            rw (slot_is n ∙ told) given

        -- from the device
        module _ (no : in_memory ≡ false) {at : ℕ} (place : at ≡ spill_place t.shmem t.chunk n + from) where
          spilled : t.shmem ≤ n
          spilled = ltb-false n t.shmem (sym test ∙ no)

          pub read_inside : at + size ≤ device.size
          read_inside =
              let p = the_piece in
              let within = place_within t device n p.0.len backs (piece-within t.slots n p.0 p.1) spilled (backs.fits n p.0 p.1) in
              omega (arith, within, p.2, place)

          pub read_written : WasWritten at size device.cells
          read_written =
              let p = the_piece in
              rw place (WasWritten-part (spill_place t.shmem t.chunk n) p.0.len from size device.cells p.2
              (backs.written n p.0 spilled p.1))

          pub read_given : (out : List ℕ) → length out ≡ size → HoldsAt at out device.cells
              → IfSome (bytes_of_slot (slot_at log.slots n)) (λ bytes. out ≡ slice_range bytes from (from + size))
          read_given out whole holds =
              let p = the_piece in
              rw (slot_is n, p.1, told-spilled t.shmem t.chunk device.cells n p.0 spilled)
              (subst (λ (m : ℕ). IfSome (bytes_from (spill_place t.shmem t.chunk n) p.0.len device.cells)
              (λ bytes. out ≡ slice_range bytes from (from + m))) whole
              (HoldsAt-part (spill_place t.shmem t.chunk n) p.0.len from out device.cells (omega (arith, p.2, whole))
              (subst (λ (k : ℕ). HoldsAt k out device.cells) place holds)))
