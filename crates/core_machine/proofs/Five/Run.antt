-- The run of the script of five lines is one that the law speaks of, and so its report is legal.
use Rattle.fs_types.proofs.Common.{◌≡◌, ℕ, replicate, zero, suc, List, [], ◌∷◌, Some, Contains, refl, sym, ap, ◌∙◌, subst, arith, none-some}
use Rattle.fs_types.proofs.Common.{same_Some}
use Rattle.fs_script.specs.Vocabulary.{op_at, ArePaths, IsLegal}
use Rattle.core_machine.specs.Vocabulary.{OpLine, IsFirst, Moment, ready, report_of, step, Turn, CanRun, Reaches}
use Rattle.fs_script.proofs.CallerLemmas.{five_lines, path_a, on_a}
use Rattle.core_machine.proofs.Five.FiveEvents.{start, created, wrote, synced, looked_up, fetched, ended, turn, create_is, write_is}
use Rattle.core_machine.proofs.Five.FiveEvents.{sync_is, lookup_is, fetch_is, finish_is}
use Rattle.core_machine.proofs.Legal.Runs.{runs-legal}

-- every operation is the one client's, on the one path
each_on_a : (n : ℕ) (o : OpLine) → op_at five_lines n ≡ Some o → o ≡ on_a o.op
each_on_a zero o is = absurd (none-some o is)
each_on_a (suc zero) o is = absurd (none-some o is)
each_on_a (suc (suc zero)) o is = let e = same_Some _ o is in cc
each_on_a (suc (suc (suc zero))) o is = let e = same_Some _ o is in cc
each_on_a (suc (suc (suc (suc zero)))) o is = let e = same_Some _ o is in cc
each_on_a (suc (suc (suc (suc (suc zero))))) o is = let e = same_Some _ o is in cc
each_on_a (suc (suc (suc (suc (suc (suc n)))))) o is = absurd (none-some o is)

five_can_run : CanRun five_lines
five_can_run = record {
  clients = λ n o is. (let first = ap (λ l. l.rank) (each_on_a n o is) in omega arith);
  chunk = omega arith;
}

one_path : (p : List ℕ) → Contains (path_a ∷ []) p → p ≡ path_a
one_path p (zero, within, is) = sym is
one_path p (suc k, within, is) = absurd (omega arith)

five_paths : ArePaths five_lines (path_a ∷ [])
five_paths = record {
  rising = (tt, tt);
  named = λ p has. record { line = 2; op = _; is = refl; on = sym (one_path p has) };
  each = λ p names.
      let on = ap (λ o. o.path) (each_on_a names.line names.op names.is) in
      subst (Contains (path_a ∷ [])) (sym on ∙ names.on) (0, omega arith, refl);
}

five_first : IsFirst five_lines start
five_first = record {
  job = refl;
  clients = refl;
  answers = refl;
  paths = five_paths;
  journals = (refl, tt);
  logs = refl;
  spent = refl;
}

-- so many turns of the one client
abbrev turns : ℕ → List Turn
turns k = replicate k turn

-- one turn more before a run to the end, from a moment where that client is ready
before_run : (m n : Moment) (k : ℕ) → ready m ≡ 0 ∷ [] → step m turn ≡ n → Reaches n (turns k) ended → Reaches m (turn ∷ turns k) ended
before_run m n k is made rest =
    (subst (λ rs. Contains rs 0) (sym is) (0, omega arith, refl), subst (λ x. Reaches x (turns k) ended) (sym made) rest)

five_run : Reaches start (turns 6) ended
five_run =
    before_run start created 5 refl create_is (before_run created wrote 4 refl write_is (before_run wrote synced 3 refl sync_is
    (before_run synced looked_up 2 refl lookup_is (before_run looked_up fetched 1 refl fetch_is
    (before_run fetched ended 0 refl finish_is refl)))))

five_report_is_legal : IsLegal five_lines (report_of ended) []
five_report_is_legal = runs-legal [] five_lines start ended (turns 6) five_can_run five_first five_run refl
