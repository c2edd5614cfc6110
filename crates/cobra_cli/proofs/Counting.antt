-- Lines of counts, one behind the other, and the counts of what a formula is made from.
use Rattle.cobra_cli.proofs.Prelude.{◌≡◌, ℕ, suc, ◌+◌, ◌≤◌, Bool, true, false, cond, ◌||◌, List, [], ◌∷◌, ◌++◌, length, Option, None, Some, sym, ap, ◌∙◌, subst, arith, append_assoc, ClientSession, Anomaly, Log, anomaly_of, Cnf, Choice}
use Rattle.cobra_cli.proofs.Prelude.{chain_choices, Sides, open_from, log_of, Basis, plain_basis, IsReducedFormula, by_anomaly, by_cycle, by_pruning, by_choices, IsFormulaFrom, OpensNoMore}
use Rattle.pruning_laws.specs.declared.side.Side.TheVariants.{One, Two}

-- one piece more, behind those so far
pub joined : (o x y a b : List ℕ) → x ≡ o ++ a → y ≡ x ++ b → y ≡ o ++ (a ++ b)
joined o x y a b e f = f ∙ ap (λ l. l ++ b) e ∙ append_assoc o a b

-- ---- open choices are no more than all
open_few : (sides : Sides) (c : ℕ) (hs : List Choice) → length (open_from sides c hs) ≤ length hs
open_few sides c [] = omega arith
open_few sides c (h ∷ hs) = open_step (sides c One || sides c Two) h (open_from sides (c + 1) hs) hs (open_few sides (c + 1) hs)
  where
    open_step : (b : Bool) (h : Choice) (some all : List Choice) → length some ≤ length all → length (cond b some (h ∷ some)) ≤ suc (length all)
    open_step true h some all le = omega (arith, le)
    open_step false h some all le = omega (arith, le)

-- ---- so it is of what a formula is made from
more_in_plain : (o : Option Anomaly) (log : Log) → OpensNoMore (plain_basis o log)
more_in_plain None log = tt
more_in_plain (Some a) log = tt

more_in_reduced : (ss : List ClientSession) (b : Basis) (f : Cnf) → IsReducedFormula ss b f → OpensNoMore b
more_in_reduced ss b f (by_anomaly a e) = tt
more_in_reduced ss b f (by_cycle none line c) = tt
more_in_reduced ss b f (by_pruning c a d) = tt
more_in_reduced ss b f (by_choices c forced h a known r) = open_few forced 0 (chain_choices (log_of ss))

pub opens_no_more : (plain : Bool) (ss : List ClientSession) (b : Basis) (f : Cnf) → IsFormulaFrom plain ss b f → OpensNoMore b
opens_no_more true ss b f h = subst OpensNoMore (sym h.basis) (more_in_plain (anomaly_of (log_of ss)) (log_of ss))
opens_no_more false ss b f h = more_in_reduced ss b f h.formula
