-- Clauses extend themselves; so do they with one that follows too, or without one behind the first n; and what extends an extension.
use Rattle.std.proofs.Common.{◌≡◌, ℕ, zero, suc, ◌<◌, ◌≤◌, ◌++◌, ◌∷◌, [], List, Option, None, Some, slice_set, subst, sym, arith}
use Rattle.serializability.specs.declared.literal.Literal.{Literal}
use Rattle.refutation.specs.Follows.{Entails}
use Rattle.refutation.specs.Numbered.{clause_at}
use Rattle.refutation.proofs.Units.{entails_same, entails_then}
use Rattle.watched_clauses.specs.Extends.{Extends}

pub extends_same : (n : ℕ) (old new : List (Option (List Literal))) → new ≡ old → Extends n old new
extends_same n old new e = record {
  follows = entails_same old new e;
  stays = λ k _ c h. subst (λ cs. clause_at cs k ≡ Some c) (sym e) h;
}

pub extends_then : (n : ℕ) (a b c : List (Option (List Literal))) → Extends n a b → Extends n b c → Extends n a c
extends_then n a b c ab bc = record {
  follows = entails_then a b c ab.follows bc.follows;
  stays = λ k less d h. bc.stays k less d (ab.stays k less d h);
}

at_added : (old : List (Option (List Literal))) (o : Option (List Literal)) (k : ℕ) (c : List Literal) → clause_at old k ≡ Some c → clause_at (old ++ o ∷ []) k ≡ Some c
at_added [] o k c h = cc
at_added (d ∷ cs) o zero c h = h
at_added (d ∷ cs) o (suc k) c h = at_added cs o k c h

pub extends_added : (n : ℕ) (old new : List (Option (List Literal))) (step : List Literal) → Entails old new → new ≡ old ++ Some step ∷ [] → Extends n old new
extends_added n old new step follows e = record {
  follows = follows;
  stays = λ k _ c h. subst (λ cs. clause_at cs k ≡ Some c) (sym e) (at_added old (Some step) k c h);
}

at_other : (old : List (Option (List Literal))) (i k : ℕ) (c : List Literal) → k < i → clause_at old k ≡ Some c → clause_at (slice_set old i None) k ≡ Some c
at_other [] i k c less h = cc
at_other (d ∷ cs) zero k c less h = absurd (omega (arith, less))
at_other (d ∷ cs) (suc i) zero c less h = h
at_other (d ∷ cs) (suc i) (suc k) c less h = at_other cs i k c (omega (arith, less)) h

pub extends_without : (n i : ℕ) (old new : List (Option (List Literal))) → Entails old new → n ≤ i → new ≡ slice_set old i None → Extends n old new
extends_without n i old new follows behind e = record {
  follows = follows;
  stays = λ k less c h. subst (λ cs. clause_at cs k ≡ Some c) (sym e) (at_other old i k c (omega (arith, less, behind)) h);
}
