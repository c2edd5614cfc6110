-- Clauses of which each is true by its number are satisfied, and so are those that they extend.
use Rattle.std.proofs.Common.{◌≡◌, ℕ, zero, suc, ◌<◌, ◌+◌, Bool, true, List, [], ◌∷◌, Option, None, Some, length, refl, arith}
use Rattle.serializability.specs.Formula.{clause_true}
use Rattle.serializability.specs.declared.literal.Literal.{Literal}
use Rattle.refutation.specs.Follows.{SatisfiesAll, IsRefuted}
use Rattle.refutation.specs.Numbered.{clause_at}
use Rattle.refutation.proofs.Units as units
use Rattle.watched_clauses.specs.Extends.{Extends}
use Rattle.clause_search.specs.Founds.{AreTrue, IsTrueAt, IsModel}

pub satisfied_by_numbers : (values : List Bool) (cs : List (Option (List Literal))) → ((k : ℕ) → k < length cs → (c : List Literal) → clause_at cs k ≡ Some c → clause_true values c ≡ true) → SatisfiesAll values cs
satisfied_by_numbers values [] h = tt
satisfied_by_numbers values (None ∷ cs) h = (refl, satisfied_by_numbers values cs (λ k less c e. h (suc k) (omega (arith, less)) c e))
satisfied_by_numbers values (Some d ∷ cs) h = (h zero (omega arith) d refl, satisfied_by_numbers values cs (λ k less c e. h (suc k) (omega (arith, less)) c e))

pub satisfied_before : (values : List Bool) (n : ℕ) (old new : List (Option (List Literal))) → n ≡ length old → Extends n old new → AreTrue n new values → SatisfiesAll values old
satisfied_before values n old new e x t = satisfied_by_numbers values old (λ k less c h. let within : k < n = omega (arith, e, less) in t.each k within c (x.stays k within c h))

pub refuted_before : (n : ℕ) (old new : List (Option (List Literal))) → Extends n old new → IsRefuted new → IsRefuted old
refuted_before n old new x r = units.refuted_before old new x.follows r

pub model_before : (variables n : ℕ) (values : List Bool) (old new : List (Option (List Literal))) → n ≡ length old → Extends n old new → length values ≡ variables → AreTrue n new values → IsModel variables old values
model_before variables n values old new e x l t = record { each_variable = l; each_clause = satisfied_before values n old new e x t }

pub none_true : (clauses : List (Option (List Literal))) (values : List Bool) → AreTrue 0 clauses values
none_true clauses values = record { each = λ k less. absurd (omega (arith, less)) }

pub true_more : (n : ℕ) (clauses : List (Option (List Literal))) (values : List Bool) → AreTrue n clauses values → IsTrueAt n clauses values → AreTrue (n + 1) clauses values
true_more n clauses values t h = record { each = λ k less c e. grind (arith, t.each k, h c) }
