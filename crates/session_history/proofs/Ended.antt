-- The operations of the transactions that ended in one way.
use Rattle.session_history.proofs.Prelude.{◌≡◌, Bool, true, false, cond, List, [], refl, ap, subst, ◌∙◌, AllByRecursion, false≢true, Transaction, Op, Outcome, Commit, Abort, Unknown, each_of_flat_map, each_from_flat_map, each_weaker}
use Rattle.session_history.proofs.Prelude.{same_outcome, has_ended, ops_ended}

ended_is : (a b : Outcome) → same_outcome a b ≡ true → a ≡ b
ended_is Commit Commit e = refl
ended_is Commit Abort e = absurd (false≢true e)
ended_is Commit Unknown e = absurd (false≢true e)
ended_is Abort Commit e = absurd (false≢true e)
ended_is Abort Abort e = refl
ended_is Abort Unknown e = absurd (false≢true e)
ended_is Unknown Commit e = absurd (false≢true e)
ended_is Unknown Abort e = absurd (false≢true e)
ended_is Unknown Unknown e = refl

itself : (a : Outcome) → same_outcome a a ≡ true
itself Commit = refl
itself Abort = refl
itself Unknown = refl

-- what holds of each of their operations, by transaction
abbrev pub EachEnded : (Op → Type 0) → Outcome → List Transaction → Type 0
EachEnded P o ts = AllByRecursion (λ t. t.outcome ≡ o → AllByRecursion P t.ops) ts

pub each_of_ended : (P : Op → Type 0) (o : Outcome) (ts : List Transaction) → AllByRecursion P (ops_ended o ts) → EachEnded P o ts
each_of_ended P o ts h = each_weaker _ _ (λ t k. own t k) ts (each_of_flat_map P (λ (t : Transaction). cond (has_ended o t) t.ops []) ts h)
  where
    own : (t : Transaction) → AllByRecursion P (cond (has_ended o t) t.ops []) → t.outcome ≡ o → AllByRecursion P t.ops
    own t k e = let Q : Bool → Type 0 = λ b. AllByRecursion P (cond b t.ops []) in subst Q (ap (λ p. same_outcome p o) e ∙ itself o) k

pub each_from_ended : (P : Op → Type 0) (o : Outcome) (ts : List Transaction) → EachEnded P o ts → AllByRecursion P (ops_ended o ts)
each_from_ended P o ts h = each_from_flat_map P (λ (t : Transaction). cond (has_ended o t) t.ops []) ts (each_weaker _ _ (λ t k. own t k) ts h)
  where
    own : (t : Transaction) → (t.outcome ≡ o → AllByRecursion P t.ops) → AllByRecursion P (cond (has_ended o t) t.ops [])
    own t k = go (has_ended o t) (ended_is t.outcome o)
      where
        go : (b : Bool) → (b ≡ true → t.outcome ≡ o) → AllByRecursion P (cond b t.ops [])
        go true e = k (e refl)
        go false e = tt
