-- The anomalies of a transaction, one operation at a time.
use Rattle.census.proofs.Prelude.{◌≡◌, ℕ, ◌+◌, ◌<◌, List, ◌∷◌, ◌++◌, append_assoc, length, take, get_or, sym, ap, ◌∙◌, drop, take-append-drop, front_more, get_drop, item, ClientSession, key_of, Op, ReadAnomaly, fault_at, faults_behind}
use Rattle.census.proofs.Prelude.{with_key}

abbrev pub Faults : Type 0
Faults = List (ReadAnomaly × List ℕ)

-- what is told is what is wrong with the operations up to here
pub told_more : (ss : List ClientSession) (ops : List Op) (i : ℕ) (op : Op) (all old new : Faults) → i < length ops → op ≡ get_or ops i op
    → old ++ faults_behind ss (take i ops) (drop i ops) ≡ all
    → new ≡ old ++ with_key (fault_at ss (take i ops) op (drop (i + 1) ops)) (key_of op)
    → new ++ faults_behind ss (take (i + 1) ops) (drop (i + 1) ops) ≡ all
told_more ss ops i op all old new lt is before here =
    ap (λ l. l ++ faults_behind ss (take (i + 1) ops) (drop (i + 1) ops)) here
    ∙ append_assoc old (with_key (fault_at ss (take i ops) op (drop (i + 1) ops)) (key_of op)) (faults_behind ss (take (i + 1) ops) (drop (i + 1) ops))
    ∙ ap (λ l. old ++ (with_key (fault_at ss (take i ops) op (drop (i + 1) ops)) (key_of op) ++ faults_behind ss l (drop (i + 1) ops))) (front_more ops i op lt is)
    ∙ ap (λ l. old ++ faults_behind ss (take i ops) l) (sym (get_drop ops i op (item ops i op lt is)))
    ∙ before

-- the operations are those before, this one and those behind
pub cut_at : (ops : List Op) (i : ℕ) (op : Op) → i < length ops → op ≡ get_or ops i op → ops ≡ take i ops ++ op ∷ drop (i + 1) ops
cut_at ops i op lt is = sym (take-append-drop i ops) ∙ ap (λ l. take i ops ++ l) (get_drop ops i op (item ops i op lt is))
