-- Numbers of anomalies that were told.
use Rattle.census.proofs.Prelude.{◌≡◌, ℕ, ◌+◌, Bool, true, false, cond, List, [], ◌∷◌, length, map, refl, sym, ap, ◌∙◌, count_by, ◌==◌, filter, sum_by-cons, length-filter, ClientSession, Transaction, Txn, ReadAnomaly, reads_with, faults_in}
use Rattle.census.proofs.Prelude.{committed_in, is_lost, lost_in, view_ref, view_fault}
use Rattle.serializability.specs.Anomalies.{read_number}
use Rattle.serializability.proofs.Places.{length_mapped}
use denote.Ref.{Bor}

pub count_mapped : {X Y : Type 0} (p : Y → Bool) (g : X → Y) (xs : List X) → count_by p (map g xs) ≡ count_by (λ x. p (g x)) xs
count_mapped p g [] = refl
count_mapped p g (x ∷ xs) =
    sum_by-cons (λ y. cond (p y) 1 0) (g x) (map g xs)
    ∙ ap (λ n. cond (p (g x)) 1 0 + n) (count_mapped p g xs)
    ∙ sym (sum_by-cons (λ y. cond (p (g y)) 1 0) x xs)

pub kinds : (ss : List ClientSession) (faults : List (ReadAnomaly × Bor (List ℕ))) (kind : ReadAnomaly) (n : ℕ) → map view_fault faults ≡ faults_in ss → n ≡ count_by (λ f. read_number f.0 == read_number kind) faults → n ≡ reads_with kind ss
kinds ss faults kind n told e =
    let p : ReadAnomaly × List ℕ → Bool = λ f. read_number f.0 == read_number kind in
    e ∙ sym (count_mapped p view_fault faults) ∙ ap (count_by p) told

pub lost_are : (ss : List ClientSession) (lost : List (Bor Txn)) (n : ℕ) → map view_ref lost ≡ filter (is_lost (committed_in ss)) (committed_in ss) → n ≡ length lost → n ≡ lost_in ss
unfolding lost_in
lost_are ss lost n told e =
    e ∙ sym (length_mapped view_ref lost) ∙ ap length told ∙ length-filter (is_lost (committed_in ss)) (committed_in ss)

-- one transaction that passes two tests, or none
pub kept_one : (p q : Transaction → Bool) (t : Transaction) (a b : Bool) → a ≡ q t → b ≡ p t → cond a (cond b (t ∷ []) []) [] ≡ filter p (filter q (t ∷ []))
kept_one p q t a b e f = inner a ∙ ap (λ x. filter p (cond x (t ∷ []) [])) e
  where
    inner : (x : Bool) → cond x (cond b (t ∷ []) []) [] ≡ filter p (cond x (t ∷ []) [])
    inner true = ap (λ y. cond y (t ∷ []) []) f
    inner false = refl
