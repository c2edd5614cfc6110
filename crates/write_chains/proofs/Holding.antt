-- What the chains of a history answer from their tables.
use Rattle.write_chains.proofs.Prelude.{◌≡◌, ℕ, ◌+◌, ◌<◌, List, [], ◌∷◌, ◌++◌, Option, None, Some, length, get_or, refl, sym, ap, ◌∙◌, arith, cons_option, option_map, append-nil, length-map, get_or-map, filter_map-append, range_last}
use Rattle.write_chains.proofs.Prelude.{log_of, pair_at, pairs, unless_empty, key_view, key_in, sessions_of, AreChains}
use Rattle.std.proofs.lemmas.List.FromFn.{length-map-range_with_len, get_or-map-range_with_len}
use Rattle.write_chains.specs.declared.chain.KeyChains.{KeyChains}
use Rattle.write_chains.specs.declared.all.Chains.TheInside.{Inside}

pub keys_held : (c : Inside) → AreChains c → length c.keys.items ≡ (log_of (sessions_of c)).keys
keys_held c h = grind (arith, length-map, length-map-range_with_len)

pub key_held : (c : Inside) → AreChains c → (x : ℕ) (k : KeyChains) → x < (log_of (sessions_of c)).keys → k ≡ get_or c.keys.items x k → key_view k ≡ key_in (log_of (sessions_of c)) x
key_held c h x k lt is =
    let log = log_of (sessions_of c) in
    ap key_view is ∙ sym (get_or-map key_view c.keys.items x k (key_in log 0) (omega (arith, keys_held c h, lt)))
    ∙ ap (λ l. get_or l x (key_in log 0)) h.keys ∙ get_or-map-range_with_len (key_in log) 0 log.keys x x (key_in log 0) lt (omega arith)

-- a list by what there is of it
some_list : {X : Type 0} (l m : List X) → Some m ≡ unless_empty l → m ≡ l
some_list [] m e = cc
some_list (x ∷ l) m e = cc

no_list : {X : Type 0} (l : List X) → None ≡ unless_empty l → [] ≡ l
no_list [] e = refl
no_list (x ∷ l) e = cc

pub list_found : {X : Type 0} (f : ℕ → List X) (v : ℕ) (m : List X) → Some m ≡ unless_empty (f v) → m ≡ f v
list_found f v m e = some_list (f v) m e

pub list_absent : {X : Type 0} (f : ℕ → List X) (v : ℕ) → None ≡ unless_empty (f v) → [] ≡ f v
list_absent f v e = no_list (f v) e

-- ---- the lists that are not empty, one by one
pub pairs_further : {Y : Type 0} (g : ℕ → Option Y) (k : ℕ) → pairs g 0 (k + 1) ≡ pairs g 0 k ++ cons_option (pair_at g k) []
pairs_further g k = grind (arith, range_last, filter_map-append)

group_some : {X : Type 0} (k : ℕ) (l : List X) → 0 < length l → cons_option {X = ℕ × List X} (option_map (λ y. (k, y)) (unless_empty l)) [] ≡ (k, l) ∷ []
group_some k [] lt = absurd (omega arith)
group_some k (x ∷ l) lt = refl

pub group_added : {X : Type 0} (f : ℕ → List X) (k : ℕ) (views : List (ℕ × List X)) → 0 < length (f k) → views ≡ pairs (λ v. unless_empty (f v)) 0 k → views ++ (k, f k) ∷ [] ≡ pairs (λ v. unless_empty (f v)) 0 (k + 1)
group_added f k views lt e = grind (arith, group_some, pairs_further)

group_none : {X : Type 0} (k : ℕ) (l : List X) → length l ≡ 0 → cons_option {X = ℕ × List X} (option_map (λ y. (k, y)) (unless_empty l)) [] ≡ []
group_none k [] e = refl
group_none k (x ∷ l) e = absurd (omega (arith, e))

pub group_passed : {X : Type 0} (f : ℕ → List X) (k : ℕ) (views : List (ℕ × List X)) → length (f k) ≡ 0 → views ≡ pairs (λ v. unless_empty (f v)) 0 k → views ≡ pairs (λ v. unless_empty (f v)) 0 (k + 1)
group_passed f k views none e = grind (arith, append-nil, group_none, pairs_further)
