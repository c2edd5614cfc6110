-- The nodes of a session.
use Rattle.node_names.proofs.Prelude.{◌≡◌, ℕ, ◌+◌, ◌≤◌, true, false, List, [], ◌∷◌, length, refl, Some, drop, slice_get, Contains, drop_all, get_drop, Transaction, Committed, node_at, nodes_from}
use Rattle.log_definitions.specs.Unknown.{is_committed}
use Rattle.log_definitions.proofs.Members.{member}
use Rattle.log_laws.proofs.Sessions.{all_stand}

pub node_here : (number i : ℕ) (ts : List Transaction) (t : Transaction) → slice_get ts i ≡ Some t → is_committed t ≡ true → nodes_from number i ts ≡ node_at number (i + 1) t ∷ nodes_from number (i + 1) ts
node_here number i ts t at is = rw (get_drop ts i t at) (rw is refl)

pub none_here : (number i : ℕ) (ts : List Transaction) (t : Transaction) → slice_get ts i ≡ Some t → is_committed t ≡ false → nodes_from number i ts ≡ nodes_from number (i + 1) ts
none_here number i ts t at is = rw (get_drop ts i t at) (rw is refl)

pub none_behind : (number i : ℕ) (ts : List Transaction) → length ts ≤ i → nodes_from number i ts ≡ []
none_behind number i ts le = rw (drop_all i ts le) refl

pub stands : (number n : ℕ) (ts : List Transaction) (m : Committed) → Contains (nodes_from number n ts) m → (m.session ≡ number) × (n + 1 ≤ m.place)
stands number n ts m c = member (λ (c : Committed). (c.session ≡ number) × (n + 1 ≤ c.place)) (nodes_from number n ts) m (all_stand number (n + 1) (drop n ts)) c
