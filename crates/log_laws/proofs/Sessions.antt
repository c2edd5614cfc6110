-- The nodes of the two parts of a cut log.
use Rattle.log_laws.proofs.Prelude.{◌≡◌, ℕ, suc, ◌+◌, ◌<◌, ◌≤◌, Bool, true, false, List, [], ◌∷◌, map, refl, sym, ap, ◌∙◌, subst, inl, inr, arith, nat_le, filter, flat_map, enumerate_from, AllByRecursion, Contains, cases_Bool, mapped}
use Rattle.log_laws.proofs.Prelude.{ClientSession, Transaction, Has, Apart, Has-from_Contains, is_committed, Committed, committed_of, member, each_weaker}
use Rattle.log_laws.proofs.Lines.{EachPair}
use Rattle.log_laws.proofs.Lists.{of_flat, EachPair-append}
use Rattle.log_laws.proofs.Orders.{InOrder}

-- so many first transactions of each session, by its number
abbrev pub Firsts : Type 0
Firsts = ℕ → ℕ

-- ---- the nodes of a session's transactions, the first of which has this place
abbrev pub node_at : ℕ → ℕ → Transaction → Committed
node_at number n t = record { session = number; place = n; ops = t.ops; begun = t.begun; ended = t.ended }

abbrev pub nodes_from : ℕ → ℕ → List Transaction → List Committed
nodes_from number n ts = map (λ (p : ℕ × Transaction). record { session = number; place = p.0; ops = p.1.ops; begun = p.1.begun; ended = p.1.ended }) (filter (λ (p : ℕ × Transaction). is_committed p.1) (enumerate_from n ts))

abbrev pub nodes_of : List ClientSession → List Committed
nodes_of ss = flat_map committed_of ss

-- what holds of each transaction's node
pub each_node : (Q : Committed → Type 0) (number n : ℕ) (ts : List Transaction) → ((i : ℕ) (t : Transaction) → n ≤ i → Contains ts t → is_committed t ≡ true → Q (node_at number i t)) → AllByRecursion Q (nodes_from number n ts)
each_node Q number n [] f = tt
each_node Q number n (t ∷ ts) f = elim (cases_Bool (is_committed t)) [
  | inl e ↦ rw e (f n t (omega arith) (0, omega arith, refl) e, each_node Q number (n + 1) ts (λ i u lo c. f i u (omega arith) (suc c.0, omega (arith, c.1), c.2)))
  | inr e ↦ rw e (each_node Q number (n + 1) ts (λ i u lo c. f i u (omega arith) (suc c.0, omega (arith, c.1), c.2)))
]

abbrev Stands : ℕ → ℕ → Committed → Type 0
Stands number n c = (c.session ≡ number) × (n ≤ c.place)

pub all_stand : (number n : ℕ) (ts : List Transaction) → AllByRecursion (Stands number n) (nodes_from number n ts)
all_stand number n ts = each_node (Stands number n) number n ts (λ i t lo c e. (refl, lo))

-- whether a node is of the first part
abbrev pub early : Firsts → Committed → Bool
early cut node = nat_le node.place (cut node.session)

pub le_true : (m n : ℕ) → m ≤ n → nat_le m n ≡ true
le_true m n h = grind arith

le_false : (m n : ℕ) → n < m → nat_le m n ≡ false
le_false m n h = grind arith

pub early_is : (cut : Firsts) (number : ℕ) (c : Committed) → c.session ≡ number → c.place ≤ cut number → early cut c ≡ true
early_is cut number c s h = let e : cut c.session ≡ cut number = ap cut s in le_true c.place (cut c.session) (omega (arith, e, h))

pub late_is : (cut : Firsts) (number : ℕ) (c : Committed) → c.session ≡ number → cut number < c.place → early cut c ≡ false
late_is cut number c s h = let e : cut c.session ≡ cut number = ap cut s in le_false c.place (cut c.session) (omega (arith, e, h))

-- the nodes of the rest, each at its place in the whole
abbrev pub unshift : Firsts → Committed → Committed
unshift cut c = record { session = c.session; place = c.place + cut c.session; ops = c.ops; begun = c.begun; ended = c.ended }

-- ---- the nodes of sessions with numbers of their own stand by their places
abbrev pub ByPlace : Committed → Committed → Type 0
ByPlace a b = a.session ≡ b.session → a.place < b.place

session_in_order : (number n : ℕ) (ts : List Transaction) → EachPair ByPlace (nodes_from number n ts)
session_in_order number n [] = tt
session_in_order number n (t ∷ ts) = elim (cases_Bool (is_committed t)) [
  | inl e ↦ rw e (each_weaker (Stands number (n + 1)) (ByPlace (node_at number n t)) (λ c s _. (let le = s.1 in omega (arith, le))) (nodes_from number (n + 1) ts) (all_stand number (n + 1) ts), session_in_order number (n + 1) ts)
  | inr e ↦ rw e (session_in_order number (n + 1) ts)
]

pub in_order : (ss : List ClientSession) → Apart (map (λ s. s.number) ss) → InOrder (nodes_of ss)
in_order [] h = tt
in_order (s ∷ ss) h = EachPair-append ByPlace (committed_of s) (nodes_of ss) (session_in_order s.number 1 s.txns) (in_order ss h.1) (λ x y c d e. absurd (other x y c d e))
  where
    other : (x y : Committed) → Contains (committed_of s) x → Contains (nodes_of ss) y → x.session ≡ y.session → ⊥
    other x y c d e =
        let r = of_flat committed_of ss y d in
        let sx = (member (Stands s.number 1) (committed_of s) x (all_stand s.number 1 s.txns) c).0 in
        let sy = (member (Stands r.0.number 1) (committed_of r.0) y (all_stand r.0.number 1 r.0.txns) r.2).0 in
        let numbers = map (λ (z : ClientSession). z.number) ss in
        h.0 (subst (λ m. Has m numbers) (sym sy ∙ sym e ∙ sx) (Has-from_Contains numbers r.0.number (mapped (λ (z : ClientSession). z.number) ss r.0 r.1)))
