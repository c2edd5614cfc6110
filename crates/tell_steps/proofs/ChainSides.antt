-- Chains by their heads, and their edges.
use Rattle.tell_steps.proofs.Prelude.{◌≡◌, ◌≢◌, ℕ, ◌<◌, Some, List, length, get_or, refl, sym, ap, ◌∙◌, subst, map, slice_get, All, Contains, All-contains, slice_get-get_or, contains_at, item, Log, Edge, each_contained, heads, readers}
use Rattle.tell_steps.proofs.Prelude.{tail, edges_to, ChainView, chain_view, chain_from, chains_in, ChainOrder, edges_in}
use Rattle.list_lemmas.proofs.Elements as at
use Rattle.write_chains.specs.declared.chain.Chain.{Chain}
use Rattle.tell_steps.proofs.Ledgers.{get_map, to_target}

-- ---- the chain of a head
pub chain_there : (log : Log) (x : ℕ) (chains : List Chain) (k : ℕ) (c : Chain) → map chain_view chains ≡ chains_in log x → k < length chains → c ≡ get_or chains k c → Contains (heads log x) c.head × (chain_view c ≡ chain_from log x c.head)
chain_there log x chains k c e lt is =
    let r = get_map (chain_from log x) (heads log x) k (chain_view c) (ap (λ l. slice_get l k) (sym e) ∙ at.get_map chain_view chains k c (item chains k c lt is)) in
    let head : r.0 ≡ c.head = ap (λ (v : ChainView). v.head) r.1.1 in
    (subst (Contains (heads log x)) head (contains_at (heads log x) k r.0 r.1.0), sym r.1.1 ∙ ap (chain_from log x) head)

pub no_chain : (log : Log) (x h : ℕ) (chains : List Chain) → map chain_view chains ≡ chains_in log x → All (λ (c : Chain). c.head ≢ h) chains → Contains (heads log x) h → ⊥
no_chain log x h chains e none i =
    let there : slice_get (heads log x) i.0 ≡ Some h = slice_get-get_or (heads log x) i.0 h i.1 ∙ ap Some i.2 in
    let r = get_map chain_view chains i.0 (chain_from log x h) (ap (λ l. slice_get l i.0) e ∙ at.get_map (chain_from log x) (heads log x) i.0 h there) in
    All-contains (λ (c : Chain). c.head ≢ h) chains r.0 none (contains_at chains i.0 r.0 r.1.0) (ap (λ (v : ChainView). v.head) r.1.1)

-- ---- its edges
pub chain_edges : (log : Log) (o : ChainOrder) (c : Chain) → chain_view c ≡ chain_from log o.key o.first → edges_to c.tail o.second c.readers.items ≡ edges_in log o
chain_edges log o c view = ap (λ (v : ChainView). edges_to v.tail o.second v.readers) view

-- an order's edges lead to the head of its second chain
pub order_target : (log : Log) (o : ChainOrder) (e : Edge) → Contains (edges_in log o) e → e.1 ≡ o.second
order_target log o e c =
    let t = tail log o.key o.first in
    each_contained (λ (d : Edge). d.1 ≡ o.second) (edges_in log o) e (to_target (λ v. v ≡ o.second) t o.second refl (readers log o.key t)) c
