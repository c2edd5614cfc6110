-- Two logs whose nodes have the same operations in the same sessions have the same level orders.
use Rattle.level_laws.proofs.Prelude.{◌≡◌, ℕ, ◌≤◌, List, [], length, sym, ap, ◌∙◌, subst, inl, inr, Contains, option_map_or, ClientSession, Op, Read, Write, ListsOnce, Committed, committed_in, node_in, node_of, session_of, ops_of, Level}
use Rattle.level_laws.proofs.Prelude.{ReadCommitted, MonotonicAtomicView, ReadAtomic, Causal, last_write, ReadsBehind, WritesKey, IsEarlier, ReadsFrom, Direct, Past, step, path, Sees, FindsLast, IsLevelOrder, HasLevelOrder}

pub record AreSame (xs ys : List ClientSession) : Type 0 where
  pub count : length (committed_in ys) ≡ length (committed_in xs)
  pub session : (v : ℕ) → session_of ys v ≡ session_of xs v
  pub ops : (v : ℕ) → ops_of ys v ≡ ops_of xs v

pub same_back : (xs ys : List ClientSession) → AreSame xs ys → AreSame ys xs
same_back xs ys k = record { count = sym k.count; session = λ v. sym (k.session v); ops = λ v. sym (k.ops v) }

pub same_nodes : (xs ys : List ClientSession) → committed_in xs ≡ committed_in ys → AreSame xs ys
unfolding node_of
same_nodes xs ys e = record {
  count = ap length (sym e);
  session = λ v. ap (λ (nodes : List Committed). option_map_or (λ (c : Committed). c.session) (node_in nodes v) 0) (sym e);
  ops = λ v. ap (λ (nodes : List Committed). option_map_or (λ (c : Committed). c.ops) (node_in nodes v) []) (sym e);
}

-- ---- what is so in the second log is so in the first
has_op : (xs ys : List ClientSession) → AreSame xs ys → (v : ℕ) (o : Op) → Contains (ops_of ys v) o → Contains (ops_of xs v) o
has_op xs ys k v o c = subst (λ l. Contains l o) (k.ops v) c

earlier : (xs ys : List ClientSession) → AreSame xs ys → (u v : ℕ) → IsEarlier ys u v → IsEarlier xs u v
earlier xs ys k u v h = record { low = h.low; less = h.less; high = subst (λ n. v ≤ n) k.count h.high; session = sym (k.session u) ∙ h.session ∙ k.session v }

reads_from : (xs ys : List ClientSession) → AreSame xs ys → (u v : ℕ) → ReadsFrom ys u v → ReadsFrom xs u v
reads_from xs ys k u v h = record { key = h.key; wid = h.wid; other = h.other; writes = has_op xs ys k u (Write h.key h.wid) h.writes; reads = has_op xs ys k v (Read h.key h.wid) h.reads }

direct : (xs ys : List ClientSession) → AreSame xs ys → (u v : ℕ) → Direct ys u v → Direct xs u v
direct xs ys k u v (inl h) = inl (earlier xs ys k u v h)
direct xs ys k u v (inr h) = inr (reads_from xs ys k u v h)

past : (xs ys : List ClientSession) → AreSame xs ys → {u v : ℕ} → Past ys u v → Past xs u v
past xs ys k (step u v d) = step u v (direct xs ys k u v d)
past xs ys k (path u v w d p) = path u v w (direct xs ys k u v d) (past xs ys k p)

sees : (level : Level) (xs ys : List ClientSession) → AreSame xs ys → (u v : ℕ) (before : List Op) → Sees level ys u v before → Sees level xs u v before
sees ReadCommitted xs ys k u v before h = h
sees MonotonicAtomicView xs ys k u v before h = record { key = h.key; wid = h.wid; other = h.other; writes = has_op xs ys k u (Write h.key h.wid) h.writes; reads = h.reads }
sees ReadAtomic xs ys k u v before h = direct xs ys k u v h
sees Causal xs ys k u v before h = past xs ys k h

-- ---- the order
pub same_order : (level : Level) (xs ys : List ClientSession) → AreSame xs ys → (order : List ℕ) → IsLevelOrder level xs order → IsLevelOrder level ys order
same_order level xs ys k order h = record {
  once = subst (λ n. ListsOnce n order) (sym k.count) h.once;
  sessions = λ u v e. h.sessions u v (earlier xs ys k u v e);
  reads_from = λ u v e. h.reads_from u v (reads_from xs ys k u v e);
  own = λ v before key wid last r e. h.own v before key wid last (reads v before key wid r) e;
  found = λ v before key wid r e. finds v before key wid (h.found v before key wid (reads v before key wid r) e);
}
  where
    reads : (v : ℕ) (before : List Op) (key : List ℕ) (wid : ℕ) → ReadsBehind ys v before key wid → ReadsBehind xs v before key wid
    reads v before key wid (behind, is) = (behind, sym (k.ops v) ∙ is)

    writes : (u : ℕ) (key : List ℕ) → WritesKey ys u key → WritesKey xs u key
    writes u key (wid, c) = (wid, has_op xs ys k u (Write key wid) c)

    finds : (v : ℕ) (before : List Op) (key : List ℕ) (wid : ℕ) → FindsLast level xs order v before key wid → FindsLast level ys order v before key wid
    finds v before key wid (inl zero) = inl (zero.0, (λ u s w. zero.1 u (sees level xs ys k u v before s) (writes u key w)))
    finds v before key wid (inr t) = inr (
      t.0,
      record {
        other = t.1.other;
        final = ap (last_write key) (k.ops t.0) ∙ t.1.final;
        last = λ u ne s w. t.1.last u ne (sees level xs ys k u v before s) (writes u key w);
      },
    )

pub same_level : (level : Level) (xs ys : List ClientSession) → AreSame xs ys → HasLevelOrder level xs → HasLevelOrder level ys
same_level level xs ys k (order, h) = (order, same_order level xs ys k order h)
