-- What a history answers from its tables.
use Rattle.session_history.proofs.Prelude.{◌≡◌, ℕ, suc, ◌+◌, ◌-◌, ◌<◌, ◌≤◌, ◌⊎◌, inl, inr, List, [], ◌∷◌, length, get_or, slice_get, Option, Some, None, refl, sym, ap, ◌∙◌, arith, is_some, nat_lt, Bor, IfSome, option_and_then, filter_map}
use Rattle.session_history.proofs.Prelude.{cons_option, option_map, option_map_or, cases_lt, ltb-true, ltb-false, length-map, slice_get_past, slice_get_read, slice_get-map, same_Some, ClientSession, Log, external_read, all_keys, source}
use Rattle.session_history.proofs.Prelude.{writer_of, keys_in, Committed, committed_in, node_in, node_of, begun_of, ended_of, events_of, log_of, sources_of, NumberedNode, node_view, row_view, reads_view, numbered_node, node_kept}
use Rattle.session_history.proofs.Prelude.{sessions_of, row_in, IsHistory, Node, KeyRow, few_nodes, rules_where_no_fault, log_keys, log_nodes}
use Rattle.session_history.specs.declared.log.History.TheInside.{Inside}
use Rattle.session_history.proofs.Tabled.{log_ops, log_session, ops_past}

module _ (h : Inside) (k : IsHistory h) where
  abbrev its : List ClientSession
  its = sessions_of h

  pub nodes_kept : length h.nodes.items ≡ (log_of (sessions_of h)).nodes
  nodes_kept = sym (length-map h.nodes.items node_view) ∙ ap length k.nodes ∙ length-map (committed_in its) (numbered_node (keys_in its)) ∙ sym (log_nodes its)

  pub nodes_few : (log_of (sessions_of h)).nodes ≤ 1000
  nodes_few = few_nodes its k.sound

  pub keys_kept : length h.keys.keys ≡ (log_of (sessions_of h)).keys
  keys_kept = ap length k.keys ∙ sym (log_keys its)

  pub keys_few : (log_of (sessions_of h)).keys ≤ 10000
  keys_few = omega (arith, log_keys its, (rules_where_no_fault 1 its k.sound.sessions).keys)

  pub key_kept : (x : ℕ) (key : List ℕ) → slice_get h.keys.keys x ≡ Some key → slice_get (keys_in (sessions_of h)) x ≡ Some key
  key_kept x key e = ap (λ ks. slice_get ks x) (sym k.keys) ∙ e

  pub row_kept : (x : ℕ) (row : KeyRow) → x < (log_of (sessions_of h)).keys → row ≡ get_or h.rows.items x row → row_view row ≡ row_in (log_of (sessions_of h)) x
  row_kept x row lt e =
      let at = slice_get_read h.rows.items (length h.rows.items) x row refl (omega (arith, k.rows.count)) e in
      same_Some (row_view row) (row_in (log_of its) x) (ap (option_map row_view) (sym at) ∙ k.rows.each x lt)

  pub node_is : (i : ℕ) → option_map node_view (slice_get h.nodes.items i) ≡ node_kept (sessions_of h) (suc i)
  unfolding node_of
  node_is i = sym (slice_get-map node_view h.nodes.items i) ∙ ap (λ ns. slice_get ns i) k.nodes ∙ slice_get-map (numbered_node (keys_in its)) (committed_in its) i

-- ---- from what is kept of a node

kept_ops : (ss : List ClientSession) (v : ℕ) (o : Option Committed) → node_in (committed_in ss) v ≡ o → (log_of ss).ops v ≡ option_map_or (λ node. node.events) (option_map (numbered_node (keys_in ss)) o) []
kept_ops ss v None e = log_ops ss v ∙ ap (λ o. events_of (keys_in ss) (option_map_or (λ (c : Committed). c.ops) o [])) e
kept_ops ss v (Some c) e = log_ops ss v ∙ ap (λ o. events_of (keys_in ss) (option_map_or (λ (c : Committed). c.ops) o [])) e

pub ops_kept : (ss : List ClientSession) (v : ℕ) → (log_of ss).ops v ≡ option_map_or (λ node. node.events) (node_kept ss v) []
unfolding node_of
ops_kept ss v = kept_ops ss v (node_in (committed_in ss) v) refl

kept_session : (ss : List ClientSession) (v : ℕ) (o : Option Committed) → node_in (committed_in ss) v ≡ o → (log_of ss).session v ≡ option_map_or (λ node. node.session) (option_map (numbered_node (keys_in ss)) o) 0
kept_session ss v None e = log_session ss v ∙ ap (λ o. option_map_or (λ (c : Committed). c.session) o 0) e
kept_session ss v (Some c) e = log_session ss v ∙ ap (λ o. option_map_or (λ (c : Committed). c.session) o 0) e

pub session_kept : (ss : List ClientSession) (v : ℕ) → (log_of ss).session v ≡ option_map_or (λ node. node.session) (node_kept ss v) 0
unfolding node_of
session_kept ss v = kept_session ss v (node_in (committed_in ss) v) refl

kept_begun : (keys : List (List ℕ)) (o : Option Committed) → option_and_then (λ (c : Committed). c.begun) o ≡ option_and_then (λ (node : NumberedNode). node.begun) (option_map (numbered_node keys) o)
kept_begun keys None = refl
kept_begun keys (Some c) = refl

pub begun_kept : (ss : List ClientSession) (v : ℕ) → begun_of ss v ≡ option_and_then (λ (node : NumberedNode). node.begun) (node_kept ss v)
begun_kept ss v = kept_begun (keys_in ss) (node_of ss v)

kept_ended : (keys : List (List ℕ)) (o : Option Committed) → option_and_then (λ (c : Committed). c.ended) o ≡ option_and_then (λ (node : NumberedNode). node.ended) (option_map (numbered_node keys) o)
kept_ended keys None = refl
kept_ended keys (Some c) = refl

pub ended_kept : (ss : List ClientSession) (v : ℕ) → ended_of ss v ≡ option_and_then (λ (node : NumberedNode). node.ended) (node_kept ss v)
ended_kept ss v = kept_ended (keys_in ss) (node_of ss v)

-- ---- reads of a node that there is not

read_here : ℕ → ℕ → ℕ × ℕ
read_here x w = (x, w)

nothing_read : (log : Log) (v : ℕ) (xs : List ℕ) → log.ops v ≡ [] → filter_map (λ x. option_map (read_here x) (source log v x)) xs ≡ []
nothing_read log v [] e = refl
nothing_read log v (x ∷ xs) e =
    ap (λ o. cons_option (option_map (read_here x) (option_map (writer_of log x) o)) (filter_map (λ y. option_map (read_here y) (source log v y)) xs)) (ap (external_read x) e)
    ∙ nothing_read log v xs e

pub no_sources : (ss : List ClientSession) (v : ℕ) → (log_of ss).ops v ≡ [] → sources_of (log_of ss) v ≡ []
unfolding read_here
no_sources ss v e = nothing_read (log_of ss) v (all_keys (log_of ss)) e

pub no_ops_at_zero : (ss : List ClientSession) → (log_of ss).ops 0 ≡ []
no_ops_at_zero ss = log_ops ss 0

pub sources_past : (h : Inside) → IsHistory h → (v i : ℕ) → v ≡ i + 1 → slice_get h.reads.items i ≡ None → [] ≡ sources_of (log_of (sessions_of h)) v
sources_past h k v i number e = sym (no_sources (sessions_of h) v (ops_past (sessions_of h) v (past (cases_lt i (log_of (sessions_of h)).nodes))))
  where
    past : (i < (log_of (sessions_of h)).nodes) ⊎ ((log_of (sessions_of h)).nodes ≤ i) → (log_of (sessions_of h)).nodes < v
    past (inl lt) = absurd (none_some (sym (ap (option_map (λ r. reads_view r.items)) e) ∙ k.reads.each i lt))
      where
        none_some : {X : Type 0} {x : X} → None ≡ Some x → ⊥
        none_some e = cc
    past (inr le) = omega (arith, number)

pub sources_at_zero : (ss : List ClientSession) (v : ℕ) → v ≡ 0 → [] ≡ sources_of (log_of ss) v
sources_at_zero ss v e = sym (no_sources ss v (ap (log_of ss).ops e ∙ no_ops_at_zero ss))

-- what a slice's `get` gives
got : {X : Type 0} (xs : List X) (i : ℕ) (o : Option (Bor X)) → is_some o ≡ nat_lt i (length xs) → IfSome o (λ x. x.now ≡ get_or xs i x.now) → option_map (λ x. x.now) o ≡ slice_get xs i
got xs i None e h = sym (slice_get_past xs i (ltb-false i (length xs) (sym e)))
got xs i (Some x) e h = sym (slice_get_read xs (length xs) i x.now refl (ltb-true i (length xs) (sym e)) h)

pub node_got : (h : Inside) → IsHistory h → (xs : List Node) (v n i : ℕ) (o : Option (Bor Node)) → xs ≡ h.nodes.items → n ≡ v → 1 ≤ n → i ≡ n - 1 → is_some o ≡ nat_lt i (length xs) → IfSome o (λ x. x.now ≡ get_or xs i x.now)
    → option_map (λ x. node_view x.now) o ≡ node_kept (sessions_of h) v
node_got h k xs v n i o same number low at e f =
    let is : suc i ≡ v = omega arith in
    go o ∙ ap (option_map node_view) (got xs i o e f) ∙ ap (λ ns. option_map node_view (slice_get ns i)) same ∙ node_is h k i ∙ ap (node_kept (sessions_of h)) is
  where
    go : (o : Option (Bor Node)) → option_map (λ x. node_view x.now) o ≡ option_map node_view (option_map (λ x. x.now) o)
    go None = refl
    go (Some x) = refl

pub none_at_zero : (ss : List ClientSession) (v : ℕ) → v ≡ 0 → None ≡ node_kept ss v
unfolding node_of
none_at_zero ss v e = ap (node_kept ss) (sym e)
