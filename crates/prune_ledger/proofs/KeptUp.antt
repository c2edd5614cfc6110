-- Graphs that are kept up with what posts keep.
use Rattle.prune_ledger.proofs.Prelude.{◌≡◌, ◌⊎◌, ◌↔◌, ℕ, zero, suc, ◌+◌, ◌<◌, List, [], ◌∷◌, ◌++◌, length, get_or, take, drop, None, Some, refl, sym, ap, ◌∙◌, subst, inl, inr, slice_get, option_map_or, Contains, take_more, Edge, Choice}
use Rattle.prune_ledger.proofs.Prelude.{Polygraph, Graph, AreRowsOf, AddsEdge, In, In-from_Contains, Contains-from_In, edges_of, other, Entry as Kept, sides_in, Posted, side_of, kept_side, kept_after, edges_after, AddsEdges, Extends}
use Rattle.prune_ledger.proofs.Prelude.{IsOpenIn, posts_in, kept_by, IsGraphOf, LedgerEntry}
use Rattle.prune_ledger.proofs.Edges.{Added}
use Rattle.prune_ledger.proofs.Grown.{kept_append, posts_append, refuted_in}
use Rattle.prune_ledger.proofs.Sides.{side_is, known_with, more_kept, new_kept, kept_cases, no_kept}

-- ---- more edges
pub adds_from_added : (old new : Graph) (part more : List Edge) → Added old new part → part ≡ more → AddsEdges old new more
adds_from_added old new part more a same = record {
  nodes = a.nodes;
  edges = λ e. (
    (λ c. elim (a.from e (In-from_Contains new.edges e c)) [
      | inl x ↦ inl (Contains-from_In old.edges e x)
      | inr y ↦ inr (Contains-from_In more e (subst (In e) same y))
    ]),
    (λ d. elim d [
      | inl x ↦ Contains-from_In new.edges e (a.first e (In-from_Contains old.edges e x))
      | inr y ↦ Contains-from_In new.edges e (a.second e (subst (In e) (sym same) (In-from_Contains more e y)))
    ]),
  );
}

pub added_rows : (rows next g new : Graph) (u v a b : ℕ) → AreRowsOf rows g → u ≡ a → v ≡ b
    → ((old after : Graph) → AreRowsOf rows old → AddsEdge old after (a, b) → AreRowsOf next after) → new.nodes ≡ g.nodes → ((e : Edge) → (Contains new.edges e ↔ (Contains g.edges e ⊎ (e ≡ (u, v))))) → AreRowsOf next new
added_rows rows next g new u v a b r p q step n f =
    step g new r (record { nodes = n; edges = subst (λ (x : Edge). (e : Edge) → (Contains new.edges e ↔ (Contains g.edges e ⊎ (e ≡ x)))) (λ i. (p i, q i)) f })

pub extends_then : (a b d : Graph) → Extends a b → Extends b d → Extends a d
extends_then a b d x y = record { nodes = y.nodes ∙ x.nodes; edges = λ e c. y.edges e (x.edges e c) }

pub extends_more : (old new : Graph) (more : List Edge) → AddsEdges old new more → Extends old new
extends_more old new more a = record { nodes = a.nodes; edges = λ e c. (a.edges e).1 (inl c) }

-- a choice that is open by more edges is open by fewer
pub open_fewer : (given own : Graph) (choices : List Choice) (c : ℕ) → Extends given own → IsOpenIn own.edges choices c → IsOpenIn given.edges choices c
open_fewer given own choices c x f h at side r = f h at side (refuted_in given.edges own.edges (edges_of h side) x.edges r)

-- ---- the edges that entries keep
pub graph_first : (p : Polygraph) (es : List LedgerEntry) (g : Graph) → es ≡ [] → g ≡ record { nodes = p.nodes; edges = p.known } → IsGraphOf p (kept_by es) g
graph_first p es g none is = subst (λ (l : List LedgerEntry). IsGraphOf p (kept_by l) g) (sym none) (subst (IsGraphOf p []) (sym is) (record {
  nodes = refl;
  from = λ e c. Contains-from_In (edges_after p []) e (known_with p (sides_in []) e (In-from_Contains p.known e c));
  to = λ e c. Contains-from_In p.known e (no_kept p e (In-from_Contains (edges_after p []) e c));
}))

pub graph_kept : (p : Polygraph) (kept : List Kept) (x : Kept) (old new : Graph) → AddsEdges old new (side_of p.choices x.0 x.1) → IsGraphOf p kept old → IsGraphOf p (x ∷ kept) new
graph_kept p kept x old new a g = record {
  nodes = a.nodes ∙ g.nodes;
  from = λ e c. (elim ((a.edges e).0 c) [
    | inl o ↦ Contains-from_In (edges_after p (x ∷ kept)) e (more_kept p kept x e (In-from_Contains (edges_after p kept) e (g.from e o)))
    | inr m ↦ Contains-from_In (edges_after p (x ∷ kept)) e (new_kept p kept x e (In-from_Contains (side_of p.choices x.0 x.1) e m))
  ]);
  to = λ e c. (elim (kept_cases p kept x e (In-from_Contains (edges_after p (x ∷ kept)) e c)) [
    | inl o ↦ (a.edges e).1 (inl (g.to e (Contains-from_In (edges_after p kept) e o)))
    | inr m ↦ (a.edges e).1 (inr (Contains-from_In (side_of p.choices x.0 x.1) e m))
  ]);
}

pub graph_kept_at : (p : Polygraph) (kept : List Kept) (q : Posted) (h : Choice) (more : List Edge) (old new : Graph) → slice_get p.choices q.choice ≡ Some h → more ≡ edges_of h (other q.side) → AddsEdges old new more
    → IsGraphOf p kept old → IsGraphOf p (kept_side q ∷ kept) new
graph_kept_at p kept q h more old new at is a g =
    graph_kept p kept (kept_side q) old new (subst (AddsEdges old new) (is ∙ sym (side_is p.choices q.choice h (other q.side) at)) a) g

adds_none : (g : Graph) → AddsEdges g g []
adds_none g = record { nodes = refl; edges = λ e. ((λ c. inl c), (λ d. elim d [ inl c ↦ c | inr none ↦ absurd (In-from_Contains [] e none) ])) }

pub graph_kept_none : (p : Polygraph) (kept : List Kept) (q : Posted) (g : Graph) → slice_get p.choices q.choice ≡ None → IsGraphOf p kept g → IsGraphOf p (kept_side q ∷ kept) g
graph_kept_none p kept q g at is =
    graph_kept p kept (kept_side q) g g (subst (AddsEdges g g) (sym (ap (λ o. option_map_or (λ h. edges_of h (other q.side)) o []) at)) (adds_none g)) is

-- one entry more
pub kept_next : (earlier : List Kept) (entries : List LedgerEntry) (k : ℕ) (x : LedgerEntry) → k < length entries → x ≡ get_or entries k x
    → kept_side x.post ∷ kept_after earlier (posts_in (take k entries)) ≡ kept_after earlier (posts_in (take (k + 1) entries))
kept_next earlier entries k x lt is =
    sym (ap (λ l. kept_after earlier (posts_in l)) (take_more entries k x lt ∙ ap (λ y. take k entries ++ y ∷ []) (sym is))
    ∙ ap (kept_after earlier) (posts_append (take k entries) (x ∷ []))
    ∙ kept_append earlier (posts_in (take k entries)) (x.post ∷ []))

parts : (n : ℕ) (xs : List LedgerEntry) → posts_in xs ≡ posts_in (take n xs) ++ posts_in (drop n xs)
parts zero xs = refl
parts (suc n) [] = refl
parts (suc n) (x ∷ xs) = ap (λ l. x.post ∷ l) (parts n xs)

-- the entries behind the earlier ones keep the rest
pub kept_rest : (n : ℕ) (entries : List LedgerEntry) → kept_after (kept_by (take n entries)) (posts_in (drop n entries)) ≡ kept_by entries
kept_rest n entries = sym (ap (kept_after []) (parts n entries) ∙ kept_append [] (posts_in (take n entries)) (posts_in (drop n entries)))

posts_take : (n : ℕ) (xs : List LedgerEntry) → posts_in (take n xs) ≡ take n (posts_in xs)
posts_take zero xs = refl
posts_take (suc n) [] = refl
posts_take (suc n) (x ∷ xs) = ap (λ l. x.post ∷ l) (posts_take n xs)

ahead : (entries : List LedgerEntry) (posts : List Posted) → take (length entries) (posts_in entries ++ posts) ≡ posts_in entries
ahead [] posts = refl
ahead (x ∷ xs) posts = ap (λ l. x.post ∷ l) (ahead xs posts)

-- the earlier ones keep what they kept
pub graph_ahead : (p : Polygraph) (entries next : List LedgerEntry) (posts : List Posted) (n : ℕ) (graph : Graph) → n ≡ length entries → posts_in next ≡ posts_in entries ++ posts
    → IsGraphOf p (kept_by entries) graph → IsGraphOf p (kept_by (take n next)) graph
graph_ahead p entries next posts n graph is more g =
    let same = posts_take n next ∙ (λ i. take (is i) (more i)) ∙ ahead entries posts in
    subst (λ (k : List Kept). IsGraphOf p k graph) (sym (ap (kept_after []) same)) g
