-- The edges that a ledger keeps, as bits.
use Rattle.ledger_checks.proofs.Prelude.{◌≡◌, ℕ, ◌+◌, ◌*◌, ◌<◌, ◌≤◌, Bool, false, eqb, ◌&&◌, ◌||◌, List, [], ◌∷◌, ◌++◌, length, get_or, take, replicate, refl, sym, ap, ◌∙◌, subst, append_assoc, append-nil, arith, eq-eqb, eqb-true, list_any}
use Rattle.ledger_checks.proofs.Prelude.{and_parts, and_from, take_more, same_bool, Edge, Polygraph, Graph, other, has_edge, side_of, is_of, is_held, edge_place, HasEdges, edges_kept, LedgerEntry}
use Rattle.std.proofs.lemmas.Nat.{same_from_place}
use Rattle.std.proofs.Math.Bool.{or_comm, or-false}
use Rattle.known_graph.specs.Bits.{bit_of}
use Rattle.known_graph.proofs.Words.{bit_of-zeros}
use Rattle.known_graph.proofs.Rows.{edge_append}
use Rattle.ledger_checks.specs.declared.kept.KeptEdges.{KeptEdges}

-- ---- bits
pub place_is : (a b u v : ℕ) → a ≡ u → b ≡ v → a * 1024 + b ≡ edge_place u v
unfolding edge_place
place_is a b u v p q = λ i. p i * 1024 + q i

-- two edges have one place only where they are the same
same_place : (u v a b : ℕ) → v ≤ 1000 → b ≤ 1000 → eqb (edge_place u v) (edge_place a b) ≡ (eqb a u && eqb b v)
unfolding edge_place
same_place u v a b hv hb =
    same_bool (eqb (u * 1024 + v) (a * 1024 + b)) (eqb a u && eqb b v)
    (λ t. (let same = same_from_place u v a b 1024 (omega (arith, hv)) (omega (arith, hb)) (eqb-true (u * 1024 + v) (a * 1024 + b) t) in
    and_from (eqb a u) (eqb b v) (eq-eqb a u (sym same.0)) (eq-eqb b v (sym same.1))))
    (λ t. (let both = and_parts (eqb a u) (eqb b v) t in
    eq-eqb (u * 1024 + v) (a * 1024 + b) (λ i. (let p = sym (eqb-true a u both.0) in p i) * 1024 + (let q = sym (eqb-true b v both.1) in q i))))

pub no_edges : (n : ℕ) → HasEdges (record { words = replicate n 0 }) []
no_edges n = record { same = λ u v hu hv. bit_of-zeros n (edge_place u v) }

-- the bit of an edge says whether it is one of them
pub edge_bit : (kept : KeptEdges) (edges : List Edge) (u v place : ℕ) → place ≡ edge_place u v → u ≤ 1000 → v ≤ 1000 → HasEdges kept edges → bit_of kept.words place ≡ has_edge edges (u, v)
edge_bit kept edges u v place is hu hv h = ap (bit_of kept.words) is ∙ h.same u v hu hv

-- one edge more
pub edge_added : (old new : KeptEdges) (edges : List Edge) (d : Edge) → d.1 ≤ 1000 → ((k : ℕ) → bit_of new.words k ≡ (eqb k (edge_place d.0 d.1) || bit_of old.words k)) → HasEdges old edges → HasEdges new (edges ++ d ∷ [])
edge_added old new edges d small bits h = record {
  same = λ u v hu hv.
      bits (edge_place u v)
      ∙ (λ i. same_place u v d.0 d.1 hv small i || h.same u v hu hv i)
      ∙ or_comm (eqb d.0 u && eqb d.1 v) (has_edge edges (u, v)) ∙ ap (λ b. has_edge edges (u, v) || b) (sym (or-false (eqb d.0 u && eqb d.1 v)))
      ∙ sym (edge_append edges (d ∷ []) (u, v));
}

-- one more of a list
pub edge_more : (old now next : KeptEdges) (part : List Edge) (k : ℕ) (d : Edge) (u v place : ℕ) → k < length part → d ≡ get_or part k d → u ≡ d.0 → v ≡ d.1 → place ≡ edge_place u v → v ≤ 1000
    → ((before : List Edge) → HasEdges old before → HasEdges now (before ++ take k part)) → ((j : ℕ) → bit_of next.words j ≡ (eqb j place || bit_of now.words j))
    → (before : List Edge) → HasEdges old before → HasEdges next (before ++ take (k + 1) part)
edge_more old now next part k d u v place lt is p q at small f bits before h =
    let this : place ≡ edge_place d.0 d.1 = at ∙ (λ i. edge_place (p i) (q i)) in
    let whole : (before ++ take k part) ++ d ∷ [] ≡ before ++ take (k + 1) part =
    append_assoc before (take k part) (d ∷ []) ∙ ap (λ (l : List Edge). before ++ l) (ap (λ (x : Edge). take k part ++ x ∷ []) is ∙ sym (take_more part k d lt)) in
    subst (HasEdges next) whole
    (edge_added now next (before ++ take k part) d (subst (λ n. n ≤ 1000) q small) (λ j. bits j ∙ ap (λ n. eqb j n || bit_of now.words j) this) (f before h))

-- ---- the edges that entries keep
abbrev pub kept_of : Polygraph → LedgerEntry → List Edge
kept_of p x = side_of p.choices x.post.choice (other x.post.side)

pub any_kept : (p : Polygraph) (entries : List LedgerEntry) (e : Edge) → has_edge (edges_kept p entries) e ≡ list_any (λ x. is_of p e x.post) entries
unfolding edges_kept
any_kept p [] e = refl
any_kept p (x ∷ xs) e = edge_append (kept_of p x) (edges_kept p xs) e ∙ ap (λ b. has_edge (kept_of p x) e || b) (any_kept p xs e)

kept_append : (p : Polygraph) (xs : List LedgerEntry) (x : LedgerEntry) → edges_kept p (xs ++ x ∷ []) ≡ edges_kept p xs ++ kept_of p x
unfolding edges_kept
kept_append p [] x = append-nil (kept_of p x)
kept_append p (y ∷ ys) x = ap (λ l. kept_of p y ++ l) (kept_append p ys x) ∙ sym (append_assoc (kept_of p y) (edges_kept p ys) (kept_of p x))

-- one entry more
pub kept_more : (p : Polygraph) (now next : KeptEdges) (entries : List LedgerEntry) (k : ℕ) (x : LedgerEntry) → k < length entries → x ≡ get_or entries k x
    → HasEdges now (edges_kept p (take k entries)) → ((before : List Edge) → HasEdges now before → HasEdges next (before ++ kept_of p x)) → HasEdges next (edges_kept p (take (k + 1) entries))
kept_more p now next entries k x lt is h f =
    subst (HasEdges next)
    (sym (kept_append p (take k entries) x) ∙ ap (edges_kept p) (ap (λ y. take k entries ++ y ∷ []) is ∙ sym (take_more entries k x lt)))
    (f (edges_kept p (take k entries)) h)

-- an edge that is not known is held where the entries keep it
pub held_by_kept : (p : Polygraph) (g : Graph) (entries : List LedgerEntry) (e : Edge) (known kept : Bool) → g ≡ record { nodes = p.nodes; edges = p.known } → known ≡ has_edge g.edges e → known ≡ false
    → kept ≡ has_edge (edges_kept p entries) e → kept ≡ is_held p entries e
held_by_kept p g entries e known kept same is other keeps =
    keeps ∙ any_kept p entries e ∙ ap (λ b. b || list_any (λ x. is_of p e x.post) entries) (sym other ∙ is ∙ ap (λ (h : Graph). has_edge h.edges e) same)
