-- Polygraphs with the same set of known edges.
use Rattle.std.proofs.Common.{◌≡◌, ◌↔◌, ℕ, List, sym, subst}
use Rattle.std.specs.List.{Contains, AllByRecursion}
use Rattle.serializability.specs.Replay.{Before, ListsOnce}
use Rattle.serializability.specs.Polygraph.{Edge, Polygraph, KeepsOne, Fits}
use Rattle.reach_laws.proofs.Walks.{each_contained, each_from_contained}

pub same_fits : (p q : Polygraph) → p.nodes ≡ q.nodes → ((e : Edge) → Contains q.known e → Contains p.known e) → p.choices ≡ q.choices → (order : List ℕ) → Fits p order → Fits q order
same_fits p q nodes edges choices order f = record {
  once = subst (λ n. ListsOnce n order) nodes f.once;
  known = each_from_contained (λ (e : Edge). Before order e.0 e.1) q.known (λ e c. each_contained (λ (d : Edge). Before order d.0 d.1) p.known e f.known (edges e c));
  choices = subst (λ hs. AllByRecursion (KeepsOne order) hs) choices f.choices;
}

pub same_both : (p q : Polygraph) → p.nodes ≡ q.nodes → ((e : Edge) → (Contains p.known e ↔ Contains q.known e)) → p.choices ≡ q.choices → (order : List ℕ) → (Fits p order ↔ Fits q order)
same_both p q nodes edges choices order =
    (same_fits p q nodes (λ e. (edges e).1) choices order, same_fits q p (sym nodes) (λ e. (edges e).0) (sym choices) order)
