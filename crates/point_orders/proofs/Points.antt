-- The lines of what stands for transactions are those of their points.
use Rattle.std.proofs.Common.{◌≡◌, ℕ, zero, suc, ◌+◌, true, false, List, [], ◌∷◌, ◌++◌, Some, refl, sym, ap, ◌∙◌, inl, inr, arith, cond, append-nil}
use Rattle.std.specs.Prelude.{unwrap_or, slice_get, codes}
use Rattle.std.specs.List.{flat_map, list_any}
use Rattle.std.specs.Option.{option_map_or}
use Rattle.std.proofs.lemmas.Bool.{cases_Bool}
use Rattle.std.proofs.lemmas.List.Concat.{flat_map-append}
use Rattle.std.proofs.Math.Path.{fun_ext}
use Rattle.session_log.specs.Text.{ClientSession, Transaction, is_write}
use Rattle.log_definitions.specs.Unknown.{is_committed}
use Rattle.log_definitions.specs.Serial.{Committed, committed_of, committed_in, node_in, node_of}
use Rattle.log_laws.specs.Logs.{IsLearntLog}
use Rattle.log_laws.proofs.Sessions.{nodes_from, nodes_of}
use Rattle.session_history.specs.Tables.{name_in}
use Rattle.point_laws.specs.Snapshot.{Point, snapshot, commit}
use Rattle.point_laws.specs.Points.{points_from, points_at, points_along}
use Rattle.point_laws.proofs.Nodes.{nodes_are}
use Rattle.point_orders.specs.Text.{word_line, point_line, points_text}
use Rattle.point_orders.specs.Halves.{snapshot_of, commit_of, both_of, halves_from, halves_in, half_text, no_half, half_at, halves_text}
use Rattle.point_orders.specs.declared.halves.Half.{Half}

-- ---- by nodes
abbrev of_node : Committed → List Half
of_node c = cond (list_any is_write c.ops) (snapshot_of c.session c.place ∷ commit_of c.session c.place ∷ []) (both_of c.session c.place ∷ [])

from_nodes : (number n : ℕ) (ts : List Transaction) → halves_from number n ts ≡ flat_map of_node (nodes_from number n ts)
from_nodes number n [] = refl
from_nodes number n (t ∷ ts) = elim (cases_Bool (is_committed t)) [
  | inl e ↦ elim (cases_Bool (list_any is_write t.ops)) [
    | inl f ↦ rw (e, f) (ap (λ l. snapshot_of number n ∷ commit_of number n ∷ l) (from_nodes number (n + 1) ts))
    | inr f ↦ rw (e, f) (ap (λ l. both_of number n ∷ l) (from_nodes number (n + 1) ts))
  ]
  | inr e ↦ rw e (from_nodes number (n + 1) ts)
]

in_nodes : (ss : List ClientSession) → halves_in ss ≡ flat_map of_node (nodes_of ss)
in_nodes [] = refl
in_nodes (s ∷ ss) =
    ap (λ l. l ++ halves_in ss) (from_nodes s.number 1 s.txns)
    ∙ ap (λ l. flat_map of_node (committed_of s) ++ l) (in_nodes ss)
    ∙ sym (flat_map-append of_node (committed_of s) (nodes_of ss))

-- ---- the lines
abbrev line_by : (ℕ → ℕ × ℕ) → Point → List ℕ
line_by name (snapshot v) = word_line (name v) (codes "snapshot")
line_by name (commit v) = word_line (name v) (codes "commit")

abbrev Names : (ℕ → ℕ × ℕ) → ℕ → List Committed → Type 0
Names name v nodes = (j : ℕ) (c : Committed) → slice_get nodes j ≡ Some c → name (v + j) ≡ (c.session, c.place)

lines_at : (name : ℕ → ℕ × ℕ) (v : ℕ) (nodes : List Committed) (i : ℕ) → Names name v nodes → half_text (unwrap_or (slice_get (flat_map of_node nodes) i) no_half) ≡ flat_map (line_by name) (unwrap_or (slice_get (points_from v nodes) i) [])
lines_at name v [] i h = refl
lines_at name v (c ∷ nodes) i h = elim (cases_Bool (list_any is_write c.ops)) [
  | inl e ↦ writer (λ k. lines_at name (v + 1) nodes k behind) e i
  | inr e ↦ reader (λ k. lines_at name (v + 1) nodes k behind) e i
]
  where
    first : (c.session, c.place) ≡ name v
    first = let e : v + 0 ≡ v = omega arith in sym (h 0 c refl) ∙ ap name e

    behind : Names name (v + 1) nodes
    behind j d at = let e : (v + 1) + j ≡ v + suc j = omega arith in ap name e ∙ h (suc j) d at

    writer : ((k : ℕ) → half_text (unwrap_or (slice_get (flat_map of_node nodes) k) no_half) ≡ flat_map (line_by name) (unwrap_or (slice_get (points_from (v + 1) nodes) k) [])) → list_any is_write c.ops ≡ true → (i : ℕ) → half_text (unwrap_or (slice_get (flat_map of_node (c ∷ nodes)) i) no_half) ≡ flat_map (line_by name) (unwrap_or (slice_get (points_from v (c ∷ nodes)) i) [])
    writer later e zero = rw e (ap (λ n. word_line n (codes "snapshot") ++ []) first)
    writer later e (suc zero) = rw e (ap (λ n. word_line n (codes "commit")) first ∙ sym (append-nil (word_line (name v) (codes "commit"))))
    writer later e (suc (suc i)) = rw e (later i)

    reader : ((k : ℕ) → half_text (unwrap_or (slice_get (flat_map of_node nodes) k) no_half) ≡ flat_map (line_by name) (unwrap_or (slice_get (points_from (v + 1) nodes) k) [])) → list_any is_write c.ops ≡ false → (i : ℕ) → half_text (unwrap_or (slice_get (flat_map of_node (c ∷ nodes)) i) no_half) ≡ flat_map (line_by name) (unwrap_or (slice_get (points_from v (c ∷ nodes)) i) [])
    reader later e zero = rw e (ap (λ n. word_line n (codes "snapshot") ++ word_line n (codes "commit")) first ∙ ap (λ l. word_line (name v) (codes "snapshot") ++ l) (sym (append-nil (word_line (name v) (codes "commit")))))
    reader later e (suc i) = rw e (later i)

abbrev name_of : Committed → ℕ × ℕ
name_of c = (c.session, c.place)

named : (nodes : List Committed) (j : ℕ) (c : Committed) → slice_get nodes j ≡ Some c → option_map_or name_of (node_in nodes (suc j)) (0, 0) ≡ name_of c
named nodes j c at = ap (λ o. option_map_or name_of o (0, 0)) at

by_number : (name : ℕ → ℕ × ℕ) (nodes : List Committed) → Names name 1 nodes → (k : ℕ) → half_text (half_at (flat_map of_node nodes) k) ≡ flat_map (line_by name) (points_at (points_from 1 nodes) k)
by_number name nodes h zero = refl
by_number name nodes h (suc i) = lines_at name 1 nodes i h

same_lines : (ss : List ClientSession) (p : Point) → line_by (name_in ss) p ≡ point_line ss p
same_lines ss (snapshot v) = refl
same_lines ss (commit v) = refl

along : (name : ℕ → ℕ × ℕ) (nodes : List Committed) → Names name 1 nodes → (order : List ℕ) → halves_text (flat_map of_node nodes) order ≡ flat_map (line_by name) (flat_map (points_at (points_from 1 nodes)) order)
along name nodes h [] = refl
along name nodes h (k ∷ order) =
    ap (λ l. l ++ halves_text (flat_map of_node nodes) order) (by_number name nodes h k)
    ∙ ap (λ l. flat_map (line_by name) (points_at (points_from 1 nodes) k) ++ l) (along name nodes h order)
    ∙ sym (flat_map-append (line_by name) (points_at (points_from 1 nodes) k) (flat_map (points_at (points_from 1 nodes)) order))

name_next : (ss : List ClientSession) (j : ℕ) (c : Committed) → slice_get (committed_in ss) j ≡ Some c → name_in ss (1 + j) ≡ name_of c
unfolding node_of
name_next ss j c at = let e : 1 + j ≡ suc j = omega arith in ap (name_in ss) e ∙ named (committed_in ss) j c at

-- what stands for the transactions of a log whose outcomes are known has the text of its points
pub text_is : (ss : List ClientSession) (order : List ℕ) → IsLearntLog ss → halves_text (halves_in ss) order ≡ points_text ss (points_along ss order)
unfolding points_text
text_is ss order learnt =
    ap (λ l. halves_text l order) (in_nodes ss ∙ ap (flat_map of_node) (sym (nodes_are ss learnt)))
    ∙ along (name_in ss) (committed_in ss) (name_next ss) order
    ∙ ap (λ (f : Point → List ℕ). flat_map f (points_along ss order)) (fun_ext (same_lines ss))
