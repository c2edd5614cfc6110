-- What the tests of a ledger say.
use Rattle.ledger_checks.proofs.Prelude.{◌≡◌, ◌⊎◌, ℕ, ◌+◌, ◌<◌, Bool, true, ◌&&◌, List, [], ◌∷◌, ◌++◌, length, get_or, take, drop, refl, sym, ap, ◌∙◌, subst, inl, inr, list_any, false≢true, and_parts, and_from, or_cases, or_left, or_right}
use Rattle.ledger_checks.proofs.Prelude.{drop_more, take_more, same_bool, Edge, Polygraph, IsCycle, other, has_edge, leads, is_line, side_of, kept_side, kept_after, edges_after, IsShown, AreShown, is_of, is_held, leads_by, is_line_by}
use Rattle.ledger_checks.proofs.Prelude.{is_shown_by, are_shown_by, is_cycle_by, LedgerEntry}
use Rattle.std.specs.Prelude.{◌==◌, nat_lt, slice_index}
use Rattle.known_graph.proofs.Listed.{In, In-from_Contains}
use Rattle.pruning_laws.specs.Ledger.{Entry as Kept, sides_in}
use Rattle.prune_ledger.specs.Posted.{Posted}
use Rattle.prune_ledger.specs.Pruned.{posts_in, kept_by}
use Rattle.known_graph.proofs.Tested.{edge_in, has_in, has_contained, walk_of, line_of}
use Rattle.prune_ledger.proofs.Sides.{known_with, more_kept, new_kept, kept_cases, no_kept}
use Rattle.prune_ledger.proofs.Grown.{kept_append, posts_append}

-- ---- an edge that is held
abbrev any_of : Polygraph → Edge → List LedgerEntry → Bool
any_of p e entries = list_any (λ x. is_of p e x.post) entries

after_cases : (p : Polygraph) (entries : List LedgerEntry) (kept : List Kept) (e : Edge) → In e (edges_after p (kept_after kept (posts_in entries))) → In e (edges_after p kept) ⊎ (any_of p e entries ≡ true)
after_cases p [] kept e i = inl i
after_cases p (x ∷ xs) kept e i = elim (after_cases p xs (kept_side x.post ∷ kept) e i) [
  | inl a ↦ (elim (kept_cases p kept (kept_side x.post) e a) [
    | inl old ↦ inl old
    | inr new ↦ inr (or_left (is_of p e x.post) (any_of p e xs) (has_in (side_of p.choices x.post.choice (other x.post.side)) e new))
  ])
  | inr b ↦ inr (or_right (is_of p e x.post) (any_of p e xs) b)
]

after_old : (p : Polygraph) (entries : List LedgerEntry) (kept : List Kept) (e : Edge) → In e (edges_after p kept) → In e (edges_after p (kept_after kept (posts_in entries)))
after_old p [] kept e i = i
after_old p (x ∷ xs) kept e i = after_old p xs (kept_side x.post ∷ kept) e (more_kept p kept (kept_side x.post) e i)

after_new : (p : Polygraph) (entries : List LedgerEntry) (kept : List Kept) (e : Edge) → any_of p e entries ≡ true → In e (edges_after p (kept_after kept (posts_in entries)))
after_new p [] kept e t = absurd (false≢true t)
after_new p (x ∷ xs) kept e t = elim (or_cases (is_of p e x.post) (any_of p e xs) t) [
  | inl a ↦ after_old p xs (kept_side x.post ∷ kept) e (new_kept p kept (kept_side x.post) e (In-from_Contains (side_of p.choices x.post.choice (other x.post.side)) e (edge_in (side_of p.choices x.post.choice (other x.post.side)) e a)))
  | inr b ↦ after_new p xs (kept_side x.post ∷ kept) e b
]

held_is : (p : Polygraph) (entries : List LedgerEntry) (e : Edge) → is_held p entries e ≡ has_edge (edges_after p (kept_by entries)) e
held_is p entries e = same_bool (is_held p entries e) (has_edge (edges_after p (kept_by entries)) e)
    (λ t. has_in (edges_after p (kept_by entries)) e (elim (or_cases (has_edge p.known e) (any_of p e entries) t) [
      | inl a ↦ after_old p entries [] e (known_with p (sides_in []) e (In-from_Contains p.known e (edge_in p.known e a)))
      | inr b ↦ after_new p entries [] e b
    ]))
    (λ t. elim (after_cases p entries [] e (In-from_Contains (edges_after p (kept_by entries)) e (edge_in (edges_after p (kept_by entries)) e t))) [
      | inl a ↦ or_left (has_edge p.known e) (any_of p e entries) (has_in p.known e (no_kept p e a))
      | inr b ↦ or_right (has_edge p.known e) (any_of p e entries) b
    ])

leads_is : (p : Polygraph) (entries : List LedgerEntry) (ws : List ℕ) (u v : ℕ) → leads_by p entries u ws v ≡ leads (edges_after p (kept_by entries)) u ws v
leads_is p entries [] u v = refl
leads_is p entries (w ∷ ws) u v =
    ap (λ b. b && leads_by p entries w ws v) (held_is p entries (u, w)) ∙ ap (λ b. has_edge (edges_after p (kept_by entries)) (u, w) && b) (leads_is p entries ws w v)

line_is : (p : Polygraph) (entries : List LedgerEntry) (line : List ℕ) (u v : ℕ) → is_line_by p entries u line v ≡ is_line (edges_after p (kept_by entries)) u line v
line_is p entries line u v = ap (λ b. nat_lt 1 (length line) && ((slice_index line 0 == u) && b)) (leads_is p entries (drop 1 line) u v)

-- ---- entries
shown_of : (p : Polygraph) (entries : List LedgerEntry) (q : Posted) → is_shown_by p entries q ≡ true → IsShown p (kept_by entries) q
shown_of p entries q t =
    let b = and_parts (has_edge (side_of p.choices q.choice q.side) q.edge) (is_line_by p entries q.edge.1 q.walk q.edge.0) t in
    record { within = edge_in (side_of p.choices q.choice q.side) q.edge b.0; walk = walk_of (edges_after p (kept_by entries)) q.walk q.edge.1 q.edge.0 (sym (line_is p entries q.walk q.edge.1 q.edge.0) ∙ b.1) }

of_shown : (p : Polygraph) (entries : List LedgerEntry) (q : Posted) → IsShown p (kept_by entries) q → is_shown_by p entries q ≡ true
of_shown p entries q s =
    and_from (has_edge (side_of p.choices q.choice q.side) q.edge) (is_line_by p entries q.edge.1 q.walk q.edge.0)
    (has_contained (side_of p.choices q.choice q.side) q.edge s.within)
    (line_is p entries q.walk q.edge.1 q.edge.0 ∙ line_of (edges_after p (kept_by entries)) q.walk q.edge.1 q.edge.0 s.walk)

kept_last : (xs : List LedgerEntry) (x : LedgerEntry) → kept_by (xs ++ x ∷ []) ≡ kept_side x.post ∷ kept_by xs
kept_last xs x = ap (kept_after []) (posts_append xs (x ∷ [])) ∙ kept_append [] (posts_in xs) (x.post ∷ [])

all_shown : (p : Polygraph) (rest earlier : List LedgerEntry) → are_shown_by p earlier rest ≡ true → AreShown p (kept_by earlier) (posts_in rest)
all_shown p [] earlier t = tt
all_shown p (x ∷ xs) earlier t =
    let b = and_parts (is_shown_by p earlier x.post) (are_shown_by p (earlier ++ x ∷ []) xs) t in
    (shown_of p earlier x.post b.0, subst (λ (k : List Kept). AreShown p k (posts_in xs)) (kept_last earlier x) (all_shown p xs (earlier ++ x ∷ []) b.1))

shown_all : (p : Polygraph) (rest earlier : List LedgerEntry) → AreShown p (kept_by earlier) (posts_in rest) → are_shown_by p earlier rest ≡ true
shown_all p [] earlier s = refl
shown_all p (x ∷ xs) earlier s =
    and_from (is_shown_by p earlier x.post) (are_shown_by p (earlier ++ x ∷ []) xs) (of_shown p earlier x.post s.0)
    (shown_all p xs (earlier ++ x ∷ []) (subst (λ (k : List Kept). AreShown p k (posts_in xs)) (sym (kept_last earlier x)) s.1))

pub ledger_shown : (p : Polygraph) (entries : List LedgerEntry) → are_shown_by p [] entries ≡ true → AreShown p [] (posts_in entries)
ledger_shown p entries t = all_shown p entries [] t

pub shown_ledger : (p : Polygraph) (entries : List LedgerEntry) → AreShown p [] (posts_in entries) → are_shown_by p [] entries ≡ true
shown_ledger p entries s = shown_all p entries [] s

-- ---- a cycle
pub cycle_of : (p : Polygraph) (entries : List LedgerEntry) (line : List ℕ) → is_cycle_by p entries line ≡ true → IsCycle (edges_after p (kept_by entries)) line
cycle_of p entries line t = (slice_index line 0, walk_of (edges_after p (kept_by entries)) line (slice_index line 0) (slice_index line 0) (sym (line_is p entries line (slice_index line 0) (slice_index line 0)) ∙ t))

pub of_cycle : (p : Polygraph) (entries : List LedgerEntry) (line : List ℕ) → IsCycle (edges_after p (kept_by entries)) line → is_cycle_by p entries line ≡ true
of_cycle p entries line c =
    let first : slice_index line 0 ≡ c.0 = ap (λ l. slice_index l 0) c.1.shape in
    line_is p entries line (slice_index line 0) (slice_index line 0)
    ∙ subst (λ (n : ℕ). is_line (edges_after p (kept_by entries)) n line n ≡ true) (sym first) (line_of (edges_after p (kept_by entries)) line c.0 c.0 c.1)

-- ---- going on by one entry

pub shown_step : (p : Polygraph) (entries : List LedgerEntry) (k : ℕ) (x : LedgerEntry) → k < length entries → x ≡ get_or entries k x
    → are_shown_by p (take k entries) (drop k entries) ≡ (is_shown_by p (take k entries) x.post && are_shown_by p (take (k + 1) entries) (drop (k + 1) entries))
shown_step p entries k x lt is =
    ap (are_shown_by p (take k entries)) (drop_more entries k x lt ∙ ap (λ y. y ∷ drop (k + 1) entries) (sym is))
    ∙ ap (λ l. is_shown_by p (take k entries) x.post && are_shown_by p l (drop (k + 1) entries)) (sym (take_more entries k x lt ∙ ap (λ y. take k entries ++ y ∷ []) (sym is)))
