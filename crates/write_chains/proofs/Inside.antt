-- Inner edges, node by node and key by key.
use Rattle.write_chains.proofs.Prelude.{◌≡◌, ℕ, ◌+◌, List, [], ◌∷◌, ◌++◌, refl, sym, ap, ◌∙◌, arith, append_assoc, flat_map, range_with_len, Log, readers, next, inner_at, map, append-nil, map-append, range_last, edges_before}
use Rattle.serializability.specs.Polygraph as graph
use Rattle.std.proofs.lemmas.Grind.{flat_map-append}

-- the inner edges of a key
abbrev pub inner_of : Log → ℕ → List graph.Edge
inner_of log x = flat_map (λ w. inner_at log x w (next log x w)) (graph.all_nodes log)

flat_same : {X : Type 0} (f g : ℕ → List X) → ((v : ℕ) → f v ≡ g v) → (xs : List ℕ) → flat_map f xs ≡ flat_map g xs
flat_same f g e [] = refl
flat_same f g e (x ∷ xs) = ap (λ l. l ++ flat_map f xs) (e x) ∙ ap (λ l. g x ++ l) (flat_same f g e xs)

pub inner_by_links : (log : Log) (x : ℕ) → flat_map (λ w. edges_before (readers log x w) (next log x w)) (range_with_len 0 (log.nodes + 1)) ≡ inner_of log x
inner_by_links log x = grind (arith, flat_same)

flat_further : {X : Type 0} (f : ℕ → List X) (k : ℕ) → flat_map f (range_with_len 0 (k + 1)) ≡ flat_map f (range_with_len 0 k) ++ f k
flat_further f k = grind (arith, range_last, flat_map-append, append-nil)

-- with the edges of one more node, or key
pub edges_further : {X : Type 0} (f : ℕ → List X) (k : ℕ) (first now new : List X) → now ≡ first ++ flat_map f (range_with_len 0 k) → new ≡ now ++ f k → new ≡ first ++ flat_map f (range_with_len 0 (k + 1))
edges_further f k first now new h e =
    e ∙ ap (λ l. l ++ f k) h ∙ append_assoc first (flat_map f (range_with_len 0 k)) (f k) ∙ ap (λ l. first ++ l) (sym (flat_further f k))

pub inner_further : (log : Log) (k : ℕ) (now new : List graph.Edge) → now ≡ flat_map (inner_of log) (range_with_len 0 k) → new ≡ now ++ flat_map (λ w. edges_before (readers log k w) (next log k w)) (range_with_len 0 (log.nodes + 1)) → new ≡ flat_map (inner_of log) (range_with_len 0 (k + 1))
inner_further log k now new h e = grind (arith, inner_by_links, flat_further)

pub mapped_further : {X Y : Type 0} (f : ℕ → Y) (view : X → Y) (k : ℕ) (now new : List X) (x : X) → map view now ≡ map f (range_with_len 0 k) → new ≡ now ++ x ∷ [] → view x ≡ f k → map view new ≡ map f (range_with_len 0 (k + 1))
mapped_further f view k now new x h e is = grind (arith, map-append, range_last)
