-- The readings of the keys, and the readers of the nodes, one by one.
use Rattle.write_chains.proofs.Prelude.{◌≡◌, ℕ, zero, suc, ◌+◌, ◌-◌, ◌<◌, ◌≤◌, false, cond, eqb, List, [], ◌∷◌, ◌++◌, Option, None, Some, refl, sym, ap, subst, ◌∙◌, arith, inl, inr, map, filter, filter_map, cons_option, range_with_len}
use Rattle.write_chains.proofs.Prelude.{AllByRecursion, option_map, option_map_or, cases_eq, eq-eqb, ne_eqb, append-nil, map-append, filter_map-append, filter-append, Log, source, committed, sources_of, ReadFrom, readers, reads_key}
use Rattle.write_chains.proofs.Prelude.{Reading, readings_among, readings_in, readings_by, readers_among, source_within, range_last}

abbrev pub reading : ℕ → ℕ → Reading
reading r w = record { reader = r; source = w }

-- ---- what a node reads, by keys
by_pairs : ℕ → ℕ → List (ℕ × ℕ) → List Reading
by_pairs r x [] = []
by_pairs r x (p ∷ ps) = cond (eqb p.0 x) (reading r p.1 ∷ []) [] ++ by_pairs r x ps

-- a read, by key and source
abbrev pub pair_of : ReadFrom → ℕ × ℕ
pair_of r = (r.key, r.source)

from_pairs : (r x : ℕ) (reads : List ReadFrom) → readings_by r x reads ≡ by_pairs r x (map pair_of reads)
unfolding by_pairs
from_pairs r x [] = refl
from_pairs r x (read ∷ reads) = ap (λ l. cond (eqb read.key x) (reading r read.source ∷ []) [] ++ l) (from_pairs r x reads)

module _ (r x : ℕ) (f : ℕ → Option ℕ) where
  abbrev pair_at : ℕ → Option (ℕ × ℕ)
  pair_at y = option_map (λ w. (y, w)) (f y)

  absent_one : (a : ℕ) (o : Option ℕ) (ps : List (ℕ × ℕ)) → x < a → by_pairs r x ps ≡ [] → by_pairs r x (cons_option (option_map (λ w. (a, w)) o) ps) ≡ []
  unfolding by_pairs
  absent_one a None ps lt e = e
  absent_one a (Some w) ps lt e = ap (λ b. cond b (reading r w ∷ []) [] ++ by_pairs r x ps) (ne_eqb a x (omega arith)) ∙ e

  absent : (a n : ℕ) → x < a → by_pairs r x (filter_map pair_at (range_with_len a n)) ≡ []
  unfolding by_pairs
  absent a zero lt = refl
  absent a (suc n) lt = absent_one a (f a) (filter_map pair_at (range_with_len (a + 1) n)) lt (absent (a + 1) n (omega arith))

  skipped : (a : ℕ) (o : Option ℕ) (ps : List (ℕ × ℕ)) → (a ≡ x → ⊥) → by_pairs r x (cons_option (option_map (λ w. (a, w)) o) ps) ≡ by_pairs r x ps
  unfolding by_pairs
  skipped a None ps ne = refl
  skipped a (Some w) ps ne = ap (λ b. cond b (reading r w ∷ []) [] ++ by_pairs r x ps) (ne_eqb a x ne)

  taken : (o : Option ℕ) (ps : List (ℕ × ℕ)) → by_pairs r x ps ≡ [] → by_pairs r x (cons_option (option_map (λ w. (x, w)) o) ps) ≡ cons_option (option_map (reading r) o) []
  unfolding by_pairs
  taken None ps e = e
  taken (Some w) ps e = ap (λ b. cond b (reading r w ∷ []) [] ++ by_pairs r x ps) (eq-eqb x x refl) ∙ ap (λ l. reading r w ∷ l) e

  present : (a n : ℕ) → a ≤ x → x < a + n → by_pairs r x (filter_map pair_at (range_with_len a n)) ≡ cons_option (option_map (reading r) (f x)) []
  present a zero lo hi = absurd (omega arith)
  present a (suc n) lo hi = elim (cases_eq a x) [
    | inl e ↦ subst (λ y. by_pairs r x (cons_option (option_map (λ w. (y, w)) (f y)) (filter_map pair_at (range_with_len (y + 1) n))) ≡ cons_option (option_map (reading r) (f x)) []) (sym e)
        (taken (f x) (filter_map pair_at (range_with_len (x + 1) n)) (absent (x + 1) n (omega arith)))
    | inr ne ↦ skipped a (f a) (filter_map pair_at (range_with_len (a + 1) n)) ne ∙ present (a + 1) n (omega (arith, ne)) (omega arith)
  ]

pub readings_one : (log : Log) (r x : ℕ) (reads : List ReadFrom) → x < log.keys → map pair_of reads ≡ sources_of log r → readings_by r x reads ≡ readings_among log x (r ∷ [])
readings_one log r x reads lt e =
    from_pairs r x reads ∙ ap (by_pairs r x) e ∙ present r x (source log r) 0 log.keys (omega arith) (omega arith)

pub readings_push : (r x : ℕ) (front : List ReadFrom) (read : ReadFrom) → readings_by r x (front ++ read ∷ []) ≡ readings_by r x front ++ cond (eqb read.key x) (reading r read.source ∷ []) []
readings_push r x [] read = grind (arith, append-nil)
readings_push r x (a ∷ front) read = grind (arith, append-nil, readings_push r x front read)

-- ---- node by node

pub readings_further : (log : Log) (x r : ℕ) → 0 < r → readings_among log x (range_with_len 1 (r - 1)) ++ readings_among log x (r ∷ []) ≡ readings_among log x (range_with_len 1 (r + 1 - 1))
readings_further log x r lo =
    let number : 1 + (r - 1) ≡ r = omega arith in
    let length : r - 1 + 1 ≡ r + 1 - 1 = omega arith in
    sym (filter_map-append (λ v. option_map (reading v) (source log v x)) (range_with_len 1 (r - 1)) (r ∷ []))
    ∙ ap (readings_among log x) (ap (λ v. range_with_len 1 (r - 1) ++ v ∷ []) (sym number) ∙ sym (range_last 1 (r - 1)) ∙ ap (range_with_len 1) length)

-- ---- the keys that a node reads
keys_below : (log : Log) (r : ℕ) (n : ℕ) (o : Option ℕ) (x : ℕ) (ps : List (ℕ × ℕ)) → x < n → AllByRecursion (λ (p : ℕ × ℕ). p.0 < n) ps → AllByRecursion (λ (p : ℕ × ℕ). p.0 < n) (cons_option (option_map (λ w. (x, w)) o) ps)
keys_below log r n None x ps lt h = h
keys_below log r n (Some w) x ps lt h = (lt, h)

pub all_keys_below : (log : Log) (r n a m : ℕ) → a + m ≤ n → AllByRecursion (λ (p : ℕ × ℕ). p.0 < n) (filter_map (λ x. option_map (λ w. (x, w)) (source log r x)) (range_with_len a m))
all_keys_below log r n a zero h = grind (arith, keys_below)
all_keys_below log r n a (suc m) h = grind (arith, keys_below, all_keys_below log r n (a + 1) m (omega arith))

-- ---- readers
readers_one : (log : Log) (x w r : ℕ) (o : Option ℕ) (rest : List Reading) → readers_among w (cons_option (option_map (reading r) o) rest) ≡ cond (option_map_or (λ u. eqb u w) o false) (r ∷ readers_among w rest) (readers_among w rest)
readers_one log x w r v4 rest = grind arith

readers_of_nodes : (log : Log) (x w : ℕ) (nodes : List ℕ) → readers_among w (readings_among log x nodes) ≡ filter (reads_key log x w) nodes
readers_of_nodes log x w [] = grind (arith, readers_one)
readers_of_nodes log x w (r ∷ nodes) = grind (arith, readers_one, readers_of_nodes log x w nodes)

pub readers_all : (log : Log) (x w : ℕ) → readers_among w (readings_in log x) ≡ readers log x w
readers_all log x w = readers_of_nodes log x w (committed log)

pub readers_push : (w : ℕ) (front : List Reading) (r : Reading) → readers_among w (front ++ r ∷ []) ≡ readers_among w front ++ cond (eqb r.source w) (r.reader ∷ []) []
readers_push w front r = grind (arith, filter-append, map-append)

-- the sources of the readings are nodes of the log
source_one : (log : Log) (r x : ℕ) (o : Option ℕ) → source log r x ≡ o → (rest : List Reading) → AllByRecursion (λ (a : Reading). a.source < log.nodes + 1) rest → AllByRecursion (λ (a : Reading). a.source < log.nodes + 1) (cons_option (option_map (reading r) o) rest)
source_one log r x v3 e rest h = grind (arith, source_within)

pub sources_below : (log : Log) (x : ℕ) (nodes : List ℕ) → AllByRecursion (λ (a : Reading). a.source < log.nodes + 1) (readings_among log x nodes)
sources_below log x [] = tt
sources_below log x (r ∷ nodes) = source_one log r x (source log r x) refl (readings_among log x nodes) (sources_below log x nodes)
