-- From whom a node reads, by its reads.
use Rattle.known_graph.proofs.Prelude.{◌≡◌, ℕ, zero, suc, ◌<◌, ◌≤◌, Bool, false, eqb, ◌||◌, List, [], ◌∷◌, length, get_or, Option, None, Some, refl, sym, ap, ◌∙◌, subst, arith, map, filter_map, cons_option, list_any, AllByRecursion}
use Rattle.known_graph.proofs.Prelude.{option_map, option_map_or, Log, source, reads_from, all_keys, each_of_map, source_within}
use Rattle.serializability.specs.Reads.{IsClean}
use Rattle.session_history.specs.Tables.{sources_of}

abbrev pub reads_key : Log → ℕ → ℕ → Option (ℕ × ℕ)
reads_key log r x = option_map (λ w. (x, w)) (source log r x)

any_first : (w x : ℕ) (o : Option ℕ) (rest : List (ℕ × ℕ)) → (option_map_or (λ u. eqb u w) o false || list_any (λ p. eqb p.1 w) rest) ≡ list_any (λ p. eqb p.1 w) (cons_option (option_map (λ u. (x, u)) o) rest)
any_first w x None rest = refl
any_first w x (Some u) rest = refl

any_source : (log : Log) (r w : ℕ) (keys : List ℕ) → list_any (λ x. option_map_or (λ u. eqb u w) (source log r x) false) keys ≡ list_any (λ p. eqb p.1 w) (filter_map (reads_key log r) keys)
any_source log r w [] = refl
any_source log r w (x ∷ keys) =
    ap (λ b. option_map_or (λ u. eqb u w) (source log r x) false || b) (any_source log r w keys)
    ∙ any_first w x (source log r x) (filter_map (reads_key log r) keys)

any_mapped : {X Y : Type 0} (f : X → Y) (p : Y → Bool) (xs : List X) → list_any p (map f xs) ≡ list_any (λ x. p (f x)) xs
any_mapped f p [] = refl
any_mapped f p (x ∷ xs) = ap (λ b. p (f x) || b) (any_mapped f p xs)

pub reads_from_any : {X : Type 0} (log : Log) (r w : ℕ) (f : X → ℕ × ℕ) (reads : List X) → map f reads ≡ sources_of log r → list_any (λ x. eqb (f x).1 w) reads ≡ reads_from log r w
reads_from_any log r w f reads e =
    sym (any_mapped f (λ p. eqb p.1 w) reads) ∙ ap (list_any (λ p. eqb p.1 w)) e ∙ sym (any_source log r w (all_keys log))

-- ---- each read is one from a node
kept_read : (log : Log) (r x : ℕ) (o : Option ℕ) → source log r x ≡ o → (rest : List (ℕ × ℕ)) → AllByRecursion (λ p. source log r p.0 ≡ Some p.1) rest → AllByRecursion (λ p. source log r p.0 ≡ Some p.1) (cons_option (option_map (λ w. (x, w)) o) rest)
kept_read log r x None e rest k = k
kept_read log r x (Some w) e rest k = (e, k)

each_read : (log : Log) (r : ℕ) (keys : List ℕ) → AllByRecursion (λ p. source log r p.0 ≡ Some p.1) (filter_map (reads_key log r) keys)
each_read log r [] = tt
each_read log r (x ∷ keys) = kept_read log r x (source log r x) refl (filter_map (reads_key log r) keys) (each_read log r keys)

pub each_at : {X : Type 0} (P : X → Type 0) (xs : List X) → AllByRecursion P xs → (k : ℕ) (d : X) → k < length xs → P (get_or xs k d)
each_at P [] h k d lt = absurd (omega arith)
each_at P (x ∷ xs) h zero d lt = h.0
each_at P (x ∷ xs) h (suc k) d lt = each_at P xs h.1 k d (omega arith)

pub read_within : {X : Type 0} (log : Log) → IsClean log → (r : ℕ) → 0 < r → r ≤ log.nodes → (f : X → ℕ × ℕ) (reads : List X) → map f reads ≡ sources_of log r → (i : ℕ) (read : X) → i < length reads → read ≡ get_or reads i read → (f read).1 ≤ log.nodes
read_within log clean r lo hi f reads e i read lt is =
    let Q : (ℕ × ℕ) → Type 0 = λ p. source log r p.0 ≡ Some p.1 in
    let all = each_of_map Q f reads (subst (AllByRecursion Q) (sym e) (each_read log r (all_keys log))) in
    let here = subst (λ y. Q (f y)) (sym is) (each_at (λ y. Q (f y)) reads all i read lt) in
    source_within log clean r (f read).0 (f read).1 lo hi here
