-- The bipaths of a log, by what its nodes read and who wrote the keys.
use Rattle.polygraph.proofs.Prelude.{◌≡◌, ℕ, ◌+◌, ◌-◌, ◌<◌, List, [], ◌∷◌, ◌++◌, length, get_or, drop, Option, None, Some, refl, sym, ap, ◌∙◌, subst, arith, is_some, map, filter, filter_map, cons_option, flat_map, range_with_len, count_by}
use Rattle.polygraph.proofs.Prelude.{AllByRecursion, get_or-map, length-map, drop_more, Choice, source, rival_choice, bipaths, bipaths_at, all_keys, committed, each_from_range, each_from_bipaths, rival_is, source_within, sources_of}
use Rattle.polygraph.proofs.Prelude.{writers_in, JoinsBoth, is_other, up_to, up_to_first, Split, reads_key}
use Rattle.std.specs.Option.{option_map}
use Rattle.std.proofs.lemmas.List.Sums.{length-filter}
use Rattle.list_lemmas.proofs.Lists.{filter_both}
use Rattle.serializability.specs.Log.{Log}
use Rattle.serializability.specs.Reads.{last_write, IsClean}
use Rattle.polygraph.proofs.Each.{each_item}

-- ---- the key and the source of each read
kept_read : (log : Log) (r : ℕ) (P : ℕ → Type 0) (x : ℕ) → P x → (o : Option ℕ) → source log r x ≡ o → (rest : List (ℕ × ℕ)) → AllByRecursion (λ p. P p.0 × (source log r p.0 ≡ Some p.1)) rest → AllByRecursion (λ p. P p.0 × (source log r p.0 ≡ Some p.1)) (cons_option (option_map (λ w. (x, w)) o) rest)
kept_read log r P x h None e rest k = k
kept_read log r P x h (Some w) e rest k = ((h, e), k)

each_read : (log : Log) (r : ℕ) (P : ℕ → Type 0) (keys : List ℕ) → AllByRecursion P keys → AllByRecursion (λ p. P p.0 × (source log r p.0 ≡ Some p.1)) (filter_map (reads_key log r) keys)
each_read log r P [] h = tt
each_read log r P (x ∷ keys) h = kept_read log r P x h.0 (source log r x) refl (filter_map (reads_key log r) keys) (each_read log r P keys h.1)

pub record ReadAt (log : Log) (r : ℕ) (p : ℕ × ℕ) : Type 0 where
  pub key : p.0 < log.keys
  pub source : source log r p.0 ≡ Some p.1

pub read_at : {X : Type 0} (log : Log) (r : ℕ) (f : X → ℕ × ℕ) (reads : List X) → map f reads ≡ sources_of log r → (i : ℕ) (read : X) → i < length reads → read ≡ get_or reads i read → ReadAt log r (f read)
read_at log r f reads e i read lt is =
    let P : ℕ → Type 0 = λ x. x < log.keys in
    let Q : (ℕ × ℕ) → Type 0 = λ p. P p.0 × (source log r p.0 ≡ Some p.1) in
    let all = each_read log r P (all_keys log) (each_from_range P 0 log.keys (λ v lo hi. omega arith)) in
    let here = each_item Q f reads (subst (AllByRecursion Q) (sym e) all) i read lt is in
    record { key = here.0; source = here.1 }

-- ---- the bipaths of a reader, by its reads
unfoldable pub reader_bipaths : Log → ℕ → List Choice
reader_bipaths log r = flat_map (λ x. bipaths_at log r x (source log r x)) (all_keys log)

abbrev pub read_bipaths : Log → ℕ → (ℕ × ℕ) → List Choice
read_bipaths log r p = map (rival_choice p.1 r) (filter (is_other p.1 r) (writers_in log p.0))

rivals : (log : Log) (x w r : ℕ) → bipaths_at log r x (Some w) ≡ read_bipaths log r (x, w)
rivals log x w r = ap (map (rival_choice w r)) (sym (filter_both (is_other w r) (λ v. is_some (last_write x (log.ops v))) (committed log)))

bipaths_first : (log : Log) (r x : ℕ) (o : Option ℕ) (rest : List (ℕ × ℕ)) → bipaths_at log r x o ++ flat_map (read_bipaths log r) rest ≡ flat_map (read_bipaths log r) (cons_option (option_map (λ w. (x, w)) o) rest)
bipaths_first log r x None rest = refl
bipaths_first log r x (Some w) rest = ap (λ l. l ++ flat_map (read_bipaths log r) rest) (rivals log x w r)

bipaths_by_source : (log : Log) (r : ℕ) (keys : List ℕ) → flat_map (λ x. bipaths_at log r x (source log r x)) keys ≡ flat_map (read_bipaths log r) (filter_map (reads_key log r) keys)
bipaths_by_source log r [] = refl
bipaths_by_source log r (x ∷ keys) =
    ap (λ l. bipaths_at log r x (source log r x) ++ l) (bipaths_by_source log r keys)
    ∙ bipaths_first log r x (source log r x) (filter_map (reads_key log r) keys)

-- the bipaths of some readers, and of some reads of one
abbrev pub of_readers : Log → List ℕ → List Choice
of_readers log nodes = flat_map (reader_bipaths log) nodes

abbrev pub of_reads : Log → ℕ → List (ℕ × ℕ) → List Choice
of_reads log r reads = flat_map (read_bipaths log r) reads

pub all_bipaths : (log : Log) (end : ℕ) → end ≡ log.nodes + 1 → of_readers log (up_to 1 end) ≡ bipaths log
unfolding reader_bipaths
all_bipaths log end e = let n : end - 1 ≡ log.nodes = omega (arith, e) in ap (λ m. of_readers log (range_with_len 1 m)) n

pub first_reader : (log : Log) (r end : ℕ) → r < end → Split (of_readers log (up_to r end)) (of_reads log r (sources_of log r)) (of_readers log (up_to (r + 1) end))
unfolding reader_bipaths
first_reader log r end h = record {
  parts = ap (of_readers log) (up_to_first r end h) ∙ ap (λ l. l ++ of_readers log (up_to (r + 1) end)) (bipaths_by_source log r (all_keys log));
}

pub first_read : {X : Type 0} (log : Log) (r : ℕ) (f : X → ℕ × ℕ) (reads : List X) → map f reads ≡ sources_of log r → (i : ℕ) (read : X) → i < length reads → read ≡ get_or reads i read →
    Split (of_reads log r (drop i (sources_of log r))) (read_bipaths log r (f read)) (of_reads log r (drop (i + 1) (sources_of log r)))
first_read log r f reads e i read lt is =
    let same : length (sources_of log r) ≡ length reads = ap length (sym e) ∙ length-map reads f in
    let here : get_or (sources_of log r) i (f read) ≡ f read = ap (λ l. get_or l i (f read)) (sym e) ∙ get_or-map f reads i read (f read) lt ∙ ap f (sym is) in
    record {
      parts = ap (of_reads log r) (drop_more (sources_of log r) i (f read) (omega (arith, same)))
          ∙ ap (λ p. read_bipaths log r p ++ of_reads log r (drop (i + 1) (sources_of log r))) here;
    }

pub rival_number : (log : Log) (r : ℕ) (p : ℕ × ℕ) → length (read_bipaths log r p) ≡ count_by (is_other p.1 r) (writers_in log p.0)
rival_number log r p = length-map (filter (is_other p.1 r) (writers_in log p.0)) (rival_choice p.1 r) ∙ length-filter (is_other p.1 r) (writers_in log p.0)

-- ---- bipaths join different nodes
pub bipaths_joined : (log : Log) → IsClean log → AllByRecursion (JoinsBoth log.nodes) (bipaths log)
bipaths_joined log clean = each_from_bipaths log (JoinsBoth log.nodes) (λ q x w v lo hi key from vlo vhi t.
    let rival = rival_is log x w q v t in
    record {
      first = (record { from = vhi; to = source_within log clean q x w lo hi from; apart = rival.1 }, tt);
      second = (record { from = hi; to = vhi; apart = λ e. rival.2 (sym e) }, tt);
    })
