-- The heads of a key among its writers, and where walks along a table end.
use Rattle.write_chains.proofs.Prelude.{◌≡◌, ℕ, zero, suc, Bool, true, false, not, List, [], ◌∷◌, ◌++◌, Option, None, Some, refl, ap, arith, is_some, map, filter, option_map_or, Log, source, committed, writers_in, writes, readers, next}
use Rattle.write_chains.proofs.Prelude.{tail_from, heads, end_by, ChainView, chain_from, append-nil, map-append, filter-append}
use Rattle.list_lemmas.proofs.Lists.{filter_both}

-- whether v reads the key from nobody
abbrev pub reads_nothing : Log → ℕ → ℕ → Bool
reads_nothing log x v = not (is_some (source log v x))

pub heads_among : (log : Log) (x : ℕ) → filter (reads_nothing log x) (writers_in log x) ≡ heads log x
heads_among log x = filter_both (reads_nothing log x) (writes log x) (committed log)

end_option : (f g : ℕ → ℕ) → ((v : ℕ) → f v ≡ g v) → (o : Option ℕ) (w : ℕ) → option_map_or f o w ≡ option_map_or g o w
end_option f g e None w = refl
end_option f g e (Some v) w = e v

pub end_is : (log : Log) (x steps w : ℕ) → end_by (next log x) steps w ≡ tail_from log x steps w
end_is log x zero w = refl
end_is log x (suc steps) w = end_option (end_by (next log x) steps) (tail_from log x steps) (end_is log x steps) (next log x w) w

pub end_some : (f : ℕ → Option ℕ) (steps v u : ℕ) → f v ≡ Some u → end_by f (suc steps) v ≡ end_by f steps u
end_some f steps v u e = ap (λ o. option_map_or (end_by f steps) o v) e

pub end_none : (f : ℕ → Option ℕ) (steps v : ℕ) → f v ≡ None → end_by f steps v ≡ v
end_none f v1 v e = grind arith

-- ---- chains, head by head
pub chain_is : (log : Log) (x h : ℕ) (view : ChainView) → view ≡ record { head = h; tail = end_by (next log x) log.nodes h; readers = readers log x (end_by (next log x) log.nodes h) } → view ≡ chain_from log x h
chain_is log x h view e = grind (arith, end_is)

pub head_more : (log : Log) (x : ℕ) (front : List ℕ) (v : ℕ) (views : List ChainView) → reads_nothing log x v ≡ true → views ≡ map (chain_from log x) (filter (reads_nothing log x) front) → views ++ chain_from log x v ∷ [] ≡ map (chain_from log x) (filter (reads_nothing log x) (front ++ v ∷ []))
head_more log x front v views t e = grind (arith, map-append, filter-append)

pub head_passed : (log : Log) (x : ℕ) (front : List ℕ) (v : ℕ) (views : List ChainView) → reads_nothing log x v ≡ false → views ≡ map (chain_from log x) (filter (reads_nothing log x) front) → views ≡ map (chain_from log x) (filter (reads_nothing log x) (front ++ v ∷ []))
head_passed log x front v views t e = grind (arith, append-nil, filter-append)
