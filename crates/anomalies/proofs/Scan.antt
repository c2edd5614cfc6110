-- The first of the results over a range of nodes or keys, and over the operations of a node.
use Rattle.anomalies.proofs.Prelude.{◌≡◌, ℕ, ◌+◌, ◌-◌, ◌<◌, ◌≤◌, List, length, get_or, take, drop, Option, None, Some, sym, ap, ◌∙◌, arith, map, flat_map, range_with_len, option_or, at_drop_more, at_drop_all, take_more, Event, Anomaly}
use Rattle.anomalies.proofs.Prelude.{Place, places_from, first_some, first-append}

-- ---- what G gives for the numbers from v up to the end
abbrev pub first_from : {X : Type 0} → (X → Option Anomaly) → (ℕ → List X) → ℕ → ℕ → Option Anomaly
first_from f G v end = first_some (map f (flat_map G (range_with_len v (end - v))))

pub first_from-more : {X : Type 0} (f : X → Option Anomaly) (G : ℕ → List X) (v end : ℕ) → v < end → first_from f G v end ≡ option_or (first_some (map f (G v))) (first_from f G (v + 1) end)
first_from-more f v1 v end lt = grind (arith, first-append)

-- where the turn of v, here u, gives nothing, the rest decides
pub passed : {X : Type 0} (f : X → Option Anomaly) (G : ℕ → List X) (u v end : ℕ) → u ≡ v → v < end → None ≡ first_some (map f (G u)) → first_from f G v end ≡ first_from f G (v + 1) end
passed f v1 u v end same lt none = grind (arith, first_from-more)

pub stopped : {X : Type 0} (f : X → Option Anomaly) (G : ℕ → List X) (u v end : ℕ) (a : Anomaly) → u ≡ v → v < end → Some a ≡ first_some (map f (G u)) → first_from f G v end ≡ Some a
stopped f v1 u v end a same lt some = grind (arith, first_from-more)

pub first_from-one : {X : Type 0} (f : X → Option Anomaly) (G : ℕ → List X) (n : ℕ) → first_from f G 1 (n + 1) ≡ first_some (map f (flat_map G (range_with_len 1 n)))
first_from-one f G n = let count : n + 1 - 1 ≡ n = omega arith in ap (λ k. first_some (map f (flat_map G (range_with_len 1 k)))) count

pub first_from-zero : {X : Type 0} (f : X → Option Anomaly) (G : ℕ → List X) (n : ℕ) → first_from f G 0 n ≡ first_some (map f (flat_map G (range_with_len 0 n)))
first_from-zero f G n = let count : n - 0 ≡ n = omega arith in ap (λ k. first_some (map f (flat_map G (range_with_len 0 k)))) count

-- ---- what f gives for the operations from place i on
abbrev pub first_behind : (Place → Option Anomaly) → ℕ → List Event → ℕ → Option Anomaly
first_behind f v ops i = first_some (map f (places_from v (take i ops) (drop i ops)))

abbrev pub place_at : ℕ → List Event → ℕ → Event → Place
place_at v ops i e = record { node = v; front = take i ops; event = e; back = drop (i + 1) ops }

pub first_behind-more : (f : Place → Option Anomaly) (v : ℕ) (ops : List Event) (i : ℕ) (d : Event) → i < length ops → first_behind f v ops i ≡ option_or (f (place_at v ops i (get_or ops i d))) (first_behind f v ops (i + 1))
first_behind-more f v ops i d lt =
    at_drop_more (λ l. first_some (map f (places_from v (take i ops) l))) ops i d lt
    ∙ ap (λ l. option_or (f (place_at v ops i (get_or ops i d))) (first_some (map f (places_from v l (drop (i + 1) ops))))) (sym (take_more ops i d lt))

pub first_behind-all : (f : Place → Option Anomaly) (v : ℕ) (ops : List Event) (i : ℕ) → length ops ≤ i → first_behind f v ops i ≡ None
first_behind-all f v ops i le = at_drop_all (λ l. first_some (map f (places_from v (take i ops) l))) ops i le
