-- Pairs are numbered in order.
use Rattle.order_cnf.proofs.Prelude.{◌≡◌, ◌⊎◌, inl, inr, refl, sym, ap, ◌∙◌, ℕ, suc, ◌+◌, ◌-◌, ◌*◌, ◌<◌, ◌≤◌, ◌&&◌, true, false, eqb, List, [], ◌∷◌, ◌++◌, length, get_or, arith, eq-eqb, eqb-true, map, slice_set, replicate, filter}
use Rattle.order_cnf.proofs.Prelude.{range_with_len, AllByRecursion, cases_Bool, cases_lt, cases_eq, cases_order, and_parts, cond-true, cond-false, and_from, append_assoc, length-append, get_or-set_other, get_or-replicate, get_or_past}
use Rattle.order_cnf.proofs.Prelude.{length-replicate, length-set, same_from_place, mul-add-lt, is_free, pairs_of, pair_place, each_from_append, Relation, known_in, pairs_in, variable_of, up_to}
use Rattle.std.proofs.lemmas.Grind.{get_or-set_at}
use Rattle.std.proofs.lemmas.List.Elements.{filter-append}
use Rattle.order_cnf.proofs.Walks.{up_to_first, up_to_last}
use Rattle.order_cnf.proofs.Counts.{few_pairs}

abbrev pub free_with : Relation → ℕ → List ℕ → List (ℕ × ℕ)
free_with r low nodes = filter (is_free (known_in r)) (map (λ (b : ℕ). (low, b)) nodes)

abbrev pub free_of : Relation → List ℕ → List (ℕ × ℕ)
free_of r nodes = filter (is_free (known_in r)) (pairs_of nodes)

abbrev pub IsPast : ℕ → ℕ → (ℕ × ℕ) → Type 0
IsPast low high p = (p.0 < low) ⊎ ((p.0 ≡ low) × (p.1 < high))

-- the pairs before (low, high) are numbered
pub record IsNumbered (r : Relation) (table : List ℕ) (count low high : ℕ) : Type 0 where
  pub done : List (ℕ × ℕ)
  pub counted : length done ≡ count
  pub split : pairs_in r ≡ done ++ (free_with r low (up_to high (r.nodes + 1)) ++ free_of r (up_to (low + 1) (r.nodes + 1)))
  pub past : AllByRecursion (IsPast low high) done
  pub places : length table ≡ (r.nodes + 1) * (r.nodes + 1)
  pub entries : (u v : ℕ) → u < v → v ≤ r.nodes → IsPast low high (u, v) → get_or table (u * (r.nodes + 1) + v) 0 ≡ variable_of r u v
  pub empty : (u v : ℕ) → u < v → v ≤ r.nodes → (low < u) ⊎ ((low ≡ u) × (high ≤ v)) → get_or table (u * (r.nodes + 1) + v) 0 ≡ 0

whole : (n : ℕ) → n + 1 ≡ n + 1 - 0
whole n = omega arith

pub none_yet : (n : ℕ) (table : List ℕ) → table ≡ replicate n 0 → (k : ℕ) → get_or table k 0 ≡ 0
none_yet n table e k = ap (λ l. get_or l k 0) e ∙ elim (cases_lt k n) [
  | inl lt ↦ get_or-replicate n k 0 0 lt
  | inr le ↦ get_or_past (replicate n 0) k 0 (omega (arith, length-replicate {A = ℕ} n 0, le))
]

pub number_begun : (r : Relation) (table : List ℕ) → length table ≡ (r.nodes + 1) * (r.nodes + 1) → ((k : ℕ) → get_or table k 0 ≡ 0) → IsNumbered r table 0 0 1
number_begun r table places zero = record {
  done = [];
  counted = refl;
  split =
      ap (λ m. free_of r (range_with_len 0 m)) (whole r.nodes) ∙ ap (free_of r) (up_to_first 0 (r.nodes + 1) (omega arith))
      ∙ filter-append (is_free (known_in r)) (map (λ (b : ℕ). (0, b)) (up_to 1 (r.nodes + 1))) (pairs_of (up_to 1 (r.nodes + 1)));
  past = tt;
  places = places;
  entries = λ u v lt hi h. elim h [
    | inl a ↦ absurd (omega (arith, a))
    | inr b ↦ absurd (omega (arith, b.0, b.1, lt))
  ];
  empty = λ u v lt hi h. zero (u * (r.nodes + 1) + v);
}

no_rest : (r : Relation) (low : ℕ) → r.nodes + 1 ≤ low → free_of r (up_to low (r.nodes + 1)) ≡ free_with r low (up_to (low + 1) (r.nodes + 1)) ++ free_of r (up_to (low + 1) (r.nodes + 1))
no_rest r low h =
    ap (free_of r) (up_to_last low (r.nodes + 1) h)
    ∙ sym (ap (λ l. free_with r low l ++ free_of r (up_to (low + 1) (r.nodes + 1))) (up_to_last (low + 1) (r.nodes + 1) (omega (arith, h)))
    ∙ ap (free_of r) (up_to_last (low + 1) (r.nodes + 1) (omega (arith, h))))

rest_of : (r : Relation) (low : ℕ) → free_of r (up_to low (r.nodes + 1)) ≡ free_with r low (up_to (low + 1) (r.nodes + 1)) ++ free_of r (up_to (low + 1) (r.nodes + 1))
rest_of r low = elim (cases_order low (r.nodes + 1)) [
  | inl e ↦ no_rest r low (omega (arith, e))
  | inr o ↦ elim o [
    | inl lt ↦
        ap (free_of r) (up_to_first low (r.nodes + 1) lt)
        ∙ filter-append (is_free (known_in r)) (map (λ (b : ℕ). (low, b)) (up_to (low + 1) (r.nodes + 1))) (pairs_of (up_to (low + 1) (r.nodes + 1)))
    | inr gt ↦ no_rest r low (omega (arith, gt))
  ]
]

all_past : (low high next : ℕ) (done : List (ℕ × ℕ)) → AllByRecursion (IsPast low high) done → AllByRecursion (IsPast (low + 1) next) done
all_past low high next [] h = tt
all_past low high next (p ∷ done) h = (
  elim h.0 [
    | inl a ↦ inl (omega (arith, a))
    | inr b ↦ inl (omega (arith, b.0))
  ],
  all_past low high next done h.1,
)

-- a row is whole
pub number_row : (r : Relation) (table : List ℕ) (count low high : ℕ) → r.nodes + 1 ≤ high → IsNumbered r table count low high → IsNumbered r table count (low + 1) (low + 1 + 1)
number_row r table count low high whole k = record {
  done = k.done;
  counted = k.counted;
  split = k.split ∙ ap (λ l. k.done ++ l) (ap (λ l. free_with r low l ++ free_of r (up_to (low + 1) (r.nodes + 1))) (up_to_last high (r.nodes + 1) whole) ∙ rest_of r (low + 1));
  past = all_past low high (low + 1 + 1) k.done k.past;
  places = k.places;
  entries = λ u v lt hi h. k.entries u v lt hi (elim h [
    | inl a ↦ elim (cases_order u low) [
      | inl e ↦ inr (e, omega (arith, whole, hi))
      | inr o ↦ elim o [
        | inl b ↦ inl b
        | inr b ↦ absurd (omega (arith, a, b))
      ]
    ]
    | inr b ↦ absurd (omega (arith, b.0, b.1, lt))
  ]);
  empty = λ u v lt hi h. k.empty u v lt hi (elim h [
    | inl a ↦ inl (omega (arith, a))
    | inr b ↦ inl (omega (arith, b.0))
  ]);
}

same_pair : (i j a b : ℕ) → (a ≡ i → b ≡ j → ⊥) → (eqb a i && eqb b j) ≡ false
same_pair i j a b ne = elim (cases_Bool (eqb a i && eqb b j)) [
  | inl t ↦ let p = and_parts (eqb a i) (eqb b j) t in absurd (ne (eqb-true a i p.0) (eqb-true b j p.1))
  | inr f ↦ f
]

apart_past : (low high : ℕ) (p : ℕ × ℕ) → IsPast low high p → p.0 ≡ low → p.1 ≡ high → ⊥
apart_past low high p h a b = elim h [
  | inl lt ↦ omega (arith, lt, a)
  | inr q ↦ omega (arith, q.1, b)
]

place_here : (low high : ℕ) (rest : List (ℕ × ℕ)) → pair_place ((low, high) ∷ rest) low high ≡ 0
place_here low high rest = cond-true (eqb low low && eqb high high) 0 (suc (pair_place rest low high)) (and_from (eqb low low) (eqb high high) (eq-eqb low low refl) (eq-eqb high high refl))

place_behind : (low high : ℕ) (done rest : List (ℕ × ℕ)) → AllByRecursion (IsPast low high) done → pair_place (done ++ (low, high) ∷ rest) low high ≡ length done
place_behind low high [] rest h = place_here low high rest
place_behind low high (p ∷ done) rest h =
    cond-false (eqb p.0 low && eqb p.1 high) 0 (suc (pair_place (done ++ (low, high) ∷ rest) low high)) (same_pair low high p.0 p.1 (apart_past low high p h.0))
    ∙ ap suc (place_behind low high done rest h.1)

more_past : (low high : ℕ) (done : List (ℕ × ℕ)) → AllByRecursion (IsPast low high) done → AllByRecursion (IsPast low (high + 1)) done
more_past low high [] h = tt
more_past low high (p ∷ done) h = (
  elim h.0 [
    | inl a ↦ inl a
    | inr b ↦ inr (b.0, omega (arith, b.1))
  ],
  more_past low high done h.1,
)

-- (low, high) has a variable
pub number_free : (r : Relation) (old new : List ℕ) (count low high place : ℕ) → low < high → high ≤ r.nodes → IsNumbered r old count low high → is_free (known_in r) (low, high) ≡ true
    → place ≡ low * (r.nodes + 1) + high → new ≡ slice_set old place (count + 1) → IsNumbered r new (count + 1) low (high + 1)
number_free r old new count low high place lt hi k free at set =
    let rest = free_with r low (up_to (high + 1) (r.nodes + 1)) ++ free_of r (up_to (low + 1) (r.nodes + 1)) in
    let here : pairs_in r ≡ k.done ++ (low, high) ∷ rest =
    k.split ∙ ap (λ l. k.done ++ (free_with r low l ++ free_of r (up_to (low + 1) (r.nodes + 1)))) (up_to_first high (r.nodes + 1) (omega (arith, hi)))
    ∙ ap (λ l. k.done ++ (l ++ free_of r (up_to (low + 1) (r.nodes + 1)))) (cond-true (is_free (known_in r) (low, high)) ((low, high) ∷ free_with r low (up_to (high + 1) (r.nodes + 1))) (free_with r low (up_to (high + 1) (r.nodes + 1))) free) in
    let number : variable_of r low high ≡ count + 1 =
    cond-true (is_free (known_in r) (low, high)) (suc (pair_place (pairs_in r) low high)) 0 free
    ∙ ap suc (ap (λ l. pair_place l low high) here ∙ place_behind low high k.done rest k.past ∙ k.counted) ∙ omega arith in
    let inside : place < length old = omega (arith, at, k.places, mul-add-lt low (r.nodes + 1) high (r.nodes + 1) (omega (arith, lt, hi)) (omega (arith, hi))) in
    record {
      done = k.done ++ (low, high) ∷ [];
      counted = length-append k.done ((low, high) ∷ []) ∙ ap (λ n. n + 1) k.counted;
      split = here ∙ sym (append_assoc k.done ((low, high) ∷ []) rest);
      past = each_from_append (IsPast low (high + 1)) k.done ((low, high) ∷ []) (more_past low high k.done k.past) (inr (refl, omega arith), tt);
      places = ap length set ∙ length-set old place (count + 1) ∙ k.places;
      entries = λ u v uv vn h. elim (cases_eq (u * (r.nodes + 1) + v) place) [
        | inl e ↦
            let same = same_from_place u v low high (r.nodes + 1) (omega (arith, vn)) (omega (arith, hi)) (e ∙ at) in
            ap (λ l. get_or l (u * (r.nodes + 1) + v) 0) set ∙ get_or-set_at old place (u * (r.nodes + 1) + v) (count + 1) 0 e inside
            ∙ sym number ∙ ap (λ x. variable_of r x high) (sym same.0) ∙ ap (λ x. variable_of r u x) (sym same.1)
        | inr ne ↦
            ap (λ l. get_or l (u * (r.nodes + 1) + v) 0) set ∙ get_or-set_other old place (u * (r.nodes + 1) + v) (count + 1) 0 ne
            ∙ k.entries u v uv vn (elim h [
              | inl a ↦ inl a
              | inr b ↦ elim (cases_eq v high) [
                | inl e ↦ absurd (ne (ap (λ x. x * (r.nodes + 1) + v) b.0 ∙ ap (λ x. low * (r.nodes + 1) + x) e ∙ sym at))
                | inr other ↦ inr (b.0, omega (arith, b.1, other))
              ]
            ])
      ];
      empty = λ u v uv vn h.
          ap (λ l. get_or l (u * (r.nodes + 1) + v) 0) set
          ∙ get_or-set_other old place (u * (r.nodes + 1) + v) (count + 1) 0 (λ e.
          let same = same_from_place u v low high (r.nodes + 1) (omega (arith, vn)) (omega (arith, hi)) (e ∙ at) in
          elim h [
            | inl a ↦ omega (arith, a, same.0)
            | inr b ↦ omega (arith, b.1, same.1)
          ])
          ∙ k.empty u v uv vn (elim h [
            | inl a ↦ inl a
            | inr b ↦ inr (b.0, omega (arith, b.1))
          ]);
    }

-- (low, high) has none
pub number_known : (r : Relation) (table : List ℕ) (count low high : ℕ) → low < high → high ≤ r.nodes → IsNumbered r table count low high → is_free (known_in r) (low, high) ≡ false
    → IsNumbered r table count low (high + 1)
number_known r table count low high lt hi k kept = record {
  done = k.done;
  counted = k.counted;
  split = k.split ∙ ap (λ l. k.done ++ (free_with r low l ++ free_of r (up_to (low + 1) (r.nodes + 1)))) (up_to_first high (r.nodes + 1) (omega (arith, hi)))
      ∙ ap (λ l. k.done ++ (l ++ free_of r (up_to (low + 1) (r.nodes + 1)))) (cond-false (is_free (known_in r) (low, high)) ((low, high) ∷ free_with r low (up_to (high + 1) (r.nodes + 1))) (free_with r low (up_to (high + 1) (r.nodes + 1))) kept);
  past = more_past low high k.done k.past;
  places = k.places;
  entries = λ u v uv vn h. elim h [
    | inl a ↦ k.entries u v uv vn (inl a)
    | inr b ↦ elim (cases_eq v high) [
      | inl e ↦
          k.empty u v uv vn (inr (sym b.0, omega (arith, e)))
          ∙ sym (ap (λ x. variable_of r x v) b.0 ∙ ap (λ x. variable_of r low x) e ∙ cond-false (is_free (known_in r) (low, high)) (suc (pair_place (pairs_in r) low high)) 0 kept)
      | inr other ↦ k.entries u v uv vn (inr (b.0, omega (arith, b.1, other)))
    ]
  ];
  empty = λ u v uv vn h. k.empty u v uv vn (elim h [
    | inl a ↦ inl a
    | inr b ↦ inr (b.0, omega (arith, b.1))
  ]);
}

pub few_numbered : (r : Relation) (table : List ℕ) (count low high : ℕ) → r.nodes ≤ 1000 → IsNumbered r table count low high → count ≤ 500500
few_numbered r table count low high few k =
    omega (arith, few_pairs r few, k.counted, ap length k.split, length-append k.done (free_with r low (up_to high (r.nodes + 1)) ++ free_of r (up_to (low + 1) (r.nodes + 1))))
