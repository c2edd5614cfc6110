-- A list of nodes has a serial order exactly where it has a line.
use Rattle.log_laws.proofs.Prelude.{◌≡◌, ◌≢◌, ◌⊎◌, ℕ, zero, suc, ◌<◌, ◌≤◌, Bool, true, false, eqb, ◌&&◌, cond, List, [], ◌∷◌, ◌++◌, length, get_or, map, Option, Some, None, refl, sym, ap, ◌∙◌, subst, inl, inr, arith, eq-eqb, eqb-true, ◌↔◌}
use Rattle.log_laws.proofs.Prelude.{slice_get, option_and_then, flat_map, AllByRecursion, Contains, cases_Bool, cases_eq, cases_order, false≢true, and_parts, and_from, slice_get_within, slice_get-get_or, contains_at, mapped, is_earlier}
use Rattle.log_laws.proofs.Prelude.{Has, Apart, Has-from_Contains, Contains-from_Has, Apart-from_IsDistinct, place_of-here, place_of-further, Has_get, IsDistinct-from_Apart, Committed, node_in, initial, Replays, member, each_member}
use Rattle.log_laws.proofs.Prelude.{each_at, Orders, session_at, ops_at, begun_at, ended_at}
use Rattle.std.specs.Option.{option_map_or}
use Rattle.serializability.specs.Replay.{place_of, Before}
use Rattle.serializability.proofs.Serial.{behind_zero}
use Rattle.log_laws.proofs.Lines.{MayPrecede, EachPair, IsLine, ops_along}
use Rattle.log_laws.proofs.Lists.{first_or_behind, of_mapped}

-- the nodes of a session stand by their places
abbrev pub InOrder : List Committed → Type 0
InOrder nodes = EachPair (λ a b. a.session ≡ b.session → a.place < b.place) nodes

-- ---- elements by their places
pub pair_at : {X : Type 0} (R : X → X → Type 0) (xs : List X) (i j : ℕ) (a b : X) → EachPair R xs → slice_get xs i ≡ Some a → slice_get xs j ≡ Some b → i < j → R a b
pair_at R [] i j a b h e f lt = cc
pair_at R (x ∷ xs) i zero a b h e f lt = absurd (omega arith)
pair_at R (x ∷ xs) zero (suc j) a b h e f lt = let same : x ≡ a = cc in subst (λ y. R y b) same (each_at (R x) xs j b h.0 f)
pair_at R (x ∷ xs) (suc i) (suc j) a b h e f lt = pair_at R xs i j a b h.1 e f (omega arith)

at_place : (xs : List Committed) (i : ℕ) → i < length xs → (x : Committed) × (slice_get xs i ≡ Some x)
at_place [] i lt = absurd (omega arith)
at_place (x ∷ xs) zero lt = (x, refl)
at_place (x ∷ xs) (suc i) lt = at_place xs i (omega arith)

pub one_place : (nodes : List Committed) (i j : ℕ) (c : Committed) → InOrder nodes → slice_get nodes i ≡ Some c → slice_get nodes j ≡ Some c → i ≡ j
one_place nodes i j c h e f = elim (cases_order i j) [
  | inl same ↦ same
  | inr apart ↦ elim apart [
    | inl less ↦ absurd (let lt = pair_at (λ a b. a.session ≡ b.session → a.place < b.place) nodes i j c c h e f less refl in omega (arith, lt))
    | inr more ↦ absurd (let lt = pair_at (λ a b. a.session ≡ b.session → a.place < b.place) nodes j i c c h f e more refl in omega (arith, lt))
  ]
]

-- ---- from an order to its line
abbrev pub put : Option Committed → List Committed → List Committed
put None line = line
put (Some node) line = node ∷ line

abbrev line_of : List Committed → List ℕ → List Committed
line_of nodes [] = []
line_of nodes (v ∷ order) = put (node_in nodes v) (line_of nodes order)

pub put_behind : (o : Option Committed) (line : List Committed) (n : Committed) → Contains line n → Contains (put o line) n
put_behind None line n c = c
put_behind (Some x) line n c = (suc c.0, omega (arith, c.1), c.2)

pub put_cases : (o : Option Committed) (line : List Committed) (n : Committed) → Contains (put o line) n → (o ≡ Some n) ⊎ Contains line n
put_cases None line n c = inr c
put_cases (Some x) line n c = elim (first_or_behind x line n c) [ inl e ↦ inl (ap Some e) | inr d ↦ inr d ]

put_ops : (o : Option Committed) (line : List Committed) → option_map_or (λ (n : Committed). n.ops) o [] ++ ops_along line ≡ ops_along (put o line)
put_ops None line = refl
put_ops (Some x) line = refl

pub put_pairs : (R : Committed → Committed → Type 0) (o : Option Committed) (line : List Committed) → ((a : Committed) → o ≡ Some a → AllByRecursion (R a) line) → EachPair R line → EachPair R (put o line)
put_pairs R None line f h = h
put_pairs R (Some x) line f h = (f x refl, h)

in_line : (nodes : List Committed) (order : List ℕ) (v : ℕ) (n : Committed) → Has v order → node_in nodes v ≡ Some n → Contains (line_of nodes order) n
in_line nodes [] v n h e = absurd h
in_line nodes (u ∷ us) v n (inl same) e =
    let here : node_in nodes u ≡ Some n = ap (node_in nodes) same ∙ e in
    subst (λ o. Contains (put o (line_of nodes us)) n) (sym here) (0, omega arith, refl)
in_line nodes (u ∷ us) v n (inr h) e = put_behind (node_in nodes u) (line_of nodes us) n (in_line nodes us v n h e)

record Named (nodes : List Committed) (order : List ℕ) (n : Committed) : Type 0 where
  pub number : ℕ
  pub has : Has number order
  pub names : node_in nodes number ≡ Some n

of_line : (nodes : List Committed) (order : List ℕ) (n : Committed) → Contains (line_of nodes order) n → Named nodes order n
of_line nodes [] n c = absurd (omega (arith, c.1))
of_line nodes (u ∷ us) n c = elim (put_cases (node_in nodes u) (line_of nodes us) n c) [
  | inl e ↦ record { number = u; has = inl refl; names = e }
  | inr d ↦ let r = of_line nodes us n d in record { number = r.number; has = inr r.has; names = r.names }
]

ops_of_line : (nodes : List Committed) (order : List ℕ) → flat_map (ops_at nodes) order ≡ ops_along (line_of nodes order)
ops_of_line nodes [] = refl
ops_of_line nodes (v ∷ order) = ap (λ l. ops_at nodes v ++ l) (ops_of_line nodes order) ∙ put_ops (node_in nodes v) (line_of nodes order)

line_pairs : (nodes : List Committed) (order : List ℕ) → Apart order → ((u v : ℕ) (a b : Committed) → Has u order → Has v order → place_of order u < place_of order v → node_in nodes u ≡ Some a → node_in nodes v ≡ Some b → MayPrecede a b) → EachPair MayPrecede (line_of nodes order)
line_pairs nodes [] h f = tt
line_pairs nodes (x ∷ xs) h f =
    put_pairs MayPrecede (node_in nodes x) (line_of nodes xs) first
    (line_pairs nodes xs h.1 (λ u v a b hu hv lt e g. f u v a b (inr hu) (inr hv) (omega (arith, lt, place_of-further x u xs (apart u hu), place_of-further x v xs (apart v hv))) e g))
  where
    apart : (u : ℕ) → Has u xs → x ≡ u → ⊥
    apart u hu e = h.0 (subst (λ w. Has w xs) (sym e) hu)

    first : (a : Committed) → node_in nodes x ≡ Some a → AllByRecursion (MayPrecede a) (line_of nodes xs)
    first a e = each_member (MayPrecede a) (line_of nodes xs) (λ b c. (let r = of_line nodes xs b c in
        f x r.number a b (inl refl) (inr r.has) (omega (arith, place_of-here x xs, place_of-further x r.number xs (apart r.number r.has))) e r.names))

line_from_orders : (nodes : List Committed) (order : List ℕ) → InOrder nodes → Orders nodes order → IsLine initial nodes (line_of nodes order)
line_from_orders nodes order by_place h = record {
  same = λ n. (to n, from n);
  kept = line_pairs nodes order (Apart-from_IsDistinct order h.once.distinct) may;
  reads = subst (Replays initial) (ops_of_line nodes order) h.reads;
}
  where
    to : (n : Committed) → Contains nodes n → Contains (line_of nodes order) n
    to n c =
        in_line nodes order (suc c.0) n (Has-from_Contains order (suc c.0) (h.once.each (suc c.0) (omega arith) (omega (arith, c.1))))
        (slice_get-get_or nodes c.0 n c.1 ∙ ap Some c.2)

    named : (v : ℕ) (n : Committed) → node_in nodes v ≡ Some n → Contains nodes n
    named zero n e = cc
    named (suc i) n e = contains_at nodes i n e

    from : (n : Committed) → Contains (line_of nodes order) n → Contains nodes n
    from n c = let r = of_line nodes order n c in named r.number n r.names

    not_before : (u v : ℕ) → place_of order u < place_of order v → 0 < u → 0 < v → Before order v u → ⊥
    not_before u v lt hu hv b = omega (arith, lt, b, behind_zero order u hu, behind_zero order v hv)

    by_session : (i j : ℕ) (a b : Committed) → place_of order (suc i) < place_of order (suc j) → slice_get nodes i ≡ Some a → slice_get nodes j ≡ Some b → a.session ≡ b.session → a.place < b.place
    by_session i j a b lt e f s = elim (cases_order i j) [
      | inl same ↦ absurd (let p : place_of order (suc i) ≡ place_of order (suc j) = ap (λ k. place_of order (suc k)) same in omega (arith, p, lt))
      | inr apart ↦ elim apart [
        | inl less ↦ pair_at (λ a b. a.session ≡ b.session → a.place < b.place) nodes i j a b by_place e f less s
        | inr more ↦
            let su : session_at nodes (suc i) ≡ a.session = ap (λ o. option_map_or (λ (n : Committed). n.session) o 0) e in
            let sv : session_at nodes (suc j) ≡ b.session = ap (λ o. option_map_or (λ (n : Committed). n.session) o 0) f in
            absurd (not_before (suc i) (suc j) lt (omega arith) (omega arith)
            (h.sessions (suc j) (suc i) (omega arith) (omega arith) (omega (arith, slice_get_within nodes i a e)) (sv ∙ sym s ∙ sym su)))
      ]
    ]

    by_moment : (i j : ℕ) (a b : Committed) → place_of order (suc i) < place_of order (suc j) → slice_get nodes i ≡ Some a → slice_get nodes j ≡ Some b → is_earlier b.ended a.begun ≡ false
    by_moment i j a b lt e f = elim (cases_Bool (is_earlier b.ended a.begun)) [
      | inl t ↦
          let apart : suc j ≢ suc i = λ same. (let p : place_of order (suc j) ≡ place_of order (suc i) = ap (place_of order) same in omega (arith, p, lt)) in
          let is : is_earlier (ended_at nodes (suc j)) (begun_at nodes (suc i)) ≡ is_earlier b.ended a.begun =
          ap (λ o. is_earlier (option_and_then (λ (n : Committed). n.ended) o) (begun_at nodes (suc i))) f
          ∙ ap (λ o. is_earlier b.ended (option_and_then (λ (n : Committed). n.begun) o)) e in
          absurd (not_before (suc i) (suc j) lt (omega arith) (omega arith)
          (h.moments (suc j) (suc i) (omega arith) (omega (arith, slice_get_within nodes j b f)) (omega arith) (omega (arith, slice_get_within nodes i a e)) apart (is ∙ t)))
      | inr f ↦ f
    ]

    may : (u v : ℕ) (a b : Committed) → Has u order → Has v order → place_of order u < place_of order v → node_in nodes u ≡ Some a → node_in nodes v ≡ Some b → MayPrecede a b
    may zero v a b hu hv lt e f = cc
    may (suc i) zero a b hu hv lt e f = cc
    may (suc i) (suc j) a b hu hv lt e f = (by_session i j a b lt e f, by_moment i j a b lt e f)

-- ---- from a line to its order
abbrev pub same_node : Committed → Committed → Bool
same_node a b = eqb a.session b.session && eqb a.place b.place

abbrev pub index_of : List Committed → Committed → ℕ
index_of [] c = 0
index_of (x ∷ xs) c = cond (same_node x c) 0 (suc (index_of xs c))

pub found : (nodes : List Committed) (c : Committed) → InOrder nodes → Contains nodes c → slice_get nodes (index_of nodes c) ≡ Some c
found [] c h k = absurd (omega (arith, k.1))
found (x ∷ xs) c h k = elim (first_or_behind x xs c k) [
  | inl same ↦
      let t : same_node x c ≡ true = and_from (eqb x.session c.session) (eqb x.place c.place) (eq-eqb x.session c.session (ap (λ (n : Committed). n.session) same)) (eq-eqb x.place c.place (ap (λ (n : Committed). n.place) same)) in
      rw t (ap Some same)
  | inr d ↦ elim (cases_Bool (same_node x c)) [
    | inl t ↦
        let p = and_parts (eqb x.session c.session) (eqb x.place c.place) t in
        let lt = member (λ (b : Committed). x.session ≡ b.session → x.place < b.place) xs c h.0 d (eqb-true x.session c.session p.0) in
        absurd (omega (arith, lt, eqb-true x.place c.place p.1))
    | inr f ↦ rw f (found xs c h.1 d)
  ]
]

abbrev pub number : List Committed → Committed → ℕ
number nodes c = suc (index_of nodes c)

one_number : (nodes : List Committed) (a b : Committed) → InOrder nodes → Contains nodes a → Contains nodes b → number nodes a ≡ number nodes b → a ≡ b
one_number nodes a b h c d e =
    let same : index_of nodes a ≡ index_of nodes b = omega (arith, e) in
    let some : Some a ≡ Some b = sym (found nodes a h c) ∙ ap (slice_get nodes) same ∙ found nodes b h d in
    cc

abbrev pub order_of : List Committed → List Committed → List ℕ
order_of nodes line = map (number nodes) line

numbers_apart : (nodes line : List Committed) → InOrder nodes → ((n : Committed) → Contains line n → Contains nodes n) → EachPair MayPrecede line → Apart (order_of nodes line)
numbers_apart nodes [] h sub k = tt
numbers_apart nodes (x ∷ xs) h sub k = (none, numbers_apart nodes xs h (λ n c. sub n (suc c.0, omega (arith, c.1), c.2)) k.1)
  where
    none : Has (number nodes x) (order_of nodes xs) → ⊥
    none has =
        let m = of_mapped (number nodes) xs (number nodes x) (Contains-from_Has (order_of nodes xs) (number nodes x) has) in
        let same = one_number nodes m.0 x h (sub m.0 (suc m.1.0, omega (arith, m.1.1), m.1.2)) (sub x (0, omega arith, refl)) m.2 in
        let lt = (subst (MayPrecede x) same (member (MayPrecede x) xs m.0 k.0 m.1)).0 refl in
        omega (arith, lt)

before_in : (nodes line : List Committed) (a b : Committed) → InOrder nodes → ((n : Committed) → Contains line n → Contains nodes n) → EachPair MayPrecede line → Contains line a → Contains line b → (MayPrecede b a → ⊥) → number nodes a ≢ number nodes b → place_of (order_of nodes line) (number nodes a) < place_of (order_of nodes line) (number nodes b)
before_in nodes [] a b h sub k ca cb never ne = absurd (omega (arith, ca.1))
before_in nodes (x ∷ xs) a b h sub k ca cb never ne = elim (cases_eq (number nodes x) (number nodes a)) [
  | inl here ↦
      let at_a : place_of (number nodes x ∷ order_of nodes xs) (number nodes a) ≡ 0 = ap (place_of (number nodes x ∷ order_of nodes xs)) (sym here) ∙ place_of-here (number nodes x) (order_of nodes xs) in
      omega (arith, at_a, place_of-further (number nodes x) (number nodes b) (order_of nodes xs) (λ e. ne (sym here ∙ e)))
  | inr na ↦
      let da = later a ca na in
      elim (cases_eq (number nodes x) (number nodes b)) [
        | inl here ↦
            let same = one_number nodes x b h (sub x (0, omega arith, refl)) (sub b cb) here in
            absurd (never (subst (λ n. MayPrecede n a) same (member (MayPrecede x) xs a k.0 da)))
        | inr nb ↦
            let lt = before_in nodes xs a b h (λ n c. sub n (suc c.0, omega (arith, c.1), c.2)) k.1 da (later b cb nb) never ne in
            omega (arith, lt, place_of-further (number nodes x) (number nodes a) (order_of nodes xs) na, place_of-further (number nodes x) (number nodes b) (order_of nodes xs) nb)
      ]
]
  where
    later : (n : Committed) → Contains (x ∷ xs) n → number nodes x ≢ number nodes n → Contains xs n
    later n c apart = elim (first_or_behind x xs n c) [
      | inl same ↦ absurd (apart (ap (number nodes) same))
      | inr d ↦ d
    ]

ops_of_order : (nodes line : List Committed) → InOrder nodes → ((n : Committed) → Contains line n → Contains nodes n) → flat_map (ops_at nodes) (order_of nodes line) ≡ ops_along line
ops_of_order nodes [] h sub = refl
ops_of_order nodes (x ∷ xs) h sub =
    let here : ops_at nodes (number nodes x) ≡ x.ops = ap (λ o. option_map_or (λ (n : Committed). n.ops) o []) (found nodes x h (sub x (0, omega arith, refl))) in
    ap (λ l. l ++ flat_map (ops_at nodes) (order_of nodes xs)) here ∙ ap (λ l. x.ops ++ l) (ops_of_order nodes xs h (λ n c. sub n (suc c.0, omega (arith, c.1), c.2)))

pub orders_from_line : (nodes line : List Committed) → InOrder nodes → IsLine initial nodes line → Orders nodes (order_of nodes line)
orders_from_line nodes line by_place h = record {
  once = record {
    only = λ k d lt. only (get_or order k d) (Has_get order k d lt);
    each = each;
    distinct = IsDistinct-from_Apart order (numbers_apart nodes line by_place sub h.kept);
  };
  sessions = sessions;
  moments = moments;
  reads = subst (Replays initial) (sym (ops_of_order nodes line by_place sub)) h.reads;
}
  where
    order : List ℕ
    order = order_of nodes line

    sub : (n : Committed) → Contains line n → Contains nodes n
    sub n = (h.same n).1

    only : (v : ℕ) → Has v order → (0 < v) × (v ≤ length nodes)
    only v has =
        let m = of_mapped (number nodes) line v (Contains-from_Has order v has) in
        let lt = slice_get_within nodes (index_of nodes m.0) m.0 (found nodes m.0 by_place (sub m.0 m.1)) in
        (omega (arith, m.2), omega (arith, m.2, lt))

    number_at : (i : ℕ) (c : Committed) → slice_get nodes i ≡ Some c → number nodes c ≡ suc i
    number_at i c e = ap suc (one_place nodes (index_of nodes c) i c by_place (found nodes c by_place (contains_at nodes i c e)) e)

    each : (v : ℕ) → 0 < v → v ≤ length nodes → Contains order v
    each zero lo hi = absurd (omega arith)
    each (suc i) lo hi =
        let c = at_place nodes i (omega arith) in
        subst (Contains order) (number_at i c.0 c.1) (mapped (number nodes) line c.0 ((h.same c.0).0 (contains_at nodes i c.0 c.1)))

    before : (i j : ℕ) (a b : Committed) → slice_get nodes i ≡ Some a → slice_get nodes j ≡ Some b → i ≢ j → (MayPrecede b a → ⊥) → Before order (suc i) (suc j)
    before i j a b e f ne never =
        let na = number_at i a e in
        let nb = number_at j b f in
        let lt = before_in nodes line a b by_place sub h.kept ((h.same a).0 (contains_at nodes i a e)) ((h.same b).0 (contains_at nodes j b f)) never (λ same. ne (omega (arith, na, nb, same))) in
        let at_a : place_of order (number nodes a) ≡ place_of order (suc i) = ap (place_of order) na in
        let at_b : place_of order (number nodes b) ≡ place_of order (suc j) = ap (place_of order) nb in
        omega (arith, lt, at_a, at_b, behind_zero order (suc i) (omega arith), behind_zero order (suc j) (omega arith))

    sessions : (a b : ℕ) → 0 < a → a < b → b ≤ length nodes → session_at nodes a ≡ session_at nodes b → Before order a b
    sessions zero b lo lt hi e = absurd (omega arith)
    sessions (suc i) zero lo lt hi e = absurd (omega arith)
    sessions (suc i) (suc j) lo lt hi e =
        let a = at_place nodes i (omega arith) in
        let b = at_place nodes j (omega arith) in
        let su : session_at nodes (suc i) ≡ a.0.session = ap (λ o. option_map_or (λ (n : Committed). n.session) o 0) a.1 in
        let sv : session_at nodes (suc j) ≡ b.0.session = ap (λ o. option_map_or (λ (n : Committed). n.session) o 0) b.1 in
        let s : a.0.session ≡ b.0.session = sym su ∙ e ∙ sv in
        let less = pair_at (λ a b. a.session ≡ b.session → a.place < b.place) nodes i j a.0 b.0 by_place a.1 b.1 (omega arith) s in
        before i j a.0 b.0 a.1 b.1 (λ same. omega (arith, same, lt)) (λ may. (let more = may.0 (sym s) in omega (arith, less, more)))

    moments : (a b : ℕ) → 0 < a → a ≤ length nodes → 0 < b → b ≤ length nodes → a ≢ b → is_earlier (ended_at nodes a) (begun_at nodes b) ≡ true → Before order a b
    moments zero b lo hi blo bhi ne e = absurd (omega arith)
    moments (suc i) zero lo hi blo bhi ne e = absurd (omega arith)
    moments (suc i) (suc j) lo hi blo bhi ne e =
        let a = at_place nodes i (omega arith) in
        let b = at_place nodes j (omega arith) in
        let is : is_earlier (ended_at nodes (suc i)) (begun_at nodes (suc j)) ≡ is_earlier a.0.ended b.0.begun =
        ap (λ o. is_earlier (option_and_then (λ (n : Committed). n.ended) o) (begun_at nodes (suc j))) a.1
        ∙ ap (λ o. is_earlier a.0.ended (option_and_then (λ (n : Committed). n.begun) o)) b.1 in
        before i j a.0 b.0 a.1 b.1 (λ same. ne (ap suc same)) (λ may. false≢true (sym may.1 ∙ sym is ∙ e))

pub orders_where_lines : (nodes : List Committed) → InOrder nodes → (((order : List ℕ) × Orders nodes order) ↔ ((line : List Committed) × IsLine initial nodes line))
orders_where_lines nodes h = (λ o. (line_of nodes o.0, line_from_orders nodes o.0 h o.1), λ l. (order_of nodes l.0, orders_from_line nodes l.0 h l.1))
