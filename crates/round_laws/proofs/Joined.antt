-- The nodes of logs that are joined, and of a log whose opening has its fence alone.
use Rattle.round_laws.proofs.Prelude.{◌≡◌, ℕ, suc, ◌+◌, ◌<◌, ◌≤◌, Bool, true, false, eqb, ◌&&◌, not, cond, List, [], ◌∷◌, ◌++◌, length, map, refl, sym, ap, ◌∙◌, subst, inl, inr, arith, eq-eqb, eqb-true, ne_eqb, append-nil, ◌↔◌, nat_le}
use Rattle.round_laws.proofs.Prelude.{filter, AllByRecursion, Contains, cases_Bool, cases_order, false≢true, or_cases, or_left, map-append, Contains-append_left, Contains-append_right, Contains-append_cases, behind, mapped, ClientSession}
use Rattle.round_laws.proofs.Prelude.{Transaction, Has, Apart, Has-from_Contains, each_from_append, each_from_map, each_from_filter, is_committed, Committed, committed_of, member, each_weaker, IsLearnt, Firsts, node_at, nodes_from}
use Rattle.round_laws.proofs.Prelude.{nodes_of, all_stand, unshift, of_kept, kept, of_mapped, of_flat, in_flat, first_or_behind, place_in, one_node, InOrder, pair_at, AreLearnt, numbers_of, Keeper, bare_txn, bare_txns, bare, bare_node}
use Rattle.round_laws.proofs.Prelude.{txns_at, has_number, joined}

-- ---- places of a session's nodes
-- from 1 on, and no more than its transactions
below : (number n : ℕ) (ts : List Transaction) → AllByRecursion (λ c. c.place < n + length ts) (nodes_from number n ts)
below number n [] = tt
below number n (t ∷ ts) =
    let rest = each_weaker (λ (c : Committed). c.place < (n + 1) + length ts) (λ c. c.place < n + suc (length ts)) (λ c lt. omega (arith, lt)) (nodes_from number (n + 1) ts) (below number (n + 1) ts) in
    elim (cases_Bool (is_committed t)) [
      | inl e ↦ rw e (omega arith, rest)
      | inr e ↦ rw e rest
    ]

nodes_append : (number n : ℕ) (ts us : List Transaction) → nodes_from number n (ts ++ us) ≡ nodes_from number n ts ++ nodes_from number (n + length ts) us
nodes_append number n [] us = let same : n ≡ n + 0 = omega arith in ap (λ m. nodes_from number m us) same
nodes_append number n (t ∷ ts) us =
    let same : (n + 1) + length ts ≡ n + suc (length ts) = omega arith in
    let ih = nodes_append number (n + 1) ts us ∙ ap (λ m. nodes_from number (n + 1) ts ++ nodes_from number m us) same in
    elim (cases_Bool (is_committed t)) [
      | inl e ↦ rw e (ap (λ l. node_at number n t ∷ l) ih)
      | inr e ↦ rw e ih
    ]

unshifted : (cut : Firsts) (number n : ℕ) (ts : List Transaction) → map (unshift cut) (nodes_from number n ts) ≡ nodes_from number (n + cut number) ts
unshifted cut number n [] = refl
unshifted cut number n (t ∷ ts) =
    let same : (n + 1) + cut number ≡ (n + cut number) + 1 = omega arith in
    let ih = unshifted cut number (n + 1) ts ∙ ap (λ m. nodes_from number m ts) same in
    elim (cases_Bool (is_committed t)) [
      | inl e ↦ rw e (ap (λ l. node_at number (n + cut number) t ∷ l) ih)
      | inr e ↦ rw e ih
    ]

-- ---- the transactions under a number
other_at : (ss : List ClientSession) (n : ℕ) → (Has n (numbers_of ss) → ⊥) → txns_at ss n ≡ []
other_at [] n h = refl
other_at (s ∷ ss) n h =
    let ne : eqb s.number n ≡ false = ne_eqb s.number n (λ e. h (inl e)) in
    rw ne (other_at ss n (λ k. h (inr k)))

session_at : (ss : List ClientSession) (s : ClientSession) → Apart (numbers_of ss) → Contains ss s → txns_at ss s.number ≡ s.txns
session_at [] s h c = absurd (omega (arith, c.1))
session_at (x ∷ xs) s h c = elim (first_or_behind x xs s c) [
  | inl e ↦
      let num : x.number ≡ s.number = ap (λ (r : ClientSession). r.number) e in
      let t : eqb x.number s.number ≡ true = eq-eqb x.number s.number num in
      rw t (ap (λ l. x.txns ++ l) (other_at xs s.number (λ k. h.0 (subst (λ m. Has m (numbers_of xs)) (sym num) k))) ∙ append-nil x.txns ∙ ap (λ (r : ClientSession). r.txns) e)
  | inr d ↦
      let has : Has s.number (numbers_of xs) = Has-from_Contains (numbers_of xs) s.number (mapped (λ (r : ClientSession). r.number) xs s d) in
      let ne : eqb x.number s.number ≡ false = ne_eqb x.number s.number (λ e. h.0 (subst (λ m. Has m (numbers_of xs)) (sym e) has)) in
      rw ne (session_at xs s h.1 d)
]

-- a transaction under a number is of a session with that number
record SessionAt (ss : List ClientSession) (n : ℕ) : Type 0 where
  pub session : ClientSession
  pub has : Contains ss session
  pub number : session.number ≡ n

some_at : (ss : List ClientSession) (n : ℕ) → has_number ss n ≡ true → SessionAt ss n
some_at [] n e = absurd (false≢true e)
some_at (s ∷ ss) n e = elim (or_cases (eqb s.number n) (has_number ss n) e) [
  | inl t ↦ record { session = s; has = (0, omega arith, refl); number = eqb-true s.number n t }
  | inr t ↦ let r = some_at ss n t in record { session = r.session; has = behind s ss r.session r.has; number = r.number }
]

none_at : (ss : List ClientSession) (n : ℕ) → has_number ss n ≡ false → Has n (numbers_of ss) → ⊥
none_at [] n e h = h
none_at (s ∷ ss) n e (inl same) = false≢true (sym e ∙ or_left (eqb s.number n) (has_number ss n) (eq-eqb s.number n same))
none_at (s ∷ ss) n e (inr h) = elim (cases_Bool (eqb s.number n)) [
  | inl t ↦ false≢true (sym e ∙ or_left (eqb s.number n) (has_number ss n) t)
  | inr f ↦ none_at ss n (rw f at e) h
]

-- ---- the nodes of two logs that are joined
-- how many transactions of each session the first has
abbrev pub cut_of : List ClientSession → Firsts
cut_of first n = length (txns_at first n)

abbrev with_more : List ClientSession → ClientSession → ClientSession
with_more second s = record { number = s.number; txns = s.txns ++ txns_at second s.number }

abbrev is_new : List ClientSession → ClientSession → Bool
is_new first s = not (has_number first s.number)

cut_here : (first : List ClientSession) (s : ClientSession) → Apart (numbers_of first) → Contains first s → cut_of first s.number ≡ length s.txns
cut_here first s h c = ap length (session_at first s h c)

behind_nodes : (first second : List ClientSession) (s : ClientSession) → Apart (numbers_of first) → Contains first s → committed_of (with_more second s) ≡ committed_of s ++ map (unshift (cut_of first)) (nodes_from s.number 1 (txns_at second s.number))
behind_nodes first second s h c =
    let at : 1 + length s.txns ≡ 1 + cut_of first s.number = ap (λ k. 1 + k) (sym (cut_here first s h c)) in
    nodes_append s.number 1 s.txns (txns_at second s.number)
    ∙ ap (λ m. committed_of s ++ nodes_from s.number m (txns_at second s.number)) at
    ∙ ap (λ l. committed_of s ++ l) (sym (unshifted (cut_of first) s.number 1 (txns_at second s.number)))

stays : (first : List ClientSession) (n : Committed) → has_number first n.session ≡ false → unshift (cut_of first) n ≡ n
stays first n e =
    let none : cut_of first n.session ≡ 0 = ap length (other_at first n.session (none_at first n.session e)) in
    let same : n.place + cut_of first n.session ≡ n.place = omega (arith, none) in
    ap (λ p. record { session = n.session; place = p; ops = n.ops; begun = n.begun; ended = n.ended }) same

of_session : (s : ClientSession) (n : Committed) → Contains (committed_of s) n → n.session ≡ s.number
of_session s n c = (member _ (committed_of s) n (all_stand s.number 1 s.txns) c).0

pub not_true : (b : Bool) → not b ≡ true → b ≡ false
not_true b e = elim (cases_Bool b) [
  | inl t ↦ absurd (false≢true (sym (ap not t) ∙ e))
  | inr f ↦ f
]

pub joined_nodes : (first second : List ClientSession) → Apart (numbers_of first) → Apart (numbers_of second) → (n : Committed) → (Contains (nodes_of (joined first second)) n ↔ Contains (nodes_of first ++ map (unshift (cut_of first)) (nodes_of second)) n)
joined_nodes first second h k n = (to, from)
  where
    cut : Firsts
    cut = cut_of first

    both : List Committed
    both = nodes_of first ++ map (unshift cut) (nodes_of second)

    more : List ClientSession
    more = map (with_more second) first

    others : List ClientSession
    others = filter (is_new first) second

    in_second : (s : ClientSession) (m : Committed) → Contains second s → Contains (committed_of s) m → Contains both (unshift cut m)
    in_second s m c d = Contains-append_right (nodes_of first) (map (unshift cut) (nodes_of second)) (unshift cut m) (mapped (unshift cut) (nodes_of second) m (in_flat committed_of second s m c d))

    -- what a session's transactions behind it become
    added : (number : ℕ) (m : Committed) → Contains (nodes_from number 1 (txns_at second number)) m → Contains both (unshift cut m)
    added number m c = elim (cases_Bool (has_number second number)) [
      | inl t ↦
          let s = some_at second number t in
          let same : txns_at second number ≡ s.session.txns = ap (txns_at second) (sym s.number) ∙ session_at second s.session k s.has in
          let d : Contains (nodes_from number 1 s.session.txns) m = subst (λ ts. Contains (nodes_from number 1 ts) m) same c in
          in_second s.session m s.has (subst (λ i. Contains (nodes_from i 1 s.session.txns) m) (sym s.number) d)
      | inr f ↦
          let none : txns_at second number ≡ [] = other_at second number (none_at second number f) in
          absurd (let d = subst (λ ts. Contains (nodes_from number 1 ts) m) none c in omega (arith, d.1))
    ]

    to : Contains (nodes_of (joined first second)) n → Contains both n
    to c =
        let r = of_flat committed_of (joined first second) n c in
        elim (Contains-append_cases more others r.0 r.1) [
          | inl d ↦
              let s = of_mapped (with_more second) first r.0 d in
              let e = subst (λ l. Contains l n) (ap committed_of (sym s.2) ∙ behind_nodes first second s.0 h s.1) r.2 in
              elim (Contains-append_cases (committed_of s.0) (map (unshift cut) (nodes_from s.0.number 1 (txns_at second s.0.number))) n e) [
                | inl f ↦ Contains-append_left (nodes_of first) (map (unshift cut) (nodes_of second)) n (in_flat committed_of first s.0 n s.1 f)
                | inr f ↦
                    let m = of_mapped (unshift cut) (nodes_from s.0.number 1 (txns_at second s.0.number)) n f in
                    subst (Contains both) m.2 (added s.0.number m.0 m.1)
              ]
          | inr d ↦
              let e = of_kept (is_new first) second r.0 d in
              let new : has_number first n.session ≡ false = ap (has_number first) (of_session r.0 n r.2) ∙ not_true (has_number first r.0.number) e.1 in
              subst (Contains both) (stays first n new) (in_second r.0 n e.0 r.2)
        ]

    in_more : (s : ClientSession) → Contains first s → Contains (committed_of (with_more second s)) n → Contains (nodes_of (joined first second)) n
    in_more s c d = in_flat committed_of (joined first second) (with_more second s) n (Contains-append_left more others (with_more second s) (mapped (with_more second) first s c)) d

    from : Contains both n → Contains (nodes_of (joined first second)) n
    from c = elim (Contains-append_cases (nodes_of first) (map (unshift cut) (nodes_of second)) n c) [
      | inl d ↦
          let s = of_flat committed_of first n d in
          in_more s.0 s.1 (subst (λ l. Contains l n) (sym (behind_nodes first second s.0 h s.1)) (Contains-append_left (committed_of s.0) (map (unshift cut) (nodes_from s.0.number 1 (txns_at second s.0.number))) n s.2))
      | inr d ↦
          let m = of_mapped (unshift cut) (nodes_of second) n d in
          let s = of_flat committed_of second m.0 m.1 in
          elim (cases_Bool (has_number first s.0.number)) [
            | inl t ↦
                let r = some_at first s.0.number t in
                let same : txns_at second r.session.number ≡ s.0.txns = ap (txns_at second) r.number ∙ session_at second s.0 k s.1 in
                let e : Contains (nodes_from r.session.number 1 (txns_at second r.session.number)) m.0 =
                subst (λ ts. Contains (nodes_from r.session.number 1 ts) m.0) (sym same) (subst (λ i. Contains (nodes_from i 1 s.0.txns) m.0) (sym r.number) s.2) in
                in_more r.session r.has (subst (λ l. Contains l n) (sym (behind_nodes first second r.session h r.has))
                (Contains-append_right (committed_of r.session) (map (unshift cut) (nodes_from r.session.number 1 (txns_at second r.session.number))) n (subst (Contains (map (unshift cut) (nodes_from r.session.number 1 (txns_at second r.session.number)))) m.2 (mapped (unshift cut) (nodes_from r.session.number 1 (txns_at second r.session.number)) m.0 e))))
            | inr f ↦
                let new : has_number first m.0.session ≡ false = ap (has_number first) (of_session s.0 m.0 s.2) ∙ f in
                let is : m.0 ≡ n = sym (stays first m.0 new) ∙ m.2 in
                in_flat committed_of (joined first second) s.0 n (Contains-append_right more others s.0 (kept (is_new first) second s.0 s.1 (ap not f))) (subst (Contains (committed_of s.0)) is s.2)
          ]
    ]

-- those of the first stand before those of the second
pub first_early : (first : List ClientSession) → Apart (numbers_of first) → (n : Committed) → Contains (nodes_of first) n → n.place ≤ cut_of first n.session
first_early first h n c =
    let s = of_flat committed_of first n c in
    let lt = member (λ (m : Committed). m.place < 1 + length s.0.txns) (committed_of s.0) n (below s.0.number 1 s.0.txns) s.2 in
    let is : cut_of first n.session ≡ length s.0.txns = ap (cut_of first) (of_session s.0 n s.2) ∙ cut_here first s.0 h s.1 in
    omega (arith, lt, is)

pub placed : (ss : List ClientSession) (n : Committed) → Contains (nodes_of ss) n → 0 < n.place
placed ss n c =
    let s = of_flat committed_of ss n c in
    let le = (member _ (committed_of s.0) n (all_stand s.0.number 1 s.0.txns) s.2).1 in
    omega (arith, le)

-- ---- outcomes stay known

learnt_at : (ss : List ClientSession) (n : ℕ) → AreLearnt ss → AllByRecursion IsLearnt (txns_at ss n)
learnt_at [] n h = tt
learnt_at (s ∷ ss) n h = elim (cases_Bool (eqb s.number n)) [
  | inl e ↦ rw e (each_from_append IsLearnt s.txns (txns_at ss n) h.0 (learnt_at ss n h.1))
  | inr e ↦ rw e (learnt_at ss n h.1)
]

pub joined_learnt : (first second : List ClientSession) → AreLearnt first → AreLearnt second → AreLearnt (joined first second)
joined_learnt first second h k = each_from_append (λ (s : ClientSession). AllByRecursion IsLearnt s.txns) (map (with_more second) first) (filter (is_new first) second)
    (each_from_map (λ (s : ClientSession). AllByRecursion IsLearnt s.txns) (with_more second) first (each_weaker (λ (s : ClientSession). AllByRecursion IsLearnt s.txns) (λ s. AllByRecursion IsLearnt (s.txns ++ txns_at second s.number)) (λ s l. each_from_append IsLearnt s.txns (txns_at second s.number) l (learnt_at second s.number k)) first h))
    (each_from_filter (λ (s : ClientSession). AllByRecursion IsLearnt s.txns) (is_new first) second (each_weaker (λ (s : ClientSession). AllByRecursion IsLearnt s.txns) (λ s. is_new first s ≡ true → AllByRecursion IsLearnt s.txns) (λ s l _. l) second k))

-- ---- the opening with its fence alone
abbrev pub opens_at : Keeper → ℕ → Committed → Bool
opens_at keeper k c = eqb c.session keeper.session && nat_le c.place k

abbrev pub bare_at : Keeper → Committed → Committed
bare_at keeper c = cond (opens_at keeper 1 c) (bare_node keeper c) c

le_false : (m n : ℕ) → n < m → nat_le m n ≡ false
le_false m n h = grind arith

behind_opening : (keeper : Keeper) (number n : ℕ) (ts : List Transaction) → 1 < n → map (bare_at keeper) (nodes_from number n ts) ≡ nodes_from number n ts
behind_opening keeper number n [] lt = refl
behind_opening keeper number n (t ∷ ts) lt =
    let ih = behind_opening keeper number (n + 1) ts (omega (arith, lt)) in
    elim (cases_Bool (is_committed t)) [
      | inl e ↦
          let no : nat_le n 1 ≡ false = le_false n 1 lt in
          elim (cases_Bool (eqb number keeper.session)) [
            | inl s ↦ rw (e, s, no) (ap (λ l. node_at number n t ∷ l) ih)
            | inr s ↦ rw (e, s) (ap (λ l. node_at number n t ∷ l) ih)
          ]
      | inr e ↦ rw e ih
    ]

others_stay : (keeper : Keeper) (number n : ℕ) (ts : List Transaction) → eqb number keeper.session ≡ false → map (bare_at keeper) (nodes_from number n ts) ≡ nodes_from number n ts
others_stay keeper number n [] s = refl
others_stay keeper number n (t ∷ ts) s = elim (cases_Bool (is_committed t)) [
  | inl e ↦ rw (e, s) (ap (λ l. node_at number n t ∷ l) (others_stay keeper number (n + 1) ts s))
  | inr e ↦ rw e (others_stay keeper number (n + 1) ts s)
]

keeper_nodes : (keeper : Keeper) (number : ℕ) (ts : List Transaction) → eqb number keeper.session ≡ true → nodes_from number 1 (bare_txns keeper ts) ≡ map (bare_at keeper) (nodes_from number 1 ts)
keeper_nodes keeper number [] s = refl
keeper_nodes keeper number (t ∷ ts) s =
    let ih = sym (behind_opening keeper number 2 ts (omega arith)) in
    elim (cases_Bool (is_committed t)) [
      | inl e ↦ rw (e, s) (ap (λ l. node_at number 1 (bare_txn keeper t) ∷ l) ih)
      | inr e ↦ rw e ih
    ]

pub bare_nodes : (keeper : Keeper) (ss : List ClientSession) → nodes_of (bare keeper ss) ≡ map (bare_at keeper) (nodes_of ss)
bare_nodes keeper [] = refl
bare_nodes keeper (s ∷ ss) = elim (cases_Bool (eqb s.number keeper.session)) [
  | inl e ↦ rw e (ap (λ l. l ++ nodes_of (bare keeper ss)) (keeper_nodes keeper s.number s.txns e) ∙ ap (λ l. map (bare_at keeper) (committed_of s) ++ l) (bare_nodes keeper ss) ∙ sym (map-append (bare_at keeper) (committed_of s) (nodes_of ss)))
  | inr e ↦ rw e (ap (λ l. l ++ nodes_of (bare keeper ss)) (sym (others_stay keeper s.number 1 s.txns e)) ∙ ap (λ l. map (bare_at keeper) (committed_of s) ++ l) (bare_nodes keeper ss) ∙ sym (map-append (bare_at keeper) (committed_of s) (nodes_of ss)))
]

pub bare_numbers : (keeper : Keeper) (ss : List ClientSession) → numbers_of (bare keeper ss) ≡ numbers_of ss
bare_numbers keeper [] = refl
bare_numbers keeper (s ∷ ss) = ap (λ l. s.number ∷ l) (bare_numbers keeper ss)

bare_txns_learnt : (keeper : Keeper) (ts : List Transaction) → AllByRecursion IsLearnt ts → AllByRecursion IsLearnt (bare_txns keeper ts)
bare_txns_learnt keeper [] h = tt
bare_txns_learnt keeper (t ∷ ts) h = h

pub bare_learnt : (keeper : Keeper) (ss : List ClientSession) → AreLearnt ss → AreLearnt (bare keeper ss)
bare_learnt keeper [] h = tt
bare_learnt keeper (s ∷ ss) h = elim (cases_Bool (eqb s.number keeper.session)) [
  | inl e ↦ rw e (bare_txns_learnt keeper s.txns h.0, bare_learnt keeper ss h.1)
  | inr e ↦ rw e (h.0, bare_learnt keeper ss h.1)
]

-- ---- two nodes at one place are one
pub one_at : (nodes : List Committed) → InOrder nodes → (a b : Committed) → Contains nodes a → Contains nodes b → a.session ≡ b.session → a.place ≡ b.place → a ≡ b
one_at nodes h a b c d s p =
    let x = place_in nodes a c in
    let y = place_in nodes b d in
    elim (cases_order x.0 y.0) [
      | inl same ↦ one_node nodes x.0 y.0 a b x.1 y.1 same
      | inr apart ↦ elim apart [
        | inl less ↦ absurd (let lt = pair_at (λ a b. a.session ≡ b.session → a.place < b.place) nodes x.0 y.0 a b h x.1 y.1 less s in omega (arith, lt, p))
        | inr more ↦ absurd (let lt = pair_at (λ a b. a.session ≡ b.session → a.place < b.place) nodes y.0 x.0 b a h y.1 x.1 more (sym s) in omega (arith, lt, p))
      ]
    ]
