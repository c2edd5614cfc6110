-- No two nodes of a well-formed log have one name, and the numbers of a name are below 2 ^ 64.
use Rattle.order_text.proofs.Prelude.{◌≡◌, ℕ, zero, suc, ◌+◌, ◌<◌, ◌≤◌, ◌^◌, Bool, true, false, List, [], ◌∷◌, ◌++◌, length, map, Some, refl, sym, ap, ◌∙◌, subst, inl, inr, arith, ◌==◌, ◌&&◌, eq-eqb, length-append, find, filter, flat_map}
use Rattle.order_text.proofs.Prelude.{enumerate_from, range_with_len, AllByRecursion, option_map_or, cases_Bool, and_from, cond-true, length-map, ClientSession, Transaction, IsLegal, session_lines, log_lines, Committed, committed_of}
use Rattle.order_text.proofs.Prelude.{committed_in, node_of, IsWellFormedList, log_of, name_in, node_named}
use Rattle.std.specs.Prelude.{slice_get}
use Rattle.list_lemmas.proofs.Elements.{some_at}
use Rattle.serializability.proofs.Places.{Has, Apart, Apart-from_IsDistinct, each_from_append, each_from_map, each_from_filter}
use Rattle.log_definitions.specs.Unknown.{is_committed, settle, settled, taken, resolved}
use Rattle.log_definitions.proofs.Members.{each_weaker, each_member}
use Rattle.log_definitions.proofs.Nodes.{each_at}
use Rattle.log_definitions.proofs.Settled.{numbers_resolved}
use Rattle.log_definitions.proofs.Scanning.{rules_where_no_fault}
use Rattle.session_history.proofs.Totals.{txns_in_lines}
use Rattle.order_text.proofs.Reading.{IsNode, has_name, name_at, node_named-sound}

-- a transaction with its place in the session
abbrev Placed : Type 0
Placed = ℕ × Transaction

abbrev made : ℕ → Placed → Committed
made number t = record { session = number; place = t.0; ops = t.1.ops; begun = t.1.begun; ended = t.1.ended }

abbrev is_kept : Placed → Bool
is_kept t = is_committed t.1

-- ---- committed transactions whose names are apart
abbrev IsOther : Committed → Committed → Type 0
IsOther c d = c.session ≡ d.session → c.place ≡ d.place → ⊥

abbrev AreApart : List Committed → Type 0
AreApart [] = Unit {0}
AreApart (c ∷ cs) = AllByRecursion (IsOther c) cs × AreApart cs

apart-append : (cs ds : List Committed) → AreApart cs → AreApart ds → AllByRecursion (λ c. AllByRecursion (IsOther c) ds) cs → AreApart (cs ++ ds)
apart-append [] ds a b h = b
apart-append (c ∷ cs) ds a b h = (each_from_append (IsOther c) cs ds a.0 h.0, apart-append cs ds a.1 b h.1)

apart_at : (cs : List Committed) (i j : ℕ) (c d : Committed) → AreApart cs → slice_get cs i ≡ Some c → slice_get cs j ≡ Some d → c.session ≡ d.session → c.place ≡ d.place → i ≡ j
apart_at [] i j c d a x y s p = cc
apart_at (e ∷ cs) zero zero c d a x y s p = refl
apart_at (e ∷ cs) zero (suc j) c d a x y s p =
    let same : e ≡ c = cc in
    absurd (each_at (IsOther e) cs j d a.0 y (ap (λ (k : Committed). k.session) same ∙ s) (ap (λ (k : Committed). k.place) same ∙ p))
apart_at (e ∷ cs) (suc i) zero c d a x y s p =
    let same : e ≡ d = cc in
    absurd (each_at (IsOther e) cs i c a.0 x (ap (λ (k : Committed). k.session) same ∙ sym s) (ap (λ (k : Committed). k.place) same ∙ sym p))
apart_at (e ∷ cs) (suc i) (suc j) c d a x y s p = ap suc (apart_at cs i j c d a.1 x y s p)

-- in a session, by their places
placed_from : (k : ℕ) (ts : List Transaction) → AllByRecursion (λ (t : Placed). k ≤ t.0) (enumerate_from k ts)
placed_from k [] = tt
placed_from k (t ∷ ts) = (omega arith, each_weaker (λ (x : Placed). k + 1 ≤ x.0) (λ (x : Placed). k ≤ x.0) (λ x h. omega (arith, h)) (enumerate_from (k + 1) ts) (placed_from (k + 1) ts))

behind : (number k : ℕ) (t : Transaction) (xs : List Placed) → AllByRecursion (λ (x : Placed). k + 1 ≤ x.0) xs → AllByRecursion (IsOther (made number (k, t))) (map (made number) (filter is_kept xs))
behind number k t xs h =
    each_from_map (IsOther (made number (k, t))) (made number) (filter is_kept xs)
    (each_from_filter (λ x. IsOther (made number (k, t)) (made number x)) is_kept xs
    (each_weaker (λ (x : Placed). k + 1 ≤ x.0) (λ (x : Placed). is_kept x ≡ true → IsOther (made number (k, t)) (made number x)) (λ x low _ s p. omega (arith, low, p)) xs h))

apart_in_session : (number k : ℕ) (ts : List Transaction) → AreApart (map (made number) (filter is_kept (enumerate_from k ts)))
apart_in_session number k [] = tt
apart_in_session number k (t ∷ ts) = elim (cases_Bool (is_committed t)) [
  | inl e ↦ rw e (behind number k t (enumerate_from (k + 1) ts) (placed_from (k + 1) ts), apart_in_session number (k + 1) ts)
  | inr e ↦ rw e (apart_in_session number (k + 1) ts)
]

-- of different sessions, by their numbers
abbrev IsNotOf : ℕ → Committed → Type 0
IsNotOf n c = n ≡ c.session → ⊥

of_others : (n : ℕ) (ss : List ClientSession) → (Has n (map (λ s. s.number) ss) → ⊥) → AllByRecursion (IsNotOf n) (flat_map committed_of ss)
of_others n [] absent = tt
of_others n (s ∷ ss) absent =
    each_from_append (IsNotOf n) (committed_of s) (flat_map committed_of ss)
    (each_from_map (IsNotOf n) (made s.number) (filter is_kept (enumerate_from 1 s.txns)) (each_member (λ t. IsNotOf n (made s.number t)) (filter is_kept (enumerate_from 1 s.txns)) (λ t _ e. absent (inl (sym e)))))
    (of_others n ss (λ h. absent (inr h)))

apart : (ss : List ClientSession) → Apart (map (λ s. s.number) ss) → AreApart (flat_map committed_of ss)
apart [] h = tt
apart (s ∷ ss) h =
    let kept : List Placed = filter is_kept (enumerate_from 1 s.txns) in
    apart-append (committed_of s) (flat_map committed_of ss) (apart_in_session s.number 1 s.txns) (apart ss h.1)
    (each_from_map (λ c. AllByRecursion (IsOther c) (flat_map committed_of ss)) (made s.number) kept
    (each_member (λ t. AllByRecursion (IsOther (made s.number t)) (flat_map committed_of ss)) kept
    (λ t _. each_weaker (IsNotOf s.number) (IsOther (made s.number t)) (λ c other same _. other same) (flat_map committed_of ss) (of_others s.number ss h.0))))

nodes_apart : (ss : List ClientSession) → Apart (map (λ (s : ClientSession). s.number) ss) → AreApart (committed_in ss)
unfolding committed_in
nodes_apart ss h = apart (resolved ss) (subst Apart (sym (numbers_resolved ss)) h)

-- ---- numbers that fit
abbrev pub Fits : ℕ → Committed → Type 0
Fits m c = (c.session < 2 ^ 16) × (c.place ≤ m)

placed_within : (m k : ℕ) (ts : List Transaction) → k + length ts ≤ m + 1 → AllByRecursion (λ (t : Placed). t.0 ≤ m) (enumerate_from k ts)
placed_within m k [] h = tt
placed_within m k (t ∷ ts) h = (omega arith, placed_within m (k + 1) ts (omega arith))

abbrev Sized : ℕ → ClientSession → Type 0
Sized m s = (s.number < 2 ^ 16) × (length s.txns ≤ m)

each_fits : (m : ℕ) (ss : List ClientSession) → AllByRecursion (Sized m) ss → AllByRecursion (Fits m) (flat_map committed_of ss)
each_fits m [] h = tt
each_fits m (s ∷ ss) h =
    each_from_append (Fits m) (committed_of s) (flat_map committed_of ss)
    (each_from_map (Fits m) (made s.number) (filter is_kept (enumerate_from 1 s.txns))
    (each_from_filter (λ t. Fits m (made s.number t)) is_kept (enumerate_from 1 s.txns)
    (each_weaker (λ (t : Placed). t.0 ≤ m) (λ (t : Placed). is_kept t ≡ true → Fits m (made s.number t)) (λ t low _. (h.0.0, low)) (enumerate_from 1 s.txns) (placed_within m 1 s.txns (omega (arith, h.0.1))))))
    (each_fits m ss h.1)

sized_settled : (m : ℕ) (chosen : ℕ → Bool) (ss : List ClientSession) → AllByRecursion (Sized m) ss → AllByRecursion (Sized m) (settled chosen ss)
unfolding settled
sized_settled m chosen [] h = tt
sized_settled m chosen (s ∷ ss) h = ((h.0.0, omega (arith, h.0.1, length-map s.txns (settle (chosen s.number)))), sized_settled m chosen ss h.1)

sized : (m : ℕ) (ss : List ClientSession) → AllByRecursion IsLegal ss → AllByRecursion (λ s. length s.txns ≤ m) ss → AllByRecursion (Sized m) ss
sized m [] legal h = tt
sized m (s ∷ ss) legal h = ((legal.0.high, h.0), sized m ss legal.1 h.1)

nodes_fit : (m : ℕ) (ss : List ClientSession) → AllByRecursion IsLegal ss → AllByRecursion (λ s. length s.txns ≤ m) ss → AllByRecursion (Fits m) (committed_in ss)
unfolding committed_in resolved
nodes_fit m ss legal h = each_fits m (settled (taken ss) ss) (sized_settled m (taken ss) ss (sized m ss legal h))

few_txns : (ss : List ClientSession) → AllByRecursion (λ s. length s.txns ≤ length (log_lines ss)) ss
few_txns [] = tt
few_txns (s ∷ ss) =
    let both = length-append (session_lines s) (log_lines ss) in
    let some = txns_in_lines s.txns in
    (omega (arith, both, some), each_weaker (λ (t : ClientSession). length t.txns ≤ length (log_lines ss)) (λ (t : ClientSession). length t.txns ≤ length (log_lines (s ∷ ss))) (λ t few. omega (arith, both, few)) ss (few_txns ss))

-- ---- the nodes

-- a node, its transaction, and its name
pub record IsNodeOf (ss : List ClientSession) (v : ℕ) (c : Committed) : Type 0 where
  pub place : ℕ
  pub next : v ≡ suc place
  pub item : slice_get (committed_in ss) place ≡ Some c
  pub node : node_of ss v ≡ Some c

node : (ss : List ClientSession) (v : ℕ) → IsNode ss v → (c : Committed) × IsNodeOf ss v c
unfolding log_of node_of
node ss zero h = absurd (omega (arith, h.0))
node ss (suc i) h =
    let e = some_at (committed_in ss) i (omega (arith, h.1)) in
    (e.0, record { place = i; next = refl; item = e.1; node = e.1 })

name_of-node : (ss : List ClientSession) (v : ℕ) (c : Committed) → IsNodeOf ss v c → name_in ss v ≡ (c.session, c.place)
name_of-node ss v c h = ap name_at h.node

same_node : (ss : List ClientSession) → IsWellFormedList ss → (u v : ℕ) → IsNode ss u → IsNode ss v → name_in ss u ≡ name_in ss v → u ≡ v
same_node ss well u v a b e =
    let one = node ss u a in
    let two = node ss v b in
    let names = sym (name_of-node ss u one.0 one.1) ∙ e ∙ name_of-node ss v two.0 two.1 in
    let rules = rules_where_no_fault 1 ss well.sessions in
    let places = apart_at (committed_in ss) one.1.place two.1.place one.0 two.0 (nodes_apart ss (Apart-from_IsDistinct (map (λ s. s.number) ss) rules.sessions)) one.1.item two.1.item (ap (λ (p : ℕ × ℕ). p.0) names) (ap (λ (p : ℕ × ℕ). p.1) names) in
    one.1.next ∙ ap suc places ∙ sym two.1.next

pub name_fits : (ss : List ClientSession) → IsWellFormedList ss → length (log_lines ss) < 2 ^ 63 → (v : ℕ) → IsNode ss v → ((name_in ss v).0 < 2 ^ 16) × ((name_in ss v).1 < 2 ^ 63)
name_fits ss well room v h =
    let n = node ss v h in
    let fits = each_at (Fits (length (log_lines ss))) (committed_in ss) n.1.place n.0 (nodes_fit (length (log_lines ss)) ss well.legal (few_txns ss)) n.1.item in
    let name = name_of-node ss v n.0 n.1 in
    let one = ap (λ (p : ℕ × ℕ). p.0) name in
    let two = ap (λ (p : ℕ × ℕ). p.1) name in
    (omega (arith, one, fits.0), omega (arith, two, fits.1, room))

-- a node is found by its name
first_found : (p : ℕ → Bool) (a n v : ℕ) → a ≤ v → v < a + n → p v ≡ true → (u : ℕ) × (find p (range_with_len a n) ≡ Some u)
first_found p a zero v lo hi e = absurd (omega arith)
first_found p a (suc n) v lo hi e = elim (cases_Bool (p a)) [
  | inl t ↦ (a, cond-true (p a) (Some a) (find p (range_with_len (a + 1) n)) t)
  | inr f ↦
      let other : a ≡ v → ⊥ = λ s. absurd (cc (e, f, ap p s)) in
      let r = first_found p (a + 1) n v (omega (arith, other)) (omega arith) e in
      (r.0, rw f r.1)
]

passes : (ss : List ClientSession) (v : ℕ) (c : Committed) → node_of ss v ≡ Some c → has_name ss c.session c.place v ≡ true
passes ss v c e =
    ap (λ o. option_map_or (λ (k : Committed). (k.session == c.session) && (k.place == c.place)) o false) e
    ∙ and_from (c.session == c.session) (c.place == c.place) (eq-eqb c.session c.session refl) (eq-eqb c.place c.place refl)

pub node_named-name : (ss : List ClientSession) → IsWellFormedList ss → (v : ℕ) → IsNode ss v → node_named ss (name_in ss v).0 (name_in ss v).1 ≡ Some v
unfolding log_of
node_named-name ss well v h =
    let n = node ss v h in
    let c : Committed = n.0 in
    let name = name_of-node ss v c n.1 in
    let first = first_found (has_name ss c.session c.place) 1 (length (committed_in ss)) v (omega (arith, h.0)) (omega (arith, h.1)) (passes ss v c n.1.node) in
    let sound = node_named-sound ss c.session c.place first.0 first.1 in
    let same = same_node ss well first.0 v sound.1 h (sound.0 ∙ sym name) in
    ap (λ (p : ℕ × ℕ). node_named ss p.0 p.1) name ∙ first.1 ∙ ap (λ u. Some u) same

-- and no node has a number of 2 ^ 64 or more
pub named_small : (ss : List ClientSession) → IsWellFormedList ss → length (log_lines ss) < 2 ^ 63 → (s t v : ℕ) → node_named ss s t ≡ Some v → (s < 2 ^ 64) × (t < 2 ^ 64)
named_small ss well room s t v e =
    let sound = node_named-sound ss s t v e in
    let fits = name_fits ss well room v sound.1 in
    let one = ap (λ (p : ℕ × ℕ). p.0) sound.0 in
    let two = ap (λ (p : ℕ × ℕ). p.1) sound.0 in
    (omega (arith, one, fits.0), omega (arith, two, fits.1))
