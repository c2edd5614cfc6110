-- Which seat holds which node, by the marks.
use Rattle.branch_search.proofs.Prelude.{◌≡◌, ◌⊎◌, ℕ, zero, suc, ◌+◌, ◌<◌, Bool, true, false, List, [], ◌∷◌, ◌++◌, map, Option, Some, None, refl, sym, ap, ◌∙◌, inl, inr, arith, slice_get, slice_set, if◌then◌else◌, option_map_or, cases_eq}
use Rattle.branch_search.proofs.Prelude.{eq-eqb, false≢true, map-set, same_Some, get_set, Cube, Node, State, is_open, is_held_by, held_from, last_open_from, with_mark, is_open_at, CubeState, Open, Held, within, set_here, set_apart}
use Rattle.branch_search.proofs.Prelude.{set_self, append_left, append_cases, map_some}
use Rattle.cube_laws.proofs.Nodes.{else_cases}
use Rattle.cube_machine.proofs.Seats.{held_mark}
use Rattle.cube_machine.proofs.Trees.{same_seat}

abbrev pub marks_of : List Node → List CubeState
marks_of nodes = map (λ n. n.mark) nodes

abbrev pub cubes_in : List Node → List Cube
cubes_in nodes = map (λ n. n.cube) nodes

-- ---- a node is marked
with_mark_is : (nodes : List Node) (id : ℕ) (m : CubeState) (n : Node) → slice_get nodes id ≡ Some n → with_mark nodes id m ≡ slice_set nodes id (record n { mark = m })
with_mark_is nodes id m n e = ap (λ o. option_map_or (λ (x : Node). slice_set nodes id (record x { mark = m })) o nodes) e

pub marks_with : (nodes : List Node) (id : ℕ) (m : CubeState) (n : Node) → slice_get nodes id ≡ Some n → marks_of (with_mark nodes id m) ≡ slice_set (marks_of nodes) id m
marks_with nodes id m n e = ap marks_of (with_mark_is nodes id m n e) ∙ map-set (λ (x : Node). x.mark) nodes id (record n { mark = m })

pub cubes_with : (nodes : List Node) (id : ℕ) (m : CubeState) (n : Node) → slice_get nodes id ≡ Some n → cubes_in (with_mark nodes id m) ≡ cubes_in nodes
cubes_with nodes id m n e =
    ap cubes_in (with_mark_is nodes id m n e)
    ∙ map-set (λ (x : Node). x.cube) nodes id (record n { mark = m })
    ∙ set_self (cubes_in nodes) id n.cube (map_some (λ (x : Node). x.cube) nodes id n e)

-- ---- the node that a seat holds
pub by_test : {A : Type 0} (b : Bool) (x y : A) (o : Option A) → (if b then Some x else o) ≡ Some y → ((b ≡ true) × (x ≡ y)) ⊎ (o ≡ Some y)
by_test true x y o e = inl (refl, same_Some x y e)
by_test false x y o e = inr e

found_held : (seat k : ℕ) (nodes : List Node) (i : ℕ) → held_from seat k nodes ≡ Some i → (j : ℕ) × (i ≡ k + j) × (slice_get (marks_of nodes) j ≡ Some (Held seat))
found_held seat k [] i e = absurd (cc)
found_held seat k (x ∷ xs) i e = elim (by_test (is_held_by seat x.mark) k i (held_from seat (k + 1) xs) e) [
  | inl a ↦ (0, (let b = a.1 in omega (arith, b)), ap Some (held_mark seat x.mark a.0))
  | inr b ↦ (let r = found_held seat (k + 1) xs i b in let f = r.1 in (suc r.0, omega (arith, f), r.2))
]

tested : {A : Type 0} (b : Bool) (x : A) (o : Option A) → b ≡ true → (if b then Some x else o) ≡ None → ⊥
tested true x o t e = cc
tested false x o t e = false≢true t

untested : {A : Type 0} (b : Bool) (x : A) (o : Option A) → (if b then Some x else o) ≡ None → o ≡ None
untested true x o e = absurd (cc)
untested false x o e = e

none_held : (seat k : ℕ) (nodes : List Node) (j : ℕ) → held_from seat k nodes ≡ None → slice_get (marks_of nodes) j ≡ Some (Held seat) → ⊥
none_held seat k [] j e h = cc
none_held seat k (x ∷ xs) zero e h =
    tested (is_held_by seat x.mark) k (held_from seat (k + 1) xs) (ap (is_held_by seat) (same_Some x.mark (Held seat) h) ∙ eq-eqb seat seat refl) e
none_held seat k (x ∷ xs) (suc j) e h = none_held seat (k + 1) xs j (untested (is_held_by seat x.mark) k (held_from seat (k + 1) xs) e) h

-- a table of the nodes that seats hold agrees with the marks
pub record Ties (ms : List CubeState) (h : ℕ → Option ℕ) (k i : ℕ) : Type 0 where
  pub to : h k ≡ Some i → slice_get ms i ≡ Some (Held k)
  pub from : slice_get ms i ≡ Some (Held k) → h k ≡ Some i

abbrev pub Tied : List CubeState → (ℕ → Option ℕ) → Type 0
Tied ms h = (k i : ℕ) → k < 17 → Ties ms h k i

pub held_is : (nodes : List Node) (h : ℕ → Option ℕ) (seat : ℕ) → seat < 17 → Tied (marks_of nodes) h → held_from seat 0 nodes ≡ h seat
held_is nodes h seat lt t = go (held_from seat 0 nodes) (h seat) refl refl
  where
    go : (o q : Option ℕ) → held_from seat 0 nodes ≡ o → h seat ≡ q → o ≡ q
    go None None e f = refl
    go None (Some i) e f = absurd (none_held seat 0 nodes i e ((t seat i lt).to f))
    go (Some i) q e f =
        let r = found_held seat 0 nodes i e in let a = r.1 in let same : r.0 ≡ i = omega (arith, a) in
        sym ((t seat i lt).from (ap (λ k. slice_get (marks_of nodes) k) (sym same) ∙ r.2)) ∙ f

-- ---- the last open node
pub open_mark : (m : CubeState) → is_open m ≡ true → m ≡ Open
open_mark Open e = refl
open_mark _ e = absurd (cc)

never_some : (i : ℕ) → ◌≡◌ {A = Option ℕ} None (Some i) → ⊥
never_some i e = cc

found_open : (k : ℕ) (nodes : List Node) (i : ℕ) → last_open_from k nodes ≡ Some i → (j : ℕ) × (i ≡ k + j) × (slice_get (marks_of nodes) j ≡ Some Open)
found_open k [] i e = absurd (cc)
found_open k (x ∷ xs) i e = elim (else_cases (last_open_from (k + 1) xs) (if is_open x.mark then Some k else None) i e) [
  | inl a ↦ (let r = found_open (k + 1) xs i a in let f = r.1 in (suc r.0, omega (arith, f), r.2))
  | inr b ↦ elim (by_test (is_open x.mark) k i None b) [
    | inl c ↦ (0, (let d = c.1 in omega (arith, d)), ap Some (open_mark x.mark c.0))
    | inr d ↦ absurd (never_some i d)
  ]
]

pub last_is_open : (nodes : List Node) (i : ℕ) → last_open_from 0 nodes ≡ Some i → slice_get (marks_of nodes) i ≡ Some Open
last_is_open nodes i e = let r = found_open 0 nodes i e in let a = r.1 in let same : i ≡ r.0 = omega (arith, a) in ap (λ k. slice_get (marks_of nodes) k) same ∙ r.2

pub claimed_is_open : (s : State) (id : ℕ) → is_open_at s id ≡ true → slice_get (marks_of s.nodes) id ≡ Some Open
claimed_is_open s id e = go (slice_get s.nodes id) refl e
  where
    go : (o : Option Node) → slice_get s.nodes id ≡ o → option_map_or (λ x. is_open x.mark) o false ≡ true → slice_get (marks_of s.nodes) id ≡ Some Open
    go None at t = absurd (false≢true t)
    go (Some n) at t = map_some (λ (x : Node). x.mark) s.nodes id n at ∙ ap Some (open_mark n.mark t)

-- ---- the table after a step
abbrev pub Others : (ℕ → Option ℕ) → (ℕ → Option ℕ) → ℕ → Type 0
Others h now seat = (k : ℕ) → (k ≡ seat → ⊥) → now k ≡ h k

pub tied_same : (ms : List CubeState) (h now : ℕ → Option ℕ) (seat : ℕ) → Tied ms h → Others h now seat → now seat ≡ h seat → Tied ms now
tied_same ms h now seat t others same k i lt = record { to = λ e. (t k i lt).to (sym (each k) ∙ e); from = λ e. each k ∙ (t k i lt).from e }
  where
    each : (k : ℕ) → now k ≡ h k
    each k = elim (cases_eq k seat) [ inl a ↦ ap now a ∙ same ∙ ap h (sym a) | inr b ↦ others k b ]

pub tied_given : (ms : List CubeState) (h now : ℕ → Option ℕ) (seat id : ℕ) → seat < 17 → Tied ms h → Others h now seat → slice_get ms id ≡ Some Open → h seat ≡ None → now seat ≡ Some id → Tied (slice_set ms id (Held seat)) now
tied_given ms h now seat id low t others at none here k i lt = elim (cases_eq k seat) [
  | inl a ↦ record {
    to = λ e. mine a e;
    from = λ e. elim (get_set ms id i (Held seat) (Held k) e) [
      | inl p ↦ ap now a ∙ here ∙ ap Some (sym p.0)
      | inr q ↦ absurd (never_some i (sym none ∙ (t seat i low).from (q.1 ∙ ap (λ j. Some (Held j)) a)))
    ];
  }
  | inr b ↦ record {
    to = λ e. theirs b e;
    from = λ e. elim (get_set ms id i (Held seat) (Held k) e) [
      | inl p ↦ absurd (b (same_seat k seat p.1))
      | inr q ↦ others k b ∙ (t k i lt).from q.1
    ];
  }
]
  where
    mine : k ≡ seat → now k ≡ Some i → slice_get (slice_set ms id (Held seat)) i ≡ Some (Held k)
    mine a e =
        let same : id ≡ i = same_Some id i (sym here ∙ ap now (sym a) ∙ e) in
        ap (λ j. slice_get (slice_set ms id (Held seat)) j) (sym same) ∙ set_here ms id (Held seat) (within ms id Open at) ∙ ap (λ j. Some (Held j)) (sym a)

    not_open : i ≡ id → slice_get ms i ≡ Some (Held k) → ⊥
    not_open same e = let f : Open ≡ Held k = same_Some Open (Held k) (sym at ∙ ap (λ j. slice_get ms j) (sym same) ∙ e) in cc

    theirs : (k ≡ seat → ⊥) → now k ≡ Some i → slice_get (slice_set ms id (Held seat)) i ≡ Some (Held k)
    theirs b e = let old = (t k i lt).to (sym (others k b) ∙ e) in set_apart ms id i (Held seat) (Held k) (λ same. not_open same old) old

pub tied_left : (ms : List CubeState) (h now : ℕ → Option ℕ) (seat id : ℕ) (m : CubeState) → seat < 17 → Tied ms h → Others h now seat → h seat ≡ Some id → ((k : ℕ) → m ≡ Held k → ⊥) → now seat ≡ None → Tied (slice_set ms id m) now
tied_left ms h now seat id m low t others held free here k i lt = elim (cases_eq k seat) [
  | inl a ↦ record {
    to = λ e. absurd (never_some i (sym here ∙ ap now (sym a) ∙ e));
    from = λ e. elim (get_set ms id i m (Held k) e) [
      | inl p ↦ absurd (free k (sym p.1))
      | inr q ↦ absurd (q.0 (same_Some i id (sym ((t seat i low).from (q.1 ∙ ap (λ j. Some (Held j)) a)) ∙ held)))
    ];
  }
  | inr b ↦ record {
    to = λ e. theirs b e;
    from = λ e. elim (get_set ms id i m (Held k) e) [
      | inl p ↦ absurd (free k (sym p.1))
      | inr q ↦ others k b ∙ (t k i lt).from q.1
    ];
  }
]
  where
    theirs : (k ≡ seat → ⊥) → now k ≡ Some i → slice_get (slice_set ms id m) i ≡ Some (Held k)
    theirs b e =
        let old = (t k i lt).to (sym (others k b) ∙ e) in
        set_apart ms id i m (Held k) (λ same. b (same_seat k seat (same_Some (Held k) (Held seat) (sym old ∙ ap (λ j. slice_get ms j) same ∙ (t seat id low).to held)))) old

pub tied_more : (ms : List CubeState) (h : ℕ → Option ℕ) → Tied ms h → Tied (ms ++ Open ∷ Open ∷ []) h
tied_more ms h t k i lt = record { to = λ e. append_left ms (Open ∷ Open ∷ []) i (Held k) ((t k i lt).to e); from = λ e. elim (append_cases ms (Open ∷ Open ∷ []) i (Held k) e) [ inl a ↦ (t k i lt).from a | inr b ↦ absurd (opens b.0 b.2) ] }
  where
    opens : (j : ℕ) → slice_get (Open ∷ Open ∷ []) j ≡ Some (Held k) → ⊥
    opens zero e = let f : Open ≡ Held k = same_Some Open (Held k) e in cc
    opens (suc zero) e = let f : Open ≡ Held k = same_Some Open (Held k) e in cc
    opens (suc (suc j)) e = cc
