-- What holds of a tree while it grows, by the marks of the search: of its nodes' parents, decisions and growths, each a list.
use Rattle.branch_search.proofs.Prelude.{◌≡◌, ◌⊎◌, ℕ, zero, suc, ◌+◌, ◌<◌, true, false, List, [], ◌∷◌, ◌++◌, length, Option, Some, None, refl, sym, ap, ◌∙◌, subst, inl, inr, arith, length-set, length-append, slice_get, slice_set}
use Rattle.branch_search.proofs.Prelude.{slice_index_or, get_or_append_left, same_Some, Polygraph, Side, One, Two, get_set, Cube, is_decided, edges_under, is_cycle, CubeState, Open, Held, Refuted, Solved as Ended, CubeDecision, Growth}
use Rattle.branch_search.proofs.Prelude.{Leaf, Inner, bud, within, set_here, set_apart, append_left, append_cases, append_at}
use Rattle.cube_laws.specs.declared.messages.CubeState.TheVariants.{Split as Divided}

-- a mark of a node that is neither split nor refuted
pub record IsLive (m : CubeState) : Type 0 where
  pub not_refuted : m ≡ Refuted → ⊥
  pub not_divided : (c : ℕ) → m ≡ Divided c → ⊥

pub live_open : IsLive Open
live_open = record { not_refuted = λ e. cc; not_divided = λ c e. cc }

pub live_held : (seat : ℕ) → IsLive (Held seat)
live_held seat = record { not_refuted = λ e. cc; not_divided = λ c e. cc }

pub live_ended : IsLive Ended
live_ended = record { not_refuted = λ e. cc; not_divided = λ c e. cc }

pub record IsUnder (ms : List CubeState) (i q : ℕ) : Type 0 where
  pub before : q < i
  pub choice : ℕ
  pub split : slice_get ms q ≡ Some (Divided choice)

pub record HasCycle (p : Polygraph) (cs : List Cube) (gs : List Growth) (i : ℕ) : Type 0 where
  pub line : List ℕ
  pub here : slice_get gs i ≡ Some (Leaf line)
  pub cycle : is_cycle (edges_under p (slice_index_or cs i [])) line ≡ true

pub record IsChildAt (ps : List ℕ) (ds : List (Option CubeDecision)) (i c : ℕ) (side : Side) (j : ℕ) : Type 0 where
  pub later : i < j
  pub parent : slice_get ps j ≡ Some i
  pub decision : slice_get ds j ≡ Some (Some (record { choice = c; side = side }))

pub record HasChildren (p : Polygraph) (cs : List Cube) (ps : List ℕ) (ds : List (Option CubeDecision)) (gs : List Growth) (i c : ℕ) : Type 0 where
  pub choice : c < length p.choices
  pub undecided : is_decided (slice_index_or cs i []) c ≡ false
  pub first : ℕ
  pub second : ℕ
  pub growth : slice_get gs i ≡ Some (Inner c first second)
  pub one : IsChildAt ps ds i c One first
  pub two : IsChildAt ps ds i c Two second
  pub only : (j : ℕ) → 0 < j → slice_get ps j ≡ Some i → (j ≡ first) ⊎ (j ≡ second)

pub record IsGrown (p : Polygraph) (cs : List Cube) (ms : List CubeState) (ps : List ℕ) (ds : List (Option CubeDecision)) (gs : List Growth) : Type 0 where
  pub cubes : length cs ≡ length ms
  pub parents : length ps ≡ length ms
  pub decisions : length ds ≡ length ms
  pub growths : length gs ≡ length ms
  pub root_parent : slice_get ps 0 ≡ Some 0
  pub root_decision : slice_get ds 0 ≡ Some None
  pub below : (i q : ℕ) → 0 < i → slice_get ps i ≡ Some q → IsUnder ms i q
  pub leaves : (i : ℕ) → slice_get ms i ≡ Some Refuted → HasCycle p cs gs i
  pub inner : (i c : ℕ) → slice_get ms i ≡ Some (Divided c) → HasChildren p cs ps ds gs i c

module _ (p : Polygraph) (cs : List Cube) (ms : List CubeState) (ps : List ℕ) (ds : List (Option CubeDecision)) (gs : List Growth) (id : ℕ) (old : CubeState) (here : slice_get ms id ≡ Some old) (live : IsLive old) (g : IsGrown p cs ms ps ds gs) where
  -- a split node is not the one that is live
  apart : (i c : ℕ) → slice_get ms i ≡ Some (Divided c) → i ≡ id → ⊥
  apart i c e is = live.not_divided c (same_Some old (Divided c) (sym here ∙ ap (λ k. slice_get ms k) (sym is) ∙ e))

  under : (new : CubeState) (i q : ℕ) → IsUnder ms i q → IsUnder (slice_set ms id new) i q
  under new i q u = record { before = u.before; choice = u.choice; split = set_apart ms id q new (Divided u.choice) (apart q u.choice u.split) u.split }

  -- ---- another mark
  pub grown_marked : (new : CubeState) → IsLive new → IsGrown p cs (slice_set ms id new) ps ds gs
  grown_marked new fresh = record {
    cubes = g.cubes ∙ sym (length-set ms id new);
    parents = g.parents ∙ sym (length-set ms id new);
    decisions = g.decisions ∙ sym (length-set ms id new);
    growths = g.growths ∙ sym (length-set ms id new);
    root_parent = g.root_parent;
    root_decision = g.root_decision;
    below = λ i q lt e. under new i q (g.below i q lt e);
    leaves = λ i e. elim (get_set ms id i new Refuted e) [ inl a ↦ absurd (fresh.not_refuted (sym a.1)) | inr b ↦ g.leaves i b.1 ];
    inner = λ i c e. elim (get_set ms id i new (Divided c) e) [ inl a ↦ absurd (fresh.not_divided c (sym a.1)) | inr b ↦ g.inner i c b.1 ];
  }

  -- ---- refuted
  module _ (line : List ℕ) (cycle : is_cycle (edges_under p (slice_index_or cs id [])) line ≡ true) where
    new_gs : List Growth
    new_gs = slice_set gs id (Leaf line)

    id_in : id < length gs
    id_in = let a = within ms id old here in let b = g.growths in omega (arith, a, b)

    leaf_here : (i : ℕ) → i ≡ id → HasCycle p cs (slice_set gs id (Leaf line)) i
    leaf_here i is = subst (HasCycle p cs (slice_set gs id (Leaf line))) (sym is) (record { line = line; here = set_here gs id (Leaf line) id_in; cycle = cycle })

    leaf_there : (i : ℕ) → (i ≡ id → ⊥) → HasCycle p cs gs i → HasCycle p cs (slice_set gs id (Leaf line)) i
    leaf_there i ne h = record { line = h.line; here = set_apart gs id i (Leaf line) (Leaf h.line) ne h.here; cycle = h.cycle }

    split_there : (i c : ℕ) → (i ≡ id → ⊥) → HasChildren p cs ps ds gs i c → HasChildren p cs ps ds (slice_set gs id (Leaf line)) i c
    split_there i c ne h = record { choice = h.choice; undecided = h.undecided; first = h.first; second = h.second; growth = set_apart gs id i (Leaf line) (Inner c h.first h.second) ne h.growth; one = h.one; two = h.two; only = h.only }

    pub grown_refuted : IsGrown p cs (slice_set ms id Refuted) ps ds (slice_set gs id (Leaf line))
    grown_refuted = record {
      cubes = g.cubes ∙ sym (length-set ms id Refuted);
      parents = g.parents ∙ sym (length-set ms id Refuted);
      decisions = g.decisions ∙ sym (length-set ms id Refuted);
      growths = length-set gs id (Leaf line) ∙ g.growths ∙ sym (length-set ms id Refuted);
      root_parent = g.root_parent;
      root_decision = g.root_decision;
      below = λ i q lt e. under Refuted i q (g.below i q lt e);
      leaves = λ i e. elim (get_set ms id i Refuted Refuted e) [ inl a ↦ leaf_here i a.0 | inr b ↦ leaf_there i b.0 (g.leaves i b.1) ];
      inner = λ i c e. elim (get_set ms id i Refuted (Divided c) e) [ inl a ↦ absurd (let f : Divided c ≡ Refuted = a.1 in cc) | inr b ↦ split_there i c b.0 (g.inner i c b.1) ];
    }

  -- ---- split
  module _ (c : ℕ) (choice : c < length p.choices) (undecided : is_decided (slice_index_or cs id []) c ≡ false) (one two : Cube) (n : ℕ) (size : n ≡ length ms) where
    abbrev new_cs : List Cube
    new_cs = cs ++ one ∷ two ∷ []

    abbrev new_ms : List CubeState
    new_ms = slice_set ms id (Divided c) ++ Open ∷ Open ∷ []

    abbrev new_ps : List ℕ
    new_ps = ps ++ id ∷ id ∷ []

    abbrev by : Side → Option CubeDecision
    by side = Some (record { choice = c; side = side })

    abbrev new_ds : List (Option CubeDecision)
    new_ds = ds ++ by One ∷ by Two ∷ []

    abbrev grown_gs : List Growth
    grown_gs = slice_set gs id (Inner c n (n + 1)) ++ bud ∷ bud ∷ []

    in_ms : id < length ms
    in_ms = within ms id old here

    split_id : slice_get new_ms id ≡ Some (Divided c)
    split_id = append_left (slice_set ms id (Divided c)) (Open ∷ Open ∷ []) id (Divided c) (set_here ms id (Divided c) in_ms)

    under_split : (i q : ℕ) → IsUnder ms i q → IsUnder new_ms i q
    under_split i q u = record { before = u.before; choice = u.choice; split = append_left (slice_set ms id (Divided c)) (Open ∷ Open ∷ []) q (Divided u.choice) (set_apart ms id q (Divided c) (Divided u.choice) (apart q u.choice u.split) u.split) }

    is_id : (k q : ℕ) → slice_get (id ∷ id ∷ []) k ≡ Some q → q ≡ id
    is_id zero q e = sym (same_Some id q e)
    is_id (suc zero) q e = sym (same_Some id q e)
    is_id (suc (suc k)) q e = absurd (cc)

    is_open : (k : ℕ) (m : CubeState) → slice_get (Open ∷ Open ∷ []) k ≡ Some m → (Open ≡ m → ⊥) → ⊥
    is_open zero m e never = never (same_Some Open m e)
    is_open (suc zero) m e never = never (same_Some Open m e)
    is_open (suc (suc k)) m e never = cc

    new_below : (i q : ℕ) → 0 < i → slice_get new_ps i ≡ Some q → IsUnder new_ms i q
    new_below i q lt e = elim (append_cases ps (id ∷ id ∷ []) i q e) [
      | inl a ↦ under_split i q (g.below i q lt a)
      | inr b ↦ subst (λ k. IsUnder new_ms i k) (sym (is_id b.0 q b.2)) (record { before = (let m = in_ms in let n = g.parents in let o = b.1 in omega (arith, m, n, o)); choice = c; split = split_id })
    ]

    same_cube : (i : ℕ) → i < length ms → slice_index_or new_cs i [] ≡ slice_index_or cs i []
    same_cube i lt = get_or_append_left cs (one ∷ two ∷ []) [] i (let n = g.cubes in omega (arith, lt, n))

    growth_there : (i : ℕ) (x : Growth) → (i ≡ id → ⊥) → slice_get gs i ≡ Some x → slice_get grown_gs i ≡ Some x
    growth_there i x ne e = append_left (slice_set gs id (Inner c n (n + 1))) (bud ∷ bud ∷ []) i x (set_apart gs id i (Inner c n (n + 1)) x ne e)

    new_leaf : (i : ℕ) → (i ≡ id → ⊥) → i < length ms → HasCycle p cs gs i → HasCycle p new_cs grown_gs i
    new_leaf i ne lt h = record { line = h.line; here = growth_there i (Leaf h.line) ne h.here; cycle = ap (λ k. is_cycle (edges_under p k) h.line) (same_cube i lt) ∙ h.cycle }

    new_leaves : (i : ℕ) → slice_get new_ms i ≡ Some Refuted → HasCycle p new_cs grown_gs i
    new_leaves i e = elim (append_cases (slice_set ms id (Divided c)) (Open ∷ Open ∷ []) i Refuted e) [
      | inl a ↦ elim (get_set ms id i (Divided c) Refuted a) [
        | inl x ↦ absurd (let f : Refuted ≡ Divided c = x.1 in cc)
        | inr y ↦ new_leaf i y.0 (within ms i Refuted y.1) (g.leaves i y.1)
      ]
      | inr b ↦ absurd (is_open b.0 Refuted b.2 live_open.not_refuted)
    ]

    child_there : (i d : ℕ) (side : Side) (j : ℕ) → IsChildAt ps ds i d side j → IsChildAt new_ps new_ds i d side j
    child_there i d side j h = record { later = h.later; parent = append_left ps (id ∷ id ∷ []) j i h.parent; decision = append_left ds (by One ∷ by Two ∷ []) j (Some (record { choice = d; side = side })) h.decision }

    only_there : (i first second : ℕ) → (i ≡ id → ⊥) → ((j : ℕ) → 0 < j → slice_get ps j ≡ Some i → (j ≡ first) ⊎ (j ≡ second)) → (j : ℕ) → 0 < j → slice_get new_ps j ≡ Some i → (j ≡ first) ⊎ (j ≡ second)
    only_there i first second ne h j lt e = elim (append_cases ps (id ∷ id ∷ []) j i e) [ inl a ↦ h j lt a | inr b ↦ absurd (ne (is_id b.0 i b.2)) ]

    old_children : (i d : ℕ) → (i ≡ id → ⊥) → i < length ms → HasChildren p cs ps ds gs i d → HasChildren p new_cs new_ps new_ds grown_gs i d
    old_children i d ne lt h = record {
      choice = h.choice;
      undecided = ap (λ k. is_decided k d) (same_cube i lt) ∙ h.undecided;
      first = h.first;
      second = h.second;
      growth = growth_there i (Inner d h.first h.second) ne h.growth;
      one = child_there i d One h.first h.one;
      two = child_there i d Two h.second h.two;
      only = only_there i h.first h.second ne h.only;
    }

    nth : (k j : ℕ) → j ≡ length ps + k → slice_get (id ∷ id ∷ []) k ≡ Some id → (j ≡ n) ⊎ (j ≡ n + 1)
    nth zero j e at = inl (let m = g.parents in omega (arith, e, m, size))
    nth (suc zero) j e at = inr (let m = g.parents in omega (arith, e, m, size))
    nth (suc (suc k)) j e at = absurd (cc)

    new_only : (j : ℕ) → 0 < j → slice_get new_ps j ≡ Some id → (j ≡ n) ⊎ (j ≡ n + 1)
    new_only j lt e = elim (append_cases ps (id ∷ id ∷ []) j id e) [
      | inl a ↦ (let u = g.below j id lt a in absurd (apart id u.choice u.split refl))
      | inr b ↦ nth b.0 j b.1 b.2
    ]

    new_children : HasChildren p new_cs new_ps new_ds grown_gs id c
    new_children = record {
      choice = choice;
      undecided = ap (λ k. is_decided k c) (same_cube id in_ms) ∙ undecided;
      first = n;
      second = n + 1;
      growth = append_left (slice_set gs id (Inner c n (n + 1))) (bud ∷ bud ∷ []) id (Inner c n (n + 1)) (set_here gs id (Inner c n (n + 1)) (let m = in_ms in let l = g.growths in omega (arith, m, l)));
      one = record { later = (let m = in_ms in omega (arith, m, size)); parent = append_at ps (id ∷ id ∷ []) n 0 (let l = g.parents in omega (arith, l, size)); decision = append_at ds (by One ∷ by Two ∷ []) n 0 (let l = g.decisions in omega (arith, l, size)) };
      two = record { later = (let m = in_ms in omega (arith, m, size)); parent = append_at ps (id ∷ id ∷ []) (n + 1) 1 (let l = g.parents in omega (arith, l, size)); decision = append_at ds (by One ∷ by Two ∷ []) (n + 1) 1 (let l = g.decisions in omega (arith, l, size)) };
      only = new_only;
    }

    divided_is : (a b : ℕ) → Divided a ≡ Divided b → a ≡ b
    divided_is a b e = cc

    new_inner : (i d : ℕ) → slice_get new_ms i ≡ Some (Divided d) → HasChildren p new_cs new_ps new_ds grown_gs i d
    new_inner i d e = elim (append_cases (slice_set ms id (Divided c)) (Open ∷ Open ∷ []) i (Divided d) e) [
      | inl a ↦ elim (get_set ms id i (Divided c) (Divided d) a) [
        | inl x ↦ subst (λ k. HasChildren p new_cs new_ps new_ds grown_gs k d) (sym x.0) (subst (λ k. HasChildren p new_cs new_ps new_ds grown_gs id k) (divided_is c d (sym x.1)) new_children)
        | inr y ↦ old_children i d y.0 (within ms i (Divided d) y.1) (g.inner i d y.1)
      ]
      | inr b ↦ absurd (is_open b.0 (Divided d) b.2 (live_open.not_divided d))
    ]

    length_new : (k : ℕ) → k ≡ length ms → k + 2 ≡ length new_ms
    length_new k e = let a = length-append (slice_set ms id (Divided c)) (Open ∷ Open ∷ []) in let b = length-set ms id (Divided c) in omega (arith, a, b, e)

    pub grown_split : IsGrown p new_cs new_ms new_ps new_ds grown_gs
    grown_split = record {
      cubes = length-append cs (one ∷ two ∷ []) ∙ length_new (length cs) g.cubes;
      parents = length-append ps (id ∷ id ∷ []) ∙ length_new (length ps) g.parents;
      decisions = length-append ds (by One ∷ by Two ∷ []) ∙ length_new (length ds) g.decisions;
      growths = length-append (slice_set gs id (Inner c n (n + 1))) (bud ∷ bud ∷ []) ∙ length_new (length (slice_set gs id (Inner c n (n + 1)))) (length-set gs id (Inner c n (n + 1)) ∙ g.growths);
      root_parent = append_left ps (id ∷ id ∷ []) 0 0 g.root_parent;
      root_decision = append_left ds (by One ∷ by Two ∷ []) 0 None g.root_decision;
      below = new_below;
      leaves = new_leaves;
      inner = new_inner;
    }
