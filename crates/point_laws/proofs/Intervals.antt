-- Locks that are taken at snapshots and found at commits: they replay exactly where the intervals of those that share a lock do
-- not overlap.
use Rattle.point_laws.proofs.Prelude.{◌≡◌, ◌≢◌, ◌⊎◌, ℕ, suc, ◌<◌, true, List, [], ◌∷◌, ◌++◌, map, refl, sym, ap, ◌∙◌, subst, inl, inr, arith, ◌↔◌, flat_map, AllByRecursion, Contains, bytes_eq, cases_Bool, cases_eq, bytes_eq-Decides, behind}
use Rattle.point_laws.proofs.Prelude.{Op, Read, Write, place_of, Has, Apart, place_of-here, place_of-further, Map, set, Replays, member, each_member, EachPair, after, first_or_behind, Point, snapshot, commit, number}
use Rattle.point_laws.proofs.Arith.{same_commit, same_snapshot, snapshot_commit, commit_snapshot, node_of_snapshot, node_of_commit}
use Rattle.point_laws.proofs.Parts.{OtherKey}

-- ---- locks of one node, each with the identity under which it is taken
abbrev pub Taken : Type 0
Taken = List (List ℕ × ℕ)

abbrev pub takes : Taken → List Op
takes qs = map (λ q. Write q.0 q.1) qs

abbrev pub finds : Taken → List Op
finds qs = map (λ q. Read q.0 q.1) qs

abbrev Holds : Map → Taken → Type 0
Holds m qs = AllByRecursion (λ q. m q.0 ≡ q.1) qs

had_or_taken : (qs : Taken) (m : Map) (key : List ℕ) → (after m (takes qs) key ≡ m key) ⊎ Contains qs (key, after m (takes qs) key)
had_or_taken [] m key = inl refl
had_or_taken (q ∷ qs) m key = elim (had_or_taken qs (set m q.0 q.1) key) [
  | inl had ↦ elim (cases_Bool (bytes_eq q.0 key)) [
    | inl same ↦ let is : after (set m q.0 q.1) (takes qs) key ≡ q.1 = rw same at had in
        inr (0, omega arith, ap (λ l. (l, q.1)) ((bytes_eq-Decides q.0 key).0 same) ∙ ap (λ w. (key, w)) (sym is))
    | inr other ↦ inl (rw other at had)
  ]
  | inr c ↦ inr (suc c.0, omega (arith, c.1), c.2)
]

taken_stays : (qs : Taken) (m : Map) (key : List ℕ) (wid : ℕ) → Contains qs (key, wid) → Contains qs (key, after m (takes qs) key)
taken_stays [] m key wid c = absurd (omega (arith, c.1))
taken_stays (q ∷ qs) m key wid c = elim (first_or_behind q qs (key, wid) c) [
  | inl e ↦ elim (had_or_taken qs (set m q.0 q.1) key) [
    | inl had ↦
        let is_key : q.0 ≡ key = ap (λ p. p.0) e in
        let same : bytes_eq q.0 key ≡ true = (bytes_eq-Decides q.0 key).1 is_key in
        let is : after (set m q.0 q.1) (takes qs) key ≡ q.1 = rw same at had in
        (0, omega arith, ap (λ l. (l, q.1)) is_key ∙ ap (λ w. (key, w)) (sym is))
    | inr d ↦ behind q qs (key, after (set m q.0 q.1) (takes qs) key) d
  ]
  | inr d ↦ behind q qs (key, after (set m q.0 q.1) (takes qs) key) (taken_stays qs (set m q.0 q.1) key wid d)
]

holds_taken : (qs : Taken) (m : Map) → EachPair OtherKey qs → Holds (after m (takes qs)) qs
holds_taken [] m h = tt
holds_taken (q ∷ qs) m h = (first, holds_taken qs (set m q.0 q.1) h.1)
  where
    own : set m q.0 q.1 q.0 ≡ q.1
    own = let e = (bytes_eq-Decides q.0 q.0).1 refl in rw e refl

    first : after (set m q.0 q.1) (takes qs) q.0 ≡ q.1
    first = elim (had_or_taken qs (set m q.0 q.1) q.0) [
      | inl had ↦ had ∙ own
      | inr c ↦ absurd (member (OtherKey q) qs (q.0, after (set m q.0 q.1) (takes qs) q.0) h.0 c refl)
    ]

found_then : (m : Map) (qs : Taken) (ops : List Op) → (Replays m (finds qs ++ ops) ↔ (Holds m qs × Replays m ops))
found_then m [] ops = (λ r. (tt, r), λ r. r.1)
found_then m (q ∷ qs) ops =
    let later = found_then m qs ops in
    (λ r. ((r.0, (later.0 r.1).0), (later.0 r.1).1), λ r. (r.0.0, later.1 (r.0.1, r.1)))

taken_then : (m : Map) (qs : Taken) (ops : List Op) → (Replays m (takes qs ++ ops) ↔ Replays (after m (takes qs)) ops)
taken_then m [] ops = (λ r. r, λ r. r)
taken_then m (q ∷ qs) ops = taken_then (set m q.0 q.1) qs ops

-- ---- of all nodes
abbrev pub lock_ops : (ℕ → Taken) → Point → List Op
lock_ops locks (snapshot v) = takes (locks v)
lock_ops locks (commit v) = finds (locks v)

-- each is taken under an identity of its own
abbrev pub AreOwn : (ℕ → Taken) → Type 0
AreOwn locks = (u v : ℕ) (key other : List ℕ) (wid : ℕ) → Contains (locks u) (key, wid) → Contains (locks v) (other, wid) → u ≡ v

pub record Shares (locks : ℕ → Taken) (u v : ℕ) : Type 0 where
  pub key : List ℕ
  pub one : ℕ
  pub other : ℕ
  pub has : Contains (locks u) (key, one)
  pub shares : Contains (locks v) (key, other)

-- ---- places of points
abbrev pub place : List Point → Point → ℕ
place ps p = place_of (map number ps) (number p)

abbrev pub At : List Point → Point → Type 0
At ps p = Has (number p) (map number ps)

here : (p : Point) (ps : List Point) → place (p ∷ ps) p ≡ 0
here p ps = place_of-here (number p) (map number ps)

further : (p q : Point) (ps : List Point) → number p ≢ number q → place (p ∷ ps) q ≡ suc (place ps q)
further p q ps ne = place_of-further (number p) (number q) (map number ps) ne

later_at : (p q : Point) (ps : List Point) → number p ≢ number q → At (p ∷ ps) q → At ps q
later_at p q ps ne (inl e) = absurd (ne e)
later_at p q ps ne (inr h) = h

-- points of other nodes
other_snapshot : (u v : ℕ) → 0 < v → u ≢ v → number (snapshot u) ≢ number (snapshot v)
other_snapshot u v lo ne e = ne (same_snapshot u v lo e)

other_commit : (u v : ℕ) → u ≢ v → number (commit u) ≢ number (commit v)
other_commit u v ne e = ne (same_commit u v e)

-- ---- what replay says of a node whose snapshot was before: its locks are held, and those that share one come behind its commit
record Kept (locks : ℕ → Taken) (m : Map) (ps : List Point) (u : ℕ) : Type 0 where
  pub holds : Holds m (locks u)
  pub clear : (v : ℕ) → 0 < v → v ≢ u → Shares locks u v → place ps (commit u) < place ps (snapshot v)

kept_snapshot : (locks : ℕ → Taken) → AreOwn locks → (ps : List Point) (m : Map) (x u : ℕ) → 0 < u → x ≢ u → Kept locks (after m (takes (locks x))) ps u → Kept locks m (snapshot x ∷ ps) u
kept_snapshot locks own ps m x u lo other k = record { holds = holds; clear = clear }
  where
    unshared : (key : List ℕ) (wid : ℕ) → Contains (locks u) (key, wid) → Contains (locks x) (key, after m (takes (locks x)) key) → ⊥
    unshared key wid c d =
        let is : after m (takes (locks x)) key ≡ wid = member (λ (q : List ℕ × ℕ). after m (takes (locks x)) q.0 ≡ q.1) (locks u) (key, wid) k.holds c in
        other (own x u key key wid (subst (λ w. Contains (locks x) (key, w)) is d) c)

    holds : Holds m (locks u)
    holds = each_member (λ (q : List ℕ × ℕ). m q.0 ≡ q.1) (locks u) (λ q c. elim (had_or_taken (locks x) m q.0) [
      | inl had ↦ sym had ∙ member (λ (q : List ℕ × ℕ). after m (takes (locks x)) q.0 ≡ q.1) (locks u) q k.holds c
      | inr d ↦ absurd (unshared q.0 q.1 c d)
    ])

    clear : (v : ℕ) → 0 < v → v ≢ u → Shares locks u v → place (snapshot x ∷ ps) (commit u) < place (snapshot x ∷ ps) (snapshot v)
    clear v lo_v ne s = elim (cases_eq x v) [
      | inl same ↦
          let c : Contains (locks x) (s.key, s.other) = subst (λ w. Contains (locks w) (s.key, s.other)) (sym same) s.shares in
          absurd (unshared s.key s.one s.has (taken_stays (locks x) m s.key s.other c))
      | inr differ ↦ omega (arith, k.clear v lo_v ne s, further (snapshot x) (commit u) ps (snapshot_commit x u lo), further (snapshot x) (snapshot v) ps (other_snapshot x v lo_v differ))
    ]

kept : (locks : ℕ → Taken) → AreOwn locks → (ps : List Point) (m : Map) (u : ℕ) → 0 < u → Apart (map number ps) → Replays m (flat_map (lock_ops locks) ps) → At ps (commit u) → (At ps (snapshot u) → ⊥) → Kept locks m ps u
kept locks own [] m u lo apart r at gone = absurd at
kept locks own (snapshot x ∷ ps) m u lo apart r at gone =
    kept_snapshot locks own ps m x u lo (λ e. gone (inl (ap (λ w. number (snapshot w)) e)))
    (kept locks own ps (after m (takes (locks x))) u lo apart.1 ((taken_then m (locks x) (flat_map (lock_ops locks) ps)).0 r) (later_at (snapshot x) (commit u) ps (snapshot_commit x u lo) at) (λ a. gone (inr a)))
kept locks own (commit x ∷ ps) m u lo apart r at gone = elim (cases_eq x u) [
  | inl same ↦ record {
    holds = subst (λ n. Holds m (locks n)) same ((found_then m (locks x) (flat_map (lock_ops locks) ps)).0 r).0;
    clear = λ v lo_v ne s. omega (arith, subst (λ n. place (commit x ∷ ps) (commit n) ≡ 0) same (here (commit x) ps), further (commit x) (snapshot v) ps (commit_snapshot x v lo_v));
  }
  | inr other ↦
      let k = kept locks own ps m u lo apart.1 ((found_then m (locks x) (flat_map (lock_ops locks) ps)).0 r).1 (later_at (commit x) (commit u) ps (other_commit x u other) at) (λ a. gone (inr a)) in
      record {
        holds = k.holds;
        clear = λ v lo_v ne s. omega (arith, k.clear v lo_v ne s, further (commit x) (commit u) ps (other_commit x u other), further (commit x) (snapshot v) ps (commit_snapshot x v lo_v));
      }
]

-- those that share one with a node come before its snapshot or behind its commit
pub outside : (locks : ℕ → Taken) → AreOwn locks → (ps : List Point) (m : Map) (u v : ℕ) → 0 < u → 0 < v → v ≢ u → Apart (map number ps) → Replays m (flat_map (lock_ops locks) ps) → At ps (snapshot u) → At ps (commit u) → place ps (snapshot u) < place ps (commit u) → Shares locks u v → (place ps (snapshot v) < place ps (snapshot u)) ⊎ (place ps (commit u) < place ps (snapshot v))
outside locks own [] m u v lo lo_v ne apart r at_s at_c lt s = absurd at_s
outside locks own (snapshot x ∷ ps) m u v lo lo_v ne apart r at_s at_c lt s =
    let r_behind = (taken_then m (locks x) (flat_map (lock_ops locks) ps)).0 r in
    let at_commit = later_at (snapshot x) (commit u) ps (snapshot_commit x u lo) at_c in
    let to_commit = further (snapshot x) (commit u) ps (snapshot_commit x u lo) in
    elim (cases_eq x u) [
      | inl same ↦
          let gone : At ps (snapshot u) → ⊥ = λ a. apart.0 (subst (λ n. At ps (snapshot n)) (sym same) a) in
          let k = kept locks own ps (after m (takes (locks x))) u lo apart.1 r_behind at_commit gone in
          let differ : x ≢ v = λ e. ne (sym e ∙ same) in
          inr (omega (arith, k.clear v lo_v ne s, to_commit, further (snapshot x) (snapshot v) ps (other_snapshot x v lo_v differ)))
      | inr other ↦
          let to_snapshot = further (snapshot x) (snapshot u) ps (other_snapshot x u lo other) in
          elim (cases_eq x v) [
            | inl same ↦ inl (omega (arith, to_snapshot, subst (λ n. place (snapshot x ∷ ps) (snapshot n) ≡ 0) same (here (snapshot x) ps)))
            | inr differ ↦
                let to_other = further (snapshot x) (snapshot v) ps (other_snapshot x v lo_v differ) in
                elim (outside locks own ps (after m (takes (locks x))) u v lo lo_v ne apart.1 r_behind (later_at (snapshot x) (snapshot u) ps (other_snapshot x u lo other) at_s) at_commit (omega (arith, lt, to_snapshot, to_commit)) s) [
                  | inl a ↦ inl (omega (arith, a, to_other, to_snapshot))
                  | inr a ↦ inr (omega (arith, a, to_other, to_commit))
                ]
          ]
    ]
outside locks own (commit x ∷ ps) m u v lo lo_v ne apart r at_s at_c lt s =
    let to_snapshot = further (commit x) (snapshot u) ps (commit_snapshot x u lo) in
    let to_other = further (commit x) (snapshot v) ps (commit_snapshot x v lo_v) in
    elim (cases_eq x u) [
      | inl same ↦ absurd (let at_once = subst (λ n. place (commit x ∷ ps) (commit n) ≡ 0) same (here (commit x) ps) in omega (arith, lt, at_once))
      | inr other ↦
          let to_commit = further (commit x) (commit u) ps (other_commit x u other) in
          elim (outside locks own ps m u v lo lo_v ne apart.1 ((found_then m (locks x) (flat_map (lock_ops locks) ps)).0 r).1 (later_at (commit x) (snapshot u) ps (commit_snapshot x u lo) at_s) (later_at (commit x) (commit u) ps (other_commit x u other) at_c) (omega (arith, lt, to_snapshot, to_commit)) s) [
            | inl a ↦ inl (omega (arith, a, to_other, to_snapshot))
            | inr a ↦ inr (omega (arith, a, to_other, to_commit))
          ]
    ]

-- ---- what makes them replay: each commit stands behind its snapshot, or holds its locks; and those that share a lock with it do not
-- take it between
pub record AreFree (locks : ℕ → Taken) (ps : List Point) (m : Map) : Type 0 where
  pub held : (u : ℕ) → 0 < u → At ps (commit u) → (place ps (snapshot u) < place ps (commit u)) ⊎ ((At ps (snapshot u) → ⊥) × Holds m (locks u))
  pub clear : (u v : ℕ) → 0 < u → 0 < v → v ≢ u → Shares locks u v → At ps (commit u) → At ps (snapshot v) → (place ps (commit u) < place ps (snapshot v)) ⊎ (At ps (snapshot u) × (place ps (snapshot v) < place ps (snapshot u)))

pub locks_replay : (locks : ℕ → Taken) → AreOwn locks → ((v : ℕ) → EachPair OtherKey (locks v)) → (ps : List Point) (m : Map) → Apart (map number ps) → AllByRecursion (λ p. 0 < number p) ps → AreFree locks ps m → Replays m (flat_map (lock_ops locks) ps)
locks_replay locks own each [] m apart pos h = tt
locks_replay locks own each (commit x ∷ ps) m apart pos h =
    (found_then m (locks x) (flat_map (lock_ops locks) ps)).1 (holds, locks_replay locks own each ps m apart.1 pos.1 (record { held = held; clear = clear }))
  where
    holds : Holds m (locks x)
    holds = elim (h.held x (node_of_commit x pos.0) (inl refl)) [
      | inl lt ↦ absurd (omega (arith, lt, here (commit x) ps))
      | inr gone ↦ gone.1
    ]

    other : (u : ℕ) → At ps (commit u) → number (commit x) ≢ number (commit u)
    other u at e = apart.0 (subst (λ n. Has n (map number ps)) (sym e) at)

    held : (u : ℕ) → 0 < u → At ps (commit u) → (place ps (snapshot u) < place ps (commit u)) ⊎ ((At ps (snapshot u) → ⊥) × Holds m (locks u))
    held u lo at = elim (h.held u lo (inr at)) [
      | inl lt ↦ inl (omega (arith, lt, further (commit x) (snapshot u) ps (commit_snapshot x u lo), further (commit x) (commit u) ps (other u at)))
      | inr gone ↦ inr ((λ a. gone.0 (inr a)), gone.1)
    ]

    clear : (u v : ℕ) → 0 < u → 0 < v → v ≢ u → Shares locks u v → At ps (commit u) → At ps (snapshot v) → (place ps (commit u) < place ps (snapshot v)) ⊎ (At ps (snapshot u) × (place ps (snapshot v) < place ps (snapshot u)))
    clear u v lo lo_v ne s at_c at_s =
        let to_other = further (commit x) (snapshot v) ps (commit_snapshot x v lo_v) in
        elim (h.clear u v lo lo_v ne s (inr at_c) (inr at_s)) [
          | inl lt ↦ inl (omega (arith, lt, to_other, further (commit x) (commit u) ps (other u at_c)))
          | inr a ↦ inr (later_at (commit x) (snapshot u) ps (commit_snapshot x u lo) a.0, omega (arith, a.1, to_other, further (commit x) (snapshot u) ps (commit_snapshot x u lo)))
        ]
locks_replay locks own each (snapshot x ∷ ps) m apart pos h =
    (taken_then m (locks x) (flat_map (lock_ops locks) ps)).1 (locks_replay locks own each ps (after m (takes (locks x))) apart.1 pos.1 (record { held = held; clear = clear }))
  where
    lo_x : 0 < x
    lo_x = node_of_snapshot x pos.0

    to_commit : (u : ℕ) → 0 < u → place (snapshot x ∷ ps) (commit u) ≡ suc (place ps (commit u))
    to_commit u lo = further (snapshot x) (commit u) ps (snapshot_commit x u lo)

    to_snapshot : (u : ℕ) → 0 < u → x ≢ u → place (snapshot x ∷ ps) (snapshot u) ≡ suc (place ps (snapshot u))
    to_snapshot u lo ne = further (snapshot x) (snapshot u) ps (other_snapshot x u lo ne)

    still : (u : ℕ) → 0 < u → x ≢ u → At ps (commit u) → (At (snapshot x ∷ ps) (snapshot u) → ⊥) → Holds m (locks u) → Holds (after m (takes (locks x))) (locks u)
    still u lo ne at gone k = each_member (λ (q : List ℕ × ℕ). after m (takes (locks x)) q.0 ≡ q.1) (locks u) (λ q c. elim (had_or_taken (locks x) m q.0) [
      | inl had ↦ had ∙ member (λ (q : List ℕ × ℕ). m q.0 ≡ q.1) (locks u) q k c
      | inr d ↦
          let s : Shares locks u x = record { key = q.0; one = q.1; other = after m (takes (locks x)) q.0; has = c; shares = d } in
          absurd (elim (h.clear u x lo lo_x ne s (inr at) (inl refl)) [
            | inl lt ↦ omega (arith, lt, here (snapshot x) ps)
            | inr a ↦ gone a.0
          ])
    ])

    held : (u : ℕ) → 0 < u → At ps (commit u) → (place ps (snapshot u) < place ps (commit u)) ⊎ ((At ps (snapshot u) → ⊥) × Holds (after m (takes (locks x))) (locks u))
    held u lo at = elim (cases_eq x u) [
      | inl same ↦ inr ((λ a. apart.0 (subst (λ n. At ps (snapshot n)) (sym same) a)), subst (λ n. Holds (after m (takes (locks x))) (locks n)) same (holds_taken (locks x) m (each x)))
      | inr ne ↦ elim (h.held u lo (inr at)) [
        | inl lt ↦ inl (omega (arith, lt, to_snapshot u lo ne, to_commit u lo))
        | inr gone ↦ inr ((λ a. gone.0 (inr a)), still u lo ne at gone.0 gone.1)
      ]
    ]

    clear : (u v : ℕ) → 0 < u → 0 < v → v ≢ u → Shares locks u v → At ps (commit u) → At ps (snapshot v) → (place ps (commit u) < place ps (snapshot v)) ⊎ (At ps (snapshot u) × (place ps (snapshot v) < place ps (snapshot u)))
    clear u v lo lo_v ne s at_c at_s =
        let differ : x ≢ v = λ e. apart.0 (subst (λ n. At ps (snapshot n)) (sym e) at_s) in
        elim (h.clear u v lo lo_v ne s (inr at_c) (inr at_s)) [
          | inl lt ↦ inl (omega (arith, lt, to_commit u lo, to_snapshot v lo_v differ))
          | inr a ↦ elim (cases_eq x u) [
            | inl same ↦ absurd (let at_once = subst (λ n. place (snapshot x ∷ ps) (snapshot n) ≡ 0) same (here (snapshot x) ps) in let lt = a.1 in omega (arith, lt, at_once))
            | inr other ↦ inr (later_at (snapshot x) (snapshot u) ps (other_snapshot x u lo other) a.0, omega (arith, a.1, to_snapshot v lo_v differ, to_snapshot u lo other))
          ]
        ]
