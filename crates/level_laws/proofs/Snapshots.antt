-- A snapshot order gives a causal order: that of the commits.
use Rattle.level_laws.proofs.Prelude.{◌≡◌, Bool, ◌≢◌, ◌⊎◌, ℕ, ◌*◌, ◌<◌, ◌≤◌, true, false, cond, List, [], ◌∷◌, ◌++◌, length, map, Some, None, refl, sym, ap, ◌∙◌, subst, inl, inr, arith, append_assoc, flat_map, Contains, bytes_eq, cases_Bool}
use Rattle.level_laws.proofs.Prelude.{cases_eq, or_left, map-append, Contains-append_right, bytes_eq-Decides, ClientSession, Op, Read, Write, place_of, Has, Apart, Has-append_back, Has-append_cases, Apart-not_both, place_of-here}
use Rattle.level_laws.proofs.Prelude.{place_of-further, place_of-front, place_of-back, some_cases, committed_in, ops_of, Map, set, initial, Replays, Point, snapshot, commit, number, is_in, snapshot_reads_behind, snapshot_reads, rest_behind}
use Rattle.level_laws.proofs.Prelude.{rest, IsPointOrder, place, At, is_node, stands, last_write, ReadsBehind, WritesKey}
use Rattle.std.proofs.lemmas.List.Concat.{flat_map-append}
use Rattle.serializability.proofs.Listed.{once_apart}
use Rattle.log_laws.proofs.Replay.{after, after-append, Replays-append}
use Rattle.point_laws.specs.Snapshot.{ops_at}
use Rattle.point_laws.proofs.Arith.{point_node, point_of_number}
use Rattle.point_laws.proofs.Parts.{turned, after_snapshot, after_rest}
use Rattle.serializability.proofs.Replays.{later_none}
use Rattle.level_laws.proofs.LastWrites.{later_some, this_write, none_of_this, none_written}

-- ---- what a map has behind operations
pub after_none : (m : Map) (key : List ℕ) (ops : List Op) → last_write key ops ≡ None → after m ops key ≡ m key
after_none m key [] e = refl
after_none m key (Read k y ∷ ops) e = after_none m key ops e
after_none m key (Write k y ∷ ops) e =
    let r = later_none (cond (bytes_eq k key) (Some y) None) (last_write key ops) e in
    after_none (set m k y) key ops r.1 ∙ other (cases_Bool (bytes_eq k key)) r.0
  where
    other : (bytes_eq k key ≡ true) ⊎ (bytes_eq k key ≡ false) → cond (bytes_eq k key) (Some y) None ≡ None → set m k y key ≡ m key
    other (inl t) f = absurd (none_of_this k key y f ((bytes_eq-Decides k key).0 t))
    other (inr t) f = rw t refl

pub after_some : (m : Map) (key : List ℕ) (ops : List Op) (w : ℕ) → last_write key ops ≡ Some w → after m ops key ≡ w
after_some m key [] w e = absurd (cc)
after_some m key (Read k y ∷ ops) w e = after_some m key ops w e
after_some m key (Write k y ∷ ops) w e = elim (later_some (cond (bytes_eq k key) (Some y) None) (last_write key ops) w e) [
  | inl r ↦
      let is = this_write k key y w r.1 in
      let t : bytes_eq k key ≡ true = (bytes_eq-Decides k key).1 is.0 in
      after_none (set m k y) key ops r.0 ∙ here t is.1
  | inr f ↦ after_some (set m k y) key ops w f
]
  where
    here : bytes_eq k key ≡ true → y ≡ w → set m k y key ≡ w
    here t e' = rw t e'

-- ---- an external read is met at the snapshot
not_among : (k key : List ℕ) (y : ℕ) (keys : List (List ℕ)) → cond (bytes_eq k key) (Some y) None ≡ None → is_in keys key ≡ false → is_in (k ∷ keys) key ≡ false
not_among k key y keys e f = elim (cases_Bool (bytes_eq key k)) [
  | inl t ↦ absurd (none_of_this k key y e (sym ((bytes_eq-Decides key k).0 t)))
  | inr g ↦ rw g f
]

met_external : (m : Map) (keys : List (List ℕ)) (before behind : List Op) (key : List ℕ) (wid : ℕ) → Replays m (snapshot_reads_behind keys (before ++ Read key wid ∷ behind)) → is_in keys key ≡ false → last_write key before ≡ None → m key ≡ wid
met_external m keys [] behind key wid r f e = let s : Replays m (Read key wid ∷ snapshot_reads_behind keys behind) = rw f at r in s.0
met_external m keys (Read k w ∷ before) behind key wid r f e = elim (cases_Bool (is_in keys k)) [
  | inl t ↦ let s : Replays m (snapshot_reads_behind keys (before ++ Read key wid ∷ behind)) = rw t at r in met_external m keys before behind key wid s f e
  | inr t ↦ let s : Replays m (Read k w ∷ snapshot_reads_behind keys (before ++ Read key wid ∷ behind)) = rw t at r in met_external m keys before behind key wid s.1 f e
]
met_external m keys (Write k w ∷ before) behind key wid r f e =
    let both = later_none (cond (bytes_eq k key) (Some w) None) (last_write key before) e in
    met_external m (k ∷ keys) before behind key wid r (not_among k key w keys both.0 f) both.1

-- ---- an own read is met by the rest
abbrev OwnMet : Map → List (List ℕ) → List Op → List ℕ → ℕ → Type 0
OwnMet m keys before key wid =
    ((last : ℕ) → last_write key before ≡ Some last → wid ≡ last) × (is_in keys key ≡ true → last_write key before ≡ None → wid ≡ m key)

own_behind : (m : Map) (keys : List (List ℕ)) (k : List ℕ) (w : ℕ) (before : List Op) (key : List ℕ) (wid : ℕ) → OwnMet (set m k w) (k ∷ keys) before key wid → OwnMet m keys (Write k w ∷ before) key wid
own_behind m keys k w before key wid ih = (some, none)
  where
    here : bytes_eq k key ≡ true → set m k w key ≡ w
    here t = rw t refl

    some : (last : ℕ) → last_write key (Write k w ∷ before) ≡ Some last → wid ≡ last
    some last e = elim (later_some (cond (bytes_eq k key) (Some w) None) (last_write key before) last e) [
      | inl both ↦
          let is = this_write k key w last both.1 in
          let t : bytes_eq k key ≡ true = (bytes_eq-Decides k key).1 is.0 in
          ih.1 (or_left (bytes_eq key k) (is_in keys key) (turned k key t)) both.0 ∙ here t ∙ is.1
      | inr f ↦ ih.0 last f
    ]

    none : is_in keys key ≡ true → last_write key (Write k w ∷ before) ≡ None → wid ≡ m key
    none t e =
        let both = later_none (cond (bytes_eq k key) (Some w) None) (last_write key before) e in
        ih.1 (among t) both.1 ∙ other (cases_Bool (bytes_eq k key)) both.0
      where
        among : is_in keys key ≡ true → is_in (k ∷ keys) key ≡ true
        among u = elim (cases_Bool (bytes_eq key k)) [ inl g ↦ rw g refl | inr g ↦ rw g u ]

        other : (bytes_eq k key ≡ true) ⊎ (bytes_eq k key ≡ false) → cond (bytes_eq k key) (Some w) None ≡ None → set m k w key ≡ m key
        other (inl g) f = absurd (none_of_this k key w f ((bytes_eq-Decides k key).0 g))
        other (inr g) f = rw g refl

met_own : (m : Map) (keys : List (List ℕ)) (before behind : List Op) (key : List ℕ) (wid : ℕ) → Replays m (rest_behind keys (before ++ Read key wid ∷ behind)) → OwnMet m keys before key wid
met_own m keys [] behind key wid r = (
  (λ last e. absurd (cc)),
  (λ t e. (let s : Replays m (Read key wid ∷ rest_behind keys behind) = rw t at r in sym s.0)),
)
met_own m keys (Read k w ∷ before) behind key wid r = elim (cases_Bool (is_in keys k)) [
  | inl t ↦ let s : Replays m (Read k w ∷ rest_behind keys (before ++ Read key wid ∷ behind)) = rw t at r in met_own m keys before behind key wid s.1
  | inr t ↦ let s : Replays m (rest_behind keys (before ++ Read key wid ∷ behind)) = rw t at r in met_own m keys before behind key wid s
]
met_own m keys (Write k w ∷ before) behind key wid r = own_behind m keys k w before key wid (met_own (set m k w) (k ∷ keys) before behind key wid r)

-- ---- who wrote last among points
abbrev NoWriter : List ClientSession → List Point → List ℕ → Type 0
NoWriter ss points key = (u : ℕ) → At points (commit u) → WritesKey ss u key → ⊥

record LastWriter (ss : List ClientSession) (points : List Point) (key : List ℕ) (w : ℕ) : Type 0 where
  pub node : ℕ
  pub front : List Point
  pub back : List Point
  pub is : points ≡ front ++ commit node ∷ back
  pub final : last_write key (ops_of ss node) ≡ Some w
  pub none : NoWriter ss back key

is_commit : (v u : ℕ) → commit v ≡ commit u → v ≡ u
is_commit v u e = cc

no_snapshot : (v u : ℕ) → snapshot v ≡ commit u → ⊥
no_snapshot v u e = cc

none_more : (ss : List ClientSession) (p : Point) (points : List Point) (key : List ℕ) → NoWriter ss points key → ((u : ℕ) → p ≡ commit u → WritesKey ss u key → ⊥) → NoWriter ss (p ∷ points) key
none_more ss p points key none here u (inl e) w = let lo = (is_node ss u (Write key w.0) w.1).0 in here u (point_of_number p (commit u) lo e) w
none_more ss p points key none here u (inr at) w = none u at w

holder : (ss : List ClientSession) (key : List ℕ) (points : List Point) (m : Map) → ((after m (flat_map (ops_at ss) points) key ≡ m key) × NoWriter ss points key) ⊎ LastWriter ss points key (after m (flat_map (ops_at ss) points) key)
holder ss key [] m = inl (refl, (λ u at w. at))
holder ss key (snapshot v ∷ points) m =
    subst (λ (n : Map). ((n key ≡ m key) × NoWriter ss (snapshot v ∷ points) key) ⊎ LastWriter ss (snapshot v ∷ points) key (n key))
    (sym (after-append m (snapshot_reads (ops_of ss v)) (flat_map (ops_at ss) points) ∙ ap (λ n. after n (flat_map (ops_at ss) points)) (after_snapshot m (ops_of ss v))))
    (elim (holder ss key points m) [
      | inl r ↦ inl (r.0, none_more ss (snapshot v) points key r.1 (λ u e w. no_snapshot v u e))
      | inr l ↦ inr (record { node = l.node; front = snapshot v ∷ l.front; back = l.back; is = ap (λ ps. snapshot v ∷ ps) l.is; final = l.final; none = l.none })
    ])
holder ss key (commit v ∷ points) m =
    subst (λ (n : Map). ((n key ≡ m key) × NoWriter ss (commit v ∷ points) key) ⊎ LastWriter ss (commit v ∷ points) key (n key))
    (sym (after-append m (rest (ops_of ss v)) (flat_map (ops_at ss) points) ∙ ap (λ n. after n (flat_map (ops_at ss) points)) (after_rest m (ops_of ss v))))
    (elim (holder ss key points (after m (ops_of ss v))) [
      | inl r ↦ elim (some_cases (last_write key (ops_of ss v))) [
        | inl none ↦ inl (r.0 ∙ after_none m key (ops_of ss v) none, none_more ss (commit v) points key r.1 (λ u e w. none_written key (ops_of ss v) none w.0 (subst (λ x. Contains (ops_of ss x) (Write key w.0)) (sym (is_commit v u e)) w.1)))
        | inr s ↦ inr (record { node = v; front = []; back = points; is = refl; final = s.1 ∙ ap Some (sym (r.0 ∙ after_some m key (ops_of ss v) s.0 s.1)); none = r.1 })
      ]
      | inr l ↦ inr (record { node = l.node; front = commit v ∷ l.front; back = l.back; is = ap (λ ps. commit v ∷ ps) l.is; final = l.final; none = l.none })
    ])

-- ---- places in a list that is cut
in_front : (u : ℕ) (f b : List ℕ) → place_of (f ++ b) u < length f → Has u f
in_front u [] b h = absurd (omega (arith, h))
in_front u (x ∷ f) b h = elim (cases_eq x u) [
  | inl e ↦ inl e
  | inr ne ↦ let r = place_of-further x u (f ++ b) ne in inr (in_front u f b (omega (arith, h, r)))
]

place_of_cut : (v : ℕ) (f b : List ℕ) → Apart (f ++ v ∷ b) → place_of (f ++ v ∷ b) v ≡ length f
place_of_cut v f b apart =
    let r = place_of-back v f (v ∷ b) (λ h. Apart-not_both v f (v ∷ b) apart h (inl refl)) in
    let z = place_of-here v b in
    omega (arith, r, z)

-- a list of points that is cut at one
record IsCutAt (points : List Point) (p : Point) : Type 0 where
  pub front : List Point
  pub back : List Point
  pub is : points ≡ front ++ p ∷ back

cut_points : (points : List Point) (p : Point) → 0 < point_node p → At points p → IsCutAt points p
cut_points [] p lo at = absurd at
cut_points (x ∷ points) p lo (inl e) = record { front = []; back = points; is = ap (λ z. z ∷ points) (point_of_number x p lo e) }
cut_points (x ∷ points) p lo (inr at) = let c = cut_points points p lo at in record { front = x ∷ c.front; back = c.back; is = ap (λ l. x ∷ l) c.is }

numbers_are : (points front back : List Point) (p : Point) → points ≡ front ++ p ∷ back → map number points ≡ map number front ++ number p ∷ map number back
numbers_are points front back p e = ap (map number) e ∙ map-append number front (p ∷ back)

stands_in_front : (points front back : List Point) (p q : Point) → points ≡ front ++ p ∷ back → Apart (map number points) → place points q < place points p → At front q
stands_in_front points front back p q e apart lt =
    let all = numbers_are points front back p e in
    let at_p : place points p ≡ length (map number front) = ap (λ l. place_of l (number p)) all ∙ place_of_cut (number p) (map number front) (map number back) (subst Apart all apart) in
    let at_q : place points q ≡ place_of (map number front ++ number p ∷ map number back) (number q) = ap (λ l. place_of l (number q)) all in
    in_front (number q) (map number front) (number p ∷ map number back) (omega (arith, lt, at_p, at_q))

front_stands : (points front back : List Point) (p q : Point) → points ≡ front ++ p ∷ back → Apart (map number points) → At front q → place points q < place points p
front_stands points front back p q e apart at =
    let all = numbers_are points front back p e in
    let at_p : place points p ≡ length (map number front) = ap (λ l. place_of l (number p)) all ∙ place_of_cut (number p) (map number front) (map number back) (subst Apart all apart) in
    let at_q : place points q ≡ place_of (map number front ++ number p ∷ map number back) (number q) = ap (λ l. place_of l (number q)) all in
    let lt = place_of-front (number q) (map number front) (number p ∷ map number back) at in
    omega (arith, lt, at_p, at_q)

-- ---- an external read finds the last commit that writes its key before its node's snapshot
pub record IsLastCommit (ss : List ClientSession) (points : List Point) (v : ℕ) (key : List ℕ) (wid t : ℕ) : Type 0 where
  pub final : last_write key (ops_of ss t) ≡ Some wid
  pub before : place points (commit t) < place points (snapshot v)
  pub last : (u : ℕ) → u ≢ t → WritesKey ss u key → place points (commit u) < place points (snapshot v) → place points (commit u) < place points (commit t)

abbrev pub IsMet : List ClientSession → List Point → ℕ → List ℕ → ℕ → Type 0
IsMet ss points v key wid =
    ((wid ≡ 0) × ((u : ℕ) → WritesKey ss u key → place points (commit u) < place points (snapshot v) → ⊥)) ⊎ ((t : ℕ) × IsLastCommit ss points v key wid t)

in_tail : (points : List Point) (x p : Point) (front back : List Point) → At (front ++ x ∷ back) p → (number x ≡ number p → ⊥) → (At front p) ⊎ (At back p)
in_tail points x p front back at ne = elim (Has-append_cases (number p) (map number front) (number x ∷ map number back) (subst (Has (number p)) (map-append number front (x ∷ back)) at)) [
  | inl h ↦ inl h
  | inr h ↦ elim h [
    | inl e ↦ absurd (ne e)
    | inr k ↦ inr k
  ]
]

pub met : {locked : Bool} (ss : List ClientSession) (points : List Point) → IsPointOrder locked ss points → (v : ℕ) (before : List Op) (key : List ℕ) (wid : ℕ) → ReadsBehind ss v before key wid → last_write key before ≡ None → IsMet ss points v key wid
met ss points h v before key wid (behind, is) e = elim (holder ss key cut.front initial) [
  | inl r ↦ inl (sym has ∙ r.0, (λ u w lt. r.1 u (stands_in_front points cut.front cut.back (snapshot v) (commit u) cut.is apart lt) w))
  | inr l ↦ inr (l.node, last l)
]
  where
    reads : Contains (ops_of ss v) (Read key wid)
    reads = subst (λ l. Contains l (Read key wid)) (sym is) (Contains-append_right before (Read key wid ∷ behind) (Read key wid) (0, omega arith, refl))

    within : (0 < v) × (v ≤ length (committed_in ss))
    within = is_node ss v (Read key wid) reads

    apart : Apart (map number points)
    apart = once_apart (2 * length (committed_in ss)) (map number points) h.once

    lo : 0 < number (snapshot v)
    lo = let l = within.0 in omega (arith, l)

    hi : number (snapshot v) ≤ 2 * length (committed_in ss)
    hi = let l = within.0 in let u = within.1 in omega (arith, l, u)

    cut : IsCutAt points (snapshot v)
    cut = cut_points points (snapshot v) within.0 (stands (length (committed_in ss)) points h.once (snapshot v) lo hi)

    map_there : Map
    map_there = after initial (flat_map (ops_at ss) cut.front)

    replayed : Replays (after initial (flat_map (ops_at ss) cut.front)) (snapshot_reads (ops_of ss v))
    replayed =
        let all : Replays initial (flat_map (ops_at ss) cut.front ++ flat_map (ops_at ss) (snapshot v ∷ cut.back)) = subst (Replays initial) (ap (flat_map (ops_at ss)) cut.is ∙ flat_map-append (ops_at ss) cut.front (snapshot v ∷ cut.back)) h.reads in
        let tail = ((Replays-append initial (flat_map (ops_at ss) cut.front) (flat_map (ops_at ss) (snapshot v ∷ cut.back))).0 all).1 in
        ((Replays-append (after initial (flat_map (ops_at ss) cut.front)) (snapshot_reads (ops_of ss v)) (flat_map (ops_at ss) cut.back)).0 tail).0

    has : after initial (flat_map (ops_at ss) cut.front) key ≡ wid
    has = met_external (after initial (flat_map (ops_at ss) cut.front)) [] before behind key wid (subst (λ ops. Replays (after initial (flat_map (ops_at ss) cut.front)) (snapshot_reads ops)) is replayed) refl e

    last : (l : LastWriter ss cut.front key (after initial (flat_map (ops_at ss) cut.front) key)) → IsLastCommit ss points v key wid l.node
    last l = record {
      final = l.final ∙ ap Some has;
      before = front_stands points cut.front cut.back (snapshot v) (commit l.node) cut.is apart at_node;
      last = λ u ne w lt. (let lo_u = (is_node ss u (Write key w.0) w.1).0 in
          elim (in_tail points (commit l.node) (commit u) l.front l.back (subst (λ ps. At ps (commit u)) l.is (stands_in_front points cut.front cut.back (snapshot v) (commit u) cut.is apart lt)) (λ same. ne (omega (arith, same)))) [
            | inl at ↦ front_stands points l.front (l.back ++ snapshot v ∷ cut.back) (commit l.node) (commit u) all apart at
            | inr at ↦ absurd (l.none u at w)
          ]);
    }
      where
        at_node : At cut.front (commit l.node)
        at_node = subst (λ ps. At ps (commit l.node)) (sym l.is) (subst (Has (number (commit l.node))) (sym (map-append number l.front (commit l.node ∷ l.back))) (Has-append_back (number (commit l.node)) (map number l.front) (number (commit l.node) ∷ map number l.back) (inl refl)))

        all : points ≡ l.front ++ commit l.node ∷ (l.back ++ snapshot v ∷ cut.back)
        all = cut.is ∙ ap (λ f. f ++ snapshot v ∷ cut.back) l.is ∙ append_assoc l.front (commit l.node ∷ l.back) (snapshot v ∷ cut.back)

-- ---- an own read finds the node's last write
pub met_by_own : {locked : Bool} (ss : List ClientSession) (points : List Point) → IsPointOrder locked ss points → (v : ℕ) (before : List Op) (key : List ℕ) (wid last : ℕ) → ReadsBehind ss v before key wid → last_write key before ≡ Some last → wid ≡ last
met_by_own ss points h v before key wid last (behind, is) e =
    (met_own (after initial (flat_map (ops_at ss) cut.front)) [] before behind key wid (subst (λ ops. Replays (after initial (flat_map (ops_at ss) cut.front)) (rest ops)) is replayed)).0 last e
  where
    reads : Contains (ops_of ss v) (Read key wid)
    reads = subst (λ l. Contains l (Read key wid)) (sym is) (Contains-append_right before (Read key wid ∷ behind) (Read key wid) (0, omega arith, refl))

    within : (0 < v) × (v ≤ length (committed_in ss))
    within = is_node ss v (Read key wid) reads

    lo : 0 < number (commit v)
    lo = let l = within.0 in omega (arith, l)

    hi : number (commit v) ≤ 2 * length (committed_in ss)
    hi = let u = within.1 in omega (arith, u)

    cut : IsCutAt points (commit v)
    cut = cut_points points (commit v) within.0 (stands (length (committed_in ss)) points h.once (commit v) lo hi)

    replayed : Replays (after initial (flat_map (ops_at ss) cut.front)) (rest (ops_of ss v))
    replayed =
        let all : Replays initial (flat_map (ops_at ss) cut.front ++ flat_map (ops_at ss) (commit v ∷ cut.back)) = subst (Replays initial) (ap (flat_map (ops_at ss)) cut.is ∙ flat_map-append (ops_at ss) cut.front (commit v ∷ cut.back)) h.reads in
        let tail = ((Replays-append initial (flat_map (ops_at ss) cut.front) (flat_map (ops_at ss) (commit v ∷ cut.back))).0 all).1 in
        ((Replays-append (after initial (flat_map (ops_at ss) cut.front)) (rest (ops_of ss v)) (flat_map (ops_at ss) cut.back)).0 tail).0
