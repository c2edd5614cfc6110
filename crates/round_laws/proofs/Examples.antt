-- The two rounds that are written out are rounds.
use Rattle.round_laws.proofs.Prelude.{◌≡◌, ◌≢◌, ℕ, ◌≤◌, Bool, true, eqb, eq-eqb, not, ◌&&◌, None, nat_eq, List, [], ◌∷◌, refl, sym, ap, ◌∙◌, subst, inl, inr, arith, AllByRecursion, Contains, IsDistinct, false≢true, and_parts, is_write, Op}
use Rattle.round_laws.proofs.Prelude.{Read, Write, Commit, Unknown, Has, Apart, Committed, committed_in, IsSoundLog, IsLearntLog, first_or_behind, nodes_are, snapshot_reads, run_of_two, values, IsReadLast, Round, IsRound, IsHeld}
use Rattle.round_laws.proofs.Prelude.{first_leaves, Fits, IsReadBy, AreFenced}
use Rattle.serializability.proofs.Listed.{IsDistinct-from_Apart}
use Rattle.round_laws.specs.Examples.{one_txn, keeper, fence, own, x, first_round, second_round, SomeAreRounds}
use Rattle.round_laws.proofs.Given.{learnt_of}
use Rattle.round_laws.proofs.Fences.{fences_make_rounds, closing_leaves}

never : Commit ≢ Unknown
never e = cc

-- ---- numbers that differ
all_new : ℕ → List ℕ → Bool
all_new v [] = true
all_new v (w ∷ ws) = not (eqb w v) && all_new v ws

are_apart : List ℕ → Bool
are_apart [] = true
are_apart (w ∷ ws) = all_new w ws && are_apart ws

new_is : (v : ℕ) (ws : List ℕ) → all_new v ws ≡ true → Has v ws → ⊥
unfolding all_new
new_is v [] e h = h
new_is v (w ∷ ws) e (inl same) = let p = and_parts (not (eqb w v)) (all_new v ws) e in false≢true (sym (ap not (eq-eqb w v same)) ∙ p.0)
new_is v (w ∷ ws) e (inr h) = new_is v ws (and_parts (not (eqb w v)) (all_new v ws) e).1 h

apart_is : (ws : List ℕ) → are_apart ws ≡ true → Apart ws
unfolding are_apart
apart_is [] e = tt
apart_is (w ∷ ws) e = let p = and_parts (all_new w ws) (are_apart ws) e in (new_is w ws p.0, apart_is ws p.1)

distinct : (ws : List ℕ) → are_apart ws ≡ true → IsDistinct nat_eq ws
distinct ws e = IsDistinct-from_Apart ws (apart_is ws e)

-- ---- a round of this shape
abbrev shape : List Op → List Op → List Op → Round
shape a b c = record { number = 9; txns = one_txn a ∷ one_txn b ∷ [] } ∷ record { number = 1; txns = one_txn c ∷ [] } ∷ []

abbrev node : ℕ → ℕ → List Op → Committed
node number place ops = record { session = number; place = place; ops = ops; begun = None; ended = None }

record IsShaped (a b c : List Op) : Type 0 where
  pub wid : ℕ
  pub own_wid : ℕ
  pub writes : AllByRecursion (λ o. is_write o ≡ true) a
  pub opens : Contains a (Write fence wid)
  pub begins : Contains (snapshot_reads c) (Read fence wid)
  pub ends : Contains c (Write own own_wid)
  pub closes : Contains (snapshot_reads b) (Read own own_wid)

three : (P : Committed → Type 0) (a b c n : Committed) → P a → P b → P c → Contains (a ∷ b ∷ c ∷ []) n → P n
three P a b c n pa pb pc d = elim (first_or_behind a (b ∷ c ∷ []) n d) [
  | inl e ↦ subst P e pa
  | inr f ↦ elim (first_or_behind b (c ∷ []) n f) [
    | inl e ↦ subst P e pb
    | inr g ↦ elim (first_or_behind c [] n g) [
      | inl e ↦ subst P e pc
      | inr none ↦ absurd (omega (arith, none.1))
    ]
  ]
]

shape_learnt : (a b c : List Op) → IsLearntLog (shape a b c)
shape_learnt a b c = (never, (never, (never, tt)))

shape_nodes : (a b c : List Op) → committed_in (shape a b c) ≡ node 9 1 a ∷ node 9 2 b ∷ node 1 1 c ∷ []
shape_nodes a b c = nodes_are (shape a b c) (learnt_of (shape a b c) (shape_learnt a b c))

fenced : (a b c : List Op) → IsShaped a b c → AreFenced keeper (shape a b c)
fenced a b c h = record {
  opening = node 9 1 a;
  is_node = has (node 9 1 a) (0, omega arith, refl);
  session = refl;
  place = refl;
  writes = h.writes;
  wid = h.wid;
  fence = h.opens;
  begins = λ n d ne _. three (λ m. m.session ≢ 9 → Contains (snapshot_reads m.ops) (Read fence h.wid)) (node 9 1 a) (node 9 2 b) (node 1 1 c) n (λ e. absurd (e refl)) (λ e. absurd (e refl)) (λ _. h.begins) (in_nodes n d) ne;
  closing = node 9 2 b;
  is_last_node = has (node 9 2 b) (1, omega arith, refl);
  last_session = refl;
  last = λ m d s. three (λ n. n.session ≡ 9 → n.place ≤ 2) (node 9 1 a) (node 9 2 b) (node 1 1 c) m (λ _. omega arith) (λ _. omega arith) (λ e. absurd (omega (arith, e))) (in_nodes m d) s;
  ends = λ n d ne _. three (λ m. m.session ≢ 9 → IsReadBy m (node 9 2 b)) (node 9 1 a) (node 9 2 b) (node 1 1 c) n (λ e. absurd (e refl)) (λ e. absurd (e refl)) (λ _. record { key = own; wid = h.own_wid; writes = h.ends; reads = h.closes }) (in_nodes n d) ne;
}
  where
    nodes : List Committed
    nodes = node 9 1 a ∷ node 9 2 b ∷ node 1 1 c ∷ []

    has : (n : Committed) → Contains nodes n → Contains (committed_in (shape a b c)) n
    has n d = subst (λ l. Contains l n) (sym (shape_nodes a b c)) d

    in_nodes : (n : Committed) → Contains (committed_in (shape a b c)) n → Contains nodes n
    in_nodes n d = subst (λ l. Contains l n) (shape_nodes a b c) d

shaped_round : (a b c : List Op) → IsShaped a b c → IsSoundLog (shape a b c) → IsRound keeper (shape a b c)
shaped_round a b c h sound = fences_make_rounds keeper (shape a b c) sound (shape_learnt a b c) (fenced a b c h)

-- ---- the two
first_is : IsRound keeper first_round
unfolding are_apart all_new
first_is = shaped_round (Write fence 1 ∷ []) (Read own 3 ∷ Read x 2 ∷ []) (Read fence 1 ∷ Write x 2 ∷ Write own 3 ∷ [])
    (record { wid = 1; own_wid = 3; writes = (refl, tt); opens = (0, omega arith, refl); begins = (0, omega arith, refl); ends = (2, omega arith, refl); closes = (0, omega arith, refl) })
    (record { sessions = distinct (9 ∷ 1 ∷ []) refl; writes = distinct (0 ∷ 1 ∷ 2 ∷ 3 ∷ []) refl; ordered = (refl, (refl, (refl, tt))) })

second_is : IsRound keeper second_round
unfolding are_apart all_new
second_is = shaped_round (Write x 2 ∷ Write fence 4 ∷ []) (Read own 5 ∷ []) (Read fence 4 ∷ Read x 2 ∷ Write own 5 ∷ [])
    (record { wid = 4; own_wid = 5; writes = (refl, (refl, tt)); opens = (1, omega arith, refl); begins = (0, omega arith, refl); ends = (2, omega arith, refl); closes = (0, omega arith, refl) })
    (record { sessions = distinct (9 ∷ 1 ∷ []) refl; writes = distinct (0 ∷ 2 ∷ 4 ∷ 5 ∷ []) refl; ordered = (refl, (refl, (refl, tt))) })

run_sound : IsSoundLog (run_of_two keeper first_round second_round)
unfolding are_apart all_new
run_sound = record { sessions = distinct (9 ∷ 1 ∷ []) refl; writes = distinct (0 ∷ 1 ∷ 4 ∷ 2 ∷ 3 ∷ 5 ∷ []) refl; ordered = (refl, (refl, (refl, (refl, (refl, (refl, tt)))))) }

-- ---- what is held between them
x_is_left : IsReadLast (committed_in first_round) x 2
unfolding first_is shaped_round fences_make_rounds fenced
x_is_left = closing_leaves keeper first_round first_is.closed x 2 (1, omega arith, refl) (λ v c. no_write v c)
  where
    no_write : (v : ℕ) → Contains (Read own 3 ∷ Read x 2 ∷ []) (Write x v) → ⊥
    no_write v c = elim (first_or_behind (Read own 3) (Read x 2 ∷ []) (Write x v) c) [
      | inl e ↦ cc
      | inr d ↦ elim (first_or_behind (Read x 2) [] (Write x v) d) [
        | inl e ↦ cc
        | inr none ↦ omega (arith, none.1)
      ]
    ]

fits : Fits keeper (first_round ∷ []) second_round second_is.opened
unfolding second_is shaped_round fences_make_rounds fenced
fits key wid c = elim (first_or_behind (Write fence 4) rest_one (Read key wid) c) [
  | inl e ↦ cc
  | inr d ↦ elim (first_or_behind (Read own 5) rest_two (Read key wid) d) [
    | inl e ↦ inl (4, omega arith, write_where own 5 key wid e)
    | inr f ↦ elim (first_or_behind (Read fence 4) rest_three (Read key wid) f) [
      | inl e ↦ inl (0, omega arith, write_where fence 4 key wid e)
      | inr g ↦ elim (first_or_behind (Read x 2) (Write own 5 ∷ []) (Read key wid) g) [
        | inl e ↦ inr (held key (key_where x 2 key wid e))
        | inr k ↦ elim (first_or_behind (Write own 5) [] (Read key wid) k) [
          | inl e ↦ cc
          | inr none ↦ absurd (omega (arith, none.1))
        ]
      ]
    ]
  ]
]
  where
    rest_three : List Op
    rest_three = Read x 2 ∷ Write own 5 ∷ []

    rest_two : List Op
    rest_two = Read fence 4 ∷ rest_three

    rest_one : List Op
    rest_one = Read own 5 ∷ rest_two

    write_where : (k : List ℕ) (v : ℕ) (key : List ℕ) (wid : ℕ) → Read k v ≡ Read key wid → Write k v ≡ Write key wid
    write_where k v key wid e = cc

    key_where : (k : List ℕ) (v : ℕ) (key : List ℕ) (wid : ℕ) → Read k v ≡ Read key wid → k ≡ key
    key_where k v key wid e = cc

    held : (key : List ℕ) → x ≡ key → IsHeld keeper (first_round ∷ []) key (values keeper second_is.opened.opening key)
    held key e = subst (λ l. IsHeld keeper (first_round ∷ []) l (values keeper second_is.opened.opening l)) e (first_leaves first_round x 2 (inr x_is_left))

pub some_are_rounds : SomeAreRounds
some_are_rounds = (first_is, (second_is, fits), run_sound)
