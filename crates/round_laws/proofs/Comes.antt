-- What comes before what in a line, by sessions and by what was read.
use Rattle.round_laws.proofs.Prelude.{◌≡◌, ◌⊎◌, ℕ, zero, suc, ◌<◌, ◌≤◌, List, [], ◌∷◌, Some, refl, sym, ap, ◌∙◌, subst, inl, inr, arith, slice_get, Contains, contains_at, Op, Read, Write, Committed, Map, initial, Replays, each_member}
use Rattle.round_laws.proofs.Prelude.{EachPair, IsLine, ops_along, NodeWith, node_with, after, Replays-append, after-append, had_or_written, place_in, one_place, by_places, Alone}
use Rattle.log_definitions.proofs.Dropped.{met_by_write}

-- the one comes before the other: in its session, or since it wrote what is read there
pub data Comes (nodes : List Committed) : Committed → Committed → Type 0 where
  itself : (a : Committed) → Comes nodes a a
  by_session : (a b c : Committed) → Contains nodes b → a.session ≡ b.session → a.place < b.place → Comes nodes b c → Comes nodes a c
  by_read : (a b c : Committed) (key : List ℕ) (wid : ℕ) → Contains nodes b → Contains a.ops (Write key wid) → Contains b.ops (Read key wid) → Comes nodes b c → Comes nodes a c

-- other nodes, in as many sessions, that do as much
pub record Carries (nodes others : List Committed) (f : Committed → Committed) : Type 0 where
  pub has : (a : Committed) → Contains nodes a → Contains others (f a)
  pub session : (a b : Committed) → Contains nodes a → Contains nodes b → a.session ≡ b.session → (f a).session ≡ (f b).session
  pub place : (a b : Committed) → Contains nodes a → Contains nodes b → a.session ≡ b.session → a.place < b.place → (f a).place < (f b).place
  pub ops : (a : Committed) (o : Op) → Contains nodes a → Contains a.ops o → Contains (f a).ops o

pub carried : (nodes others : List Committed) (f : Committed → Committed) → Carries nodes others f → (a c : Committed) → Contains nodes a → Comes nodes a c → Comes others (f a) (f c)
carried nodes others f h a c d (itself _) = itself (f a)
carried nodes others f h a c d (by_session _ b _ e s lt k) = by_session (f a) (f b) (f c) (h.has b e) (h.session a b d e s) (h.place a b d e s lt) (carried nodes others f h b c e k)
carried nodes others f h a c d (by_read _ b _ key wid e w r k) = by_read (f a) (f b) (f c) key wid (h.has b e) (h.ops a (Write key wid) d w) (h.ops b (Read key wid) e r) (carried nodes others f h b c e k)

pub wider : (nodes others : List Committed) → ((a : Committed) → Contains nodes a → Contains others a) → (a c : Committed) → Contains nodes a → Comes nodes a c → Comes others a c
wider nodes others sub a c d k = carried nodes others (λ n. n) (record { has = sub; session = λ x y p q s. s; place = λ x y p q s lt. lt; ops = λ x o p e. e }) a c d k

pub comes_trans : (nodes : List Committed) (a b c : Committed) → Comes nodes a b → Comes nodes b c → Comes nodes a c
comes_trans nodes a b c (itself _) k = k
comes_trans nodes a b c (by_session _ d _ e s lt h) k = by_session a d c e s lt (comes_trans nodes d b c h k)
comes_trans nodes a b c (by_read _ d _ key wid e w r h) k = by_read a d c key wid e w r (comes_trans nodes d b c h k)

-- ---- what is read was written no later in the line
record WrittenBy (line : List Committed) (j : ℕ) (key : List ℕ) (wid : ℕ) : Type 0 where
  pub place : ℕ
  pub node : Committed
  pub ahead : place ≤ j
  pub stands : slice_get line place ≡ Some node
  pub writes : Contains node.ops (Write key wid)

written_ahead : (line : List Committed) (m : Map) (j : ℕ) (b : Committed) (key : List ℕ) (wid : ℕ) → Replays m (ops_along line) → slice_get line j ≡ Some b → Contains b.ops (Read key wid) → (m key ≡ wid) ⊎ WrittenBy line j key wid
written_ahead [] m j b key wid r e c = cc
written_ahead (x ∷ xs) m zero b key wid r e c =
    let same : b ≡ x = cc in
    elim (met_by_write x.ops m key wid ((Replays-append m x.ops (ops_along xs)).0 r).0 (subst (λ (n : Committed). Contains n.ops (Read key wid)) same c)) [
      | inl had ↦ inl had
      | inr w ↦ inr (record { place = 0; node = x; ahead = omega arith; stands = refl; writes = w })
    ]
written_ahead (x ∷ xs) m (suc j) b key wid r e c =
    elim (written_ahead xs (after m x.ops) j b key wid ((Replays-append m x.ops (ops_along xs)).0 r).1 e c) [
      | inl is ↦ elim (had_or_written x.ops m key) [
        | inl had ↦ inl (sym had ∙ is)
        | inr w ↦ inr (record { place = 0; node = x; ahead = omega arith; stands = refl; writes = subst (λ v. Contains x.ops (Write key v)) is w })
      ]
      | inr w ↦ inr (record { place = suc w.place; node = w.node; ahead = omega (arith, w.ahead); stands = w.stands; writes = w.writes })
    ]

-- ---- so what comes before stands no later
pub comes_ahead : (from : Map) (nodes : List Committed) (line : List Committed) → IsLine from nodes line → Alone from nodes nodes → (a c : Committed) → Contains nodes a → Comes nodes a c → (i j : ℕ) → slice_get line i ≡ Some a → slice_get line j ≡ Some c → i ≤ j
comes_ahead from nodes line h alone a c d (itself _) i j p q = let same = one_place line i j a h.kept p q in omega (arith, same)
comes_ahead from nodes line h alone a c d (by_session _ b _ e s lt k) i j p q =
    let at = place_in line b ((h.same b).0 e) in
    let first = by_places line i at.0 a b h.kept p at.1 s lt in
    let then = comes_ahead from nodes line h alone b c e k at.0 j at.1 q in
    omega (arith, first, then)
comes_ahead from nodes line h alone a c d (by_read _ b _ key wid e w r k) i j p q =
    let at = place_in line b ((h.same b).0 e) in
    let then = comes_ahead from nodes line h alone b c e k at.0 j at.1 q in
    elim (written_ahead line from at.0 b key wid h.reads at.1 r) [
      | inl none ↦ absurd ((alone a a key wid d d w w).1 none)
      | inr g ↦
          let one = alone a g.node key wid d ((h.same g.node).1 (contains_at line g.place g.node g.stands)) w g.writes in
          let same = one_place line i g.place a h.kept p (g.stands ∙ ap Some one.0) in
          omega (arith, same, g.ahead, then)
    ]

pub pairs_from : (R : Committed → Committed → Type 0) (xs : List Committed) → ((i j : ℕ) (a b : Committed) → slice_get xs i ≡ Some a → slice_get xs j ≡ Some b → i < j → R a b) → EachPair R xs
pairs_from R [] f = tt
pairs_from R (x ∷ xs) f =
    (each_member (R x) xs (λ y c. (let p = place_in xs y c in f 0 (suc p.0) x y refl p.1 (omega arith))), pairs_from R xs (λ i j a b e h lt. f (suc i) (suc j) a b e h (omega arith)))

-- ---- what a key has behind a line
-- a node reads the key and does not write it, and each that writes it comes before
pub record ReadLast (nodes : List Committed) (key : List ℕ) (wid : ℕ) : Type 0 where
  pub reader : Committed
  pub has : Contains nodes reader
  pub reads : Contains reader.ops (Read key wid)
  pub leaves : (v : ℕ) → Contains reader.ops (Write key v) → ⊥
  pub behind : (a : Committed) (v : ℕ) → Contains nodes a → Contains a.ops (Write key v) → Comes nodes a reader

pub record Unwritten (nodes : List Committed) (key : List ℕ) (wid : ℕ) : Type 0 where
  pub zero : wid ≡ 0
  pub none : (a : Committed) (v : ℕ) → Contains nodes a → Contains a.ops (Write key v) → ⊥

abbrev pub LeftAs : List Committed → List ℕ → ℕ → Type 0
LeftAs nodes key wid = Unwritten nodes key wid ⊎ ReadLast nodes key wid

-- none behind the reader writes the key
unwritten_behind : (line : List Committed) (m : Map) (j : ℕ) (r : Committed) (key : List ℕ) (wid : ℕ) → Replays m (ops_along line) → slice_get line j ≡ Some r → Contains r.ops (Read key wid) → ((v : ℕ) → Contains r.ops (Write key v) → ⊥) → ((i : ℕ) (a : Committed) (v : ℕ) → slice_get line i ≡ Some a → Contains a.ops (Write key v) → i ≤ j) → after m (ops_along line) key ≡ wid
unwritten_behind [] m j r key wid h e c leaves all = cc
unwritten_behind (x ∷ xs) m zero r key wid h e c leaves all =
    let same : x ≡ r = cc in
    let both = (Replays-append m x.ops (ops_along xs)).0 h in
    let had : m key ≡ wid = elim (met_by_write x.ops m key wid both.0 (subst (λ (n : Committed). Contains n.ops (Read key wid)) (sym same) c)) [
      | inl is ↦ is
      | inr w ↦ absurd (leaves wid (subst (λ (n : Committed). Contains n.ops (Write key wid)) same w))
    ] in
    let here : after m x.ops key ≡ m key = elim (had_or_written x.ops m key) [
      | inl is ↦ is
      | inr w ↦ absurd (leaves (after m x.ops key) (subst (λ (n : Committed). Contains n.ops (Write key (after m x.ops key))) same w))
    ] in
    let behind : after (after m x.ops) (ops_along xs) key ≡ after m x.ops key = elim (had_or_written (ops_along xs) (after m x.ops) key) [
      | inl is ↦ is
      | inr w ↦
          let n : NodeWith xs (Write key (after (after m x.ops) (ops_along xs) key)) = node_with xs (Write key (after (after m x.ops) (ops_along xs) key)) w in
          let at = place_in xs n.node n.has in
          absurd (let le = all (suc at.0) n.node (after (after m x.ops) (ops_along xs) key) at.1 n.does in omega (arith, le))
    ] in
    ap (λ (f : Map). f key) (after-append m x.ops (ops_along xs)) ∙ behind ∙ here ∙ had
unwritten_behind (x ∷ xs) m (suc j) r key wid h e c leaves all =
    ap (λ (f : Map). f key) (after-append m x.ops (ops_along xs))
    ∙ unwritten_behind xs (after m x.ops) j r key wid ((Replays-append m x.ops (ops_along xs)).0 h).1 e c leaves (λ i a v at w. (let le = all (suc i) a v at w in omega (arith, le)))

pub left_as : (nodes line : List Committed) → IsLine initial nodes line → Alone initial nodes nodes → (key : List ℕ) (wid : ℕ) → LeftAs nodes key wid → after initial (ops_along line) key ≡ wid
left_as nodes line h alone key wid (inl u) = elim (had_or_written (ops_along line) initial key) [
  | inl is ↦ is ∙ sym u.zero
  | inr w ↦
      let n : NodeWith line (Write key (after initial (ops_along line) key)) = node_with line (Write key (after initial (ops_along line) key)) w in
      absurd (u.none n.node (after initial (ops_along line) key) ((h.same n.node).1 n.has) n.does)
]
left_as nodes line h alone key wid (inr r) =
    let at = place_in line r.reader ((h.same r.reader).0 r.has) in
    unwritten_behind line initial at.0 r.reader key wid h.reads at.1 r.reads r.leaves (λ i a v e w. (
    let d = (h.same a).1 (contains_at line i a e) in
    comes_ahead initial nodes line h alone a r.reader d (r.behind a v d w) i at.0 e at.1))
