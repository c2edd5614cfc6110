-- Four nodes that read all four pairs, found among what the readers of a key read, and the crossed
-- reads of the sessions that they have.
use Rattle.reasons.proofs.Prelude.{◌≡◌, ◌≢◌, ◌⊎◌, ℕ, ◌+◌, Bool, true, false, List, [], ◌∷◌, ◌++◌, Option, None, Some, refl, sym, ap, ◌∙◌, subst, inl, inr, arith, eqb, eq-eqb, cond, is_some, map, option_map, Contains, nat_cmp, BTreeMap, get}
use Rattle.reasons.proofs.Prelude.{is_at, Updates, IsFromIterResult, ne_eqb, false≢true, Contains-push_cases, member, each_member, mapped, some_of, ClientSession, Log, IsClean, IsFinal, each_from_map, source_is, one_final, keys_in}
use Rattle.reasons.proofs.Prelude.{number_in, log_of, IsNode, ReadsAt, Crossing, wrote, source_of_read, within, node_from, reads_in, writers_in, Pair, IsPairOf, ReadsBoth, IsSquare, NoSquare, pair, ArePairs, IsSquareOf, AmongPairs}
use Rattle.reasons.proofs.Prelude.{NoSquareOf, pair_cmp, triple_cmp, by_versions, AreReaders, shared_by, HasEntered}
use Rattle.std.specs.Cmp.{IsTotalOrder, Equal-is}
use Rattle.std.proofs.lemmas.Cmp.{nat_cmp_total, on_total, then_total}
use Rattle.std.proofs.lemmas.Map.Lookups.{CmpEqualImpliesEq, exact_unsigned, exact_pairs}
use Rattle.std.proofs.lemmas.Map.Views.{IfSome-btree_map_get_from_list, btree_map_contains_key_from_list}
use Rattle.reason_laws.specs.Crossed.{ReadsPair, AreCrossed}
use Rattle.reason_laws.specs.declared.crossing.PairRead.{PairRead}
use Rattle.write_chains.proofs.Nexts.{writer_among}
use Rattle.reasons.specs.declared.crossed.Shared.{Shared}
use Rattle.reasons.specs.declared.crossed.Square.{Square}

-- ---- the index of readers
triples_total : IsTotalOrder triple_cmp
triples_total = then_total (on_total (λ (k : ℕ × (ℕ × ℕ)). k.0) nat_cmp_total) (then_total (on_total (λ (k : ℕ × (ℕ × ℕ)). k.1.0) nat_cmp_total) (on_total (λ (k : ℕ × (ℕ × ℕ)). k.1.1) nat_cmp_total))

triples_exact : CmpEqualImpliesEq triple_cmp
triples_exact = exact_pairs nat_cmp pair_cmp exact_unsigned (exact_pairs nat_cmp nat_cmp exact_unsigned exact_unsigned)

pub are_readers : (pairs : List Pair) (m : BTreeMap (ℕ × (ℕ × ℕ)) ℕ) → IsFromIterResult triple_cmp (map by_versions pairs) m → AreReaders pairs (get triple_cmp m)
are_readers pairs m made = record {
  sound = λ u y w r e.
      (let entry = rw e at (IfSome-btree_map_get_from_list triples_total triples_exact (map by_versions pairs) m made (u, (y, w))) in
      let P : (ℕ × (ℕ × ℕ)) × ℕ → Type 0 = λ e. Contains pairs (pair e.1 e.0.0 e.0.1.0 e.0.1.1) in
      member P (map by_versions pairs) ((u, (y, w)), r) (each_from_map P by_versions pairs (each_member (Contains pairs) pairs (λ p c. c))) entry);
  all = λ r u y w c.
      (let at = (btree_map_contains_key_from_list triples_total triples_exact (map by_versions pairs) m made (u, (y, w))).1 (mapped (λ (e : (ℕ × (ℕ × ℕ)) × ℕ). e.0) (map by_versions pairs) ((u, (y, w)), r) (mapped by_versions pairs (pair r u y w) c)) in
      some_of (get triple_cmp m (u, (y, w))) at);
}

-- ---- a place more
put_at : (f g : ℕ × ℕ → Option Shared) (k q : ℕ × ℕ) (s : Shared) (b : Bool) → is_at (pair_cmp k) q ≡ b → f k ≡ None → g q ≡ cond b (Some s) (f q) → (g q ≡ f q) ⊎ ((q ≡ k) × ((f q ≡ None) × (g q ≡ Some s)))
put_at f g k q s true is none e =
    let same : k ≡ q = exact_pairs nat_cmp nat_cmp exact_unsigned exact_unsigned k q ((Equal-is (pair_cmp k q)).0 is) in
    inr (sym same, (ap f (sym same) ∙ none, e))
put_at f g k q s false is none e = inl e

pub has_entered : (k : ℕ × ℕ) (now : Shared) (m n : BTreeMap (ℕ × ℕ) Shared) → get pair_cmp m k ≡ None → Updates pair_cmp m n k (Some now) → HasEntered (get pair_cmp m) (get pair_cmp n) k now
has_entered k now m n none u = record {
  here = (now, (u.1, refl));
  cases = λ q. put_at (get pair_cmp m) (get pair_cmp n) k q now (is_at (pair_cmp k) q) refl none (u.0 q);
}

-- ---- two versions that are read beside both
-- at this place, a version and a key, is what is read beside both versions
pub record IsShared (pairs : List Pair) (u : ℕ) (k : ℕ × ℕ) (s : Shared) : Type 0 where
  pub apart : k.0 ≢ u
  pub one : Contains pairs (pair s.one u k.1 s.source)
  pub two : Contains pairs (pair s.two k.0 k.1 s.source)

pub record IsMet (pairs : List Pair) (readers : ℕ × (ℕ × ℕ) → Option ℕ) (u : ℕ) (front : List Pair) (met : ℕ × ℕ → Option Shared) : Type 0 where
  pub sound : (k : ℕ × ℕ) (s : Shared) → met k ≡ Some s → IsShared pairs u k s
  pub all : (p : Pair) (s : Shared) → Contains front p → shared_by readers u p ≡ Some s → (t : Shared) × ((met (p.version, p.key) ≡ Some t) × (t.source ≡ s.source))

module _ (pairs : List Pair) (readers : ℕ × (ℕ × ℕ) → Option ℕ) (are : AreReaders pairs readers) (u : ℕ) where
  shared_is : (p : Pair) (s : Shared) → Contains pairs p → shared_by readers u p ≡ Some s → IsShared pairs u (p.version, p.key) s
  shared_is p s c e = go (eqb p.version u) (readers (u, (p.key, p.source))) refl refl e
    where
      go : (b : Bool) (o : Option ℕ) → eqb p.version u ≡ b → readers (u, (p.key, p.source)) ≡ o → cond b None (option_map (λ q. record { one = q; two = p.reader; source = p.source }) o) ≡ Some s → IsShared pairs u (p.version, p.key) s
      go true o t is e = cc
      go false None t is e = cc
      go false (Some q) t is e =
          let own : IsShared pairs u (p.version, p.key) (record { one = q; two = p.reader; source = p.source }) = record {
            apart = λ same. false≢true (sym t ∙ eq-eqb p.version u same);
            one = are.sound u p.key p.source q is;
            two = c;
          } in
          subst (IsShared pairs u (p.version, p.key)) (cc) own

  pub entered : (front : List Pair) (p : Pair) (now : Shared) (old new : ℕ × ℕ → Option Shared) → Contains pairs p → Some now ≡ shared_by readers u p → HasEntered old new (p.version, p.key) now → IsMet pairs readers u front old → IsMet pairs readers u (front ++ p ∷ []) new
  entered front p now old new among is n h = record {
    sound = λ k s e. (let own = shared_is p now among (sym is) in let c = n.cases k in grind (arith, h.sound k s));
    all = λ q s c e. elim (Contains-push_cases front p q c) [
      | inl before ↦ (let t = h.all q s before e in let c = n.cases (q.version, q.key) in (t.0, grind arith))
      | inr same ↦ (let item : now ≡ s = cc (is, e, ap (shared_by readers u) same) in let here = n.here in (here.0, (ap (λ (p : Pair). new (p.version, p.key)) (sym same) ∙ here.1.0, grind arith)))
    ];
  }

  meets : (q r v y w : ℕ) → v ≢ u → Contains pairs (pair q u y w) → (s : Shared) × ((shared_by readers u (pair r v y w) ≡ Some s) × (s.source ≡ w))
  meets q r v y w ne c = let o = are.all q u y w c in (record { one = o.0; two = r; source = w }, (rw (ne_eqb v u ne, o.1) refl, refl))

  pub none_met : (met : ℕ × ℕ → Option Shared) → IsMet pairs readers u pairs met → NoSquareOf pairs u
  none_met met h s q =
      let a = meets s.one_one s.two_one q.two s.second q.this q.apart q.one_one in
      let b = meets s.one_two s.two_two q.two s.second q.that q.apart q.one_two in
      let c = h.all (pair s.two_one q.two s.second q.this) a.0 q.two_one a.1.0 in
      let d = h.all (pair s.two_two q.two s.second q.that) b.0 q.two_two b.1.0 in
      let found : Some c.0 ≡ Some d.0 = sym c.1.0 ∙ d.1.0 in
      let same : c.0 ≡ d.0 = cc in
      q.apart_too (sym a.1.1 ∙ sym c.1.1 ∙ ap (λ (s : Shared). s.source) same ∙ d.1.1 ∙ b.1.1)

-- ---- from the pairs of a key to the log, and back
squared : (R S : ℕ → ℕ → ℕ → ℕ → Type 0) → ((r u y w : ℕ) → R r u y w → S r u y w) → (u : ℕ) (s : Square) → IsSquareOf R u s → IsSquareOf S u s
squared R S by u s q = record {
  two = q.two;
  apart = q.apart;
  this = q.this;
  that = q.that;
  apart_too = q.apart_too;
  one_one = by s.one_one u s.second q.this q.one_one;
  one_two = by s.one_two u s.second q.that q.one_two;
  two_one = by s.two_one q.two s.second q.this q.two_one;
  two_two = by s.two_two q.two s.second q.that q.two_two;
}

pub square_from : (log : Log) (x n u : ℕ) (pairs : List Pair) (s : Square) → ArePairs log x n pairs → s.first ≡ x → IsSquareOf (AmongPairs pairs) u s → IsSquare log s
square_from log x n u pairs s h first q = record { one = u; square = squared (AmongPairs pairs) (ReadsBoth log s.first) (λ r v y w c. subst (λ k. ReadsBoth log k r v y w) (sym first) (h.sound (pair r v y w) c)) u s q }

pub none_with : (log : Log) → IsClean log → (x : ℕ) (pairs : List Pair) → ArePairs log x (log.nodes + 1) pairs → NoSquareOf pairs 0 → ((u : ℕ) → Contains (writers_in log x) u → NoSquareOf pairs u) → NoSquare log x
none_with log clean x pairs h initial none s first q =
    let own = squared (ReadsBoth log s.first) (AmongPairs pairs) (λ r v y w b. (let high = b.high in h.all r v y w (subst (λ k. ReadsBoth log k r v y w) first b) (omega (arith, high)))) q.one s q.square in
    let b = subst (λ k. ReadsBoth log k s.one_one q.one s.second q.square.this) first q.square.one_one in
    elim (source_is log clean s.one_one x q.one b.low b.high b.first).final [
      | inl z ↦ initial s (subst (λ v. IsSquareOf (AmongPairs pairs) v s) z.0 own)
      | inr f ↦ none q.one (writer_among log x q.one (record { low = f.0; high = f.1; writer = ap is_some f.2 })) s own
    ]

-- ---- from the log to the sessions
pair_from : (ss : List ClientSession) (p : PairRead) (r x u y w : ℕ) (key : List ℕ) (wid : ℕ) (other : List ℕ) (beside : ℕ) → number_in (keys_in ss) key ≡ x → number_in (keys_in ss) other ≡ y → ReadsBoth (log_of ss) x r u y w → IsPairOf ss r x y p → IsFinal (log_of ss) u x wid → IsFinal (log_of ss) w y beside → ReadsPair ss p key wid other beside
pair_from ss p r x u y w key wid other beside n m b h one two = record {
  node = subst (IsNode ss) (sym h.node) (node_from ss r b.low b.high);
  first = subst (λ v. ReadsAt ss v p.first key wid) (sym h.node) (h.first.reads key u wid n b.first one);
  second = subst (λ v. ReadsAt ss v p.second other beside) (sym h.node) (h.second.reads other w beside m b.second two);
}

pub crossed_by : (ss : List ClientSession) → IsClean (log_of ss) → (s : Square) → IsSquare (log_of ss) s → (c : Crossing) → IsPairOf ss s.one_one s.first s.second c.one_one → IsPairOf ss s.one_two s.first s.second c.one_two → IsPairOf ss s.two_one s.first s.second c.two_one → IsPairOf ss s.two_two s.first s.second c.two_two → AreCrossed ss c
crossed_by ss clean s is c one_one one_two two_one two_two =
    let u = is.one in
    let q = is.square in
    let log = log_of ss in
    let x = s.first in
    let y = s.second in
    let a = source_is log clean s.one_one x u q.one_one.low q.one_one.high q.one_one.first in
    let b = source_is log clean s.two_one x q.two q.two_one.low q.two_one.high q.two_one.first in
    let d = source_is log clean s.one_one y q.this q.one_one.low q.one_one.high q.one_one.second in
    let e = source_is log clean s.one_two y q.that q.one_two.low q.one_two.high q.one_two.second in
    let k = reads_in ss s.one_one x a.w a.before a.reads a.external in
    let l = reads_in ss s.one_one y d.w d.before d.reads d.external in
    record {
      first = k.key;
      second = l.key;
      one = a.w;
      two = b.w;
      apart = λ same. q.apart (sym (clean.apart u q.two x b.w (subst (IsFinal log u x) same a.final) b.final));
      this = d.w;
      that = e.w;
      apart_too = λ same. q.apart_too (clean.apart q.this q.that y e.w (subst (IsFinal log q.this y) same d.final) e.final);
      one_one = pair_from ss c.one_one s.one_one x u y q.this k.key a.w l.key d.w k.number l.number q.one_one one_one a.final d.final;
      one_two = pair_from ss c.one_two s.one_two x u y q.that k.key a.w l.key e.w k.number l.number q.one_two one_two a.final e.final;
      two_one = pair_from ss c.two_one s.two_one x q.two y q.this k.key b.w l.key d.w k.number l.number q.two_one two_one b.final d.final;
      two_two = pair_from ss c.two_two s.two_two x q.two y q.that k.key b.w l.key e.w k.number l.number q.two_two two_two b.final e.final;
    }

-- ---- from the sessions to the log
both_of : (ss : List ClientSession) → IsClean (log_of ss) → (p : PairRead) (key : List ℕ) (wid u : ℕ) (other : List ℕ) (beside w : ℕ) → ReadsPair ss p key wid other beside → IsFinal (log_of ss) u (number_in (keys_in ss) key) wid → IsFinal (log_of ss) w (number_in (keys_in ss) other) beside → ReadsBoth (log_of ss) (number_in (keys_in ss) key) p.node u (number_in (keys_in ss) other) w
both_of ss clean p key wid u other beside w h first second = record {
  low = h.node.0;
  high = within ss p.node h.node;
  first = source_of_read ss clean p.node p.first key wid u h.node h.first first;
  second = source_of_read ss clean p.node p.second other beside w h.node h.second second;
}

-- versions of one writer are one version
versions_apart : (log : Log) (x a b u w : ℕ) → a ≢ b → IsFinal log u x a → IsFinal log w x b → u ≢ w
versions_apart log x a b u w apart first second same = apart (one_final log w x a b (subst (λ n. IsFinal log n x a) same first) second)

pub none_crossed : (ss : List ClientSession) → IsClean (log_of ss) → ((s : Square) → IsSquare (log_of ss) s → ⊥) → (c : Crossing) → AreCrossed ss c → ⊥
none_crossed ss clean none c h =
    let log = log_of ss in
    let x = number_in (keys_in ss) h.first in
    let y = number_in (keys_in ss) h.second in
    let one = wrote ss clean c.one_one.node c.one_one.first h.first h.one h.one_one.node h.one_one.first in
    let two = wrote ss clean c.two_one.node c.two_one.first h.first h.two h.two_one.node h.two_one.first in
    let this = wrote ss clean c.one_one.node c.one_one.second h.second h.this h.one_one.node h.one_one.second in
    let that = wrote ss clean c.one_two.node c.one_two.second h.second h.that h.one_two.node h.one_two.second in
    none
    (record { first = x; second = y; one_one = c.one_one.node; one_two = c.one_two.node; two_one = c.two_one.node; two_two = c.two_two.node })
    (record {
      one = one.node;
      square = record {
        two = two.node;
        apart = versions_apart log x h.two h.one two.node one.node (λ e. h.apart (sym e)) two.final one.final;
        this = this.node;
        that = that.node;
        apart_too = versions_apart log y h.this h.that this.node that.node h.apart_too this.final that.final;
        one_one = both_of ss clean c.one_one h.first h.one one.node h.second h.this this.node h.one_one one.final this.final;
        one_two = both_of ss clean c.one_two h.first h.one one.node h.second h.that that.node h.one_two one.final that.final;
        two_one = both_of ss clean c.two_one h.first h.two two.node h.second h.this this.node h.two_one two.final this.final;
        two_two = both_of ss clean c.two_two h.first h.two two.node h.second h.that that.node h.two_two two.final that.final;
      };
    })
