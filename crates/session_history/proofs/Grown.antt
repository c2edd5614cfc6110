-- Sessions, with those that operations read from.
use Rattle.session_history.proofs.Prelude.{◌≡◌, ℕ, Bool, true, false, cond, eqb, List, [], ◌∷◌, ◌++◌, map, Option, Some, None, refl, sym, ap, subst, ◌∙◌, append_assoc, append-nil, nat_eq, eq-eqb, AllByRecursion, IsDistinct, bytes_eq}
use Rattle.session_history.proofs.Prelude.{false≢true, or_left, or_right, or_parts, map-append, list_any-append, same_Some, ClientSession, Op, Read, Write, each_from_append, each_weaker, WriteView, has, with_session, with_found, with_read}
use Rattle.session_history.proofs.Prelude.{with_reads}

has-append : (a b : List ClientSession) (n : ℕ) → has a n ≡ true → has (a ++ b) n ≡ true
has-append a b n h = list_any-append (λ (s : ClientSession). eqb s.number n) a b ∙ or_left (has a n) (has b n) h

abbrev pub numbers : List ClientSession → List ℕ
numbers ss = map (λ s. s.number) ss

-- what an operation reads from, where it is found, is taken
abbrev pub Served : (ℕ → Option WriteView) → List ClientSession → Op → Type 0
Served found o (Read key wid) = (w : WriteView) → found wid ≡ Some w → bytes_eq key w.key ≡ true → has o w.session.number ≡ true
Served found o (Write key wid) = Unit {0}

-- it is one of these
abbrev pub Finds : (ℕ → Option WriteView) → (ClientSession → Type 0) → Op → Type 0
Finds found P (Read key wid) = (w : WriteView) → found wid ≡ Some w → bytes_eq key w.key ≡ true → P w.session
Finds found P (Write key wid) = Unit {0}

still_served : (found : ℕ → Option WriteView) (a b : List ClientSession) (op : Op) → Served found a op → Served found (a ++ b) op
still_served found a b (Read key wid) h = λ w e f. has-append a b w.session.number (h w e f)
still_served found a b (Write key wid) h = tt

pub all_still : (found : ℕ → Option WriteView) (a b : List ClientSession) (ops : List Op) → AllByRecursion (Served found a) ops → AllByRecursion (Served found (a ++ b)) ops
all_still found a b ops h = each_weaker (Served found a) (Served found (a ++ b)) (λ op. still_served found a b op) ops h

-- one more, whose number is new
distinct_push : (xs : List ClientSession) (s : ClientSession) → IsDistinct nat_eq (numbers xs) → has xs s.number ≡ false → IsDistinct nat_eq (numbers (xs ++ s ∷ []))
unfolding IsDistinct
distinct_push [] s d h = (tt, tt)
distinct_push (x ∷ xs) s d h =
    let p = or_parts (eqb x.number s.number) (has xs s.number) h in
    let same : numbers (xs ++ s ∷ []) ≡ numbers xs ++ s.number ∷ [] = map-append (λ (y : ClientSession). y.number) xs (s ∷ []) in
    (subst (AllByRecursion (λ y. nat_eq x.number y ≡ false)) (sym same) (each_from_append (λ y. nat_eq x.number y ≡ false) (numbers xs) (s.number ∷ []) d.0 (p.0, tt)), distinct_push xs s d.1 p.1)

-- new is old with the sessions that the operations read from, each of which is one of these
pub record Grown (found : ℕ → Option WriteView) (P : ClientSession → Type 0) (ops : List Op) (old new : List ClientSession) : Type 0 where
  pub more : List ClientSession
  pub longer : new ≡ old ++ more
  pub served : AllByRecursion (Served found new) ops
  pub each : AllByRecursion P old → AllByRecursion P new
  pub once : IsDistinct nat_eq (numbers old) → IsDistinct nat_eq (numbers new)

stays : (found : ℕ → Option WriteView) (P : ClientSession → Type 0) (op : Op) (o : List ClientSession) → Served found o op → Grown found P (op ∷ []) o o
stays found P op o s = record {
  more = [];
  longer = sym (append-nil o);
  served = (s, tt);
  each = λ h. h;
  once = λ h. h;
}

grown_session : (found : ℕ → Option WriteView) (P : ClientSession → Type 0) (key : List ℕ) (wid : ℕ) (w : WriteView) (o : List ClientSession) → found wid ≡ Some w → P w.session → Grown found P (Read key wid ∷ []) o (with_session w.session o)
grown_session found P key wid w o e p = go (has o w.session.number) refl
  where
    serve : (new : List ClientSession) → has new w.session.number ≡ true → (v : WriteView) → found wid ≡ Some v → bytes_eq key v.key ≡ true → has new v.session.number ≡ true
    serve new h v f _ = subst (λ (u : WriteView). has new u.session.number ≡ true) (same_Some w v (sym e ∙ f)) h

    go : (b : Bool) → has o w.session.number ≡ b → Grown found P (Read key wid ∷ []) o (cond b o (o ++ w.session ∷ []))
    go true h = stays found P (Read key wid) o (serve o h)
    go false h = record {
      more = w.session ∷ [];
      longer = refl;
      served = (
        serve (o ++ w.session ∷ []) (list_any-append (λ (s : ClientSession). eqb s.number w.session.number) o (w.session ∷ []) ∙ or_right (has o w.session.number) (has (w.session ∷ []) w.session.number) (or_left (eqb w.session.number w.session.number) false (eq-eqb w.session.number w.session.number refl))),
        tt,
      );
      each = λ k. each_from_append P o (w.session ∷ []) k (p, tt);
      once = λ d. distinct_push o w.session d h;
    }

grown_op : (found : ℕ → Option WriteView) (P : ClientSession → Type 0) (op : Op) (o : List ClientSession) → Finds found P op → Grown found P (op ∷ []) o (with_read found op o)
grown_op found P (Write key wid) o h = stays found P (Write key wid) o tt
grown_op found P (Read key wid) o h = go (found wid) refl
  where
    none_some : {w : WriteView} → None ≡ Some w → ⊥
    none_some e = cc

    go : (f : Option WriteView) → found wid ≡ f → Grown found P (Read key wid ∷ []) o (with_found f key o)
    go None e = stays found P (Read key wid) o (λ w f _. absurd (none_some (sym e ∙ f)))
    go (Some w) e = at (bytes_eq key w.key) refl
      where
        at : (b : Bool) → bytes_eq key w.key ≡ b → Grown found P (Read key wid ∷ []) o (cond b (with_session w.session o) o)
        at true same = grown_session found P key wid w o e (h w e same)
        at false other = stays found P (Read key wid) o (λ v f same. absurd (false≢true (sym other ∙ ap (λ (u : WriteView). bytes_eq key u.key) (same_Some w v (sym e ∙ f)) ∙ same)))

-- each operation in turn
pub grown : (found : ℕ → Option WriteView) (P : ClientSession → Type 0) (ops : List Op) (o : List ClientSession) → AllByRecursion (Finds found P) ops → Grown found P ops o (with_reads found ops o)
grown found P [] o h = record {
  more = [];
  longer = sym (append-nil o);
  served = tt;
  each = λ k. k;
  once = λ k. k;
}
grown found P (op ∷ ops) o h =
    let first = grown_op found P op o h.0 in
    let next = with_read found op o in
    let last = grown found P ops next h.1 in
    let Q : List ClientSession → Type 0 = λ l. Served found l op in
    record {
      more = first.more ++ last.more;
      longer = last.longer ∙ ap (λ l. l ++ last.more) first.longer ∙ append_assoc o first.more last.more;
      served = (subst Q (sym last.longer) (still_served found next last.more op first.served.0), last.served);
      each = λ k. last.each (first.each k);
      once = λ k. last.once (first.once k);
    }
