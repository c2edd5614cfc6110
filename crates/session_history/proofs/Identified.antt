-- The write that an identity finds.
use Rattle.session_history.proofs.Prelude.{◌≡◌, ℕ, zero, suc, ◌<◌, Bool, true, false, eqb, ◌&&◌, List, [], ◌∷◌, length, get_or, Option, None, Some, refl, sym, ap, ◌∙◌, subst, inl, inr, arith, eq-eqb, MatchOption, list_any, Contains}
use Rattle.session_history.proofs.Prelude.{cases_eq, cases_lt, false≢true, or_cases, or_left, or_right, and_from, ClientSession, Event, Log, last_write, is_write_of, writes_as, log_of, Written, Writes, entry_of, is_write, is_last_write}
use Rattle.session_history.proofs.Prelude.{ends_with, IsUnwritten, IsNodesWrite, IsWrite, FindsWrites}
use Rattle.serializability.specs.declared.event.Event.TheVariants.{Write}
use Rattle.serializability.proofs.Sources.{wrote_is, wrote_from, is_write as same_write, is_write-self}
use Rattle.session_history.proofs.Tabled.{ops_past}

any_element : {X : Type 0} (p : X → Bool) (xs : List X) (k : ℕ) (x : X) → k < length xs → get_or xs k x ≡ x → p x ≡ true → list_any p xs ≡ true
any_element p [] k x lt e t = absurd (omega arith)
any_element p (y ∷ ys) zero x lt e t = or_left (p y) (list_any p ys) (subst (λ z. p z ≡ true) (sym e) t)
any_element p (y ∷ ys) (suc k) x lt e t = or_right (p y) (list_any p ys) (any_element p ys k x (omega arith) e t)

some_element : {X : Type 0} (p : X → Bool) (xs : List X) → list_any p xs ≡ true → (x : X) × (Contains xs x × (p x ≡ true))
some_element p [] e = absurd (false≢true e)
some_element p (y ∷ ys) e = elim (or_cases (p y) (list_any p ys) e) [
  | inl h ↦ (y, ((0, omega arith, refl), h))
  | inr h ↦ let r = some_element p ys h in (r.0, ((suc r.1.0.0, omega (arith, r.1.0.1), r.1.0.2), r.1.1))
]

pub writes_where_contained : (x w : ℕ) (ops : List Event) → Contains ops (Write x w) → writes_as x w ops ≡ true
writes_where_contained x w ops c = any_element (is_write_of x w) ops c.0 (Write x w) c.1 c.2 (is_write-self x w)

contained_where_writes : (x w : ℕ) (ops : List Event) → writes_as x w ops ≡ true → Contains ops (Write x w)
contained_where_writes x w ops t =
    let s = some_element (is_write_of x w) ops t in
    subst (λ e. Contains ops e) (same_write x w s.0 s.1.1) s.1.0

pub unwritten : (log : Log) (t : Writes) (w : ℕ) → FindsWrites log t → entry_of t w ≡ None → IsUnwritten log w
unwritten log t w finds e = record {
  committed = λ v x lo hi c. false≢true (sym (ap (is_write x v) e) ∙ finds.nodes x w v lo ∙ writes_where_contained x w (log.ops v) c);
  aborted = λ x ops c d. false≢true (sym (ap (is_write x 0) e) ∙ finds.aborted x w ∙ any_element (writes_as x w) log.aborted c.0 ops c.1 c.2 (writes_where_contained x w ops d));
}

and_same : (a b : Bool) → a ≡ true → (a && b) ≡ b
and_same true b e = refl
and_same false b e = absurd (false≢true e)

nodes_write : (ss : List ClientSession) (t : Writes) (w : ℕ) (r : Written) → FindsWrites (log_of ss) t → entry_of t w ≡ Some r → 0 < r.node → IsNodesWrite (log_of ss) r.node r.key w r.last
nodes_write ss t w r finds e lo =
    let log = log_of ss in
    let own : is_write r.key r.node (Some r) ≡ true = and_from (eqb r.key r.key) (eqb r.node r.node) (eq-eqb r.key r.key refl) (eq-eqb r.node r.node refl) in
    let writes : writes_as r.key w (log.ops r.node) ≡ true = sym (finds.nodes r.key w r.node lo) ∙ ap (is_write r.key r.node) e ∙ own in
    let last : r.last ≡ ends_with r.key w (log.ops r.node) =
    sym (and_same (is_write r.key r.node (Some r)) r.last own) ∙ sym (ap (is_last_write r.key r.node) e) ∙ finds.lasts r.key w r.node lo in
    record {
      node = (
        lo,
        elim (cases_lt log.nodes r.node) [
          | inl past ↦ absurd (false≢true (sym (ap (writes_as r.key w) (ops_past ss r.node past)) ∙ writes))
          | inr within ↦ within
        ],
      );
      stands = contained_where_writes r.key w (log.ops r.node) writes;
      is_last = ((λ h. wrote_is (last_write r.key (log.ops r.node)) w (sym last ∙ h)), (λ h. last ∙ wrote_from (last_write r.key (log.ops r.node)) w h));
    }

pub written : (ss : List ClientSession) (t : Writes) (w : ℕ) (r : Written) → FindsWrites (log_of ss) t → entry_of t w ≡ Some r → IsWrite (log_of ss) w r.key r.node r.last
written ss t w r finds e = elim (cases_eq r.node 0) [
  | inl z ↦
      let log = log_of ss in
      let own : is_write r.key 0 (Some r) ≡ true = and_from (eqb r.key r.key) (eqb r.node 0) (eq-eqb r.key r.key refl) (eq-eqb r.node 0 z) in
      let s = some_element (writes_as r.key w) log.aborted (sym (finds.aborted r.key w) ∙ ap (is_write r.key 0) e ∙ own) in
      inl (z, (s.0, s.1.0, contained_where_writes r.key w s.0 s.1.1))
  | inr ne ↦ inr (nodes_write ss t w r finds e (omega (arith, ne)))
]

pub found : (ss : List ClientSession) (t : Writes) (w : ℕ) (o : Option Written) → FindsWrites (log_of ss) t → entry_of t w ≡ o → MatchOption o (IsUnwritten (log_of ss) w) (λ r. IsWrite (log_of ss) w r.key r.node r.last)
found ss t w None finds e = unwritten (log_of ss) t w finds e
found ss t w (Some r) finds e = written ss t w r finds e
