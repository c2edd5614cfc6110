-- Calls of a round, joined.
use Rattle.prune_ledger.proofs.Prelude.{◌≡◌, ◌⊎◌, ℕ, zero, suc, ◌<◌, List, [], ◌∷◌, ◌++◌, length, get_or, sym, ap, ◌∙◌, subst, inl, inr, arith, append_assoc, append-nil, slice_index_or, slice_get, Option, Some, None, MatchOption, Contains}
use Rattle.prune_ledger.proofs.Prelude.{AllByRecursion, same_Some, Edge, Choice, Polygraph, Side, One, Two, Reaches, IsRefuted, edges_of, Contains-here, Contains-further, each_contained, Graph, AreRowsOf, Joins, JoinsBoth, IsPolygraph}
use Rattle.prune_ledger.proofs.Prelude.{Refutes, GoesAgainst, HasPost, EachHandled, Handled, PostedOf, Settled, Turned, IsOpenIn, Extends, PruneEvent, Take, Post, Pass, Release, PruneReply, Judge}
use Rattle.serializability.proofs.Places.{each_from_append}
use Rattle.prune_ledger.proofs.Grown.{reaches_in}
use Rattle.prune_ledger.proofs.KeptUp.{open_fewer}
use Rattle.prune_ledger.proofs.Marks.{side_joins, contained_at}

abbrev Calls : Type 0
Calls = List (PruneEvent × PruneReply)

left_at : (xs ys : List ℕ) (c k : ℕ) → k < length xs → slice_index_or xs k c ≡ c → Contains (xs ++ ys) c
left_at [] ys c k lt e = absurd (omega arith)
left_at (x ∷ xs) ys c zero lt e = subst (Contains (x ∷ (xs ++ ys))) e (Contains-here x (xs ++ ys))
left_at (x ∷ xs) ys c (suc k) lt e = Contains-further x c (xs ++ ys) (left_at xs ys c k (omega arith) e)

contains_left : (xs ys : List ℕ) (c : ℕ) → Contains xs c → Contains (xs ++ ys) c
contains_left xs ys c h = left_at xs ys c h.0 h.1 h.2

contains_last : (xs : List ℕ) (c : ℕ) → Contains (xs ++ c ∷ []) c
contains_last [] c = Contains-here c []
contains_last (x ∷ xs) c = Contains-further x c (xs ++ c ∷ []) (contains_last xs c)

post_left : (c : ℕ) (xs ys : Calls) → HasPost c xs → HasPost c (xs ++ ys)
post_left c [] ys h = absurd h
post_left c (x ∷ xs) ys h = elim h [ inl a ↦ inl a | inr b ↦ inr (post_left c xs ys b) ]

handled_append : (passed : List ℕ) (xs ys : Calls) → EachHandled passed xs → EachHandled passed ys → EachHandled passed (xs ++ ys)
handled_append passed [] ys h k = k
handled_append passed (x ∷ xs) ys h k = ((λ c e. elim (h.0 c e) [ inl a ↦ inl a | inr b ↦ inr (post_left c xs ys b) ]), handled_append passed xs ys h.1 k)

handled_longer : (passed more : List ℕ) (xs : Calls) → EachHandled passed xs → EachHandled (passed ++ more) xs
handled_longer passed more [] h = tt
handled_longer passed more (x ∷ xs) h = ((λ c e. elim (h.0 c e) [ inl a ↦ inl (contains_left passed more c a) | inr b ↦ inr b ]), handled_longer passed more xs h.1)

pub handled_turn : (passed listed : List ℕ) (a b n : Calls) → Handled passed a b → Turned passed listed b n → Handled listed a n
handled_turn passed listed a b n h t = record {
  calls = h.calls ++ t.handled.calls;
  same = t.handled.same ∙ ap (λ l. l ++ t.handled.calls) h.same ∙ append_assoc a h.calls t.handled.calls;
  each = handled_append listed h.calls t.handled.calls
      (subst (λ l. EachHandled l h.calls) (sym t.longer) (handled_longer passed t.more h.calls h.each)) t.handled.each;
}

pub turned_stop : (passed : List ℕ) (b n : Calls) (r : PruneReply) → ((c : ℕ) → r ≡ Judge c → ⊥) → n ≡ b ++ (Take, r) ∷ [] → Turned passed passed b n
turned_stop passed b n r none e = record {
  handled = record { calls = (Take, r) ∷ []; same = e; each = ((λ c h. absurd (none c h)), tt) };
  more = [];
  longer = sym (append-nil passed);
}

pub handled_last : (passed : List ℕ) (a b n : Calls) (r : PruneReply) → Handled passed a b → n ≡ b ++ (Release, r) ∷ [] → Handled passed a n
handled_last passed a b n r h e = record {
  calls = h.calls ++ (Release, r) ∷ [];
  same = e ∙ ap (λ l. l ++ (Release, r) ∷ []) h.same ∙ append_assoc a h.calls ((Release, r) ∷ []);
  each = handled_append passed h.calls ((Release, r) ∷ []) h.each ((λ d k. absurd k), tt);
}

judge-inj : (c d : ℕ) → Judge c ≡ Judge d → c ≡ d
judge-inj c d e = cc

pub turned_settled : (c : ℕ) (passed listed : List ℕ) (b m n : Calls) (r : PruneReply) → r ≡ Judge c → m ≡ b ++ (Take, r) ∷ [] → Settled c passed listed m n → Turned passed listed b n
turned_settled c passed listed b m n r is e s = record {
  handled = record {
    calls = (Take, r) ∷ s.calls;
    same = s.same ∙ ap (λ l. l ++ s.calls) e ∙ append_assoc b ((Take, r) ∷ []) s.calls;
    each = ((λ d h. subst (λ k. Contains listed k ⊎ HasPost k s.calls) (judge-inj c d (sym is ∙ h)) s.its), s.each);
  };
  more = s.more;
  longer = s.longer;
}

pub settled_pass : (c : ℕ) (passed listed : List ℕ) (b n : Calls) (r : PruneReply) → listed ≡ passed ++ c ∷ [] → n ≡ b ++ (Pass c, r) ∷ [] → Settled c passed listed b n
settled_pass c passed listed b n r l e = record {
  calls = (Pass c, r) ∷ [];
  same = e;
  each = ((λ d h. absurd h), tt);
  its = inl (subst (λ k. Contains k c) (sym l) (contains_last passed c));
  more = c ∷ [];
  longer = l;
}

pub settled_two : (c : ℕ) (passed : List ℕ) (b m n : Calls) → PostedOf c b m → PostedOf c m n → Settled c passed passed b n
settled_two c passed b m n p q = record {
  calls = (Post p.post, p.reply) ∷ (Post q.post, q.reply) ∷ [];
  same = q.same ∙ ap (λ l. l ++ (Post q.post, q.reply) ∷ []) p.same ∙ append_assoc b ((Post p.post, p.reply) ∷ []) ((Post q.post, q.reply) ∷ []);
  each = ((λ d h. absurd h), ((λ d h. absurd h), tt));
  its = inr (inl p.its);
  more = [];
  longer = sym (append-nil passed);
}

-- ---- the list of open choices
pub open_pushed : (edges : List Edge) (choices : List Choice) (c : ℕ) (passed listed : List ℕ) → AllByRecursion (IsOpenIn edges choices) passed → IsOpenIn edges choices c
    → (listed ≡ passed) ⊎ (listed ≡ passed ++ c ∷ []) → AllByRecursion (IsOpenIn edges choices) listed
open_pushed edges choices c passed listed a f e = elim e [
  | inl same ↦ subst (AllByRecursion (IsOpenIn edges choices)) (sym same) a
  | inr longer ↦ subst (AllByRecursion (IsOpenIn edges choices)) (sym longer) (each_from_append (IsOpenIn edges choices) passed (c ∷ []) a (f, tt))
]

pub open_here : (edges : List Edge) (choices : List Choice) (c : ℕ) (h : Choice) → slice_get choices c ≡ Some h → (IsRefuted edges h.one → ⊥) → (IsRefuted edges h.two → ⊥) → IsOpenIn edges choices c
open_here edges choices c h at one two k here One r = one (subst (λ (g : Choice). IsRefuted edges g.one) (same_Some k h (sym here ∙ at)) r)
open_here edges choices c h at one two k here Two r = two (subst (λ (g : Choice). IsRefuted edges g.two) (same_Some k h (sym here ∙ at)) r)

-- ---- judging
pub not_refuted_by : (rows graph : Graph) (side : List Edge) → AreRowsOf rows graph → AllByRecursion (λ (e : Edge). Contains rows.edges (e.1, e.0) → ⊥) side → IsRefuted graph.edges side → ⊥
not_refuted_by rows graph side is a r = each_contained (λ (e : Edge). Contains rows.edges (e.1, e.0) → ⊥) side (r.0, r.1.0) a r.1.1.0 ((is.reach r.1.0 r.0).1 r.1.1.1)

pub refutes_by : (graph : Graph) (side : List Edge) (k : ℕ) (e : Edge) (u v : ℕ) → k < length side → e ≡ get_or side k e → u ≡ e.1 → v ≡ e.0 → Reaches graph.edges u v → Refutes graph.edges side e
refutes_by graph side k e u v lt is p q r = record {
  within = (k, lt, sym is);
  back = subst (λ (x : Edge). Reaches graph.edges x.1 x.0) (λ i. (q i, p i)) r;
}

judged_some : (edges side : List Edge) (o : Option Edge) (e : Edge) → o ≡ Some e → MatchOption o (¬ IsRefuted edges side) (Refutes edges side) → Refutes edges side e
judged_some edges side o e is m = subst (λ (x : Option Edge). MatchOption x (¬ IsRefuted edges side) (Refutes edges side)) is m

judged_none : (edges side : List Edge) (o : Option Edge) → o ≡ None → MatchOption o (¬ IsRefuted edges side) (Refutes edges side) → ¬ IsRefuted edges side
judged_none edges side o is m = subst (λ (x : Option Edge). MatchOption x (¬ IsRefuted edges side) (Refutes edges side)) is m

-- the edge by which a side of the choice was judged refuted goes against a walk
pub goes_against : (p : Polygraph) (g : Graph) (c : ℕ) (h : Choice) (side : Side) (o : Option Edge) (e : Edge) → IsPolygraph p → g.nodes ≡ p.nodes → slice_get p.choices c ≡ Some h → o ≡ Some e
    → MatchOption o (¬ IsRefuted g.edges (edges_of h side)) (Refutes g.edges (edges_of h side)) → GoesAgainst g h e
goes_against p g c h side o e whole same at is m =
    let r = judged_some g.edges (edges_of h side) o e is m in
    let j = each_contained (Joins p.nodes) (edges_of h side) e (side_joins p.nodes p.choices c h side whole.joined at) r.within in
    let f = j.from in let t = j.to in
    record {
      nodes = (omega (arith, t, same), omega (arith, f, same));
      back = r.back;
      joined = subst (λ m. JoinsBoth m h) (sym same) (each_contained (JoinsBoth p.nodes) p.choices h whole.joined (contained_at p.choices c h at));
    }

-- also in a graph with more edges
pub goes_further : (old new : Graph) (h : Choice) (e : Edge) → Extends old new → GoesAgainst old h e → GoesAgainst new h e
goes_further old new h e x a =
    let f = a.nodes.0 in let t = a.nodes.1 in let same = x.nodes in
    record {
      nodes = (omega (arith, f, same), omega (arith, t, same));
      back = reaches_in old.edges new.edges x.edges e.1 e.0 a.back;
      joined = subst (λ m. JoinsBoth m h) (sym x.nodes) a.joined;
    }

-- where neither side was judged refuted, the choice may be listed as open
pub open_passed : (given own : Graph) (choices : List Choice) (c : ℕ) (h : Choice) (one two : Option Edge) (passed listed : List ℕ) → Extends given own → slice_get choices c ≡ Some h
    → one ≡ None → MatchOption one (¬ IsRefuted own.edges h.one) (Refutes own.edges h.one) → two ≡ None → MatchOption two (¬ IsRefuted own.edges h.two) (Refutes own.edges h.two)
    → AllByRecursion (IsOpenIn given.edges choices) passed → (listed ≡ passed) ⊎ (listed ≡ passed ++ c ∷ []) → AllByRecursion (IsOpenIn given.edges choices) listed
open_passed given own choices c h one two passed listed x at p a q b all =
    open_pushed given.edges choices c passed listed all
    (open_fewer given own choices c x (open_here own.edges choices c h at (judged_none own.edges h.one one p a) (judged_none own.edges h.two two q b)))
