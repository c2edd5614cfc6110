-- What every list of steps keeps.
use Rattle.prune_ledger.proofs.Prelude.{◌≡◌, ◌⊎◌, ℕ, zero, suc, ◌<◌, Bool, true, false, cond, eqb, ◌&&◌, ◌||◌, not, List, [], ◌∷◌, ◌++◌, length, Option, None, Some, refl, sym, ap, ◌∙◌, subst, inl, inr, arith, slice_get, slice_set}
use Rattle.prune_ledger.proofs.Prelude.{replicate, map, option_map_or, Contains, AllByRecursion, filter, false≢true, and_parts, or_parts, or_cases, or_right, not-true, cases_eq, eqb-true, length-set, length-map, length-replicate}
use Rattle.prune_ledger.proofs.Prelude.{slice_get_within, same_Some, Edge, Choice, Polygraph, Graph, Walk, Reaches, IsWalk, each_contained, reach_joined, IsKnownGraph, all_pairs, In, In-from_Contains, Contains-from_In, In-append_left}
use Rattle.prune_ledger.proofs.Prelude.{In-append_right, In-append_cases, In-of_filter, In-of_pairs, Joins, Side, One, Two, edges_of, other, Sides, IsRefuted, IsClosed, Entry as Kept, same_side, sides_in, IsLedger, entries_in, IsLegal}
use Rattle.prune_ledger.proofs.Prelude.{replay, get_set, Posted, State, no_mark, opening_state, given_back, reopened_state, has_edge, is_line, listed, with_edges, refuses, refusing, is_free, free_from, is_refused, side_at, is_choice}
use Rattle.prune_ledger.proofs.Prelude.{is_against, post_reply, is_entered, refused_mark, refused, hand_out, taken, posted, next_of, reply_of, side_of, kept_side, kept_after, edges_after, IsShown, AreShown, posts_in, LedgerEntry, IsWhole}
use Rattle.prune_ledger.proofs.Prelude.{IsOpening, KeepsForced, EachKeepsForced, posts_of, ledger_of, Grown, ChoiceState, PruneEvent, Take, Post, Pass, Release, PruneReply, Entered, AlreadyIn, BadWalk, Dead, edge_in, walk_of, same_is}
use Rattle.prune_ledger.proofs.Prelude.{other_other}
use Rattle.list_lemmas.proofs.Elements.{get_put}
use Rattle.desk.specs.declared.history.Entry.{Entry}
use Rattle.prune_ledger.proofs.Edges.{in_listed, in_of_listed}
use Rattle.prune_ledger.proofs.Marks.{side_joins}
use Rattle.prune_ledger.proofs.Sides.{ChoiceAt, choice_of_edge, side_is, numbered_first, known_with, side_with, more_kept, new_chosen, new_kept, kept_cases, no_kept}

-- ---- replies
pub is_entered_true : (r : PruneReply) → is_entered r ≡ true → r ≡ Entered
is_entered_true Entered e = refl
is_entered_true _ e = absurd (false≢true e)

three : (a b d : Bool) → cond a (cond b AlreadyIn (cond d Entered BadWalk)) BadWalk ≡ Entered → (a ≡ true) × (b ≡ false) × (d ≡ true)
three true false true e = (refl, refl, refl)
three _ _ _ e = absurd (false≢true (ap is_entered e))

pub entered : (s : State) (q : Posted) → post_reply s q ≡ Entered → (is_choice s q.choice ≡ true) × (is_refused s q.choice q.side ≡ false) × (is_against s q ≡ true)
entered s q e = three (is_choice s q.choice) (is_refused s q.choice q.side) (is_against s q) e

-- ---- more edges
pub walk_in : (edges more : List Edge) → ((e : Edge) → Contains edges e → Contains more e) → (ws : List ℕ) (u v : ℕ) → Walk edges u ws v → Walk more u ws v
walk_in edges more sub [] u v w = sub (u, v) w
walk_in edges more sub (x ∷ ws) u v w = (sub (u, x) w.0, walk_in edges more sub ws x v w.1)

pub line_in : (edges more : List Edge) → ((e : Edge) → Contains edges e → Contains more e) → (u v : ℕ) (line : List ℕ) → IsWalk edges u v line → IsWalk more u v line
line_in edges more sub u v line w = record { inner = w.inner; shape = w.shape; steps = walk_in edges more sub w.inner u v w.steps }

pub reaches_in : (edges more : List Edge) → ((e : Edge) → Contains edges e → Contains more e) → (u v : ℕ) → Reaches edges u v → Reaches more u v
reaches_in edges more sub u v r = (r.0, walk_in edges more sub r.0 u v r.1)

-- ---- the graph with edges more is one of known edges
pub refuted_in : (edges more side : List Edge) → ((e : Edge) → Contains edges e → Contains more e) → IsRefuted edges side → IsRefuted more side
refuted_in edges more side sub r = (r.0, (r.1.0, (r.1.1.0, reaches_in edges more sub r.1.0 r.0 r.1.1.1)))

pub known_more : (g : Graph) (more : List Edge) → IsKnownGraph g → IsKnownGraph (with_edges g more)
unfolding listed
known_more g more k = record {
  few = k.few;
  test = has_edge (g.edges ++ more);
  listed = refl;
  initial = λ v lo hi. Contains-from_In (listed g.nodes (g.edges ++ more)) (0, v)
      (in_listed g.nodes (g.edges ++ more) (0, v) (omega arith) hi (In-append_left (0, v) g.edges more (In-from_Contains g.edges (0, v) (k.initial v lo hi))));
  joined = λ e c. In-of_pairs e g.nodes (In-of_filter (has_edge (g.edges ++ more)) e (all_pairs g.nodes) (In-from_Contains (filter (has_edge (g.edges ++ more)) (all_pairs g.nodes)) e c)).0;
}

pub old_edges : (g : Graph) (more : List Edge) → IsKnownGraph g → (e : Edge) → Contains g.edges e → Contains (with_edges g more).edges e
old_edges g more k e c =
    let j = k.joined e c in
    Contains-from_In (listed g.nodes (g.edges ++ more)) e (in_listed g.nodes (g.edges ++ more) e j.0 j.1 (In-append_left e g.edges more (In-from_Contains g.edges e c)))

pub new_edges : (g : Graph) (more : List Edge) → AllByRecursion (Joins g.nodes) more → (e : Edge) → In e more → Contains (with_edges g more).edges e
new_edges g more j e i =
    let q = each_contained (Joins g.nodes) more e j (Contains-from_In more e i) in
    Contains-from_In (listed g.nodes (g.edges ++ more)) e (in_listed g.nodes (g.edges ++ more) e q.from q.to (In-append_right e g.edges more i))

-- ---- marks
abbrev test : List ChoiceState → ℕ → Side → Bool
test marks c side = option_map_or (λ m. refuses m side) (slice_get marks c) false

record TestedMark (marks : List ChoiceState) (c : ℕ) (side : Side) : Type 0 where
  pub mark : ChoiceState
  pub at : slice_get marks c ≡ Some mark
  pub refuses_it : refuses mark side ≡ true

tested : (marks : List ChoiceState) (c : ℕ) (side : Side) (o : Option ChoiceState) → slice_get marks c ≡ o → option_map_or (λ m. refuses m side) o false ≡ true → TestedMark marks c side
tested marks c side None e t = absurd (false≢true t)
tested marks c side (Some m) e t = record { mark = m; at = e; refuses_it = t }

from_mark : (marks : List ChoiceState) (c : ℕ) (side : Side) (m : ChoiceState) → slice_get marks c ≡ Some m → refuses m side ≡ true → test marks c side ≡ true
from_mark marks c side m e t = ap (λ o. option_map_or (λ k. refuses k side) o false) e ∙ t

refusing_one : (m : ChoiceState) (side other_one : Side) → refuses (refusing m side) other_one ≡ true → (other_one ≡ side) ⊎ (refuses m other_one ≡ true)
refusing_one m One One t = inl refl
refusing_one m One Two t = inr t
refusing_one m Two One t = inr t
refusing_one m Two Two t = inl refl

handed_one : (m : ChoiceState) (side : Side) → refuses (hand_out m) side ≡ true → refuses m side ≡ true
handed_one m One t = t
handed_one m Two t = t

given_one : (m : ChoiceState) (side : Side) → refuses (given_back m) side ≡ true → refuses m side ≡ true
given_one m One t = t
given_one m Two t = t

after_refused : (marks : List ChoiceState) (c : ℕ) (side : Side) (o : Option ChoiceState) → slice_get marks c ≡ o → (k : ℕ) (w : Side) → test (option_map_or (λ m. slice_set marks c (refusing m side)) o marks) k w ≡ true → ((k ≡ c) × (w ≡ side)) ⊎ (test marks k w ≡ true)
after_refused marks c side None e k w t = inr t
after_refused marks c side (Some m) e k w t =
    let x = tested (slice_set marks c (refusing m side)) k w (slice_get (slice_set marks c (refusing m side)) k) refl t in
    elim (get_set marks c k (refusing m side) x.mark x.at) [
      | inl p ↦ elim (refusing_one m side w (subst (λ (y : ChoiceState). refuses y w ≡ true) p.1 x.refuses_it)) [
        | inl q ↦ inl (p.0, q)
        | inr r ↦ inr (from_mark marks k w m (ap (slice_get marks) p.0 ∙ e) r)
      ]
      | inr q ↦ inr (from_mark marks k w x.mark q.1 x.refuses_it)
    ]

after_handed : (marks : List ChoiceState) (c : ℕ) (o : Option ChoiceState) → slice_get marks c ≡ o → (k : ℕ) (w : Side) → test (option_map_or (λ m. slice_set marks c (hand_out m)) o marks) k w ≡ true → test marks k w ≡ true
after_handed marks c None e k w t = t
after_handed marks c (Some m) e k w t =
    let x = tested (slice_set marks c (hand_out m)) k w (slice_get (slice_set marks c (hand_out m)) k) refl t in
    elim (get_set marks c k (hand_out m) x.mark x.at) [
      | inl p ↦ from_mark marks k w m (ap (slice_get marks) p.0 ∙ e) (handed_one m w (subst (λ (y : ChoiceState). refuses y w ≡ true) p.1 x.refuses_it))
      | inr q ↦ from_mark marks k w x.mark q.1 x.refuses_it
    ]

after_given : (marks : List ChoiceState) (k : ℕ) (w : Side) → test (map given_back marks) k w ≡ true → test marks k w ≡ true
after_given [] k w t = t
after_given (m ∷ ms) zero w t = given_one m w t
after_given (m ∷ ms) (suc k) w t = after_given ms k w t

before_given : (marks : List ChoiceState) (k : ℕ) (w : Side) → test marks k w ≡ true → test (map given_back marks) k w ≡ true
before_given [] k w t = t
before_given (m ∷ ms) zero One t = t
before_given (m ∷ ms) zero Two t = t
before_given (m ∷ ms) (suc k) w t = before_given ms k w t

refusing_old : (m : ChoiceState) (side w : Side) → refuses m w ≡ true → refuses (refusing m side) w ≡ true
refusing_old m One One t = refl
refusing_old m One Two t = t
refusing_old m Two One t = t
refusing_old m Two Two t = refl

refusing_new : (m : ChoiceState) (side : Side) → refuses (refusing m side) side ≡ true
refusing_new m One = refl
refusing_new m Two = refl

get_other : {A : Type 0} (xs : List A) (k j : ℕ) (y : A) → (j ≡ k → ⊥) → slice_get (slice_set xs k y) j ≡ slice_get xs j
get_other [] k j y ne = refl
get_other (z ∷ zs) zero zero y ne = absurd (ne refl)
get_other (z ∷ zs) zero (suc j) y ne = refl
get_other (z ∷ zs) (suc k) zero y ne = refl
get_other (z ∷ zs) (suc k) (suc j) y ne = get_other zs k j y (λ e. ne (ap suc e))

-- a mark that is there
pub some_mark : (marks : List ChoiceState) (k : ℕ) → k < length marks → (m : ChoiceState) × (slice_get marks k ≡ Some m)
some_mark [] k lt = absurd (omega arith)
some_mark (m ∷ ms) zero lt = (m, refl)
some_mark (m ∷ ms) (suc k) lt = some_mark ms k (omega arith)

-- a written mark keeps what others say
kept_mark : (marks : List ChoiceState) (c k : ℕ) (m x : ChoiceState) (w : Side) → slice_get marks c ≡ Some m → (refuses m w ≡ true → refuses x w ≡ true) → test marks k w ≡ true → test (slice_set marks c x) k w ≡ true
kept_mark marks c k m x w at f t = elim (cases_eq k c) [
  | inl same ↦ from_mark (slice_set marks c x) k w x (ap (slice_get (slice_set marks c x)) same ∙ get_put marks c m x at)
      (f (ap (λ o. option_map_or (λ y. refuses y w) o false) (sym (ap (slice_get marks) same ∙ at)) ∙ t))
  | inr apart ↦ ap (λ o. option_map_or (λ y. refuses y w) o false) (get_other marks c k x apart) ∙ t
]

before_refused : (marks : List ChoiceState) (c : ℕ) (side : Side) (o : Option ChoiceState) → slice_get marks c ≡ o → (k : ℕ) (w : Side) → test marks k w ≡ true → test (option_map_or (λ m. slice_set marks c (refusing m side)) o marks) k w ≡ true
before_refused marks c side None e k w t = t
before_refused marks c side (Some m) e k w t = kept_mark marks c k m (refusing m side) w e (refusing_old m side w) t

now_refused : (marks : List ChoiceState) (c : ℕ) (side : Side) (o : Option ChoiceState) → slice_get marks c ≡ o → (m : ChoiceState) → o ≡ Some m → test (option_map_or (λ m. slice_set marks c (refusing m side)) o marks) c side ≡ true
now_refused marks c side None e m is = absurd (cc)
now_refused marks c side (Some n) e m is = from_mark (slice_set marks c (refusing n side)) c side (refusing n side) (get_put marks c n (refusing n side) e) (refusing_new n side)

length_refused : (marks : List ChoiceState) (c : ℕ) (side : Side) (o : Option ChoiceState) → length (option_map_or (λ m. slice_set marks c (refusing m side)) o marks) ≡ length marks
length_refused marks c side None = refl
length_refused marks c side (Some m) = length-set marks c (refusing m side)

handed_old : (m : ChoiceState) (w : Side) → refuses m w ≡ true → refuses (hand_out m) w ≡ true
handed_old m One t = t
handed_old m Two t = t

before_handed : (marks : List ChoiceState) (c : ℕ) (o : Option ChoiceState) → slice_get marks c ≡ o → (k : ℕ) (w : Side) → test marks k w ≡ true → test (option_map_or (λ m. slice_set marks c (hand_out m)) o marks) k w ≡ true
before_handed marks c None e k w t = t
before_handed marks c (Some m) e k w t = kept_mark marks c k m (hand_out m) w e (handed_old m w) t

length_handed : (marks : List ChoiceState) (c : ℕ) (o : Option ChoiceState) → length (option_map_or (λ m. slice_set marks c (hand_out m)) o marks) ≡ length marks
length_handed marks c None = refl
length_handed marks c (Some m) = length-set marks c (hand_out m)

free_at : (marks : List ChoiceState) (c : ℕ) (m : ChoiceState) → AllByRecursion (λ (x : ChoiceState). is_free x ≡ true) marks → slice_get marks c ≡ Some m → is_free m ≡ true
free_at [] c m a e = absurd (cc)
free_at (x ∷ xs) zero m a e = subst (λ (y : ChoiceState). is_free y ≡ true) (same_Some x m e) a.0
free_at (x ∷ xs) (suc c) m a e = free_at xs c m a.1 e

not_refusing : (m : ChoiceState) (side : Side) → is_free m ≡ true → refuses m side ≡ true → ⊥
not_refusing m One f t = (let p = and_parts (not (m.one || m.two)) (not m.handed) f in let o = or_parts m.one m.two (not-true (m.one || m.two) p.0) in false≢true (sym o.0 ∙ t))
not_refusing m Two f t = (let p = and_parts (not (m.one || m.two)) (not m.handed) f in let o = or_parts m.one m.two (not-true (m.one || m.two) p.0) in false≢true (sym o.1 ∙ t))

-- ---- the first state
pub grown_opening : (p : Polygraph) → IsWhole p → (s : State) → IsOpening p s → Grown p [] s
grown_opening p whole s o = record {
  same = o.same;
  nodes = ap (λ (g : Graph). g.nodes) o.graph;
  known = subst IsKnownGraph (sym o.graph) whole.known;
  from = λ e c. Contains-from_In (edges_after p []) e (known_with p (sides_in []) e (In-from_Contains p.known e (subst (λ (g : Graph). Contains g.edges e) o.graph c)));
  to = λ e c. subst (λ (g : Graph). Contains g.edges e) (sym o.graph) (Contains-from_In p.known e (no_kept p e (In-from_Contains (edges_after p []) e c)));
  marks = λ c w t. (let x = tested s.marks c w (slice_get s.marks c) refl t in absurd (not_refusing x.mark w (free_at s.marks c x.mark o.free x.at) x.refuses_it));
  marked = o.marked;
  back = λ c w t. absurd (false≢true t);
  ledger = tt;
  dead = λ t. absurd (false≢true (sym o.alive ∙ t));
}

free_marks : (n : ℕ) → AllByRecursion (λ (x : ChoiceState). is_free x ≡ true) (replicate n no_mark)
free_marks zero = tt
free_marks (suc n) = (refl, free_marks n)

pub opens : (p : Polygraph) → IsOpening p (opening_state p.choices (record { nodes = p.nodes; edges = p.known }))
opens p = record { same = refl; graph = refl; marked = length-replicate (length p.choices) no_mark; free = free_marks (length p.choices); alive = refl }

pub grown_reopened : (p : Polygraph) (kept : List Kept) (s : State) → Grown p kept s → Grown p kept (reopened_state s)
grown_reopened p kept s g = record { same = g.same; nodes = g.nodes; known = g.known; from = g.from; to = g.to; marks = λ c w t. g.marks c w (after_given s.marks c w t); marked = length-map s.marks given_back ∙ g.marked; back = λ c w t. before_given s.marks c w (g.back c w t); ledger = g.ledger; dead = g.dead }

-- ---- a post that is entered
record Posting (p : Polygraph) (kept : List Kept) (s : State) (q : Posted) : Type 0 where
  pub choice : ChoiceAt p.choices q.choice
  pub shown : IsShown p kept q
  pub back : Reaches s.graph.edges q.edge.1 q.edge.0

posting : (p : Polygraph) (kept : List Kept) (s : State) (q : Posted) → Grown p kept s → post_reply s q ≡ Entered → Posting p kept s q
posting p kept s q g e =
    let parts = and_parts (has_edge (side_at s q.choice q.side) q.edge) (is_line s.graph.edges q.edge.1 q.walk q.edge.0) (entered s q e).2 in
    let within = edge_in (side_at s q.choice q.side) q.edge parts.0 in
    let line = walk_of s.graph.edges q.walk q.edge.1 q.edge.0 parts.1 in
    let there = subst (λ (hs : List Choice). Contains (side_of hs q.choice q.side) q.edge) g.same within in
    record {
      choice = choice_of_edge p.choices q.choice q.side q.edge (In-from_Contains (side_of p.choices q.choice q.side) q.edge there);
      shown = record { within = there; walk = line_in s.graph.edges (edges_after p kept) g.from q.edge.1 q.edge.0 q.walk line };
      back = (line.inner, line.steps);
    }

ledger_more : (p : Polygraph) (kept : List Kept) (q : Posted) (h : Choice) → slice_get p.choices q.choice ≡ Some h → IsShown p kept q → IsLedger p kept → IsLedger p (kept_side q ∷ kept)
ledger_more p kept q h at shown l = (
  (
    h,
    (
      at,
      subst (λ (w : Side). IsRefuted (edges_after p kept) (edges_of h w)) (sym (other_other q.side))
          (q.edge.0, (q.edge.1, (subst (λ (l : List Edge). Contains l q.edge) (side_is p.choices q.choice h q.side at) shown.within, (shown.walk.inner, shown.walk.steps)))),
    ),
  ),
  l,
)

-- the edges of the side that is kept join nodes of the graph
kept_joined : (p : Polygraph) → IsWhole p → (kept : List Kept) (s : State) → Grown p kept s → (c : ℕ) (h : Choice) (w : Side) → slice_get p.choices c ≡ Some h → AllByRecursion (Joins s.graph.nodes) (side_at s c w)
kept_joined p whole kept s g c h w at =
    let j = side_joins p.nodes p.choices c h w whole.choices.joined at in
    let is : side_at s c w ≡ edges_of h w = ap (λ (hs : List Choice). side_of hs c w) g.same ∙ side_is p.choices c h w at in
    subst (λ (n : ℕ). AllByRecursion (Joins n) (side_at s c w)) (sym g.nodes) (subst (AllByRecursion (Joins p.nodes)) (sym is) j)

pub grown_refused : (p : Polygraph) → IsWhole p → (kept : List Kept) (s : State) (q : Posted) → Grown p kept s → post_reply s q ≡ Entered → Grown p (kept_side q ∷ kept) (refused s q.choice q.side)
grown_refused p whole kept s q g e =
    let post = posting p kept s q g e in
    let h = post.choice.choice in let at = post.choice.at in
    let more = side_at s q.choice (other q.side) in
    let joined = kept_joined p whole kept s g q.choice h (other q.side) at in
    let is_side : more ≡ side_of p.choices q.choice (other q.side) = ap (λ (hs : List Choice). side_of hs q.choice (other q.side)) g.same in
    record {
      same = g.same;
      nodes = g.nodes;
      known = known_more s.graph more g.known;
      from = λ x c. Contains-from_In (edges_after p (kept_side q ∷ kept)) x
          (elim (In-append_cases x s.graph.edges more (in_of_listed s.graph.nodes (s.graph.edges ++ more) x (In-from_Contains (with_edges s.graph more).edges x c))) [
            | inl a ↦ more_kept p kept (kept_side q) x (In-from_Contains (edges_after p kept) x (g.from x (Contains-from_In s.graph.edges x a)))
            | inr b ↦ new_kept p kept (kept_side q) x (subst (In x) is_side b)
          ]);
      to = λ x c. (elim (kept_cases p kept (kept_side q) x (In-from_Contains (edges_after p (kept_side q ∷ kept)) x c)) [
        | inl a ↦ old_edges s.graph more g.known x (g.to x (Contains-from_In (edges_after p kept) x a))
        | inr b ↦ new_edges s.graph more joined x (subst (In x) (sym is_side) b)
      ]);
      marks = λ c w t. (elim (after_refused s.marks q.choice q.side (slice_get s.marks q.choice) refl c w t) [
        | inl r ↦ subst (λ (m : ℕ). sides_in (kept_side q ∷ kept) m (other w) ≡ true) (sym r.0)
            (subst (λ (v : Side). sides_in (kept_side q ∷ kept) q.choice (other v) ≡ true) (sym r.1) (new_chosen kept (kept_side q)))
        | inr old ↦ or_right (eqb q.choice c && same_side (other q.side) (other w)) (sides_in kept c (other w)) (g.marks c w old)
      ]);
      marked = length_refused s.marks q.choice q.side (slice_get s.marks q.choice) ∙ g.marked;
      back = λ c w t. (elim (or_cases (eqb q.choice c && same_side (other q.side) (other w)) (sides_in kept c (other w)) t) [
        | inl new ↦ (let b = and_parts (eqb q.choice c) (same_side (other q.side) (other w)) new in
            let lt = slice_get_within p.choices q.choice h at in
            let len : length s.marks ≡ length p.choices = g.marked ∙ ap length g.same in
            let m = some_mark s.marks q.choice (omega (arith, lt, len)) in
            let is_side : q.side ≡ w = sym (other_other q.side) ∙ ap other (same_is (other q.side) (other w) b.1) ∙ other_other w in
            let here = now_refused s.marks q.choice q.side (slice_get s.marks q.choice) refl m.0 m.1 in
            subst (λ (n : ℕ). test (refused_mark s q.choice q.side) n w ≡ true) (eqb-true q.choice c b.0)
            (subst (λ (v : Side). test (refused_mark s q.choice q.side) q.choice v ≡ true) is_side here))
        | inr old ↦ before_refused s.marks q.choice q.side (slice_get s.marks q.choice) refl c w (g.back c w old)
      ]);
      ledger = ledger_more p kept q h at post.shown g.ledger;
      dead = λ t. (
          let chosen = subst (λ (w : Side). sides_in kept q.choice w ≡ true) (other_other q.side) (g.marks q.choice (other q.side) t) in
          let u = q.edge.0 in let v = q.edge.1 in
          let step = g.to q.edge (Contains-from_In (edges_after p kept) q.edge (side_with p (sides_in kept) q.edge q.choice q.side chosen (In-from_Contains (side_of p.choices q.choice q.side) q.edge post.shown.within))) in
          let cycle = reach_joined s.graph.edges u v u ([], step) post.back in
          (u, reaches_in s.graph.edges (with_edges s.graph more).edges (old_edges s.graph more g.known) u u cycle));
    }

-- ---- a step
pub record Stepped (p : Polygraph) (kept : List Kept) (event : PruneEvent) (reply : PruneReply) (s : State) : Type 0 where
  pub grown : Grown p (kept_after kept (posts_of event reply)) s
  pub shown : AreShown p kept (posts_of event reply)

grown_taken : (p : Polygraph) (kept : List Kept) (s : State) (o : Option ℕ) → Grown p kept s → Grown p kept (taken s o)
grown_taken p kept s None g = g
grown_taken p kept s (Some c) g = record { same = g.same; nodes = g.nodes; known = g.known; from = g.from; to = g.to; marks = λ k w t. g.marks k w (after_handed s.marks c (slice_get s.marks c) refl k w t); marked = length_handed s.marks c (slice_get s.marks c) ∙ g.marked; back = λ k w t. before_handed s.marks c (slice_get s.marks c) refl k w (g.back k w t); ledger = g.ledger; dead = g.dead }

step_taken : (p : Polygraph) (kept : List Kept) (b : Bool) (s : State) → Grown p kept s → Grown p kept (cond b s (taken s (free_from 0 s.marks)))
step_taken p kept true s g = g
step_taken p kept false s g = grown_taken p kept s (free_from 0 s.marks) g

record PostedBy (p : Polygraph) (kept : List Kept) (posts : List Posted) (s : State) : Type 0 where
  pub grown : Grown p (kept_after kept posts) s
  pub shown : AreShown p kept posts

step_entered : (p : Polygraph) → IsWhole p → (kept : List Kept) (t : Bool) (s : State) (q : Posted) → Grown p kept s → is_entered (post_reply s q) ≡ t → PostedBy p kept (cond t (q ∷ []) []) (cond t (refused s q.choice q.side) s)
step_entered p whole kept true s q g e =
    let r = is_entered_true (post_reply s q) e in
    record { grown = grown_refused p whole kept s q g r; shown = ((posting p kept s q g r).shown, tt) }
step_entered p whole kept false s q g e = record { grown = g; shown = tt }

step_posted : (p : Polygraph) → IsWhole p → (kept : List Kept) (b : Bool) (s : State) (q : Posted) → Grown p kept s → PostedBy p kept (posts_of (Post q) (cond b Dead (post_reply s q))) (cond b s (posted s q))
step_posted p whole kept true s q g = record { grown = g; shown = tt }
step_posted p whole kept false s q g = step_entered p whole kept (is_entered (post_reply s q)) s q g refl

pub stepped : (p : Polygraph) → IsWhole p → (kept : List Kept) (s : State) → Grown p kept s → (seat : ℕ) (e : PruneEvent) → Stepped p kept e (reply_of s seat e) (next_of s seat e)
stepped p whole kept s g seat Take = record { grown = step_taken p kept s.dead s g; shown = tt }
stepped p whole kept s g seat (Post q) = let r = step_posted p whole kept s.dead s q g in record { grown = r.grown; shown = r.shown }
stepped p whole kept s g seat (Pass c) = record { grown = g; shown = tt }
stepped p whole kept s g seat Release = record { grown = g; shown = tt }

-- ---- lists of steps
pub kept_append : (kept : List Kept) (xs ys : List Posted) → kept_after kept (xs ++ ys) ≡ kept_after (kept_after kept xs) ys
kept_append kept [] ys = refl
kept_append kept (q ∷ qs) ys = kept_append (kept_side q ∷ kept) qs ys

pub posts_append : (xs ys : List LedgerEntry) → posts_in (xs ++ ys) ≡ posts_in xs ++ posts_in ys
posts_append [] ys = refl
posts_append (x ∷ xs) ys = ap (λ l. x.post ∷ l) (posts_append xs ys)

pub shown_append : (p : Polygraph) (kept : List Kept) (xs ys : List Posted) → AreShown p kept xs → AreShown p (kept_after kept xs) ys → AreShown p kept (xs ++ ys)
shown_append p kept [] ys a b = b
shown_append p kept (q ∷ qs) ys a b = (a.0, shown_append p (kept_side q ∷ kept) qs ys a.1 b)

-- what holds after a legal history
pub record Ran (p : Polygraph) (kept : List Kept) (history : List (Entry PruneEvent PruneReply)) (last : State) : Type 0 where
  pub grown : Grown p (kept_after kept (ledger_of history)) last
  pub shown : AreShown p kept (ledger_of history)

pub ran : (p : Polygraph) → IsWhole p → (kept : List Kept) (s : State) → Grown p kept s → (history : List (Entry PruneEvent PruneReply)) → IsLegal next_of reply_of s history → Ran p kept history (replay next_of s history)
ran p whole kept s g [] legal = record { grown = g; shown = tt }
ran p whole kept s g (x ∷ xs) legal =
    let step = subst (λ (r : PruneReply). Stepped p kept x.event r (next_of s x.seat x.event)) (sym legal.0) (stepped p whole kept s g x.seat x.event) in
    let rest = ran p whole (kept_after kept (posts_of x.event x.reply)) (next_of s x.seat x.event) step.grown xs legal.1 in
    record {
      grown = subst (λ (k : List Kept). Grown p k (replay next_of (next_of s x.seat x.event) xs)) (sym (kept_append kept (posts_of x.event x.reply) (ledger_of xs))) rest.grown;
      shown = shown_append p kept (posts_of x.event x.reply) (ledger_of xs) step.shown rest.shown;
    }

-- ---- each kept side is forced
alive_entered : (dead : Bool) (r : PruneReply) → cond dead Dead r ≡ Entered → r ≡ Entered
alive_entered true r e = absurd (false≢true (ap is_entered e))
alive_entered false r e = e

keeps_forced : (p : Polygraph) → IsWhole p → (sides : Sides) → IsClosed p sides → (kept : List Kept) (s : State) → Grown p kept s → (seat : ℕ) (e : PruneEvent) → KeepsForced sides e (reply_of s seat e)
keeps_forced p whole sides f kept s g seat (Post q) = λ e. (
    let r = alive_entered s.dead (post_reply s q) e in
    let post = posting p kept s q g r in
    let l = ledger_more p kept q post.choice.choice post.choice.at post.shown g.ledger in
    numbered_first (λ c h. (w : Side) → sides_in (kept_side q ∷ kept) c w ≡ true → sides c w ≡ true) p.choices q.choice post.choice.choice
    (entries_in p sides f (kept_side q ∷ kept) l) post.choice.at (other q.side) (new_chosen kept (kept_side q)))
keeps_forced p whole sides f kept s g seat _ = tt

pub each_forced : (p : Polygraph) → IsWhole p → (sides : Sides) → IsClosed p sides → (kept : List Kept) (s : State) → Grown p kept s → (history : List (Entry PruneEvent PruneReply)) → IsLegal next_of reply_of s history → EachKeepsForced sides history
each_forced p whole sides f kept s g [] legal = tt
each_forced p whole sides f kept s g (x ∷ xs) legal = (
  subst (KeepsForced sides x.event) (sym legal.0) (keeps_forced p whole sides f kept s g x.seat x.event),
  each_forced p whole sides f (kept_after kept (posts_of x.event (reply_of s x.seat x.event))) (next_of s x.seat x.event) (stepped p whole kept s g x.seat x.event).grown xs legal.1,
)
