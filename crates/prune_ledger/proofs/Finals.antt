-- The end of pruning.
use Rattle.prune_ledger.proofs.Prelude.{◌≡◌, ◌↔◌, ℕ, zero, suc, ◌+◌, ◌<◌, ◌≤◌, Bool, true, false, cond, ◌||◌, List, [], ◌∷◌, ◌++◌, length, Some, refl, sym, ap, ◌∙◌, subst, inl, inr, arith, length-append, slice_get, IfSome, IsNone, map}
use Rattle.prune_ledger.proofs.Prelude.{option_map_or, Contains, AllByRecursion, cases_Bool, false≢true, or_cases, slice_get_within, same_Some, or_comm, same_bool, Edge, Choice, Polygraph, Graph, IsCyclic, IsCycle, reach_joined, AreRowsOf}
use Rattle.prune_ledger.proofs.Prelude.{In, In-from_Contains, Contains-from_In, Side, One, Two, edges_of, other, Sides, IsRefuted, IsClosed, IsDead, open_from, pruned, Entry as Kept, sides_in, IsLedger, ledger_forced, ledger_dead, IsAt}
use Rattle.prune_ledger.proofs.Prelude.{numbered, numbered_and, fits_pruned, pruned_fits, IsLegal, IsReached, replay, Posted, State, opening_state, reopened_state, refuses, is_refused, next_of, reply_of, kept_after, edges_after, AreShown}
use Rattle.prune_ledger.proofs.Prelude.{IsWhole, posts_of, ledger_of, Grown, entered_by, entered_in, AreRounds, posts_in, kept_by, IsReduced, IsRemainder, IsProgress, IsGraphOf, unrefused, IsLast, LedgerEntry, ChoiceState, PruneEvent}
use Rattle.prune_ledger.proofs.Prelude.{PruneReply}
use Rattle.pruning_laws.proofs.Same.{same_both}
use Rattle.desk.specs.declared.history.Entry.{Entry}
use Rattle.prune_ledger.specs.Entered as entered
use Rattle.prune_ledger.specs.declared.ledger.Ledger.{Ledger}
use Rattle.prune_ledger.proofs.Sides.{side_is, side_with}
use Rattle.prune_ledger.proofs.Grown.{some_mark, walk_in, reaches_in, grown_opening, opens, grown_reopened, ran, kept_append, shown_append, refuted_in, posts_append}

-- ---- the sides that are kept at the end are closed
flag_at : (flags : List Bool) (k : ℕ) → k < length flags → (f : Bool) × (slice_get flags k ≡ Some f)
flag_at [] k lt = absurd (omega (arith, lt))
flag_at (f ∷ fs) zero lt = (f, refl)
flag_at (f ∷ fs) (suc k) lt = flag_at fs k (omega (arith, lt))

refused_at : (s : State) (c : ℕ) (m : ChoiceState) (side : Side) → slice_get s.marks c ≡ Some m → refuses m side ≡ true → is_refused s c side ≡ true
refused_at s c m side at t = ap (λ o. option_map_or (λ k. refuses k side) o false) at ∙ t

refuses_at : (s : State) (c : ℕ) (m : ChoiceState) (side : Side) → slice_get s.marks c ≡ Some m → is_refused s c side ≡ true → refuses m side ≡ true
refuses_at s c m side at t = ap (λ o. option_map_or (λ k. refuses k side) o false) (sym at) ∙ t

-- a side that is kept is not refuted where there is no cycle
not_both : (p : Polygraph) (kept : List Kept) (c : ℕ) (h : Choice) (w : Side) → slice_get p.choices c ≡ Some h → (IsCyclic (edges_after p kept) → ⊥) → sides_in kept c w ≡ true → IsRefuted (edges_after p kept) (edges_of h w) → ⊥
not_both p kept c h w at acyclic t r =
    let u = r.0 in let v = r.1.0 in
    let here = subst (In (u, v)) (sym (side_is p.choices c h w at)) (In-from_Contains (edges_of h w) (u, v) r.1.1.0) in
    let step = Contains-from_In (edges_after p kept) (u, v) (side_with p (sides_in kept) (u, v) c w t here) in
    acyclic (u, reach_joined (edges_after p kept) u v u ([], step) r.1.1.1)

one_refused : (p : Polygraph) (kept : List Kept) (s : State) → Grown p kept s → (c : ℕ) (h : Choice) → slice_get p.choices c ≡ Some h → (IsCyclic (edges_after p kept) → ⊥) → (v w : Side) → is_refused s c v ≡ true → IsRefuted (edges_after p kept) (edges_of h w) → sides_in kept c (other w) ≡ true
one_refused p kept s g c h at acyclic One One t r = g.marks c One t
one_refused p kept s g c h at acyclic One Two t r = absurd (not_both p kept c h Two at acyclic (g.marks c One t) r)
one_refused p kept s g c h at acyclic Two One t r = absurd (not_both p kept c h One at acyclic (g.marks c Two t) r)
one_refused p kept s g c h at acyclic Two Two t r = g.marks c Two t

acyclic_after : (p : Polygraph) (entries : List LedgerEntry) (graph : Graph) → IsGraphOf p (kept_by entries) graph → (IsCyclic graph.edges → ⊥) → IsCyclic (edges_after p (kept_by entries)) → ⊥
acyclic_after p entries graph g acyclic c = acyclic (c.0, reaches_in (edges_after p (kept_by entries)) graph.edges g.to c.0 c.0 c.1)

closed_at : (p : Polygraph) (entries : List LedgerEntry) (s : State) (graph : Graph) (flags : List Bool) → IsLast p entries s graph flags → (c : ℕ) (h : Choice) → slice_get p.choices c ≡ Some h → (w : Side) → IsRefuted (edges_after p (kept_by entries)) (edges_of h w) → sides_in (kept_by entries) c (other w) ≡ true
closed_at p entries s graph flags l c h at w r =
    let g = l.progress.grown in
    let lt = slice_get_within p.choices c h at in
    let len : length s.marks ≡ length p.choices = g.marked ∙ ap length g.same in
    let flen = l.flagged in
    let m = some_mark s.marks c (omega (arith, lt, len)) in
    let f = flag_at flags c (omega (arith, lt, flen)) in
    let acyclic = acyclic_after p entries graph l.graph_of l.acyclic in
    elim (or_cases (m.0.one || m.0.two) f.0 (l.settled.each c m.0 f.0 m.1 f.1)) [
      | inl t ↦ (elim (or_cases m.0.one m.0.two t) [
        | inl a ↦ one_refused p (kept_by entries) s g c h at acyclic One w (refused_at s c m.0 One m.1 a) r
        | inr b ↦ one_refused p (kept_by entries) s g c h at acyclic Two w (refused_at s c m.0 Two m.1 b) r
      ])
      | inr t ↦ absurd (l.open_in.each c (f.1 ∙ ap Some t) h at w (refuted_in (edges_after p (kept_by entries)) graph.edges (edges_of h w) l.graph_of.to r))
    ]

pub last_closed : (p : Polygraph) (entries : List LedgerEntry) (s : State) (graph : Graph) (flags : List Bool) → IsLast p entries s graph flags → IsClosed p (sides_in (kept_by entries))
last_closed p entries s graph flags l = record {
  rule = numbered_and (IsAt p) (IsAt p) (λ c h. (w : Side) → IsRefuted (edges_after p (kept_by entries)) (edges_of h w) → sides_in (kept_by entries) c (other w) ≡ true) 0 p.choices
      (λ c h at _. closed_at p entries s graph flags l c h at) (numbered p) (numbered p);
}

-- ---- the open choices

open_listed : (ms : List ChoiceState) (hs : List Choice) (sides : Sides) (c : ℕ) → length ms ≡ length hs → ((k : ℕ) (m : ChoiceState) → slice_get ms k ≡ Some m → (sides (c + k) One || sides (c + k) Two) ≡ (m.one || m.two)) → unrefused ms hs ≡ open_from sides c hs
open_listed [] [] sides c len f = refl
open_listed [] (h ∷ hs) sides c len f = absurd (omega (arith, len))
open_listed (m ∷ ms) [] sides c len f = absurd (omega (arith, len))
open_listed (m ∷ ms) (h ∷ hs) sides c len f =
    let z : c + 0 ≡ c = omega arith in
    let here : (sides c One || sides c Two) ≡ (m.one || m.two) = subst (λ n. (sides n One || sides n Two) ≡ (m.one || m.two)) z (f 0 m refl) in
    let rest = open_listed ms hs sides (c + 1) (omega (arith, len)) (λ k n at. (let s : c + suc k ≡ c + 1 + k = omega arith in subst (λ j. (sides j One || sides j Two) ≡ (n.one || n.two)) s (f (suc k) n at))) in
    ap (λ l. cond (m.one || m.two) l (h ∷ l)) rest ∙ ap (λ b. cond b (open_from sides (c + 1) hs) (h ∷ open_from sides (c + 1) hs)) (sym here)

mark_sides : (p : Polygraph) (kept : List Kept) (s : State) → Grown p kept s → (c : ℕ) (m : ChoiceState) → slice_get s.marks c ≡ Some m → (sides_in kept c One || sides_in kept c Two) ≡ (m.one || m.two)
mark_sides p kept s g c m at =
    let one : m.one ≡ sides_in kept c Two = same_bool m.one (sides_in kept c Two) (λ t. g.marks c One (refused_at s c m One at t)) (λ t. refuses_at s c m One at (g.back c One t)) in
    let two : m.two ≡ sides_in kept c One = same_bool m.two (sides_in kept c One) (λ t. g.marks c Two (refused_at s c m Two at t)) (λ t. refuses_at s c m Two at (g.back c Two t)) in
    or_comm (sides_in kept c One) (sides_in kept c Two) ∙ ap (λ b. b || sides_in kept c One) (sym one) ∙ ap (λ b. m.one || b) (sym two)

pub choices_left : (p : Polygraph) (kept : List Kept) (s : State) → Grown p kept s → unrefused s.marks s.choices ≡ open_from (sides_in kept) 0 p.choices
choices_left p kept s g =
    open_listed s.marks s.choices (sides_in kept) 0 g.marked (λ k m at. (let z : k ≡ 0 + k = omega arith in subst (λ n. (sides_in kept n One || sides_in kept n Two) ≡ (m.one || m.two)) z (mark_sides p kept s g k m at)))
    ∙ ap (open_from (sides_in kept) 0) g.same

unrefused_where : (P : Choice → Type 0) (ms : List ChoiceState) (hs : List Choice) → ((k : ℕ) (m : ChoiceState) (h : Choice) → slice_get ms k ≡ Some m → slice_get hs k ≡ Some h → (m.one || m.two) ≡ false → P h) → AllByRecursion P (unrefused ms hs)
unrefused_where P [] hs f = tt
unrefused_where P (m ∷ ms) [] f = tt
unrefused_where P (m ∷ ms) (h ∷ hs) f =
    let rest = unrefused_where P ms hs (λ k n g a b t. f (suc k) n g a b t) in
    elim (cases_Bool (m.one || m.two)) [ inl t ↦ rw t rest | inr e ↦ rw e (f 0 m h refl refl e, rest) ]

pub left_unrefuted : (p : Polygraph) (entries : List LedgerEntry) (s : State) (graph : Graph) (flags : List Bool) → IsLast p entries s graph flags
    → AllByRecursion (λ (h : Choice). (side : Side) → IsRefuted graph.edges (edges_of h side) → ⊥) (unrefused s.marks s.choices)
left_unrefuted p entries s graph flags l =
    unrefused_where (λ (h : Choice). (side : Side) → IsRefuted graph.edges (edges_of h side) → ⊥) s.marks s.choices
    (λ k m h a b t. (
    let g = l.progress.grown in
    let at = ap (λ hs. slice_get hs k) (sym g.same) ∙ b in
    let lt = slice_get_within p.choices k h at in let flen = l.flagged in
    let f = flag_at flags k (omega (arith, lt, flen)) in
    let set : f.0 ≡ true = elim (or_cases (m.one || m.two) f.0 (l.settled.each k m f.0 a f.1)) [ inl u ↦ absurd (false≢true (sym t ∙ u)) | inr v ↦ v ] in
    l.open_in.each k (f.1 ∙ ap Some set) h at))

pub reduced_last : (p : Polygraph) (entries : List LedgerEntry) (s : State) (graph : Graph) (flags : List Bool) (n : ℕ) → IsLast p entries s graph flags → IsReduced (record { nodes = n; known = graph.edges; choices = unrefused s.marks s.choices })
reduced_last p entries s graph flags n l = record { acyclic = l.acyclic; unrefuted = left_unrefuted p entries s graph flags l }

pub poly_with : (g w : Graph) (a b : List Choice) → g ≡ w → a ≡ b → ◌≡◌ {A = Polygraph} (record { nodes = g.nodes; known = g.edges; choices = a }) (record { nodes = w.nodes; known = w.edges; choices = b })
poly_with g w a b same e =
    ap (λ (k : Graph). (let p : Polygraph = record { nodes = k.nodes; known = k.edges; choices = a } in p)) same
    ∙ ap (λ (hs : List Choice). (let p : Polygraph = record { nodes = w.nodes; known = w.edges; choices = hs } in p)) e

pub is_remainder : (p : Polygraph) (s : State) (graph rows : Graph) (flags : List Bool) (poly : Polygraph) (ledger : Ledger) → IsLast p ledger.entries.items s graph flags → AreRowsOf rows graph
    → poly ≡ record { nodes = graph.nodes; known = graph.edges; choices = unrefused s.marks s.choices }
    → IfSome ledger.cycle (λ line. IsCycle (edges_after p (kept_by ledger.entries.items)) line.items) → IsNone ledger.cycle
    → IsRemainder p (record { poly = poly; rows = rows; ledger = ledger })
is_remainder p s graph rows flags poly ledger l of is cycle none =
    let K = sides_in (kept_by ledger.entries.items) in
    let closed = last_closed p ledger.entries.items s graph flags l in
    let forced = ledger_forced p (kept_by ledger.entries.items) l.progress.grown.ledger closed in
    let nodes : poly.nodes ≡ p.nodes = ap (λ (q : Polygraph). q.nodes) is ∙ l.graph_of.nodes in
    let known : poly.known ≡ graph.edges = ap (λ (q : Polygraph). q.known) is in
    let choices : poly.choices ≡ open_from K 0 p.choices = ap (λ (q : Polygraph). q.choices) is ∙ choices_left p (kept_by ledger.entries.items) s l.progress.grown in
    let edges : (e : Edge) → (Contains poly.known e ↔ Contains (edges_after p (kept_by ledger.entries.items)) e) = λ e. subst (λ (es : List Edge). Contains es e ↔ Contains (edges_after p (kept_by ledger.entries.items)) e) (sym known) (l.graph_of.from e, l.graph_of.to e) in
    record {
      forced = forced;
      alive = λ dead. acyclic_after p ledger.entries.items graph l.graph_of l.acyclic (dead K closed);
      nodes = nodes;
      known = edges;
      choices = choices;
      reduced = subst IsReduced (sym is) (reduced_last p ledger.entries.items s graph flags graph.nodes l);
      rows = subst (λ (q : Polygraph). AreRowsOf rows (record { nodes = q.nodes; edges = q.known })) (sym is) of;
      ledger = record { shown = l.progress.shown; cycle = cycle };
      rounds = record { last = s; rounds = l.progress.rounds };
      whole = none;
      orders = λ order. (
          let same = same_both (pruned p K) poly (sym nodes) (λ e. ((edges e).1, (edges e).0)) (sym choices) order in
          ((λ fits. same.0 (fits_pruned p K forced order fits)), (λ fits. pruned_fits p K order (same.1 fits))));
    }

-- ---- a ledger with a cycle
pub is_dead_by : (p : Polygraph) (entries : List LedgerEntry) (graph : Graph) → AreShown p [] (posts_in entries) → IsLedger p (kept_by entries) → IsGraphOf p (kept_by entries) graph → IsCyclic graph.edges
    → IsDead p
is_dead_by p entries graph shown l g cyclic = ledger_dead p (kept_by entries) l (cyclic.0, reaches_in graph.edges (edges_after p (kept_by entries)) g.from cyclic.0 cyclic.0 cyclic.1)

pub cycle_in : (p : Polygraph) (entries : List LedgerEntry) (graph : Graph) → IsGraphOf p (kept_by entries) graph → (line : List ℕ) → IsCycle graph.edges line → IsCycle (edges_after p (kept_by entries)) line
cycle_in p entries graph g line c = (c.0, record { inner = c.1.inner; shape = c.1.shape; steps = walk_in graph.edges (edges_after p (kept_by entries)) g.from c.1.inner c.0 c.0 c.1.steps })

-- ---- rounds
posts_entered_by : (seat : ℕ) (posts : List Posted) → posts_in (map (entered.entry_of seat) posts) ≡ posts
posts_entered_by seat [] = refl
posts_entered_by seat (q ∷ qs) = ap (λ l. q ∷ l) (posts_entered_by seat qs)

posts_entered : (history : List (Entry PruneEvent PruneReply)) → posts_in (entered_in history) ≡ ledger_of history
posts_entered [] = refl
posts_entered (x ∷ xs) =
    posts_append (entered_by x.seat x.event x.reply) (entered_in xs)
    ∙ ap (λ l. l ++ posts_in (entered_in xs)) (posts_entered_by x.seat (posts_of x.event x.reply))
    ∙ ap (λ l. posts_of x.event x.reply ++ l) (posts_entered xs)

pub posts_more : (entries next : List LedgerEntry) (history : List (Entry PruneEvent PruneReply)) → next ≡ entries ++ entered_in history → posts_in next ≡ posts_in entries ++ ledger_of history
posts_more entries next history is = ap posts_in is ∙ posts_append entries (entered_in history) ∙ ap (λ l. posts_in entries ++ l) (posts_entered history)

pub progress_more : (p : Polygraph) → IsWhole p → (entries next : List LedgerEntry) (s start now : State) (history : List (Entry PruneEvent PruneReply)) → IsProgress p entries s → start ≡ reopened_state s → IsReached next_of reply_of (Some start) history now
    → next ≡ entries ++ entered_in history → IsProgress p next now
progress_more p whole entries next s start now history i is reached is_next =
    let more = posts_more entries next history is_next in
    let first : reached.0 ≡ reopened_state s = same_Some reached.0 start (sym reached.1) ∙ is in
    let legal = subst (λ (x : State). IsLegal next_of reply_of x history) first reached.2 in
    let last : now ≡ replay next_of (reopened_state s) history = reached.3 ∙ ap (λ (x : State). replay next_of x history) first in
    let r = ran p whole (kept_by entries) (reopened_state s) (grown_reopened p (kept_by entries) s i.grown) history legal in
    let kept : kept_after (kept_by entries) (ledger_of history) ≡ kept_by next = sym (ap (kept_after []) more ∙ kept_append [] (posts_in entries) (ledger_of history)) in
    record {
      grown = subst (λ (x : State). Grown p (kept_by next) x) (sym last) (subst (λ (k : List Kept). Grown p k (replay next_of (reopened_state s) history)) kept r.grown);
      shown = subst (AreShown p []) (sym more) (shown_append p [] (posts_in entries) (ledger_of history) i.shown r.shown);
      rounds = subst (λ l. AreRounds p l now) (sym is_next) (entered.round entries s now history i.rounds (subst (λ (x : State). IsReached next_of reply_of (Some x) history now) is reached));
    }

pub length_posts : (entries : List LedgerEntry) → length (posts_in entries) ≡ length entries
length_posts [] = refl
length_posts (x ∷ xs) = ap suc (length_posts xs)

pub no_fewer : (entries next : List LedgerEntry) (posts : List Posted) → posts_in next ≡ posts_in entries ++ posts → length entries ≤ length next
no_fewer entries next posts more =
    let a = ap length more in let b = length-append (posts_in entries) posts in let d = length_posts entries in let e = length_posts next in omega (arith, a, b, d, e)

pub progress_first : (p : Polygraph) → IsWhole p → (s : State) → s ≡ opening_state p.choices (record { nodes = p.nodes; edges = p.known }) → IsProgress p [] s
progress_first p whole s e = record { grown = subst (λ (x : State). Grown p [] x) (sym e) (grown_opening p whole (opening_state p.choices (record { nodes = p.nodes; edges = p.known })) (opens p)); shown = tt; rounds = subst (λ (x : State). AreRounds p [] x) (sym e) entered.none }
