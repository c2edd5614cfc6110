-- Lines of the same nodes, of nodes at other places, and of sessions.
use Rattle.log_laws.proofs.Prelude.{◌≡◌, ◌+◌, ◌-◌, ◌≤◌, List, [], ◌∷◌, ◌++◌, map, refl, sym, ap, ◌∙◌, subst, arith, ◌↔◌, flat_map, AllByRecursion, Contains, ClientSession, Apart, each_from_flat_map, each_from_map, Committed, committed_of}
use Rattle.log_laws.proofs.Prelude.{committed_in, Map, initial, Replays, each_weaker, each_member, learnt_resolved, IsLearnt, Orders, HasOrder}
use Rattle.log_definitions.proofs.OnlyTaken.{orders_from_serial, serial_from_orders}
use Rattle.log_laws.proofs.Lines.{MayPrecede, EachPair, IsLine, ops_along}
use Rattle.log_laws.proofs.Sessions.{Firsts, nodes_of, unshift, in_order}
use Rattle.log_laws.proofs.Lists.{of_mapped, EachPair-map, mapped_within}
use Rattle.log_laws.proofs.Orders.{orders_where_lines}
use Rattle.log_laws.proofs.Txns.{AreLearnt, numbers_of}
use Rattle.log_laws.proofs.Identities.{ops_unshifted}

abbrev pub HasLine : Map → List Committed → Type 0
HasLine from nodes = (line : List Committed) × IsLine from nodes line

-- ---- the same nodes have the same lines
pub line_where_same : (from : Map) (xs ys : List Committed) → ((n : Committed) → (Contains xs n ↔ Contains ys n)) → HasLine from xs → HasLine from ys
line_where_same from xs ys same h = (h.0, record { same = λ n. (λ c. (h.1.same n).0 ((same n).1 c), λ c. (same n).0 ((h.1.same n).1 c)); kept = h.1.kept; reads = h.1.reads })

-- ---- and so have nodes at other places of their sessions
abbrev shift : Firsts → Committed → Committed
shift cut c = record { session = c.session; place = c.place - cut c.session; ops = c.ops; begun = c.begun; ended = c.ended }

shift_unshift : (cut : Firsts) (c : Committed) → shift cut (unshift cut c) ≡ c
shift_unshift cut c = let same : (c.place + cut c.session) - cut c.session ≡ c.place = omega arith in
    ap (λ p. record { session = c.session; place = p; ops = c.ops; begun = c.begun; ended = c.ended }) same

shift_line : (cut : Firsts) (line : List Committed) → map (shift cut) (map (unshift cut) line) ≡ line
shift_line cut [] = refl
shift_line cut (c ∷ line) = ap (λ n. n ∷ map (shift cut) (map (unshift cut) line)) (shift_unshift cut c) ∙ ap (λ l. c ∷ l) (shift_line cut line)

ops_shifted : (cut : Firsts) (line : List Committed) → ops_along (map (shift cut) line) ≡ ops_along line
ops_shifted cut [] = refl
ops_shifted cut (c ∷ line) = ap (λ l. c.ops ++ l) (ops_shifted cut line)

unshift_pair : (cut : Firsts) (a b : Committed) → MayPrecede a b → MayPrecede (unshift cut a) (unshift cut b)
unshift_pair cut a b h = (λ s. (let same : cut a.session ≡ cut b.session = ap cut s in let lt = h.0 s in omega (arith, same, lt)), h.1)

shift_pair : (cut : Firsts) (a b : Committed) → cut a.session ≤ a.place → MayPrecede a b → MayPrecede (shift cut a) (shift cut b)
shift_pair cut a b le h = (λ s. (let same : cut a.session ≡ cut b.session = ap cut s in let lt = h.0 s in omega (arith, same, lt, le)), h.1)

shift_kept : (cut : Firsts) (line : List Committed) → AllByRecursion (λ c. cut c.session ≤ c.place) line → EachPair MayPrecede line → EachPair MayPrecede (map (shift cut) line)
shift_kept cut [] f h = tt
shift_kept cut (c ∷ line) f h =
    (each_from_map (MayPrecede (shift cut c)) (shift cut) line (each_weaker (MayPrecede c) (λ d. MayPrecede (shift cut c) (shift cut d)) (λ d. shift_pair cut c d f.0) line h.0), shift_kept cut line f.1 h.1)

pub lines_unshifted : (from : Map) (cut : Firsts) (nodes : List Committed) → (HasLine from nodes ↔ HasLine from (map (unshift cut) nodes))
lines_unshifted from cut nodes = (to, back)
  where
    to : HasLine from nodes → HasLine from (map (unshift cut) nodes)
    to h = (
      map (unshift cut) h.0,
      record {
        same = λ n. (mapped_within (unshift cut) nodes h.0 (λ m. (h.1.same m).0) n, mapped_within (unshift cut) h.0 nodes (λ m. (h.1.same m).1) n);
        kept = EachPair-map MayPrecede MayPrecede (unshift cut) h.0 (unshift_pair cut) h.1.kept;
        reads = subst (Replays from) (sym (ops_unshifted cut h.0)) h.1.reads;
      },
    )

    behind_cut : (line : List Committed) → IsLine from (map (unshift cut) nodes) line → AllByRecursion (λ c. cut c.session ≤ c.place) line
    behind_cut line h = each_member (λ (c : Committed). cut c.session ≤ c.place) line (λ c d. (
        let m = of_mapped (unshift cut) nodes c ((h.same c).1 d) in
        let place : m.0.place + cut m.0.session ≡ c.place = ap (λ (n : Committed). n.place) m.2 in
        let session : cut m.0.session ≡ cut c.session = ap (λ (n : Committed). cut n.session) m.2 in
        omega (arith, place, session)))

    back : HasLine from (map (unshift cut) nodes) → HasLine from nodes
    back h = (
      map (shift cut) h.0,
      record {
        same = λ n. (
          λ c. mapped_within (shift cut) (map (unshift cut) nodes) h.0 (λ m. (h.1.same m).0) n (subst (λ l. Contains l n) (sym (shift_line cut nodes)) c),
          λ c. subst (λ l. Contains l n) (shift_line cut nodes) (mapped_within (shift cut) h.0 (map (unshift cut) nodes) (λ m. (h.1.same m).1) n c),
        );
        kept = shift_kept cut h.0 (behind_cut h.0 h.1) h.1.kept;
        reads = subst (Replays from) (sym (ops_shifted cut h.0)) h.1.reads;
      },
    )

-- ---- sessions whose outcomes are known
pub nodes_are : (ss : List ClientSession) → AreLearnt ss → committed_in ss ≡ nodes_of ss
unfolding committed_in
nodes_are ss h = ap (flat_map committed_of) (learnt_resolved ss (each_from_flat_map IsLearnt (λ (s : ClientSession). s.txns) ss h))

pub line_where_order : (ss : List ClientSession) → AreLearnt ss → Apart (numbers_of ss) → (HasOrder ss ↔ HasLine initial (nodes_of ss))
line_where_order ss learnt apart =
    let both = orders_where_lines (nodes_of ss) (in_order ss apart) in (
      (λ h. both.0 (h.0, subst (λ nodes. Orders nodes h.0) (nodes_are ss learnt) (orders_from_serial ss h.0 h.1))),
      (λ h. (let o = both.1 h in (o.0, serial_from_orders ss o.0 (subst (λ nodes. Orders nodes o.0) (sym (nodes_are ss learnt)) o.1)))),
    )
