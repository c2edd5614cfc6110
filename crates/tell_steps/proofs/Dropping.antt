-- A step by which no told edge stands is left out.
use Rattle.tell_steps.proofs.Prelude.{◌≡◌, ◌⊎◌, ℕ, zero, suc, ◌+◌, ◌-◌, ◌<◌, ◌==◌, ◌&&◌, true, false, List, [], ◌∷◌, ◌++◌, length, get_or, map, Option, None, Some, refl, sym, ap, ◌∙◌, subst, inl, inr, arith, lt-ltb, eq-eqb, slice_get}
use Rattle.tell_steps.proofs.Prelude.{IfSome, Contains, remove, false≢true, or_parts, length_push, All-nil, All-cons, All-head, All-tail, Contains-append_left, Contains-push, list_any_at, list_any-append, behind, contains_at, Contains-here}
use Rattle.tell_steps.proofs.Prelude.{ClientSession, HaveNone, Step, ChainOrder, Why, Known, Forced, Chosen, Item, Round, IsWhy, IsLineTold, ends, goes, OneHas, Stands, LineStands, orders_of, AreBuilt, AreStepsTold, round_view, RoundStands}
use Rattle.tell_steps.proofs.Prelude.{AllStand, IsLeafTold, AreRoundsTold, AreAllTold, is_naming, is_named}
use Rattle.desk.proofs.Seating.{snoc_get}
use Rattle.tell_steps.specs.declared.item.Item.TheVariants as item
use Rattle.tell_steps.proofs.Telling.{reason_not_none}

-- ---- whether a step is named
named_by : (items : List Item) (a b k j : ℕ) (o : ChainOrder) → Contains items (item.Edge a b (Forced (suc j) o)) → j ≡ k → is_named items k ≡ true
named_by items a b k j o c same =
    let edge : Item = item.Edge a b (Forced (suc j) o) in
    let own : is_naming k edge ≡ true = ap (λ t. t && ((suc j - 1) == k)) (lt-ltb 0 (suc j) (omega arith)) ∙ eq-eqb (suc j - 1) k (omega (arith, same)) in
    list_any_at (is_naming k) items c.0 edge c.1 (ap (is_naming k) c.2 ∙ own)

parts_unnamed : (a b items : List Item) (k : ℕ) → items ≡ a ++ b → is_named items k ≡ false → (is_named a k ≡ false) × (is_named b k ≡ false)
parts_unnamed a b items k e u = or_parts (is_named a k) (is_named b k) (sym (list_any-append (is_naming k) a b) ∙ ap (λ l. is_named l k) (sym e) ∙ u)

-- ---- why an edge of a told line stands
record EdgeTold (ss : List ClientSession) (steps decided : List ChainOrder) (a b : ℕ) (items : List Item) : Type 0 where
  why : Why
  by : IsWhy ss steps decided a b why
  among : Contains items (item.Edge a b why)

edge_told : (ss : List ClientSession) (steps decided : List ChainOrder) (line : List ℕ) (items : List Item) → IsLineTold ss steps decided line items → (i : ℕ) → i + 1 < length line → EdgeTold ss steps decided (get_or line i 0) (get_or line (i + 1) 0) items
edge_told ss steps decided line items (ends v) i lt = absurd (omega (arith, lt))
edge_told ss steps decided line items (goes a b rest why more w h) zero lt = record { why = why; by = w; among = Contains-here (item.Edge a b why) more }
edge_told ss steps decided line items (goes a b rest why more w h) (suc i) lt =
    let r = edge_told ss steps decided (b ∷ rest) more h i (omega (arith, lt)) in
    let e : suc (i + 1) ≡ suc i + 1 = omega arith in
    let here = item.Edge a b why in
    subst (λ n. EdgeTold ss steps decided (get_or (b ∷ rest) i 0) (get_or (a ∷ b ∷ rest) n 0) (here ∷ more)) e
    (record { why = r.why; by = r.by; among = behind here more (item.Edge (get_or (b ∷ rest) i 0) (get_or (b ∷ rest) (i + 1) 0) r.why) r.among })

-- ---- without step k
-- each other one of these orders is among the others
abbrev Lacks : List ChainOrder → List ChainOrder → ℕ → Type 0
Lacks big small k = (j : ℕ) (o : ChainOrder) → slice_get big j ≡ Some o → (j ≡ k → ⊥) → Contains small o

module _ (ss : List ClientSession) (k : ℕ) where
  stands_without : (big small decided : List ChainOrder) (a b : ℕ) (items : List Item) → Lacks big small k → is_named items k ≡ false → EdgeTold ss big decided a b items → Stands ss big decided a b → Stands ss small decided a b
  stands_without big small decided a b items lacks unnamed t r = record { first = r.first; second = r.second; has = go t.why t.by t.among }
    where
      go : (why : Why) → IsWhy ss big decided a b why → Contains items (item.Edge a b why) → HaveNone ss a b → OneHas ss small (a, b) ⊎ OneHas ss decided (a, b)
      go (Known x) w c have = absurd (reason_not_none ss a b x w.0 have)
      go (Forced zero o) w c have = absurd w
      go (Forced (suc j) o) w c have =
          inl (record { order = o; among = lacks j o w.1.at (λ same. false≢true (sym unnamed ∙ named_by items a b k j o c same)); has = w.1.has })
      go (Chosen o) w c have = inr (record { order = o; among = w.2; has = w.3 })

  line_without : (big small decided : List ChainOrder) (line : List ℕ) (items : List Item) → Lacks big small k → is_named items k ≡ false → IsLineTold ss big decided line items → LineStands ss big decided line → LineStands ss small decided line
  line_without big small decided line items lacks unnamed t h = record { some = h.some; each = λ i lt. stands_without big small decided (get_or line i 0) (get_or line (i + 1) 0) items lacks unnamed (edge_told ss big decided line items t i lt) (h.each i lt) }

  lacks_more : (big small : List ChainOrder) (y : ChainOrder) → Lacks big small k → Lacks (big ++ y ∷ []) (small ++ y ∷ []) k
  lacks_more big small y lacks j o at ne = elim (snoc_get big j y o at) [
    | inl last ↦ subst (Contains (small ++ y ∷ [])) (sym last.1) (Contains-push small y)
    | inr before ↦ Contains-append_left small (y ∷ []) o (lacks j o before ne)
  ]

  walks_without : (big small : List ChainOrder) (steps : List Step) (items : List Item) → Lacks big small k → is_named items k ≡ false → AreStepsTold ss big steps items → AreBuilt ss big steps → AreBuilt ss small steps
  walks_without big small [] items lacks unnamed t b = tt
  walks_without big small (s ∷ steps) items lacks unnamed t b =
      let h = t.2 in
      let parts = parts_unnamed t.0 t.1 items k t.4 unnamed in (
        record {
          edge = b.0.edge;
          two_chains = b.0.two_chains;
          refuted = b.0.refuted;
          ends = b.0.ends;
          rests = line_without big small [] s.walk.items h.against lacks (parts_unnamed (item.Step (length big + 1) s.order h.edge.0 h.edge.1 ∷ []) h.against t.0 k h.whole parts.0).1 h.line b.0.rests;
        },
        walks_without (big ++ s.order ∷ []) (small ++ s.order ∷ []) steps t.1 (lacks_more big small s.order lacks) parts.1 t.3 b.1,
      )

  built_out : (earlier : List ChainOrder) (steps : List Step) (i : ℕ) (items : List Item) → k ≡ length earlier + i → i < length steps → is_named items k ≡ false → AreStepsTold ss earlier steps items → AreBuilt ss earlier steps → AreBuilt ss earlier (remove steps i)
  built_out earlier [] i items at lt unnamed t b = absurd (omega (arith, lt))
  built_out earlier (s ∷ steps) zero items at lt unnamed t b =
      walks_without (earlier ++ s.order ∷ []) earlier steps t.1
      (λ j o there ne. elim (snoc_get earlier j s.order o there) [ inl last ↦ absurd (ne (omega (arith, last.0, at))) | inr before ↦ contains_at earlier j o before ])
      (parts_unnamed t.0 t.1 items k t.4 unnamed).1 t.3 b.1
  built_out earlier (s ∷ steps) (suc i) items at lt unnamed t b =
      (b.0, built_out (earlier ++ s.order ∷ []) steps i t.1 (omega (arith, at, length_push earlier s.order)) (omega (arith, lt)) (parts_unnamed t.0 t.1 items k t.4 unnamed).1 t.3 b.1)

  rounds_without : (big small : List ChainOrder) (rounds : List Round) (items : List Item) → Lacks big small k → is_named items k ≡ false → AreRoundsTold ss big (map round_view rounds) items → AllStand ss big rounds → AllStand ss small rounds
  rounds_without big small [] items lacks unnamed t a = All-nil (λ r. RoundStands ss small (round_view r))
  rounds_without big small (r ∷ rounds) items lacks unnamed t a =
      All-cons (λ x. RoundStands ss small (round_view x)) r rounds (record { decided = here.decided; round = here.round; rests = go (round_view r).line t.2.leaf here.rests })
      (rounds_without big small rounds t.1 lacks (parts_unnamed t.0 t.1 items k t.4 unnamed).1 t.3 (All-tail (λ x. RoundStands ss big (round_view x)) r rounds a))
    where
      here : RoundStands ss big (round_view r)
      here = All-head (λ x. RoundStands ss big (round_view x)) r rounds a

      go : (o : Option (List ℕ)) → IsLeafTold ss big r.decided.items o t.2.cycle → IfSome o (LineStands ss big r.decided.items) → IfSome o (LineStands ss small r.decided.items)
      go None told h = tt
      go (Some line) told h =
          line_without big small r.decided.items line told.edges lacks (parts_unnamed (item.Cycle told.round.start (length told.round.ends.inner + 1) ∷ []) told.edges t.2.cycle k told.whole (parts_unnamed r.before.items t.2.cycle t.0 k t.2.whole (parts_unnamed t.0 t.1 items k t.4 unnamed).0).1).1 told.told h

lacks_out : (steps : List Step) (i : ℕ) → Lacks (orders_of steps) (orders_of (remove steps i)) i
lacks_out [] i j o at ne = absurd (cc)
lacks_out (x ∷ steps) zero zero o at ne = absurd (ne refl)
lacks_out (x ∷ steps) zero (suc j) o at ne = contains_at (orders_of steps) j o at
lacks_out (x ∷ steps) (suc i) zero o at ne = contains_at (orders_of (remove (x ∷ steps) (suc i))) 0 o at
lacks_out (x ∷ steps) (suc i) (suc j) o at ne = behind x.order (orders_of (remove steps i)) o (lacks_out steps i j o at (λ e. ne (ap suc e)))

pub dropped : (ss : List ClientSession) (steps : List Step) (rounds : List Round) (items : List Item) (k : ℕ) → k < length steps → is_named items k ≡ false → AreAllTold ss steps (map round_view rounds) items → AreBuilt ss [] steps → AllStand ss (orders_of steps) rounds → AreBuilt ss [] (remove steps k) × AllStand ss (orders_of (remove steps k)) rounds
dropped ss steps rounds items k lt unnamed t b a = (
  built_out ss k [] steps k t.before (omega arith) lt (parts_unnamed t.before t.after items k t.whole unnamed).0 t.walks b,
  rounds_without ss k (orders_of steps) (orders_of (remove steps k)) rounds t.after (lacks_out steps k) (parts_unnamed t.before t.after items k t.whole unnamed).1 t.rounds_told a,
)
