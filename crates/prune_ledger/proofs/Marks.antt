-- What a written mark does to the state, and to the free choices.
use Rattle.prune_ledger.proofs.Prelude.{◌≡◌, ◌⊎◌, ℕ, zero, suc, ◌+◌, ◌<◌, ◌≤◌, Bool, true, false, cond, ◌&&◌, ◌||◌, not, List, [], ◌∷◌, length, drop, Option, Some, refl, sym, ap, ◌∙◌, subst, inl, inr, arith, get_set, slice_get, slice_set}
use Rattle.prune_ledger.proofs.Prelude.{replicate, option_map_or, AllByRecursion, Contains, false≢true, length-set, length-replicate, and-false, or-true, same_Some, Choice, Graph, each_contained, Side, One, Two, edges_of, other, Joins}
use Rattle.prune_ledger.proofs.Prelude.{JoinsBoth, State, no_mark, refuses, refusing, is_free, free_from, with_edges, refused, hand_out, taken, ChoiceState}
use Rattle.prune_ledger.specs.Kept.{IsPast, IsKept}

-- ---- free choices
abbrev NoneBefore : ℕ → List ChoiceState → Type 0
NoneBefore n marks = (k : ℕ) (m : ChoiceState) → k < n → slice_get marks k ≡ Some m → is_free m ≡ false

skipped : (b : Bool) (k : ℕ) (o : Option ℕ) → b ≡ false → cond b (Some k) o ≡ o
skipped true k o e = absurd (false≢true (sym e))
skipped false k o e = refl

free_after : (n base : ℕ) (marks : List ChoiceState) → NoneBefore n marks → free_from (base + n) (drop n marks) ≡ free_from base marks
free_after zero base marks h = let e : base + 0 ≡ base = omega arith in ap (λ b. free_from b marks) e
free_after (suc n) base [] h = refl
free_after (suc n) base (m ∷ ms) h =
    let e : base + suc n ≡ base + 1 + n = omega arith in
    ap (λ b. free_from b (drop n ms)) e
    ∙ free_after n (base + 1) ms (λ k x lt at. h (suc k) x (omega arith) at)
    ∙ sym (skipped (is_free m) base (free_from (base + 1) ms) (h 0 m (omega arith) refl))

pub free_past : (cursor : ℕ) (marks : List ChoiceState) → IsPast cursor marks → free_from cursor (drop cursor marks) ≡ free_from 0 marks
free_past cursor marks h = let e : cursor ≡ 0 + cursor = omega arith in ap (λ b. free_from b (drop cursor marks)) e ∙ free_after cursor 0 marks h.each

found : (b : Bool) (base c : ℕ) (o : Option ℕ) → Some c ≡ cond b (Some base) o → ((b ≡ true) × (c ≡ base)) ⊎ ((b ≡ false) × (Some c ≡ o))
found true base c o e = inl (refl, same_Some c base e)
found false base c o e = inr (refl, e)

least_free : (marks : List ChoiceState) (base c : ℕ) → Some c ≡ free_from base marks → (k : ℕ) (m : ChoiceState) → base + k < c → slice_get marks k ≡ Some m → is_free m ≡ false
least_free [] base c e k m lt at = absurd (cc)
least_free (x ∷ xs) base c e zero m lt at = elim (found (is_free x) base c (free_from (base + 1) xs) e) [
  | inl p ↦ (let q = p.1 in absurd (omega (arith, q)))
  | inr p ↦ subst (λ (y : ChoiceState). is_free y ≡ false) (same_Some x m at) p.0
]
least_free (x ∷ xs) base c e (suc k) m lt at = elim (found (is_free x) base c (free_from (base + 1) xs) e) [
  | inl p ↦ (let q = p.1 in absurd (omega (arith, q)))
  | inr p ↦ least_free xs (base + 1) c p.1 k m (omega arith) at
]

pub handed_not_free : (m : ChoiceState) → is_free (hand_out m) ≡ false
handed_not_free m = and-false (not (m.one || m.two))

pub refusing_not_free : (m : ChoiceState) (side : Side) → is_free (refusing m side) ≡ false
refusing_not_free m One = refl
refusing_not_free m Two = ap (λ b. not b && not m.handed) (or-true m.one)

pub past_taken : (marks : List ChoiceState) (c : ℕ) (m : ChoiceState) → Some c ≡ free_from 0 marks → IsPast (c + 1) (slice_set marks c (hand_out m))
past_taken marks c m e = record {
  each = λ k x lt at. (elim (get_set marks c k (hand_out m) x at) [
    | inl p ↦ subst (λ (y : ChoiceState). is_free y ≡ false) (sym p.1) (handed_not_free m)
    | inr old ↦ (let apart = old.0 in least_free marks 0 c e k x (omega (arith, lt, apart)) old.1)
  ]);
}

pub past_refused : (cursor : ℕ) (marks : List ChoiceState) (c : ℕ) (m : ChoiceState) (side : Side) → IsPast cursor marks → IsPast cursor (slice_set marks c (refusing m side))
past_refused cursor marks c m side h = record {
  each = λ k x lt at. (elim (get_set marks c k (refusing m side) x at) [
    | inl p ↦ subst (λ (y : ChoiceState). is_free y ≡ false) (sym p.1) (refusing_not_free m side)
    | inr old ↦ h.each k x lt old.1
  ]);
}

pub past_none : (marks : List ChoiceState) → IsPast 0 marks
past_none marks = record { each = λ k m lt at. absurd (omega (arith, lt)) }

pub kept_taken : (n : ℕ) (choices : List Choice) (marks : List ChoiceState) (cursor c : ℕ) (m : ChoiceState) → IsKept n choices marks cursor → Some c ≡ free_from 0 marks → c < length marks → IsKept n choices (slice_set marks c (hand_out m)) (c + 1)
kept_taken n choices marks cursor c m h e lt =
    let same = length-set marks c (hand_out m) in
    record { few = h.few; joined = h.joined; marked = same ∙ h.marked; within = omega (arith, lt, same); past = past_taken marks c m e }

pub kept_refused : (n now : ℕ) (choices : List Choice) (marks : List ChoiceState) (cursor c : ℕ) (m : ChoiceState) (side : Side) → IsKept n choices marks cursor → now ≡ n → IsKept now choices (slice_set marks c (refusing m side)) cursor
kept_refused n now choices marks cursor c m side h e =
    let same = length-set marks c (refusing m side) in
    let w = h.within in
    record { few = h.few; joined = subst (λ k. AllByRecursion (JoinsBoth k) choices) (sym e) h.joined; marked = same ∙ h.marked; within = omega (arith, w, same); past = past_refused cursor marks c m side h.past }

-- ---- a choice and its sides
pub contained_at : {A : Type 0} (xs : List A) (k : ℕ) (x : A) → slice_get xs k ≡ Some x → Contains xs x
contained_at [] k x e = absurd (cc)
contained_at (y ∷ ys) zero x e = (0, omega arith, same_Some y x e)
contained_at (y ∷ ys) (suc k) x e = let r = contained_at ys k x e in (suc r.0, omega (arith, r.1), r.2)

side_of_both : (n : ℕ) (h : Choice) (side : Side) → JoinsBoth n h → AllByRecursion (Joins n) (edges_of h side)
side_of_both n h One j = j.first
side_of_both n h Two j = j.second

pub side_joins : (n : ℕ) (choices : List Choice) (k : ℕ) (h : Choice) (side : Side) → AllByRecursion (JoinsBoth n) choices → slice_get choices k ≡ Some h → AllByRecursion (Joins n) (edges_of h side)
side_joins n choices k h side j at = side_of_both n h side (each_contained (JoinsBoth n) choices h j (contained_at choices k h at))

-- ---- states
pub state_taken : (s : State) (choice : ℕ) (m : ChoiceState) → Some choice ≡ free_from 0 s.marks → slice_get s.marks choice ≡ Some m
    → ◌≡◌ {A = State} (record { choices = s.choices; graph = s.graph; marks = slice_set s.marks choice (hand_out m); dead = s.dead }) (taken s (free_from 0 s.marks))
state_taken s choice m free at =
    subst (λ (o : Option ℕ). ◌≡◌ {A = State} (record { choices = s.choices; graph = s.graph; marks = slice_set s.marks choice (hand_out m); dead = s.dead }) (taken s o)) free
    (ap (λ (o : Option ChoiceState). with_marks s (option_map_or (λ (n : ChoiceState). slice_set s.marks choice (hand_out n)) o s.marks)) (sym at))
  where
    with_marks : State → List ChoiceState → State
    with_marks s ms = record { choices = s.choices; graph = s.graph; marks = ms; dead = s.dead }

abbrev state_of : State → Graph → List ChoiceState → Bool → State
state_of s graph marks dead = record { choices = s.choices; graph = graph; marks = marks; dead = dead }

pub state_refused : (s : State) (choice : ℕ) (side : Side) (h : Choice) (m : ChoiceState) (graph : Graph) (dead : Bool) → slice_get s.choices choice ≡ Some h → slice_get s.marks choice ≡ Some m
    → graph ≡ with_edges s.graph (edges_of h (other side)) → dead ≡ refuses m (other side)
    → ◌≡◌ {A = State} (record { choices = s.choices; graph = graph; marks = slice_set s.marks choice (refusing m side); dead = dead }) (refused s choice side)
state_refused s choice side h m graph dead a b e d =
    λ i. state_of s
    ((e ∙ ap (λ (o : Option Choice). with_edges s.graph (option_map_or (λ (g : Choice). edges_of g (other side)) o [])) (sym a)) i)
    (ap (λ (o : Option ChoiceState). option_map_or (λ (n : ChoiceState). slice_set s.marks choice (refusing n side)) o s.marks) (sym b) i)
    ((d ∙ ap (λ (o : Option ChoiceState). option_map_or (λ (n : ChoiceState). refuses n (other side)) o false) (sym b)) i)

pub kept_opening : (n : ℕ) (choices : List Choice) (marks : List ChoiceState) → length choices ≤ 100000 → AllByRecursion (JoinsBoth n) choices → marks ≡ replicate (length choices) no_mark → IsKept n choices marks 0
kept_opening n choices marks few joined e =
    record { few = few; joined = joined; marked = ap length e ∙ length-replicate (length choices) no_mark; within = omega arith; past = past_none marks }
