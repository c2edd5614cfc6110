-- Filters, pairs and operations of a line.
use Rattle.log_laws.proofs.Prelude.{◌≡◌, ◌⊎◌, ℕ, ◌≤◌, subst, zero, suc, Bool, true, false, not, List, [], ◌∷◌, ◌++◌, map, refl, sym, ap, ◌∙◌, inl, inr, arith, filter, flat_map, AllByRecursion, Contains, cases_Bool, false≢true, behind, Op}
use Rattle.log_laws.proofs.Prelude.{each_from_append, each_from_map, each_of_flat_map, each_from_flat_map, each_of_filter, each_from_filter, Committed, member, themselves, each_member, mapped, nat_le}
use Rattle.log_laws.proofs.Lines.{EachPair, ops_along}

-- ---- membership
pub first_or_behind : {X : Type 0} (x : X) (xs : List X) (y : X) → Contains (x ∷ xs) y → (x ≡ y) ⊎ Contains xs y
first_or_behind x xs y (zero, lt, e) = inl e
first_or_behind x xs y (suc i, lt, e) = inr (i, omega (arith, lt), e)

pub of_kept : {X : Type 0} (p : X → Bool) (xs : List X) (x : X) → Contains (filter p xs) x → Contains xs x × (p x ≡ true)
of_kept {X} p xs x c =
    let P : X → Type 0 = λ y. Contains xs y × (p y ≡ true) in
    member P (filter p xs) x (each_from_filter P p xs (each_member (λ y. p y ≡ true → P y) xs (λ y d e. (d, e)))) c

pub kept : {X : Type 0} (p : X → Bool) (xs : List X) (x : X) → Contains xs x → p x ≡ true → Contains (filter p xs) x
kept {X} p xs x c e =
    let P : X → Type 0 = Contains (filter p xs) in
    member (λ y. p y ≡ true → P y) xs x (each_of_filter P p xs (themselves (filter p xs))) c e

pub of_mapped : {X Y : Type 0} (f : X → Y) (xs : List X) (y : Y) → Contains (map f xs) y → (x : X) × (Contains xs x) × (f x ≡ y)
of_mapped {X} {Y} f xs y c =
    let P : Y → Type 0 = λ z. (x : X) × (Contains xs x) × (f x ≡ z) in
    member P (map f xs) y (each_from_map P f xs (each_member (λ x. P (f x)) xs (λ x d. (x, d, refl)))) c

-- ---- operations of nodes
pub op_of_node : (xs : List Committed) (node : Committed) (o : Op) → Contains xs node → Contains node.ops o → Contains (ops_along xs) o
op_of_node xs node o c d =
    let P : Op → Type 0 = Contains (ops_along xs) in
    member P node.ops o (member (λ (n : Committed). AllByRecursion P n.ops) xs node (each_of_flat_map P (λ (n : Committed). n.ops) xs (themselves (ops_along xs))) c) d

pub record NodeWith (xs : List Committed) (o : Op) : Type 0 where
  pub node : Committed
  pub has : Contains xs node
  pub does : Contains node.ops o

pub node_with : (xs : List Committed) (o : Op) → Contains (ops_along xs) o → NodeWith xs o
node_with xs o c =
    let P : Op → Type 0 = NodeWith xs in
    member P (ops_along xs) o (each_from_flat_map P (λ (n : Committed). n.ops) xs (each_member (λ (n : Committed). AllByRecursion P n.ops) xs (λ n d. each_member P n.ops (λ p e. record { node = n; has = d; does = e })))) c

pub ops_within : (xs ys : List Committed) → ((node : Committed) → Contains xs node → Contains ys node) → (o : Op) → Contains (ops_along xs) o → Contains (ops_along ys) o
ops_within xs ys sub o c = let n = node_with xs o c in op_of_node ys n.node o (sub n.node n.has) n.does

-- ---- pairs
pub EachPair-filter : {X : Type 0} (R : X → X → Type 0) (p : X → Bool) (xs : List X) → EachPair R xs → EachPair R (filter p xs)
EachPair-filter R p [] h = tt
EachPair-filter R p (x ∷ xs) h = elim (cases_Bool (p x)) [
  | inl e ↦ rw e (each_from_filter (R x) p xs (each_member (λ y. p y ≡ true → R x y) xs (λ y c _. member (R x) xs y h.0 c)), EachPair-filter R p xs h.1)
  | inr e ↦ rw e (EachPair-filter R p xs h.1)
]

pub EachPair-append : {X : Type 0} (R : X → X → Type 0) (xs ys : List X) → EachPair R xs → EachPair R ys → ((x y : X) → Contains xs x → Contains ys y → R x y) → EachPair R (xs ++ ys)
EachPair-append R [] ys h k f = k
EachPair-append R (x ∷ xs) ys h k f =
    (each_from_append (R x) xs ys h.0 (each_member (R x) ys (λ y c. f x y (0, omega arith, refl) c)), EachPair-append R xs ys h.1 k (λ a y c d. f a y (behind x xs a c) d))

pub EachPair-map : {X Y : Type 0} (R : X → X → Type 0) (S : Y → Y → Type 0) (f : X → Y) (xs : List X) → ((x y : X) → R x y → S (f x) (f y)) → EachPair R xs → EachPair S (map f xs)
EachPair-map R S f [] g h = tt
EachPair-map R S f (x ∷ xs) g h = (each_from_map (S (f x)) f xs (each_member (λ y. S (f x) (f y)) xs (λ y c. g x y (member (R x) xs y h.0 c))), EachPair-map R S f xs g h.1)

-- ---- a line in which all that pass stand before all that do not
pub none_pass : {X : Type 0} (p : X → Bool) (xs : List X) → AllByRecursion (λ x. p x ≡ false) xs → (filter p xs ≡ []) × (filter (λ x. not (p x)) xs ≡ xs)
none_pass p [] h = (refl, refl)
none_pass p (x ∷ xs) h = let r = none_pass p xs h.1 in (rw h.0 r.0, rw h.0 (ap (λ l. x ∷ l) r.1))

pub parts : {X : Type 0} (p : X → Bool) (xs : List X) → EachPair (λ a b. p b ≡ true → p a ≡ true) xs → xs ≡ filter p xs ++ filter (λ x. not (p x)) xs
parts p [] h = refl
parts {X} p (x ∷ xs) h = elim (cases_Bool (p x)) [
  | inl e ↦ rw e (ap (λ l. x ∷ l) (parts p xs h.1))
  | inr e ↦
      let none : AllByRecursion (λ y. p y ≡ false) xs = each_member (λ y. p y ≡ false) xs (λ y c. elim (cases_Bool (p y)) [
        | inl t ↦ absurd (false≢true (sym e ∙ member (λ b. p b ≡ true → p x ≡ true) xs y h.0 c t))
        | inr f ↦ f
      ]) in
      let r = none_pass p xs none in
      rw e (sym (ap (λ l. l ++ x ∷ filter (λ y. not (p y)) xs) r.0 ∙ ap (λ l. x ∷ l) r.1))
]

pub all_pass : {X : Type 0} (p : X → Bool) (xs : List X) → AllByRecursion (λ x. p x ≡ true) xs → filter p xs ≡ xs
all_pass p [] h = refl
all_pass p (x ∷ xs) h = rw h.0 (ap (λ l. x ∷ l) (all_pass p xs h.1))

-- ---- lists joined
pub in_flat : {X Y : Type 0} (f : X → List Y) (xs : List X) (x : X) (y : Y) → Contains xs x → Contains (f x) y → Contains (flat_map f xs) y
in_flat {X} {Y} f xs x y c d =
    let P : Y → Type 0 = Contains (flat_map f xs) in
    member P (f x) y (member (λ z. AllByRecursion P (f z)) xs x (each_of_flat_map P f xs (themselves (flat_map f xs))) c) d

pub of_flat : {X Y : Type 0} (f : X → List Y) (xs : List X) (y : Y) → Contains (flat_map f xs) y → (x : X) × (Contains xs x) × (Contains (f x) y)
of_flat {X} {Y} f xs y c =
    let P : Y → Type 0 = λ z. (x : X) × (Contains xs x) × (Contains (f x) z) in
    member P (flat_map f xs) y (each_from_flat_map P f xs (each_member (λ x. AllByRecursion P (f x)) xs (λ x d. each_member P (f x) (λ z e. (x, d, e))))) c

pub mapped_within : (f : Committed → Committed) (xs ys : List Committed) → ((node : Committed) → Contains xs node → Contains ys node) → (node : Committed) → Contains (map f xs) node → Contains (map f ys) node
mapped_within f xs ys sub node c =
    let d = of_mapped f xs node c in
    subst (Contains (map f ys)) d.2 (mapped f ys d.0 (sub d.0 d.1))

pub test_le : (m n : ℕ) → nat_le m n ≡ true → m ≤ n
test_le m n h = grind arith
