-- The nodes that seats hold.
use Rattle.cube_machine.proofs.Prelude.{◌≡◌, ℕ, zero, suc, ◌+◌, ◌≤◌, Bool, true, not, ◌||◌, eqb, List, [], ◌∷◌, length, get_or, Option, None, Some, refl, sym, ap, ◌∙◌, inl, inr, arith, slice_get, is_some, list_any, cases_Bool, false≢true}
use Rattle.cube_machine.proofs.Prelude.{cond-true, cond-false, eqb-true, eq-eqb, slice_get-get_or, same_Some, same_bool, Cube, Node, is_open, is_held, is_held_by, held_from, has_live, CubeState, Held, none-some, any_at, nodes_with}
use Rattle.cube_machine.proofs.Prelude.{nodes_of, cubes_after, HasMark, IsTree, TreeNode}
use Rattle.list_lemmas.proofs.Options.{some_of}
use Rattle.cube_machine.proofs.Lists.{any_found, any_either}
use Rattle.cube_machine.proofs.Cubes.{as_many, any_mark}
use Rattle.cube_machine.proofs.Places.{some_open}

-- ---- marks
pub held_mark : (seat : ℕ) (m : CubeState) → is_held_by seat m ≡ true → m ≡ Held seat
held_mark seat (Held s) t = ap (λ n. Held n) (eqb-true s seat t)
held_mark seat _ t = absurd (false≢true t)

pub mark_held : (seat : ℕ) (m : CubeState) → m ≡ Held seat → is_held_by seat m ≡ true
mark_held seat m e = ap (is_held_by seat) e ∙ eq-eqb seat seat refl

some_seat : (m : CubeState) → is_held m ≡ true → (seat : ℕ) × (m ≡ Held seat)
some_seat (Held s) t = (s, refl)
some_seat _ t = absurd (false≢true t)

pub head_mark : (x : TreeNode) (xs : List TreeNode) (m : CubeState) → x.mark ≡ m → HasMark (x ∷ xs) 0 m
head_mark x xs m e = record { node = x; at = refl; marked = e }

pub tail_mark : (x : TreeNode) (xs : List TreeNode) (k : ℕ) (m : CubeState) → HasMark xs k m → HasMark (x ∷ xs) (suc k) m
tail_mark x xs k m h = record { node = h.node; at = h.at; marked = h.marked }

-- ---- the node that a seat holds
none_held : (seat k : ℕ) (cs : List Cube) (xs : List TreeNode) → length cs ≡ length xs → ((j : ℕ) → HasMark xs j (Held seat) → ⊥) → held_from seat k (nodes_with cs xs) ≡ None
unfolding nodes_with
none_held seat k cs [] e h = refl
none_held seat k [] (x ∷ xs) e h = absurd (omega (arith, e))
none_held seat k (c ∷ cs) (x ∷ xs) e h = elim (cases_Bool (is_held_by seat x.mark)) [
  | inl t ↦ absurd (h 0 (head_mark x xs (Held seat) (held_mark seat x.mark t)))
  | inr f ↦ cond-false (is_held_by seat x.mark) (Some k) (held_from seat (k + 1) (nodes_with cs xs)) f ∙ none_held seat (k + 1) cs xs (omega (arith, e)) (λ j m. h (suc j) (tail_mark x xs j (Held seat) m))
]

one_held : (seat k id : ℕ) (cs : List Cube) (xs : List TreeNode) → length cs ≡ length xs → HasMark xs id (Held seat) → ((j : ℕ) → HasMark xs j (Held seat) → j ≡ id) → held_from seat k (nodes_with cs xs) ≡ Some (k + id)
unfolding nodes_with
one_held seat k id cs [] e m h = absurd (none-some m.node m.at)
one_held seat k id [] (x ∷ xs) e m h = absurd (omega (arith, e))
one_held seat k zero (c ∷ cs) (x ∷ xs) e m h =
    let t = ap (λ (n : TreeNode). is_held_by seat n.mark) (same_Some x m.node m.at) ∙ mark_held seat m.node.mark m.marked in
    let z : k ≡ k + 0 = omega arith in
    cond-true (is_held_by seat x.mark) (Some k) (held_from seat (k + 1) (nodes_with cs xs)) t ∙ ap (λ n. Some n) z
one_held seat k (suc id) (c ∷ cs) (x ∷ xs) e m h = elim (cases_Bool (is_held_by seat x.mark)) [
  | inl t ↦ (let z = h 0 (head_mark x xs (Held seat) (held_mark seat x.mark t)) in absurd (omega (arith, z)))
  | inr f ↦ (let n : k + 1 + id ≡ k + suc id = omega arith in
      cond-false (is_held_by seat x.mark) (Some k) (held_from seat (k + 1) (nodes_with cs xs)) f
      ∙ one_held seat (k + 1) id cs xs (omega (arith, e)) (record { node = m.node; at = m.at; marked = m.marked }) (λ j g. (let z = h (suc j) (tail_mark x xs j (Held seat) g) in omega (arith, z)))
      ∙ ap (λ i. Some i) n)
]

slot_is : (xs : List TreeNode) (numbers : List ℕ) (held : List (Option ℕ)) (solved : Bool) (seat : ℕ) (o : Option ℕ) → IsTree xs numbers held solved → slice_get held seat ≡ Some o → o ≡ held_from seat 0 (nodes_of xs)
unfolding nodes_of
slot_is xs numbers held solved seat None t at =
    sym (none_held seat 0 (cubes_after [] xs) xs (as_many xs) (λ j m. none-some j (same_Some None (Some j) (sym at ∙ t.slotted seat j m))))
slot_is xs numbers held solved seat (Some id) t at =
    let z : 0 + id ≡ id = omega arith in
    sym (one_held seat 0 id (cubes_after [] xs) xs (as_many xs) (t.holds seat id at) (λ j m. same_Some j id (same_Some (Some j) (Some id) (sym (t.slotted seat j m) ∙ at))) ∙ ap (λ n. Some n) z)

pub slot_read : (xs : List TreeNode) (numbers : List ℕ) (held : List (Option ℕ)) (solved : Bool) (seat : ℕ) → IsTree xs numbers held solved → seat ≤ 16 → get_or held seat None ≡ held_from seat 0 (nodes_of xs)
slot_read xs numbers held solved seat t le =
    let s = t.seats in slot_is xs numbers held solved seat (get_or held seat None) t (slice_get-get_or held seat None (omega (arith, s, le)))

-- the slot of a seat that holds a node, and of one that holds none
pub slot_at : (xs : List TreeNode) (numbers : List ℕ) (held : List (Option ℕ)) (solved : Bool) (seat : ℕ) (o : Option ℕ) → IsTree xs numbers held solved → seat ≤ 16 → held_from seat 0 (nodes_of xs) ≡ o → slice_get held seat ≡ Some o
slot_at xs numbers held solved seat o t le e =
    let s = t.seats in
    slice_get-get_or held seat None (omega (arith, s, le)) ∙ ap (λ p. Some p) (slot_read xs numbers held solved seat t le ∙ e)

-- ---- whether a node is held

any_held : (xs : List TreeNode) (numbers : List ℕ) (held : List (Option ℕ)) (solved : Bool) → IsTree xs numbers held solved → list_any is_some held ≡ list_any (λ (x : TreeNode). is_held x.mark) xs
any_held xs numbers held solved t =
    same_bool (list_any is_some held) (list_any (λ (x : TreeNode). is_held x.mark) xs)
    (λ a. (let r = any_found is_some held a in
    let k = some_of r.1.0 r.1.1.1 in
    let m = t.holds r.0 k.0 (r.1.1.0 ∙ ap (λ o. Some o) k.1) in
    any_at (λ (x : TreeNode). is_held x.mark) xs k.0 m.node m.at (ap is_held m.marked)))
    (λ a. (let r = any_found (λ (x : TreeNode). is_held x.mark) xs a in
    let s = some_seat r.1.0.mark r.1.1.1 in
    any_at is_some held s.0 (Some r.0) (t.slotted s.0 r.0 (record { node = r.1.0; at = r.1.1.0; marked = s.1 })) refl))

pub held_any : (xs : List TreeNode) (numbers : List ℕ) (held : List (Option ℕ)) (solved : Bool) → IsTree xs numbers held solved → list_any is_some held ≡ list_any (λ (x : Node). is_held x.mark) (nodes_of xs)
held_any xs numbers held solved t = any_held xs numbers held solved t ∙ sym (any_mark is_held xs)

-- ---- whether a node is open or held
pub live_is : (xs : List TreeNode) (numbers : List ℕ) (held : List (Option ℕ)) (solved : Bool) → IsTree xs numbers held solved → (not (eqb (length numbers) 0) || list_any is_some held) ≡ has_live (nodes_of xs)
live_is xs numbers held solved t =
    (λ i. not (eqb (length (t.listed i)) 0) || any_held xs numbers held solved t i)
    ∙ ap (λ b. b || list_any (λ (x : TreeNode). is_held x.mark) xs) (sym (some_open 0 xs))
    ∙ sym (any_either (λ (x : TreeNode). is_open x.mark) (λ (x : TreeNode). is_held x.mark) xs)
    ∙ sym (any_mark (λ m. is_open m || is_held m) xs)
