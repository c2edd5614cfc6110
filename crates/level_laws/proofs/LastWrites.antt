-- The last write of a key, and what is left of it where operations are left out.
use Rattle.level_laws.proofs.Prelude.{◌≡◌, ◌⊎◌, ℕ, true, cond, List, [], ◌∷◌, ◌++◌, Option, Some, None, refl, sym, ap, ◌∙◌, subst, inl, inr, arith, Contains, bytes_eq, cases_Bool, same_Some, bytes_eq-Decides, Op, Read, Write, Has, Apart}
use Rattle.level_laws.proofs.Prelude.{some_cases, written, Has-written, first_or_behind, IsSublist, was_in, read_is_no_write, last_write}
use Rattle.list_lemmas.proofs.Elements.{behind}
use Rattle.serializability.specs.Reads.{later}
use Rattle.part_laws.specs.Parts.{done, left, kept}
use Rattle.part_laws.proofs.Chosen.{same_key}
use Rattle.serializability.proofs.Replays.{later_none}

pub same_wid : (k key : List ℕ) (w wid : ℕ) → Write k w ≡ Write key wid → w ≡ wid
same_wid k key w wid e = cc

pub later_some : (a b : Option ℕ) (w : ℕ) → later a b ≡ Some w → ((b ≡ None) × (a ≡ Some w)) ⊎ (b ≡ Some w)
later_some a None w e = inl (refl, e)
later_some a (Some v) w e = inr e

pub this_write : (k key : List ℕ) (y w : ℕ) → cond (bytes_eq k key) (Some y) None ≡ Some w → (k ≡ key) × (y ≡ w)
this_write k key y w e = elim (cases_Bool (bytes_eq k key)) [
  | inl t ↦ let is : Some y ≡ Some w = rw t at e in ((bytes_eq-Decides k key).0 t, same_Some y w is)
  | inr f ↦ let is : None ≡ Some w = rw f at e in absurd (cc)
]

pub none_of_this : (k key : List ℕ) (y : ℕ) → cond (bytes_eq k key) (Some y) None ≡ None → k ≡ key → ⊥
none_of_this k key y e same =
    let t : bytes_eq k key ≡ true = (bytes_eq-Decides k key).1 same in
    let is : Some y ≡ None = rw t at e in
    cc

-- ---- what it says
pub some_written : (key : List ℕ) (ops : List Op) (w : ℕ) → last_write key ops ≡ Some w → Contains ops (Write key w)
some_written key [] w e = absurd (cc)
some_written key (Read k y ∷ ops) w e = behind (Read k y) ops (Write key w) (some_written key ops w e)
some_written key (Write k y ∷ ops) w e = elim (later_some (cond (bytes_eq k key) (Some y) None) (last_write key ops) w e) [
  | inl r ↦ let is = this_write k key y w r.1 in (0, omega arith, ap (λ l. Write l y) is.0 ∙ ap (Write key) is.1)
  | inr f ↦ behind (Write k y) ops (Write key w) (some_written key ops w f)
]

pub none_written : (key : List ℕ) (ops : List Op) → last_write key ops ≡ None → (w : ℕ) → Contains ops (Write key w) → ⊥
none_written key [] e w c = absurd (omega (arith, c.1))
none_written key (Read k y ∷ ops) e w c = elim (first_or_behind (Read k y) ops (Write key w) c) [
  | inl same ↦ read_is_no_write k key y w same
  | inr d ↦ none_written key ops e w d
]
none_written key (Write k y ∷ ops) e w c =
    let r = later_none (cond (bytes_eq k key) (Some y) None) (last_write key ops) e in
    elim (first_or_behind (Write k y) ops (Write key w) c) [
      | inl same ↦ none_of_this k key y r.0 (same_key k key y w same)
      | inr d ↦ none_written key ops r.1 w d
    ]

pub written_none : (key : List ℕ) (ops : List Op) → ((w : ℕ) → Contains ops (Write key w) → ⊥) → last_write key ops ≡ None
written_none key ops none = elim (some_cases (last_write key ops)) [
  | inl e ↦ e
  | inr s ↦ absurd (none s.0 (some_written key ops s.0 s.1))
]

-- ---- where operations are left out
abbrev LastKept : List ℕ → ℕ → List Op → List Op → Type 0
LastKept key w ops less = Apart (written ops) → last_write key ops ≡ Some w → Contains less (Write key w) → last_write key less ≡ Some w

last_both : (key : List ℕ) (w : ℕ) (o : Op) (ops less : List Op) → IsSublist ops less → LastKept key w ops less → LastKept key w (o ∷ ops) (o ∷ less)
last_both key w (Read k y) ops less p ih apart e c = elim (first_or_behind (Read k y) less (Write key w) c) [
  | inl same ↦ absurd (read_is_no_write k key y w same)
  | inr d ↦ ih apart e d
]
last_both key w (Write k y) ops less p ih apart e c = elim (later_some (cond (bytes_eq k key) (Some y) None) (last_write key ops) w e) [
  | inl r ↦
      let none = written_none key less (λ v d. none_written key ops r.0 v (was_in p (Write key v) d)) in
      rw none r.1
  | inr f ↦ elim (first_or_behind (Write k y) less (Write key w) c) [
    | inl same ↦ absurd (apart.0 (subst (λ v. Has v (written ops)) (sym (same_wid k key y w same)) (Has-written ops key w (some_written key ops w f))))
    | inr d ↦ let last = ih apart.1 f d in rw last refl
  ]
]

last_left : (key : List ℕ) (w : ℕ) (o : Op) (ops less : List Op) → IsSublist ops less → LastKept key w ops less → LastKept key w (o ∷ ops) less
last_left key w (Read k y) ops less p ih apart e c = ih apart e c
last_left key w (Write k y) ops less p ih apart e c = elim (later_some (cond (bytes_eq k key) (Some y) None) (last_write key ops) w e) [
  | inl r ↦ absurd (none_written key ops r.0 w (was_in p (Write key w) c))
  | inr f ↦ ih apart.1 f c
]

-- the last write is still the last, if it stays
pub last_kept : (key : List ℕ) (w : ℕ) {ops less : List Op} → IsSublist ops less → LastKept key w ops less
last_kept key w done = λ apart e c. absurd (omega (arith, c.1))
last_kept key w (left o ops less p) = last_left key w o ops less p (last_kept key w p)
last_kept key w (kept o q ops less e p) = subst (λ u. LastKept key w (o ∷ ops) (u ∷ less)) e (last_both key w o ops less p (last_kept key w p))

-- ---- where less is cut
pub record IsCut (ops front back : List Op) (o : Op) : Type 0 where
  pub before : List Op
  pub behind : List Op
  pub is : ops ≡ before ++ o ∷ behind
  pub fore : IsSublist before front
  pub aft : IsSublist behind back

pub cut_at : {ops less : List Op} → IsSublist ops less → (front back : List Op) (o : Op) → less ≡ front ++ o ∷ back → IsCut ops front back o
cut_at done [] back o e = absurd (cc)
cut_at done (x ∷ front) back o e = absurd (cc)
cut_at (left x ops less p) front back o e =
    let c = cut_at p front back o e in
    record { before = x ∷ c.before; behind = c.behind; is = ap (λ l. x ∷ l) c.is; fore = left x c.before front c.fore; aft = c.aft }
cut_at (kept x y ops less s p) [] back o e =
    let here : y ≡ o = cc in
    let there : less ≡ back = cc in
    record { before = []; behind = ops; is = ap (λ z. z ∷ ops) (s ∙ here); fore = done; aft = subst (IsSublist ops) there p }
cut_at (kept x y ops less s p) (z ∷ front) back o e =
    let here : y ≡ z = cc in
    let there : less ≡ front ++ o ∷ back = cc in
    let c = cut_at p front back o there in
    record { before = x ∷ c.before; behind = c.behind; is = ap (λ l. x ∷ l) c.is; fore = kept x z c.before front (s ∙ here) c.fore; aft = c.aft }
