-- The law of two rounds over lists of nodes.
use Rattle.round_laws.proofs.Prelude.{◌≡◌, ◌≢◌, ◌⊎◌, ℕ, ◌+◌, ◌-◌, Bool, true, false, List, [], ◌∷◌, ◌++◌, map, refl, sym, ap, ◌∙◌, subst, inl, inr, arith, ◌↔◌, AllByRecursion, Contains, false≢true, Contains-append_left}
use Rattle.round_laws.proofs.Prelude.{Contains-append_right, behind, mapped, is_earlier, Op, Read, Write, Committed, Map, initial, member, each_member, Firsts, unshift, MayPrecede, EachPair, IsLine, ops_along, NodeWith, node_with}
use Rattle.round_laws.proofs.Prelude.{first_or_behind, Agrees, after, had_or_written, Alone, ops_unshifted, HasLine, lines_unshifted}
use Rattle.round_laws.proofs.Comes.{Comes, LeftAs, left_as}
use Rattle.round_laws.proofs.Seam.{Seam, apart_in, line_of_first, line_of_both}

-- ---- in one session there is one line
one_line : (number : ℕ) (xs ys : List Committed) → ((n : Committed) → (Contains xs n ↔ Contains ys n)) → AllByRecursion (λ n. n.session ≡ number) xs → EachPair MayPrecede xs → EachPair MayPrecede ys → xs ≡ ys
one_line number [] [] same s h k = refl
one_line number [] (y ∷ ys) same s h k = absurd (let c = (same y).1 (0, omega arith, refl) in omega (arith, c.1))
one_line number (x ∷ xs) [] same s h k = absurd (let c = (same x).0 (0, omega arith, refl) in omega (arith, c.1))
one_line number (x ∷ xs) (y ∷ ys) same s h k = ap (λ n. n ∷ xs) first ∙ ap (λ l. y ∷ l) (one_line number xs ys tails s.1 h.1 k.1)
  where
    here : Contains (x ∷ xs) x
    here = (0, omega arith, refl)

    first : x ≡ y
    first = elim (first_or_behind y ys x ((same x).0 here)) [
      | inl e ↦ sym e
      | inr c ↦ elim (first_or_behind x xs y ((same y).1 (0, omega arith, refl))) [
        | inl e ↦ e
        | inr d ↦
            let sy : y.session ≡ number = member (λ (n : Committed). n.session ≡ number) xs y s.1 d in
            let lt = (member (MayPrecede x) xs y h.0 d).0 (s.0 ∙ sym sy) in
            let gt = (member (MayPrecede y) ys x k.0 c).0 (sy ∙ sym s.0) in
            absurd (omega (arith, lt, gt))
      ]
    ]

    never_x : Contains xs x → ⊥
    never_x c = let lt = (member (MayPrecede x) xs x h.0 c).0 refl in omega (arith, lt)

    never_y : Contains ys y → ⊥
    never_y c = let lt = (member (MayPrecede y) ys y k.0 c).0 refl in omega (arith, lt)

    tails : (n : Committed) → (Contains xs n ↔ Contains ys n)
    tails n = (
      λ c. elim (first_or_behind y ys n ((same n).0 (behind x xs n c))) [
        | inl e ↦ absurd (never_x (subst (Contains xs) (sym (first ∙ e)) c))
        | inr d ↦ d
      ],
      λ c. elim (first_or_behind x xs n ((same n).1 (behind y ys n c))) [
        | inl e ↦ absurd (never_y (subst (Contains ys) (sym (sym first ∙ e)) c))
        | inr d ↦ d
      ],
    )

-- ---- places in the whole
back : Firsts → Committed → Committed
back cut c = record { session = c.session; place = c.place - cut c.session; ops = c.ops; begun = c.begun; ended = c.ended }

back_is : (cut : Firsts) (c : Committed) → back cut (unshift cut c) ≡ c
unfolding back
back_is cut c = let same : (c.place + cut c.session) - cut c.session ≡ c.place = omega arith in
    ap (λ p. record { session = c.session; place = p; ops = c.ops; begun = c.begun; ended = c.ended }) same

unshift_once : (cut : Firsts) (a b : Committed) → unshift cut a ≡ unshift cut b → a ≡ b
unshift_once cut a b e = sym (back_is cut a) ∙ ap (back cut) e ∙ back_is cut b

-- ---- a key has no identity that none of a line writes
not_behind : (from : Map) (all line : List Committed) → Alone from all all → ((n : Committed) → Contains line n → Contains all n) → (b : Committed) → Contains all b → (key : List ℕ) (wid : ℕ) → Contains b.ops (Write key wid) → ((n : Committed) → Contains line n → b ≡ n → ⊥) → after from (ops_along line) key ≢ wid
not_behind from all line alone sub b c key wid w other e = elim (had_or_written (ops_along line) from key) [
  | inl had ↦ (alone b b key wid c c w w).1 (sym had ∙ e)
  | inr k ↦
      let n : NodeWith line (Write key wid) = node_with line (Write key wid) (subst (λ v. Contains (ops_along line) (Write key v)) e k) in
      other n.node n.has (alone n.node b key wid (sub n.node n.has) c n.does w).0
]

-- ---- what holds of two rounds
-- the same place and moments
pub record IsAlike (a b : Committed) : Type 0 where
  pub session : a.session ≡ b.session
  pub place : a.place ≡ b.place
  pub begun : a.begun ≡ b.begun
  pub ended : a.ended ≡ b.ended

-- the nodes of the first, those of the opening of the second, the same with their fence alone, and the rest of the second
pub record Rounds (first start bare rest : List Committed) (to : Map) (cut : Firsts) (early mid : Committed → Bool) : Type 0 where
  pub is_first : (n : Committed) → Contains first n → early n ≡ true
  pub is_second : (n : Committed) → Contains (map (unshift cut) (bare ++ rest)) n → early n ≡ false
  pub is_start : (n : Committed) → Contains start n → mid n ≡ true
  pub is_bare : (n : Committed) → Contains bare n → mid n ≡ true
  pub is_rest : (n : Committed) → Contains rest n → mid n ≡ false
  pub alone : Alone initial (first ++ map (unshift cut) (bare ++ rest)) (first ++ map (unshift cut) (bare ++ rest))
  pub alone_second : Alone initial (start ++ rest) (start ++ rest)
  pub new : (b : Committed) (key : List ℕ) (wid : ℕ) → Contains (bare ++ rest) b → Contains b.ops (Write key wid) → to key ≢ wid
  pub comes : (a b : Committed) → Contains first a → Contains (map (unshift cut) (bare ++ rest)) b → Comes (first ++ map (unshift cut) (bare ++ rest)) a b
  pub comes_bare : (a b : Committed) → Contains bare a → Contains rest b → Comes (bare ++ rest) a b
  pub comes_start : (a b : Committed) → Contains start a → Contains rest b → Comes (start ++ rest) a b
  pub held : (key : List ℕ) (wid : ℕ) → Contains (ops_along (bare ++ rest)) (Read key wid) → Contains (ops_along (bare ++ rest)) (Write key wid) ⊎ LeftAs first key (to key)
  pub opens : (key : List ℕ) (wid : ℕ) → Contains (ops_along rest) (Read key wid) → Contains (ops_along rest) (Write key wid) ⊎ (after to (ops_along bare) key ≡ after initial (ops_along start) key)
  pub line : IsLine initial start start
  pub bare_line : IsLine to bare bare
  pub number : ℕ
  pub one : AllByRecursion (λ n. n.session ≡ number) start
  pub one_bare : AllByRecursion (λ n. n.session ≡ number) bare
  pub alike : (a : Committed) → Contains bare a → (b : Committed) × (Contains start b) × IsAlike a b
  pub alike_back : (a : Committed) → Contains start a → (b : Committed) × (Contains bare b) × IsAlike a b

abbrev second : List Committed → List Committed → Firsts → List Committed
second bare rest cut = map (unshift cut) (bare ++ rest)

-- ---- the seam of the two
seam : (first start bare rest : List Committed) (to : Map) (cut : Firsts) (early mid : Committed → Bool) → Rounds first start bare rest to cut early mid → Seam initial early first (second bare rest cut) to
seam first start bare rest to cut early mid r = record { is_early = r.is_first; is_late = r.is_second; comes = r.comes; alone = r.alone; fits = fits }
  where
    whole : List Committed
    whole = first ++ second bare rest cut

    alone_first : Alone initial first first
    alone_first a b key wid c d = r.alone a b key wid (Contains-append_left first (second bare rest cut) a c) (Contains-append_left first (second bare rest cut) b d)

    one : (line : List Committed) → IsLine initial first line → (o : Op) → Contains (ops_along (bare ++ rest)) o → Agrees (after initial (ops_along line)) to o
    one line h (Write key wid) c = tt
    one line h (Read key wid) c = elim (r.held key wid c) [
      | inl w ↦
          let n : NodeWith (bare ++ rest) (Write key wid) = node_with (bare ++ rest) (Write key wid) w in
          let b : Committed = unshift cut n.node in
          let in_second : Contains (second bare rest cut) b = mapped (unshift cut) (bare ++ rest) n.node n.has in
          let never = not_behind initial whole line r.alone (λ m d. Contains-append_left first (second bare rest cut) m ((h.same m).1 d)) b (Contains-append_right first (second bare rest cut) b in_second) key wid n.does
          (λ m d e. false≢true (sym (r.is_second b in_second) ∙ ap early e ∙ r.is_first m ((h.same m).1 d))) in
          (λ e. absurd (never e), λ e. absurd (r.new n.node key wid n.has n.does e))
      | inr l ↦
          let is = left_as first line h alone_first key (to key) l in
          (λ e. sym is ∙ e, λ e. is ∙ e)
    ]

    fits : (line : List Committed) → IsLine initial first line → AllByRecursion (Agrees (after initial (ops_along line)) to) (ops_along (second bare rest cut))
    fits line h = subst (AllByRecursion (Agrees (after initial (ops_along line)) to)) (sym (ops_unshifted cut (bare ++ rest))) (each_member (Agrees (after initial (ops_along line)) to) (ops_along (bare ++ rest)) (one line h))

-- ---- the opening and the rest of the second
abbrev behind_opening : List Committed → Map
behind_opening start = after initial (ops_along start)

itself_agrees : (m : Map) (o : Op) → Agrees m m o
itself_agrees m (Read key wid) = (λ e. e, λ e. e)
itself_agrees m (Write key wid) = tt

open_seam : (first start bare rest : List Committed) (to : Map) (cut : Firsts) (early mid : Committed → Bool) → Rounds first start bare rest to cut early mid → Seam initial mid start rest (behind_opening start)
open_seam first start bare rest to cut early mid r = record {
  is_early = r.is_start;
  is_late = r.is_rest;
  comes = r.comes_start;
  alone = r.alone_second;
  fits = λ line h. (
      let same : start ≡ line = one_line r.number start line h.same r.one r.line.kept h.kept in
      subst (λ l. AllByRecursion (Agrees (after initial (ops_along l)) (behind_opening start)) (ops_along rest)) same (each_member (Agrees (behind_opening start) (behind_opening start)) (ops_along rest) (λ o c. itself_agrees (behind_opening start) o)));
}

bare_seam : (first start bare rest : List Committed) (to : Map) (cut : Firsts) (early mid : Committed → Bool) → Rounds first start bare rest to cut early mid → Seam to mid bare rest (behind_opening start)
bare_seam first start bare rest to cut early mid r = record {
  is_early = r.is_bare;
  is_late = r.is_rest;
  comes = r.comes_bare;
  alone = alone;
  fits = λ line h. (
      let same : bare ≡ line = one_line r.number bare line h.same r.one_bare r.bare_line.kept h.kept in
      subst (λ l. AllByRecursion (Agrees (after to (ops_along l)) (behind_opening start)) (ops_along rest)) same (each_member (Agrees (after to (ops_along bare)) (behind_opening start)) (ops_along rest) each));
}
  where
    in_whole : (n : Committed) → Contains (bare ++ rest) n → Contains (first ++ second bare rest cut) (unshift cut n)
    in_whole n c = Contains-append_right first (second bare rest cut) (unshift cut n) (mapped (unshift cut) (bare ++ rest) n c)

    alone : Alone to (bare ++ rest) (bare ++ rest)
    alone a b key wid c d v w = (unshift_once cut b a (r.alone (unshift cut a) (unshift cut b) key wid (in_whole a c) (in_whole b d) v w).0, r.new a key wid c v)

    each : (o : Op) → Contains (ops_along rest) o → Agrees (after to (ops_along bare)) (behind_opening start) o
    each (Write key wid) c = tt
    each (Read key wid) c = elim (r.opens key wid c) [
      | inr is ↦ (λ e. sym is ∙ e, λ e. is ∙ e)
      | inl w ↦
          let n : NodeWith rest (Write key wid) = node_with rest (Write key wid) w in
          let one = not_behind to (bare ++ rest) bare alone (λ m d. Contains-append_left bare rest m d) n.node (Contains-append_right bare rest n.node n.has) key wid n.does (λ m d e. false≢true (sym (r.is_rest n.node n.has) ∙ ap mid e ∙ r.is_bare m d)) in
          let other = not_behind initial (start ++ rest) start r.alone_second (λ m d. Contains-append_left start rest m d) n.node (Contains-append_right start rest n.node n.has) key wid n.does (λ m d e. false≢true (sym (r.is_rest n.node n.has) ∙ ap mid e ∙ r.is_start m d)) in
          (λ e. absurd (one e), λ e. absurd (other e))
    ]

alike_precede : (a b c : Committed) → IsAlike a b → MayPrecede b c → MayPrecede a c
alike_precede a b c s h = (
  (λ e. (let lt = h.0 (sym s.session ∙ e) in let p = s.place in omega (arith, lt, p))),
  ap (is_earlier c.ended) s.begun ∙ h.1,
)

-- ---- both directions
pub rounds_of_whole : (first start bare rest : List Committed) (to : Map) (cut : Firsts) (early mid : Committed → Bool) → Rounds first start bare rest to cut early mid → HasLine initial (first ++ map (unshift cut) (bare ++ rest)) → HasLine initial first × HasLine initial (start ++ rest)
rounds_of_whole first start bare rest to cut early mid r h =
    let one = line_of_first initial to early first (second bare rest cut) (seam first start bare rest to cut early mid r) h in
    let two = (lines_unshifted to cut (bare ++ rest)).1 one.1 in
    let s = bare_seam first start bare rest to cut early mid r in
    let parts = line_of_first to (behind_opening start) mid bare rest s two in
    let apart = apart_in to (behind_opening start) mid bare rest s two in (
      one.0,
      line_of_both initial (behind_opening start) mid start rest (open_seam first start bare rest to cut early mid r)
          (λ a b c d. (let m = r.alike_back a c in alike_precede a m.0 b m.2 (apart m.0 b m.1 d))) (start, r.line) parts.1,
    )

pub whole_of_rounds : (first start bare rest : List Committed) (to : Map) (cut : Firsts) (early mid : Committed → Bool) → Rounds first start bare rest to cut early mid → ((a b : Committed) → Contains first a → Contains (map (unshift cut) (bare ++ rest)) b → MayPrecede a b) → HasLine initial first → HasLine initial (start ++ rest) → HasLine initial (first ++ map (unshift cut) (bare ++ rest))
whole_of_rounds first start bare rest to cut early mid r may h k =
    let s = open_seam first start bare rest to cut early mid r in
    let parts = line_of_first initial (behind_opening start) mid start rest s k in
    let apart = apart_in initial (behind_opening start) mid start rest s k in
    let two = line_of_both to (behind_opening start) mid bare rest (bare_seam first start bare rest to cut early mid r)
    (λ a b c d. (let m = r.alike a c in alike_precede a m.0 b m.2 (apart m.0 b m.1 d))) (bare, r.bare_line) parts.1 in
    line_of_both initial to early first (second bare rest cut) (seam first start bare rest to cut early mid r) may h ((lines_unshifted to cut (bare ++ rest)).0 two)
