-- Lines of nodes of which those of the one list come before those of the other.
use Rattle.round_laws.proofs.Prelude.{◌≡◌, ℕ, ◌<◌, ◌≤◌, Bool, true, false, not, List, ◌++◌, Some, sym, ap, ◌∙◌, subst, inl, inr, arith, ◌↔◌, slice_get, filter, AllByRecursion, Contains, cases_Bool, cases_order, false≢true, flat_map-append}
use Rattle.round_laws.proofs.Prelude.{Contains-append_left, Contains-append_right, Contains-append_cases, contains_at, Committed, Map, Replays, member, each_member, MayPrecede, EachPair, IsLine, ops_along, of_kept, kept, ops_within}
use Rattle.round_laws.proofs.Prelude.{EachPair-filter, EachPair-append, parts, pair_at, Agrees, replays_agree, after, Replays-append, place_in, one_node, Alone, HasLine}
use Rattle.round_laws.proofs.Comes.{Comes, comes_ahead, pairs_from}

-- the test tells the two lists apart; the nodes of the one come before those of the other; and behind each line of the one the other
-- reads what it would from this map
pub record Seam (from : Map) (early : Committed → Bool) (first rest : List Committed) (to : Map) : Type 0 where
  pub is_early : (n : Committed) → Contains first n → early n ≡ true
  pub is_late : (n : Committed) → Contains rest n → early n ≡ false
  pub comes : (a b : Committed) → Contains first a → Contains rest b → Comes (first ++ rest) a b
  pub alone : Alone from (first ++ rest) (first ++ rest)
  pub fits : (line : List Committed) → IsLine from first line → AllByRecursion (Agrees (after from (ops_along line)) to) (ops_along rest)

-- ---- the nodes of each
of_first : (from to : Map) (early : Committed → Bool) (first rest : List Committed) → Seam from early first rest to → (n : Committed) → Contains (first ++ rest) n → early n ≡ true → Contains first n
of_first from to early first rest s n c e = elim (Contains-append_cases first rest n c) [
  | inl d ↦ d
  | inr d ↦ absurd (false≢true (sym (s.is_late n d) ∙ e))
]

of_rest : (from to : Map) (early : Committed → Bool) (first rest : List Committed) → Seam from early first rest to → (n : Committed) → Contains (first ++ rest) n → early n ≡ false → Contains rest n
of_rest from to early first rest s n c e = elim (Contains-append_cases first rest n c) [
  | inl d ↦ absurd (false≢true (sym e ∙ s.is_early n d))
  | inr d ↦ d
]

-- ---- where they stand in a line of all
in_parts : (from to : Map) (early : Committed → Bool) (first rest : List Committed) → Seam from early first rest to → (line : List Committed) → IsLine from (first ++ rest) line → EachPair (λ a b. early b ≡ true → early a ≡ true) line
in_parts from to early first rest s line h = pairs_from (λ a b. early b ≡ true → early a ≡ true) line each
  where
    each : (i j : ℕ) (a b : Committed) → slice_get line i ≡ Some a → slice_get line j ≡ Some b → i < j → early b ≡ true → early a ≡ true
    each i j a b p q lt e = elim (cases_Bool (early a)) [
      | inl is ↦ is
      | inr f ↦
          let ca = of_rest from to early first rest s a ((h.same a).1 (contains_at line i a p)) f in
          let cb = of_first from to early first rest s b ((h.same b).1 (contains_at line j b q)) e in
          let le = comes_ahead from (first ++ rest) line h s.alone b a (Contains-append_left first rest b cb) (s.comes b a cb ca) j i q p in
          absurd (omega (arith, le, lt))
    ]

-- each of the one may precede each of the other
pub apart_in : (from to : Map) (early : Committed → Bool) (first rest : List Committed) → Seam from early first rest to → HasLine from (first ++ rest) → (a b : Committed) → Contains first a → Contains rest b → MayPrecede a b
apart_in from to early first rest s (line, h) a b ca cb =
    let da = Contains-append_left first rest a ca in
    let db = Contains-append_right first rest b cb in
    let i = place_in line a ((h.same a).0 da) in
    let j = place_in line b ((h.same b).0 db) in
    let le = comes_ahead from (first ++ rest) line h s.alone a b da (s.comes a b ca cb) i.0 j.0 i.1 j.1 in
    pair_at MayPrecede line i.0 j.0 a b h.kept i.1 j.1 (go i.0 j.0 le i.1 j.1)
  where
    go : (i j : ℕ) → i ≤ j → slice_get line i ≡ Some a → slice_get line j ≡ Some b → i < j
    go i j le p q = elim (cases_order i j) [
      | inl same ↦
          let one : a ≡ b = one_node line i j a b p q same in
          absurd (false≢true (sym (s.is_late b cb) ∙ ap early (sym one) ∙ s.is_early a ca))
      | inr apart ↦ elim apart [
        | inl less ↦ less
        | inr more ↦ absurd (omega (arith, more, le))
      ]
    ]

-- ---- from a line of all
pub line_of_first : (from to : Map) (early : Committed → Bool) (first rest : List Committed) → Seam from early first rest to → HasLine from (first ++ rest) → HasLine from first × HasLine to rest
line_of_first from to early first rest s (line, h) = ((a, first_line), (b, rest_line))
  where
    late : Committed → Bool
    late n = not (early n)

    a : List Committed
    a = filter early line

    b : List Committed
    b = filter late line

    is_late : (n : Committed) → late n ≡ true → early n ≡ false
    is_late n e = elim (cases_Bool (early n)) [
      | inl t ↦ absurd (false≢true (sym (ap not t) ∙ e))
      | inr f ↦ f
    ]

    ops : ops_along line ≡ ops_along a ++ ops_along b
    ops = ap ops_along (parts early line (in_parts from to early first rest s line h)) ∙ flat_map-append (λ (n : Committed). n.ops) a b

    both : Replays from (ops_along a) × Replays (after from (ops_along a)) (ops_along b)
    both = (Replays-append from (ops_along a) (ops_along b)).0 (subst (Replays from) ops h.reads)

    first_line : IsLine from first a
    first_line = record {
      same = λ n. (
        λ c. kept early line n ((h.same n).0 (Contains-append_left first rest n c)) (s.is_early n c),
        λ c. (let d = of_kept early line n c in of_first from to early first rest s n ((h.same n).1 d.0) d.1),
      );
      kept = EachPair-filter MayPrecede early line h.kept;
      reads = both.0;
    }

    same : (n : Committed) → (Contains rest n ↔ Contains b n)
    same n = (
      λ c. kept late line n ((h.same n).0 (Contains-append_right first rest n c)) (ap not (s.is_late n c)),
      λ c. (let d = of_kept late line n c in of_rest from to early first rest s n ((h.same n).1 d.0) (is_late n d.1)),
    )

    fit : AllByRecursion (Agrees (after from (ops_along a)) to) (ops_along b)
    fit = each_member (Agrees (after from (ops_along a)) to) (ops_along b) (λ o c. member (Agrees (after from (ops_along a)) to) (ops_along rest) o (s.fits a first_line) (ops_within b rest (λ n. (same n).1) o c))

    rest_line : IsLine to rest b
    rest_line = record {
      same = same;
      kept = EachPair-filter MayPrecede late line h.kept;
      reads = (replays_agree (after from (ops_along a)) to (ops_along b) fit).0 both.1;
    }

-- ---- from lines of both
pub line_of_both : (from to : Map) (early : Committed → Bool) (first rest : List Committed) → Seam from early first rest to → ((a b : Committed) → Contains first a → Contains rest b → MayPrecede a b) → HasLine from first → HasLine to rest → HasLine from (first ++ rest)
line_of_both from to early first rest s apart (a, h) (b, k) = (
  a ++ b,
  record {
    same = λ n. (there n, back n);
    kept = EachPair-append MayPrecede a b h.kept k.kept (λ x y c d. apart x y ((h.same x).1 c) ((k.same y).1 d));
    reads = subst (Replays from) (sym (flat_map-append (λ (n : Committed). n.ops) a b)) ((Replays-append from (ops_along a) (ops_along b)).1 (h.reads, (replays_agree (after from (ops_along a)) to (ops_along b) fit).1 k.reads));
  },
)
  where
    there : (n : Committed) → Contains (first ++ rest) n → Contains (a ++ b) n
    there n c = elim (Contains-append_cases first rest n c) [
      | inl d ↦ Contains-append_left a b n ((h.same n).0 d)
      | inr d ↦ Contains-append_right a b n ((k.same n).0 d)
    ]

    back : (n : Committed) → Contains (a ++ b) n → Contains (first ++ rest) n
    back n c = elim (Contains-append_cases a b n c) [
      | inl d ↦ Contains-append_left first rest n ((h.same n).1 d)
      | inr d ↦ Contains-append_right first rest n ((k.same n).1 d)
    ]

    fit : AllByRecursion (Agrees (after from (ops_along a)) to) (ops_along b)
    fit = each_member (Agrees (after from (ops_along a)) to) (ops_along b) (λ o c. member (Agrees (after from (ops_along a)) to) (ops_along rest) o (s.fits a h) (ops_within b rest (λ n. (k.same n).1) o c))
