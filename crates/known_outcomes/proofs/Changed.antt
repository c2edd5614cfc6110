-- A loop that changes each element of a slice in place, seen as a list of values.
use Rattle.std.proofs.Common.{◌≡◌, ℕ, Bool, zero, suc, ◌+◌, ◌<◌, ◌≤◌, List, [], ◌∷◌, length, map, get_or, set, refl, sym, ap, ◌∙◌, arith}
use Rattle.std.proofs.lemmas.List.{length-map, map-set, get_or-map}
use Rattle.std.proofs.Math.Path.{fun_ext}
use Rattle.session_log.specs.Text.{ClientSession}
use Rattle.log_definitions.specs.Unknown.{settle, settled, taken, resolved}

-- the first so many are changed
pub changed : {Y : Type 0} (g : Y → Y) → ℕ → List Y → List Y
changed g zero ys = ys
changed g (suc i) [] = []
changed g (suc i) (y ∷ ys) = g y ∷ changed g i ys

length_changed : {Y : Type 0} (g : Y → Y) (i : ℕ) (ys : List Y) → length (changed g i ys) ≡ length ys
unfolding changed
length_changed g zero ys = refl
length_changed g (suc i) [] = refl
length_changed g (suc i) (y ∷ ys) = ap suc (length_changed g i ys)

changed_more : {Y : Type 0} (g : Y → Y) (i : ℕ) (ys : List Y) (e : Y) → i < length ys → set (changed g i ys) i (g (get_or (changed g i ys) i e)) ≡ changed g (suc i) ys
unfolding changed
changed_more g zero [] e h = absurd (omega (arith, h))
changed_more g zero (y ∷ ys) e h = refl
changed_more g (suc i) [] e h = absurd (omega (arith, h))
changed_more g (suc i) (y ∷ ys) e h = ap (λ l. g y ∷ l) (changed_more g i ys e (omega (arith, h)))

pub none_changed : {Y : Type 0} (g : Y → Y) (ys : List Y) → ys ≡ changed g 0 ys
unfolding changed
none_changed g ys = refl

pub one_changed : {X Y : Type 0} (V : X → Y) (g : Y → Y) (i : ℕ) (now old : List X) (x y : X) → i < length old → V y ≡ g (V (get_or now i x)) → map V now ≡ changed g i (map V old)
    → map V (set now i y) ≡ changed g (i + 1) (map V old)
one_changed V g i now old x y lt is so =
    let ys = map V old in
    let within : i < length ys = omega (arith, lt, length-map old V) in
    let here : i < length now = omega (arith, within, length-map now V, ap length so, length_changed g i ys) in
    let next : suc i ≡ i + 1 = omega arith in
    map-set V now i y
    ∙ ap (λ l. set l i (V y)) so
    ∙ ap (λ v. set (changed g i ys) i v) (is ∙ ap g (sym (get_or-map V now i x (V x) here) ∙ ap (λ l. get_or l i (V x)) so))
    ∙ changed_more g i ys (V x) within
    ∙ ap (λ n. changed g n ys) next

pub all_changed : {X Y : Type 0} (V : X → Y) (g : Y → Y) (i : ℕ) (old : List X) → length old ≤ i → changed g i (map V old) ≡ map g (map V old)
unfolding changed
all_changed V g zero [] h = refl
all_changed V g zero (x ∷ xs) h = absurd (omega (arith, h))
all_changed V g (suc i) [] h = refl
all_changed V g (suc i) (x ∷ xs) h = ap (λ l. g (V x) ∷ l) (all_changed V g i xs (omega (arith, h)))

-- ---- sessions

abbrev pub session_settled : (ℕ → Bool) → ClientSession → ClientSession
session_settled chosen s = record { number = s.number; txns = map (settle (chosen s.number)) s.txns }

pub sessions_settled : (chosen : ℕ → Bool) (ss : List ClientSession) → map (session_settled chosen) ss ≡ settled chosen ss
unfolding settled
sessions_settled chosen ss = refl

-- where the same are chosen
settled_same : (chosen others : ℕ → Bool) (ss : List ClientSession) → ((n : ℕ) → chosen n ≡ others n) → settled chosen ss ≡ settled others ss
settled_same chosen others ss h = ap (λ f. settled f ss) (fun_ext h)

pub settled_resolved : (chosen : ℕ → Bool) (ss : List ClientSession) → ((n : ℕ) → chosen n ≡ taken ss n) → settled chosen ss ≡ resolved ss
unfolding resolved
settled_resolved chosen ss h = settled_same chosen (taken ss) ss h
