-- Steps of the loops over transactions and sessions.
use Rattle.splitting.proofs.Prelude.{◌≡◌, ℕ, ◌+◌, ◌<◌, List, [], ◌∷◌, ◌++◌, length, map, take, get_or, refl, ap, ◌∙◌, arith, flat_map, length-append, map-append, append-nil, front_more, ClientSession, Op, ops_in, written, written-append}
use Rattle.splitting.proofs.Prelude.{ops_by}
use Rattle.std.proofs.lemmas.List.Concat.{flat_map-append}
use Rattle.log_laws.proofs.Identities.{ops_in-cons}

-- ---- the front of a list with one more

pub flat_front : {X Y A : Type 0} (f : Y → List A) (g : X → Y) (xs : List X) (i : ℕ) (x : X) → i < length xs → x ≡ get_or xs i x → flat_map f (map g (take (i + 1) xs)) ≡ flat_map f (map g (take i xs)) ++ f (g x)
flat_front f g xs i x lt at =
    ap (λ l. flat_map f (map g l)) (front_more xs i x lt at)
    ∙ ap (flat_map f) (map-append g (take i xs) (x ∷ []))
    ∙ flat_map-append f (map g (take i xs)) (g x ∷ [])
    ∙ ap (λ l. flat_map f (map g (take i xs)) ++ l) (append-nil (f (g x)))

-- ---- operations
pub ops_in_is : (ss : List ClientSession) → ops_in ss ≡ flat_map (λ s. ops_by s.txns) ss
ops_in_is [] = refl
ops_in_is (s ∷ ss) = ops_in-cons s ss ∙ ap (λ l. ops_by s.txns ++ l) (ops_in_is ss)

pub ops_first : (ss next : List ClientSession) (s : ClientSession) → ss ≡ s ∷ next → ops_in ss ≡ ops_by s.txns ++ ops_in next
ops_first ss next s e = ap ops_in e ∙ ops_in-cons s next

pub wrote_more : (last n behind : ℕ) (all xs ys : List Op) → all ≡ xs ++ ys → last + length (written all) ≡ n → behind ≡ last + length (written xs) → behind + length (written ys) ≡ n
wrote_more last n behind all xs ys e before is =
    let long = ap length (ap written e ∙ written-append xs ys) ∙ length-append (written xs) (written ys) in
    omega (arith, before, is, long)
