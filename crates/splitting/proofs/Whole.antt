-- The whole log.
use Rattle.splitting.proofs.Prelude.{◌≡◌, ℕ, ◌+◌, ◌≤◌, Bool, true, false, cond, List, [], ◌∷◌, ◌++◌, length, refl, sym, ap, ◌∙◌, inl, arith, subst, append_assoc, Option, Some, None, nat_eq, nat_lt, decimal, IsDistinct, option_map_or}
use Rattle.splitting.proofs.Prelude.{length-append, ClientSession, key_of, place_of, Has, Apart, Apart-from_IsDistinct, Apart-not_both, place_of-back, place_of-here, ops_in, written, keys_in, number_in, each_member, Locks, longest, largest}
use Rattle.splitting.proofs.Prelude.{marks, is_long, name_in, widest, lock_key, locks_of, refusal, no_room, HasRoom, number_by, name_by, NumbersWhere, Finds, Fit, GiveBehind, AreNamed, KeyNumbers, Names, Survey}
use Rattle.splitting.proofs.Greatest.{base, marks_are}
use Rattle.splitting.proofs.KeyNumbers.{number_is}
use Rattle.splitting.proofs.Fresh.{room_of, name_within}

-- ---- what was found is what the definitions say
record IsSurvey (ss : List ClientSession) (s : Survey) : Type 0 where
  pub marks : s.marks ≡ marks ss
  pub longest : s.longest ≡ longest (ops_in ss)
  pub largest : s.largest ≡ largest (ops_in ss)
  pub writes : s.writes ≡ length (written (ops_in ss))

is_survey : (ss : List ClientSession) (s : Survey) → Finds base (ops_in ss) s → IsSurvey ss s
is_survey ss s f = record {
  marks = f.marks ∙ marks_are (ops_in ss);
  longest = (let e = f.longest in omega (arith, e));
  largest = (let e = f.largest in omega (arith, e));
  writes = (let e = f.writes in omega (arith, e));
}

-- ---- so are the names
pub name_is : (ss : List ClientSession) (names : Names) → NumbersWhere (is_long ss) (keys_in ss) names.numbers → (key : List ℕ) → name_by names key ≡ name_in ss key
name_is ss names h key = go (is_long ss) names.numbers h
  where
    go : (long : Bool) (o : Option KeyNumbers) → NumbersWhere long (keys_in ss) o → option_map_or (λ n. decimal (number_by n key)) o key ≡ cond long (decimal (number_in (keys_in ss) key + 1)) key
    go true (Some numbers) h = ap decimal (number_is (keys_in ss) numbers h key)
    go true None h = absurd h
    go false (Some numbers) h = absurd h
    go false None h = refl

-- what the names of the log are, and what is known of their widest
pub record AreNames (ss : List ClientSession) (names : Names) : Type 0 where
  pub marks : names.marks ≡ marks ss
  pub numbers : NumbersWhere (is_long ss) (keys_in ss) names.numbers

pub names_are : (ss : List ClientSession) (s : Survey) (names : Names) → Finds base (ops_in ss) s → names.marks ≡ s.marks → NumbersWhere (nat_lt 64 (s.marks + s.longest)) (keys_in ss) names.numbers → AreNames ss names
names_are ss s names f same h =
    let is = is_survey ss s f in
    record {
      marks = same ∙ is.marks;
      numbers = subst (λ l. NumbersWhere (nat_lt 64 (marks ss + l)) (keys_in ss) names.numbers) is.longest (subst (λ m. NumbersWhere (nat_lt 64 (m + s.longest)) (keys_in ss) names.numbers) is.marks h);
    }

pub widest_is : (ss : List ClientSession) (s : Survey) (names : Names) (n : ℕ) → Finds base (ops_in ss) s → AreNames ss names
    → ((long : Bool) (keys : List (List ℕ)) → NumbersWhere long keys names.numbers → n ≡ cond long (length (decimal (length keys))) s.longest) → n ≡ widest ss
widest_is ss s names n f are h = h (is_long ss) (keys_in ss) are.numbers ∙ ap (λ l. cond (is_long ss) (length (decimal (length (keys_in ss)))) l) (is_survey ss s f).longest

pub refusal_is : (ss : List ClientSession) (s : Survey) (n : ℕ) → Finds base (ops_in ss) s → n ≡ widest ss → refusal s.marks s.longest n s.largest s.writes ≡ no_room ss
unfolding no_room
refusal_is ss s n f wide =
    let is = is_survey ss s f in
    ap (λ m. refusal m s.longest n s.largest s.writes) is.marks
    ∙ ap (λ l. refusal (marks ss) l n s.largest s.writes) is.longest
    ∙ ap (λ w. refusal (marks ss) (longest (ops_in ss)) w s.largest s.writes) wide
    ∙ ap (λ l. refusal (marks ss) (longest (ops_in ss)) (widest ss) l s.writes) is.largest
    ∙ ap (λ l. refusal (marks ss) (longest (ops_in ss)) (widest ss) (largest (ops_in ss)) l) is.writes

pub fit_of : (ss : List ClientSession) (s : Survey) (names : Names) → Finds base (ops_in ss) s → AreNames ss names → HasRoom ss → Fit names s.largest (ops_in ss)
fit_of ss s names f are room =
    let is = is_survey ss s f in
    let has = room_of ss room in
    record {
      keys = each_member (λ o. names.marks + length (name_by names (key_of o)) ≤ 64) (ops_in ss)
          (λ o c. (let le = name_within ss room o c in let m = are.marks in let same = ap (length {A = ℕ}) (name_is ss names are.numbers (key_of o)) in omega (arith, le, m, same)));
      identities = (let g = is.largest in let k = has.identities in omega (arith, g, k));
    }

-- ---- the writes give the identities in their order
gives : (locks : Locks) (first : ℕ) (all : List ℕ) → ((v : ℕ) → locks.identity v ≡ first + 1 + place_of all v) → Apart all → (front ws : List ℕ) → all ≡ front ++ ws → GiveBehind locks (first + length front) ws
gives locks first all is apart front [] e = tt
gives locks first all is apart front (w ∷ ws) e = (
  (
      let absent : Has w front → ⊥ = λ h. Apart-not_both w front (w ∷ ws) (subst Apart e apart) h (inl refl) in
      let place = ap (λ l. place_of l w) e ∙ place_of-back w front (w ∷ ws) absent in
      let here = place_of-here w ws in
      let name = is w in
      omega (arith, place, here, name)
      ),
  (
      let one = length-append front (w ∷ []) in
      let more : first + length (front ++ w ∷ []) ≡ first + length front + 1 = omega (arith, one) in
      subst (λ n. GiveBehind locks n ws) more (gives locks first all is apart (front ++ w ∷ []) ws (e ∙ sym (append_assoc front (w ∷ []) ws)))
      ),
)

pub named_of : (ss : List ClientSession) (s : Survey) (names : Names) → Finds base (ops_in ss) s → AreNames ss names → IsDistinct nat_eq (written (ops_in ss)) → AreNamed (locks_of ss) names s.largest (ops_in ss)
unfolding locks_of
named_of ss s names f are distinct = record {
  keys = λ key. (ap (λ m. lock_key m (name_in ss key)) (sym are.marks) ∙ ap (lock_key names.marks) (sym (name_is ss names are.numbers key)));
  identities = (
      let none : largest (ops_in ss) + 0 ≡ s.largest = (let l = (is_survey ss s f).largest in omega (arith, l)) in
      subst (λ n. GiveBehind (locks_of ss) n (written (ops_in ss))) none (gives (locks_of ss) (largest (ops_in ss)) (written (ops_in ss)) (λ v. refl) (Apart-from_IsDistinct (written (ops_in ss)) distinct) [] (written (ops_in ss)) refl)
      );
  taken = refl;
}
