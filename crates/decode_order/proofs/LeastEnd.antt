-- An order that is gone through from its last node on, with the least end of those that were passed.
use Rattle.decode_order.proofs.Prelude.{◌≡◌, ℕ, Bool, cond, List, [], ◌∷◌, ◌++◌, length, Option, Some, None, refl, sym, ap, ◌∙◌, append_assoc, ◌||◌, list_any, append-nil, is_earlier, ClientSession, begun_of, ended_of, log_of}
use Rattle.decode_order.proofs.Prelude.{first_before_ended}

-- u ended before v began
abbrev pub ended_before : (ℕ → Option ℕ) → (ℕ → Option ℕ) → ℕ → ℕ → Bool
ended_before ended begun u v = is_earlier (ended u) (begun v)

pub earlier-log_of : (ss : List ClientSession) → (log_of ss).earlier ≡ ended_before (ended_of ss) (begun_of ss)
unfolding log_of
earlier-log_of ss = refl

-- what was found among the nodes behind those that are left, and the least of their ends
pub record FromLast (ended begun : ℕ → Option ℕ) (order left : List ℕ) (found least : Option ℕ) : Type 0 where
  pub behind : List ℕ
  pub whole : order ≡ left ++ behind
  pub first : found ≡ first_before_ended (ended_before ended begun) behind
  pub before : (later : Option ℕ) → is_earlier least later ≡ list_any (λ u. is_earlier (ended u) later) behind

pub at_last : (ended begun : ℕ → Option ℕ) (order : List ℕ) → FromLast ended begun order order None None
at_last ended begun order = record { behind = []; whole = sym (append-nil order); first = refl; before = λ later. refl }

-- one node more: whether it began after the least end says whether it is found
pub one_before : (ended begun : ℕ → Option ℕ) (order left : List ℕ) (v : ℕ) (found least found_now least_now : Option ℕ) (after : Bool) → after ≡ is_earlier least (begun v) → found_now ≡ cond after (Some v) found → ((later : Option ℕ) → is_earlier least_now later ≡ (is_earlier (ended v) later || is_earlier least later)) → FromLast ended begun order (left ++ v ∷ []) found least → FromLast ended begun order left found_now least_now
one_before ended begun order left v found least found_now least_now after is_after now lesser f = record {
  behind = v ∷ f.behind;
  whole = f.whole ∙ append_assoc left (v ∷ []) f.behind;
  first = now ∙ ap (λ t. cond t (Some v) found) (is_after ∙ f.before (begun v))
      ∙ ap (λ o. cond (list_any (λ u. is_earlier (ended u) (begun v)) f.behind) (Some v) o) f.first;
  before = λ later. lesser later ∙ ap (λ t. is_earlier (ended v) later || t) (f.before later);
}

-- no node is left
pub at_first : (ended begun : ℕ → Option ℕ) (order left : List ℕ) (found least : Option ℕ) → length left ≡ 0 → FromLast ended begun order left found least → found ≡ first_before_ended (ended_before ended begun) order
at_first ended begun order [] found least none f = f.first ∙ ap (first_before_ended (ended_before ended begun)) (sym f.whole)
at_first ended begun order (v ∷ left) found least none f = cc
