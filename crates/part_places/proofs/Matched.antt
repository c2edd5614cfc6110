-- The operations that stay, one after the other.
use Rattle.part_places.proofs.Prelude.{◌≡◌, ℕ, zero, suc, ◌+◌, Bool, true, false, cond, eqb, eqb-true, eq-eqb, List, [], ◌∷◌, ◌++◌, length, drop, refl, sym, ap, ◌∙◌, Some, inl, inr, arith, append_assoc, length-append, slice_get, filter}
use Rattle.part_places.proofs.Prelude.{false≢true, cases_Bool, get_drop, Op, stays, reads_next, is_kept, staying}
use Rattle.session_log.specs.declared.session.Op.TheVariants.{Read, Write}

pub drop_next : {X : Type 0} (xs : List X) (n : ℕ) (x : X) (ys : List X) → drop n xs ≡ x ∷ ys → drop (n + 1) xs ≡ ys
drop_next xs zero x ys e = ap (drop 1) e
drop_next [] (suc n) x ys e = cc
drop_next (y ∷ xs) (suc n) x ys e = let next : suc n + 1 ≡ suc (n + 1) = omega arith in ap (λ k. drop k (y ∷ xs)) next ∙ drop_next xs n x ys e

-- ---- the next operation that stays
none_reads : (known : ℕ → Bool) (w : ℕ) (os : List Op) → known w ≡ false → reads_next w (filter (stays known) os) ≡ false
none_reads known w [] e = refl
none_reads known w (Write k v ∷ os) e = refl
none_reads known w (Read k v ∷ os) e = elim (cases_Bool (known v)) [
  | inl t ↦ rw t (elim (cases_Bool (eqb w v)) [
    | inl same ↦ absurd (false≢true (sym e ∙ ap known (eqb-true w v same) ∙ t))
    | inr other ↦ other
  ])
  | inr f ↦ rw f (none_reads known w os e)
]

pub kept_stays : (known : ℕ → Bool) (o : Op) (os : List Op) → is_kept o (filter (stays known) (o ∷ os)) ≡ stays known o
kept_stays known (Write k w) os = refl
kept_stays known (Read k w) os = elim (cases_Bool (known w)) [
  | inl t ↦ rw t (eq-eqb w w refl)
  | inr f ↦ rw f (none_reads known w os f)
]

-- ---- those so far, and those behind
pub record IsMatched (known : ℕ → Bool) (ops kept : List Op) (first : ℕ) (lines : List ℕ) (at : ℕ) : Type 0 where
  pub so_far : lines ++ staying known (first + at) (drop at ops) ≡ staying known first ops
  pub behind : drop (length lines) kept ≡ filter (stays known) (drop at ops)

-- whether the next one is matched
pub same_test : (known : ℕ → Bool) (ops kept : List Op) (first : ℕ) (lines : List ℕ) (at : ℕ) (o : Op) → slice_get ops at ≡ Some o → IsMatched known ops kept first lines at → is_kept o (drop (length lines) kept) ≡ stays known o
same_test known ops kept first lines at o e m = ap (is_kept o) (m.behind ∙ ap (filter (stays known)) (get_drop ops at o e)) ∙ kept_stays known o (drop (at + 1) ops)

pub one_matched : (known : ℕ → Bool) (ops kept : List Op) (first : ℕ) (lines : List ℕ) (at : ℕ) (o : Op) → slice_get ops at ≡ Some o → stays known o ≡ true → IsMatched known ops kept first lines at → IsMatched known ops kept first (lines ++ (first + at) ∷ []) (at + 1)
one_matched known ops kept first lines at o e t m =
    let rest = drop (at + 1) ops in
    let next : first + at + 1 ≡ first + (at + 1) = omega arith in
    let here : staying known (first + at) (drop at ops) ≡ (first + at) ∷ staying known (first + (at + 1)) rest =
    ap (staying known (first + at)) (get_drop ops at o e) ∙ ap (λ b. cond b ((first + at) ∷ staying known (first + at + 1) rest) (staying known (first + at + 1) rest)) t ∙ ap (λ k. (first + at) ∷ staying known k rest) next in
    let front : drop (length lines) kept ≡ o ∷ filter (stays known) rest =
    m.behind ∙ ap (filter (stays known)) (get_drop ops at o e) ∙ ap (λ b. cond b (o ∷ filter (stays known) rest) (filter (stays known) rest)) t in
    let more : length (lines ++ (first + at) ∷ []) ≡ length lines + 1 = length-append lines ((first + at) ∷ []) in
    record {
      so_far = append_assoc lines ((first + at) ∷ []) (staying known (first + (at + 1)) rest) ∙ ap (λ l. lines ++ l) (sym here) ∙ m.so_far;
      behind = ap (λ n. drop n kept) more ∙ drop_next kept (length lines) o (filter (stays known) rest) front;
    }

pub one_left : (known : ℕ → Bool) (ops kept : List Op) (first : ℕ) (lines : List ℕ) (at : ℕ) (o : Op) → slice_get ops at ≡ Some o → stays known o ≡ false → IsMatched known ops kept first lines at → IsMatched known ops kept first lines (at + 1)
one_left known ops kept first lines at o e f m =
    let rest = drop (at + 1) ops in
    let next : first + at + 1 ≡ first + (at + 1) = omega arith in
    let here : staying known (first + at) (drop at ops) ≡ staying known (first + (at + 1)) rest =
    ap (staying known (first + at)) (get_drop ops at o e) ∙ ap (λ b. cond b ((first + at) ∷ staying known (first + at + 1) rest) (staying known (first + at + 1) rest)) f ∙ ap (λ k. staying known k rest) next in
    record {
      so_far = ap (λ l. lines ++ l) (sym here) ∙ m.so_far;
      behind = m.behind ∙ ap (filter (stays known)) (get_drop ops at o e) ∙ ap (λ b. cond b (o ∷ filter (stays known) rest) (filter (stays known) rest)) f;
    }
