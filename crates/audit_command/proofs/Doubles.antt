-- Parts of which none holds another one, the least first.
use Rattle.audit_command.proofs.Prelude.{◌≡◌, ◌<◌, length, length-append, arith, true, false, List, [], ◌∷◌, ◌++◌, remove, refl, ap, subst, or_parts, all_more, ToldPart, AreDistinct, IsOther, IsNoLarger, AreLeastFirst, holds_txns}
use Rattle.audit_command.proofs.Prelude.{holds_one}
use Rattle.std.proofs.lemmas.List.Quantifiers.{all_pairs_remove}

pub one_more : (ps : List ToldPart) (p : ToldPart) → AreDistinct ps → holds_one ps p ≡ false → AreDistinct (ps ++ p ∷ [])
one_more [] p h e = (tt, tt)
one_more (q ∷ ps) p h e =
    let apart = or_parts (holds_txns q.txns.items p) (holds_one ps p) e in
    (all_more (IsOther q.txns.items) ps p h.0 apart.0, one_more ps p h.1 apart.1)

pub some_told : (ps : List ToldPart) (p : ToldPart) → holds_one ps p ≡ true → 0 < length ps
some_told [] p e = cc
some_told (q ∷ ps) p e = omega arith

pub empty : (ps : List ToldPart) → length ps ≡ 0 → ps ≡ []
empty [] e = refl
empty (p ∷ ps) e = absurd (omega (arith, e))

removed : (ps qs : List ToldPart) (p : ToldPart) → remove (ps ++ p ∷ qs) (length ps) ≡ ps ++ qs
removed [] qs p = refl
removed (q ∷ ps) qs p = ap (λ l. q ∷ l) (removed ps qs p)

pub without_one : (ps : List ToldPart) (p : ToldPart) (qs : List ToldPart) → AreLeastFirst (ps ++ p ∷ qs) → AreLeastFirst (ps ++ qs)
without_one ps p qs h =
    let long = length-append ps (p ∷ qs) in
    subst AreLeastFirst (removed ps qs p) (all_pairs_remove IsNoLarger (ps ++ p ∷ qs) (length ps) (omega (arith, long)) h)
