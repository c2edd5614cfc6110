-- Bytes taken from a source, one after another.
use Rattle.std.proofs.Common.{◌≡◌, ℕ, ◌+◌, ◌<◌, ◌≤◌, List, [], ◌++◌, length, Option, None, Some, Result, Ok, Err, refl, sym, ap, ◌∙◌, subst, arith, append_assoc, length-append}
use Rattle.std.specs.Io.KnownBytes.{Consumes}
use Rattle.std.specs.Result.{OnErr}
use Rattle.cobra_answers.specs.Sources.{Takes, TakesPiece, IsReadWhole, IsReadInPart}

nothing : (rest : Option (List ℕ)) → Consumes rest rest []
nothing None = tt
nothing (Some xs) = refl

pub takes_nothing : (rest : Option (List ℕ)) → Takes rest rest []
takes_nothing rest = record { front = nothing rest }

joined : (a b c : Option (List ℕ)) (xs ys : List ℕ) → Consumes a b xs → Consumes b c ys → Consumes a c (xs ++ ys)
joined None b c xs ys p q = tt
joined (Some xs0) None c xs ys p q = absurd p
joined (Some xs0) (Some ys0) None xs ys p q = absurd q
joined (Some xs0) (Some ys0) (Some zs0) xs ys p q = p ∙ ap (λ l. xs ++ l) q ∙ sym (append_assoc xs ys zs0)

pub takes_both : (a b c : Option (List ℕ)) (xs ys : List ℕ) → Takes a b xs → Takes b c ys → Takes a c (xs ++ ys)
takes_both a b c xs ys p q = record { front = joined a b c xs ys p.front q.front }

-- a text that was read so far, and one piece more
pub read_more : (a b c : Option (List ℕ)) (size : ℕ) (text more : List ℕ) → Takes a b text → TakesPiece b c size text more → Takes a c more
read_more a b c size text more t p = subst (λ l. Takes a c l) (sym p.text) (takes_both a b c text p.bytes t p.taken)

-- a part that was read after a text
pub part_more : (a b c : Option (List ℕ)) (size limit : ℕ) (text : List ℕ) → Takes a b text → length text + size ≤ limit → IsReadInPart b c size → IsReadInPart a c limit
part_more a b c size limit text t room p = record {
  bytes = text ++ p.bytes;
  taken = takes_both a b c text p.bytes t p.taken;
  most = omega (arith, length-append text p.bytes, p.most);
}

-- a piece without bytes is the last
pub read_whole : (a b c : Option (List ℕ)) (size limit : ℕ) (text more : List ℕ) → Takes a b text → TakesPiece b c size text more → 0 < size → length more ≡ length text → length text ≤ limit + 1 → IsReadWhole a c limit more
read_whole a b c size limit text more t p room same most = record {
  taken = read_more a b c size text more t p;
  most = omega arith;
  whole = λ _. p.last (omega (arith, ap length p.text, length-append text p.bytes, same)) room;
}

pub read_long : (a c : Option (List ℕ)) (limit : ℕ) (text : List ℕ) → Takes a c text → length text ≤ limit + 1 → limit < length text → IsReadWhole a c limit text
read_long a c limit text t most long = record { taken = t; most = most; whole = λ short. absurd (omega arith) }

-- what holds anyway holds of a refused call
pub on_err : {T E : Type 0} (r : Result T E) (P : Type 0) → P → OnErr r P
on_err (Ok x) P p = tt
on_err (Err e) P p = p
