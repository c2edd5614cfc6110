-- Names of files that are the same, and that are not.
use Rattle.cobra_calls.proofs.Prelude.{◌≡◌, ◌≢◌, ℕ, ◌+◌, List, [], ◌∷◌, ◌++◌, Option, None, Some, length, refl, sym, ap, ◌∙◌, arith, length-append, append_assoc, codes, part_names, StandsIn, StandsTwice, AreApart}
use Rattle.std.specs.Borrow.{Bor}
use Rattle.std.specs.List.{AllByRecursion}

abbrev Name : Type 0
Name = List ℕ

abbrev IsNone : Name → List Name → Type 0
IsNone n = AllByRecursion (λ other. n ≢ other)

not_map : (part : Name) → part ≢ part ++ codes ".map"
not_map part e =
    let n : length (part ++ codes ".map") ≡ length part + 4 = length-append part (codes ".map") in
    let m : length part ≡ length (part ++ codes ".map") = ap length e in
    absurd (omega (arith, n, m))

pub parts_apart : (part : Option (Bor Name)) → AreApart (part_names part)
parts_apart None = tt
parts_apart (Some part) = ((not_map part.now, tt), (tt, tt))

pub twice_log : (log : Name) (ps os : List Name) → StandsIn ps log → StandsTwice (log ∷ ps ++ os) log
twice_log log ps os h = record {
  front = [];
  rest = ps ++ os;
  is = refl;
  again = record { front = h.front; back = h.back ++ os; is = ap (λ l. l ++ os) h.is ∙ append_assoc h.front (log ∷ h.back) os };
}

pub twice_same : (log order : Name) (ps : List Name) → order ≡ log → StandsTwice (log ∷ ps ++ order ∷ []) order
twice_same log order ps e = record {
  front = [];
  rest = ps ++ order ∷ [];
  is = ap (λ n. n ∷ (ps ++ order ∷ [])) (sym e);
  again = record { front = ps; back = []; is = refl };
}

pub twice_order : (log order : Name) (ps : List Name) → StandsIn ps order → StandsTwice (log ∷ ps ++ order ∷ []) order
twice_order log order ps h = record {
  front = log ∷ h.front;
  rest = h.back ++ order ∷ [];
  is = ap (λ l. log ∷ (l ++ order ∷ [])) h.is ∙ ap (λ l. log ∷ l) (append_assoc h.front (order ∷ h.back) (order ∷ []));
  again = record { front = h.back; back = []; is = refl };
}

none_last : (n m : Name) (ns : List Name) → IsNone n ns → n ≢ m → IsNone n (ns ++ m ∷ [])
none_last n m [] h e = (e, tt)
none_last n m (x ∷ ns) h e = (h.0, none_last n m ns h.1 e)

apart_last : (m : Name) (ns : List Name) → AreApart ns → IsNone m ns → AreApart (ns ++ m ∷ [])
apart_last m [] h e = (tt, tt)
apart_last m (x ∷ ns) h e = (none_last x m ns h.0 (λ s. e.0 (sym s)), apart_last m ns h.1 e.1)

pub apart_order : (log order : Name) (part : Option (Bor Name)) → IsNone log (part_names part) → order ≢ log → IsNone order (part_names part) → AreApart (log ∷ part_names part ++ order ∷ [])
apart_order log order part h n k = apart_last order (log ∷ part_names part) (h, parts_apart part) (n, k)

pub stands_first : (name part map : Name) → name ≡ part → StandsIn (part ∷ map ∷ []) name
stands_first name part map e = record { front = []; back = map ∷ []; is = ap (λ n. n ∷ map ∷ []) (sym e) }

pub stands_second : (name part map : Name) → name ≡ map → StandsIn (part ∷ map ∷ []) name
stands_second name part map e = record { front = part ∷ []; back = []; is = ap (λ n. part ∷ n ∷ []) (sym e) }
