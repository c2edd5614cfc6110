-- Names and room, operation by operation.
use Rattle.splitting.proofs.Prelude.{◌≡◌, ℕ, ◌+◌, ◌≤◌, ◌<◌, List, [], ◌∷◌, ◌++◌, length, sym, ap, ◌∙◌, arith, subst, get_or, drop, length-append, drop_more, Op, Read, Write, each_of_append, written, key_of, written-append, Locks, name_by}
use Rattle.splitting.proofs.Prelude.{Fit, GiveBehind, AreNamed, Names}

-- ---- room
pub fit_read : (names : Names) (last : ℕ) (key : List ℕ) (wid : ℕ) (ops : List Op) → Fit names last (Read key wid ∷ ops) → Fit names last ops
fit_read names last key wid ops h = record { keys = h.keys.1; identities = h.identities }

pub fit_write : (names : Names) (last : ℕ) (key : List ℕ) (wid : ℕ) (ops : List Op) → Fit names last (Write key wid ∷ ops) → Fit names (last + 1) ops
fit_write names last key wid ops h = record { keys = h.keys.1; identities = (let i = h.identities in omega (arith, i)) }

pub fit_front : (names : Names) (last : ℕ) (xs ys : List Op) → Fit names last (xs ++ ys) → Fit names last xs
fit_front names last xs ys h = record {
  keys = (each_of_append (λ o. names.marks + length (name_by names (key_of o)) ≤ 64) xs ys h.keys).0;
  identities = (let i = h.identities in let e = ap length (written-append xs ys) ∙ length-append (written xs) (written ys) in omega (arith, i, e));
}

pub fit_behind : (names : Names) (last : ℕ) (xs ys : List Op) → Fit names last (xs ++ ys) → Fit names (last + length (written xs)) ys
fit_behind names last xs ys h = record {
  keys = (each_of_append (λ o. names.marks + length (name_by names (key_of o)) ≤ 64) xs ys h.keys).1;
  identities = (let i = h.identities in let e = ap length (written-append xs ys) ∙ length-append (written xs) (written ys) in omega (arith, i, e));
}

-- ---- names
give_front : (locks : Locks) (last : ℕ) (xs ys : List ℕ) → GiveBehind locks last (xs ++ ys) → GiveBehind locks last xs
give_front locks last [] ys h = tt
give_front locks last (x ∷ xs) ys h = (h.0, give_front locks (last + 1) xs ys h.1)

give_behind : (locks : Locks) (last : ℕ) (xs ys : List ℕ) → GiveBehind locks last (xs ++ ys) → GiveBehind locks (last + length xs) ys
give_behind locks last [] ys h = let same : last ≡ last + 0 = omega arith in subst (λ n. GiveBehind locks n ys) same h
give_behind locks last (x ∷ xs) ys h =
    let same : (last + 1) + length xs ≡ last + length (x ∷ xs) = omega arith in
    subst (λ n. GiveBehind locks n ys) same (give_behind locks (last + 1) xs ys h.1)

pub named_front : (locks : Locks) (names : Names) (last : ℕ) (xs ys : List Op) → AreNamed locks names last (xs ++ ys) → AreNamed locks names last xs
named_front locks names last xs ys h = record { taken = h.taken; keys = h.keys; identities = give_front locks last (written xs) (written ys) (subst (GiveBehind locks last) (written-append xs ys) h.identities) }

pub named_behind : (locks : Locks) (names : Names) (last : ℕ) (xs ys : List Op) → AreNamed locks names last (xs ++ ys) → AreNamed locks names (last + length (written xs)) ys
named_behind locks names last xs ys h = record { taken = h.taken; keys = h.keys; identities = give_behind locks last (written xs) (written ys) (subst (GiveBehind locks last) (written-append xs ys) h.identities) }

pub named_read : (locks : Locks) (names : Names) (last : ℕ) (key : List ℕ) (wid : ℕ) (ops : List Op) → AreNamed locks names last (Read key wid ∷ ops) → AreNamed locks names last ops
named_read locks names last key wid ops h = record { taken = h.taken; keys = h.keys; identities = h.identities }

pub named_write : (locks : Locks) (names : Names) (last : ℕ) (key : List ℕ) (wid : ℕ) (ops : List Op) → AreNamed locks names last (Write key wid ∷ ops) → (locks.identity wid ≡ last + 1) × AreNamed locks names (last + 1) ops
named_write locks names last key wid ops h = (h.identities.0, record { taken = h.taken; keys = h.keys; identities = h.identities.1 })

-- ---- lists from a place on
pub item_behind : (ops : List Op) (i : ℕ) (item op : Op) → i < length ops → item ≡ get_or ops i item → item ≡ op → drop i ops ≡ op ∷ drop (i + 1) ops
item_behind ops i item op lt at is = drop_more ops i item lt ∙ ap (λ o. o ∷ drop (i + 1) ops) (sym at ∙ is)
