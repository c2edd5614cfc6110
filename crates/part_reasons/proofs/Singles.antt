-- Transactions of sessions, and each in a session of its own.
use Rattle.part_reasons.proofs.Prelude.{◌≡◌, ℕ, ◌+◌, List, [], ◌∷◌, ◌++◌, length, ap, sym, ◌∙◌, ◌<◌, ◌≤◌, ◌^◌, add-zero, arith, AllByRecursion, ClientSession, Transaction, IsLegal, IsLegalTxn, txns_in, singles, apart}
use Rattle.serializability.proofs.Places.{each_from_flat_map}
use Rattle.session_log.specs.declared.limits.TheConstants.{MAX_SESSIONS}

-- one session more
pub single_more : (n : ℕ) (ts : List Transaction) (t : Transaction) → singles n (ts ++ t ∷ []) ≡ singles n ts ++ singles (n + length ts) (t ∷ [])
single_more n [] t = ap (λ k. singles k (t ∷ [])) (sym (add-zero n))
single_more n (u ∷ ts) t = ap (λ l. record { number = n; txns = u ∷ [] } ∷ l) (single_more (n + 1) ts t ∙ ap (λ k. singles (n + 1) ts ++ singles k (t ∷ [])) (omega (arith)))

legal_singles : (n : ℕ) (ts : List Transaction) → 0 < n → n + length ts < 2 ^ 16 → AllByRecursion IsLegalTxn ts → AllByRecursion IsLegal (singles n ts)
legal_singles n [] low high h = tt
legal_singles n (t ∷ ts) low high h = (record { low = low; high = omega (arith, high); txns = (h.0, tt); known = tt }, legal_singles (n + 1) ts (omega (arith)) (omega (arith, high)) h.1)

legal_txns : (ss : List ClientSession) → AllByRecursion IsLegal ss → AllByRecursion (λ s. AllByRecursion IsLegalTxn s.txns) ss
legal_txns [] h = tt
legal_txns (s ∷ ss) h = (h.0.txns, legal_txns ss h.1)

-- each is one that a log can hold
pub legal_apart : (ss : List ClientSession) → length (txns_in ss) ≤ MAX_SESSIONS → AllByRecursion IsLegal ss → AllByRecursion IsLegal (apart ss)
legal_apart ss few h = legal_singles 1 (txns_in ss) (omega (arith)) (omega (arith, few)) (each_from_flat_map IsLegalTxn (λ (s : ClientSession). s.txns) ss (legal_txns ss h))
