-- Legal sessions with numbers and identities of their own are sound.
use Rattle.log_laws.proofs.Prelude.{◌≡◌, false, List, [], ◌∷◌, map, inl, inr, arith, nat_eq, AllByRecursion, IsDistinct, is_earlier, ClientSession, Transaction, IsLegal, IsLegalOp, IsLegalTxn, Op, Read, Write, Has, Apart-from_IsDistinct}
use Rattle.log_laws.proofs.Prelude.{each_from_flat_map, IsDistinct-from_Apart, txns_in, ops_in, written, each_weaker, IsSoundLog}

no_zero : (ops : List Op) → AllByRecursion IsLegalOp ops → Has 0 (written ops) → ⊥
no_zero [] h k = k
no_zero (Read key wid ∷ ops) h k = no_zero ops h.1 k
no_zero (Write key wid ∷ ops) h (inl e) = let lt = h.0.1 in omega (arith, lt, e)
no_zero (Write key wid ∷ ops) h (inr k) = no_zero ops h.1 k

pub sound_where_legal : (ss : List ClientSession) → AllByRecursion IsLegal ss → IsDistinct nat_eq (map (λ s. s.number) ss) → IsDistinct nat_eq (written (ops_in ss)) → IsSoundLog ss
sound_where_legal ss legal numbers writes = record {
  sessions = numbers;
  writes = IsDistinct-from_Apart (0 ∷ written (ops_in ss)) (no_zero (ops_in ss) ops, Apart-from_IsDistinct (written (ops_in ss)) writes);
  ordered = each_weaker IsLegalTxn (λ t. is_earlier t.ended t.begun ≡ false) (λ t h. h.ordered) (txns_in ss) txns;
}
  where
    txns : AllByRecursion IsLegalTxn (txns_in ss)
    txns = each_from_flat_map IsLegalTxn (λ (s : ClientSession). s.txns) ss (each_weaker IsLegal (λ s. AllByRecursion IsLegalTxn s.txns) (λ s h. h.txns) ss legal)

    ops : AllByRecursion IsLegalOp (ops_in ss)
    ops = each_from_flat_map IsLegalOp (λ (t : Transaction). t.ops) (txns_in ss) (each_weaker IsLegalTxn (λ t. AllByRecursion IsLegalOp t.ops) (λ t h. h.ops) (txns_in ss) txns)
