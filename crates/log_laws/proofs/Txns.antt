-- What holds of each transaction, in one list and session by session.
use Rattle.log_laws.proofs.Prelude.{ℕ, List, map, AllByRecursion, ClientSession, Transaction, each_of_flat_map, each_from_flat_map, txns_in, IsLearnt}

-- ---- sessions whose outcomes are known

abbrev pub AreLearnt : List ClientSession → Type 0
AreLearnt ss = AllByRecursion (λ s. AllByRecursion IsLearnt s.txns) ss

abbrev pub numbers_of : List ClientSession → List ℕ
numbers_of ss = map (λ (s : ClientSession). s.number) ss

-- ---- what holds of each transaction, whatever it reads
abbrev pub EachTxn : (Transaction → Type 0) → List ClientSession → Type 0
EachTxn P ss = AllByRecursion (λ s. AllByRecursion P s.txns) ss

-- in one list, and session by session
pub split : (P : Transaction → Type 0) (ss : List ClientSession) → AllByRecursion P (txns_in ss) → EachTxn P ss
split P ss h = each_of_flat_map P (λ (s : ClientSession). s.txns) ss h

pub joined : (P : Transaction → Type 0) (ss : List ClientSession) → EachTxn P ss → AllByRecursion P (txns_in ss)
joined P ss h = each_from_flat_map P (λ (s : ClientSession). s.txns) ss h
