-- What the readers of a key read, one by one, and how often a search looks at it.
use Rattle.reasons.proofs.Prelude.{◌≡◌, ℕ, ◌+◌, ◌-◌, ◌*◌, ◌<◌, ◌≤◌, List, [], ◌∷◌, ◌++◌, length, get_or, Option, None, Some, refl, sym, ◌∙◌, subst, inl, inr, arith, map, option_map, cons_option, filter_map, sum_by, AllByRecursion}
use Rattle.reasons.proofs.Prelude.{range_with_len, cases_eq, Contains-append_left, Contains-append_right, Contains-append_cases, sum_by_push, mapped, member as each_contained, each_member, Log, IsClean, source, all_keys, each_from_range}
use Rattle.reasons.proofs.Prelude.{each_of_range, each_from_map, each_of_map, source_is, each_weaker, some_one, sources_of, writers_in, pair_at, pair_of, Pair, looks_at, ReadsBoth, pair, pairs_by, ArePairs}
use Rattle.std.specs.List.{Contains}
use Rattle.serializability.proofs.Serial.{some_cases}
use Rattle.serializability.proofs.SoFar.{range_last}
use Rattle.session_history.specs.declared.reads.ReadFrom.{ReadFrom}

-- a key that is read is one of the log's
pub key_within : (log : Log) → IsClean log → (r x u : ℕ) → 0 < r → r ≤ log.nodes → source log r x ≡ Some u → x < log.keys
key_within log clean r x u low high from = let f = source_is log clean r x u low high from in clean.keys r x f.w f.before f.reads

-- ---- among what a node reads

kept : (K : ℕ → Type 0) (g : ℕ → Option ℕ) (x : ℕ) (o : Option ℕ) (ps : List (ℕ × ℕ)) → K x → g x ≡ o → AllByRecursion {X = ℕ × ℕ} (λ p. K p.0 × (g p.0 ≡ Some p.1)) ps → AllByRecursion {X = ℕ × ℕ} (λ p. K p.0 × (g p.0 ≡ Some p.1)) (cons_option (option_map (λ w. (x, w)) o) ps)
kept K g x o ps k e h = grind arith

each_read : (K : ℕ → Type 0) (g : ℕ → Option ℕ) (keys : List ℕ) → AllByRecursion K keys → AllByRecursion {X = ℕ × ℕ} (λ p. K p.0 × (g p.0 ≡ Some p.1)) (filter_map (pair_at g) keys)
each_read K g [] h = tt
each_read K g (x ∷ keys) h = kept K g x (g x) (filter_map (pair_at g) keys) h.0 refl (each_read K g keys h.1)

each_of : (P : ℕ × ℕ → Type 0) (g : ℕ → Option ℕ) (keys : List ℕ) → AllByRecursion P (filter_map (pair_at g) keys) → AllByRecursion (λ x. (w : ℕ) → g x ≡ Some w → P (x, w)) keys
each_of P g [] h = tt
each_of P g (x ∷ keys) h = elim (some_cases (g x)) [
  | inl e ↦ (λ w f. absurd (let bad : None ≡ Some w = sym e ∙ f in cc), each_of P g keys (rw e at h))
  | inr s ↦ let r = rw s.1 at h in (λ w f. subst (λ v. P (x, v)) (let both : Some s.0 ≡ Some w = sym s.1 ∙ f in cc) r.0, each_of P g keys r.1)
]

-- a key of the log, and who wrote what is read of it
abbrev pub Read : Log → ℕ → ℕ × ℕ → Type 0
Read log r p = (p.0 < log.keys) × (source log r p.0 ≡ Some p.1)

pub reads_of : (log : Log) (r : ℕ) → AllByRecursion (Read log r) (sources_of log r)
reads_of log r = each_read (λ x. x < log.keys) (source log r) (all_keys log) (each_from_range (λ x. x < log.keys) 0 log.keys (λ x low high. omega (arith, high)))

pub among : (log : Log) (r x w : ℕ) → x < log.keys → source log r x ≡ Some w → Contains (sources_of log r) (x, w)
among log r x w below e =
    let all = each_of (Contains (sources_of log r)) (source log r) (all_keys log) (each_member (Contains (sources_of log r)) (sources_of log r) (λ p c. c)) in
    each_of_range (λ x. (w : ℕ) → source log r x ≡ Some w → Contains (sources_of log r) (x, w)) 0 log.keys all x (omega arith) (omega (arith, below)) w e

-- ---- one node more
pub node_further : (log : Log) → IsClean log → (x r u : ℕ) (old : List Pair) → 0 < r → r ≤ log.nodes → source log r x ≡ Some u → ArePairs log x r old → ArePairs log x (r + 1) (old ++ pairs_by r u (sources_of log r))
node_further log clean x r u old low high from h =
    let own = pairs_by r u (sources_of log r) in
    let In : Pair → Type 0 = λ p. ReadsBoth log x p.reader p.version p.key p.source in
    let pair_read : ℕ × ℕ → Pair = λ q. pair r u q.0 q.1 in
    let read = each_weaker (Read log r) (λ q. In (pair_read q)) (λ q k. record { low = low; high = high; first = from; second = k.1 }) (sources_of log r) (reads_of log r) in
    record {
      sound = λ p c.
          elim (Contains-append_cases old own p c) [
            | inl c ↦ h.sound p c
            | inr c ↦ each_contained In own p (each_from_map In pair_read (sources_of log r) read) c
          ];
      all = λ s v y w b lt.
          elim (cases_eq s r) [
            | inl same ↦
                let b = subst (λ n. ReadsBoth log x n v y w) same b in
                let version = some_one (source log r x) u v from b.first in
                let is = mapped pair_read (sources_of log r) (y, w) (among log r y w (key_within log clean r y w low high b.second) b.second) in
                Contains-append_right old own (pair s v y w) (subst (Contains own) (cc) is)
            | inr ne ↦ Contains-append_left old own (pair s v y w) (h.all s v y w b (omega (arith, ne, lt)))
          ];
    }

-- ---- how often a search looks at what is read, read by read
-- at one read, where so many keys are read
abbrev pub looks_by : Log → ℕ → ℕ × ℕ → ℕ
looks_by log count read = count * (length (writers_in log read.0) + 1)

-- its key is one of the log's
pub key_read : (log : Log) (r : ℕ) (reads : List ReadFrom) → map pair_of reads ≡ sources_of log r → (i : ℕ) (read : ReadFrom) → i < length reads → read ≡ get_or reads i read → read.key < log.keys
key_read log r reads e i read lt is =
    (each_contained (λ (read : ReadFrom). Read log r (pair_of read)) reads read (each_of_map (Read log r) pair_of reads (subst (AllByRecursion (Read log r)) (sym e) (reads_of log r))) (i, lt, sym is)).0

-- the nodes below this one
abbrev pub looks_below : Log → ℕ → ℕ
looks_below log r = sum_by (looks_at log) (range_with_len 1 (r - 1))

pub looks_further : (log : Log) (r : ℕ) → 0 < r → looks_below log (r + 1) ≡ looks_below log r + looks_at log r
looks_further log r low =
    let count : r + 1 - 1 ≡ (r - 1) + 1 = omega (arith, low) in
    let last : 1 + (r - 1) ≡ r = omega (arith, low) in
    rw (count, range_last 1 (r - 1), sum_by_push (looks_at log) (range_with_len 1 (r - 1)) (1 + (r - 1)), last) refl
