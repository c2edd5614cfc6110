-- The writes of transactions of unknown outcome, and the sessions that are taken, operation by operation.
use Rattle.session_history.proofs.Prelude.{◌≡◌, ℕ, Bool, true, false, cond, eqb, List, [], ◌∷◌, ◌++◌, length, take, get_or, Option, Some, None, refl, sym, ap, ◌∙◌, append_assoc, nat_cmp, ◌+◌, ◌<◌, option_or, option_map, get, is_at}
use Rattle.session_history.proofs.Prelude.{unsigned_ties, flat_map-append, front_more, ClientSession, Transaction, is_unknown, Op, Read, Write, WriteView, WriteAt, writes_of, unknown_writes_of, last_with, with_read, with_reads, write_view}
use Rattle.session_history.proofs.Prelude.{FindsLast}
use Rattle.session_history.specs.declared.taken.UnknownWrite.{UnknownWrite}
use Rattle.session_history.specs.declared.taken.UnknownWrites.{UnknownWrites}

-- ---- the table of writes

last_push : (wid : ℕ) (xs : List WriteAt) (v : ℕ) (w : WriteView) → last_with wid (xs ++ (v, w) ∷ []) ≡ cond (eqb v wid) (Some w) (last_with wid xs)
last_push wid [] v w = refl
last_push wid (x ∷ xs) v w = ap (λ o. option_or o (cond (eqb x.0 wid) (Some x.1) None)) (last_push wid xs v w) ∙ go (eqb v wid)
  where
    go : (b : Bool) → option_or (cond b (Some w) (last_with wid xs)) (cond (eqb x.0 wid) (Some x.1) None) ≡ cond b (Some w) (last_with wid (x ∷ xs))
    go true = refl
    go false = refl

pub found_more : (old : List WriteAt) (t u : UnknownWrites) (wid : ℕ) (w : UnknownWrite) → FindsLast old t
    → ((q : ℕ) → get nat_cmp u.table q ≡ cond (is_at (nat_cmp wid) q) (Some w) (get nat_cmp t.table q)) → FindsLast (old ++ (wid, write_view w) ∷ []) u
found_more old t u wid w h new = record {
  found = λ q.
      ap (option_map write_view) (new q ∙ ap (λ b. cond b (Some w) (get nat_cmp t.table q)) (sym (unsigned_ties wid q)))
      ∙ go (eqb wid q) (get nat_cmp t.table q) ∙ ap (cond (eqb wid q) (Some (write_view w))) (h.found q) ∙ sym (last_push q old wid (write_view w));
}
  where
    go : (b : Bool) (o : Option UnknownWrite) → option_map write_view (cond b (Some w) o) ≡ cond b (Some (write_view w)) (option_map write_view o)
    go true o = refl
    go false o = refl

writes_of-append : (s : ClientSession) (a b : List Op) → writes_of s (a ++ b) ≡ writes_of s a ++ writes_of s b
writes_of-append s [] b = refl
writes_of-append s (Read k w ∷ a) b = writes_of-append s a b
writes_of-append s (Write k w ∷ a) b = ap (λ l. (w, record { key = k; session = s }) ∷ l) (writes_of-append s a b)

-- one operation more
pub ops_more : (old : List WriteAt) (s : ClientSession) (ops : List Op) (i : ℕ) (op : Op) → i < length ops → op ≡ get_or ops i op
    → (old ++ writes_of s (take i ops)) ++ writes_of s (op ∷ []) ≡ old ++ writes_of s (take (i + 1) ops)
ops_more old s ops i op lt at =
    append_assoc old (writes_of s (take i ops)) (writes_of s (op ∷ []))
    ∙ ap (λ l. old ++ l) (sym (writes_of-append s (take i ops) (op ∷ [])) ∙ ap (writes_of s) (sym (front_more ops i op lt at)))

-- ---- the sessions

pub with_reads-append : (found : ℕ → Option WriteView) (a b : List Op) (o : List ClientSession) → with_reads found (a ++ b) o ≡ with_reads found b (with_reads found a o)
with_reads-append found [] b o = refl
with_reads-append found (op ∷ a) b o = with_reads-append found a b (with_read found op o)

-- some operations, and then others
pub reads_more : (found : ℕ → Option WriteView) (a b all : List Op) (o p q : List ClientSession) → p ≡ with_reads found a o → q ≡ with_reads found b p → all ≡ a ++ b → q ≡ with_reads found all o
reads_more found a b all o p q first then is =
    then ∙ ap (with_reads found b) first ∙ sym (with_reads-append found a b o) ∙ ap (λ ops. with_reads found ops o) (sym is)

-- one transaction more
pub txns_more : (old : List WriteAt) (s : ClientSession) (ts : List Transaction) (t : Transaction) → (old ++ unknown_writes_of s ts) ++ unknown_writes_of s (t ∷ []) ≡ old ++ unknown_writes_of s (ts ++ t ∷ [])
txns_more old s ts t =
    append_assoc old (unknown_writes_of s ts) (unknown_writes_of s (t ∷ []))
    ∙ ap (λ l. old ++ l) (sym (flat_map-append (λ t. cond (is_unknown t) (writes_of s t.ops) []) ts (t ∷ [])))
