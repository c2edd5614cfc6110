-- The write that is not seen: of the least key that two nodes read alike and the second writes.
use Rattle.reasons.proofs.Prelude.{◌≡◌, ℕ, ◌+◌, ◌<◌, ◌≤◌, Option, None, Some, refl, sym, subst, arith, length, slice_get, ◌≢◌, List, ap, ◌∙◌, slice_get_within, Log, event_key, Event, KeyWrite, IsBelow, IsLess, IsAlikeWrite, IsUpTo}
use Rattle.reasons.proofs.Prelude.{IsLeastWrite, ReadsAlike, ClientSession, Write, IsClean, source_is, one_final, keys_in, number_in, log_of, IsNode, ReadsAt, IsOverwrittenBy, wrote, source_of_read, within, reads_key, IsFirstRead}
use Rattle.reasons.proofs.Prelude.{IsLeastOverwrite, NoneOverwritten}
use Rattle.serializability.specs.declared.event.Event.TheVariants as event
use Rattle.reasons.proofs.Ops.{event_at, op_at}

pub least_all : (log : Log) (a b n : ℕ) (least : Option KeyWrite) → length (log.ops b) ≤ n → IsLeastWrite log a b n least → IsLeastWrite log a b (length (log.ops b)) least
least_all log a b n least le h = record {
  own = λ o e. let own = (h.own o e).1 in (slice_get_within (log.ops b) o.place (event.Write o.key own.wid) own.stands, own);
  all = λ k x w lt. h.all k x w (omega (arith, lt, le));
}

up_to_less : (least : Option KeyWrite) (x n y k : ℕ) → IsBelow x least → IsUpTo least y k → IsUpTo (Some (record { key = x; place = n })) y k
up_to_less least x n y k below h = grind arith

up_to_old : (log : Log) (a b n x : ℕ) (least : Option KeyWrite) → ((o : KeyWrite) → least ≡ Some o → o.place < n) → (IsBelow x least → ⊥) → IsUpTo least x n
up_to_old log a b n x None within h = absurd (h tt)
up_to_old log a b n x (Some o) within h = let lt = within o refl in grind arith

pub least_more : (log : Log) (a b n key : ℕ) (e : Event) (least : Option KeyWrite) → slice_get (log.ops b) n ≡ Some e → key ≡ event_key e → IsLess log a b least e → IsLeastWrite log a b n least → IsLeastWrite log a b (n + 1) (Some (record { key = key; place = n }))
least_more log a b n key (event.Read x w) least at is less h = absurd less
least_more log a b n key (event.Write x w) least at is less h =
    let new : KeyWrite = record { key = x; place = n } in
    let all : IsLeastWrite log a b (n + 1) (Some new) = record {
      own = λ o e. (let same : new ≡ o = cc in subst (λ m. (m.place < n + 1) × IsAlikeWrite log a b m) same (omega arith, record { wid = w; stands = at; alike = less.1 }));
      all = λ k y v lt here alike. (let less = up_to_less least x n y k less.0 in grind (arith, h.all k y v));
    } in
    subst (λ k. IsLeastWrite log a b (n + 1) (Some (record { key = k; place = n }))) (sym is) all

pub least_same : (log : Log) (a b n : ℕ) (e : Event) (least : Option KeyWrite) → slice_get (log.ops b) n ≡ Some e → (IsLess log a b least e → ⊥) → IsLeastWrite log a b n least → IsLeastWrite log a b (n + 1) least
least_same log a b n e least at more h = record {
  own = λ o is. (let own = h.own o is in let lt = own.0 in (omega (arith, lt), own.1));
  all = λ k y v lt here alike. (let old = up_to_old log a b n y least (λ o is. (h.own o is).0) in grind (arith, h.all k y v));
}

-- ---- from the sessions
alike_where : (ss : List ClientSession) → IsClean (log_of ss) → (a b i j : ℕ) (r : IsOverwrittenBy ss a i b j) → ReadsAlike (log_of ss) a b (number_in (keys_in ss) r.key)
alike_where ss clean a b i j r =
    let w = wrote ss clean a i r.key r.wid r.first r.reads in
    record { from = w.node; first = w.is; second = source_of_read ss clean b r.also r.key r.wid w.node r.second r.reads_too w.final }

up_to : (ss : List ClientSession) → IsClean (log_of ss) → (a b i j : ℕ) (least : Option KeyWrite) → IsLeastWrite (log_of ss) a b (length ((log_of ss).ops b)) least → (r : IsOverwrittenBy ss a i b j) → IsUpTo least (number_in (keys_in ss) r.key) j
up_to ss clean a b i j least l r =
    let write = event_at ss b j (Write r.key r.next) r.writes in
    l.all j (number_in (keys_in ss) r.key) r.next (slice_get_within ((log_of ss).ops b) j (event.Write (number_in (keys_in ss) r.key) r.next) write) write (alike_where ss clean a b i j r)

pub none_overwritten : (ss : List ClientSession) → IsClean (log_of ss) → (a b : ℕ) → IsLeastWrite (log_of ss) a b (length ((log_of ss).ops b)) None → NoneOverwritten ss a b
none_overwritten ss clean a b l i j r = up_to ss clean a b i j None l r

-- ---- from the log
pub overwritten : (ss : List ClientSession) → IsClean (log_of ss) → (a b read : ℕ) (o : KeyWrite) → IsNode ss a → IsNode ss b → a ≢ b → IsAlikeWrite (log_of ss) a b o → IsFirstRead ss a o.key read → IsOverwrittenBy ss a read b o.place
overwritten ss clean a b read o first second apart l r =
    let w = op_at ss b o.place (event.Write o.key l.wid) l.stands in
    let s = l.alike in
    let f = source_is (log_of ss) clean a o.key s.from first.0 (within ss a first) s.first in
    let g = source_is (log_of ss) clean b o.key s.from second.0 (within ss b second) s.second in
    let also = reads_key ss b o.key g.w w.key g.before w.number g.reads g.external in
    record {
      first = first;
      second = second;
      apart = apart;
      key = w.key;
      wid = f.w;
      next = l.wid;
      also = also.0;
      reads = r.reads w.key s.from f.w w.number s.first f.final;
      reads_too = subst (ReadsAt ss b also.0 w.key) (one_final (log_of ss) s.from o.key g.w f.w g.final f.final) also.1;
      writes = w.stands;
    }

pub least_overwrite : (ss : List ClientSession) → IsClean (log_of ss) → (a b read : ℕ) (o : KeyWrite) → IsAlikeWrite (log_of ss) a b o → IsLeastWrite (log_of ss) a b (length ((log_of ss).ops b)) (Some o) → IsFirstRead ss a o.key read → IsLeastOverwrite ss a read b o.place
least_overwrite ss clean a b read o own l r =
    let w = op_at ss b o.place (event.Write o.key own.wid) own.stands in
    record {
      key = w.key;
      wid = own.wid;
      writes = w.stands;
      keys = λ i j t. (let m = up_to ss clean a b i j (Some o) l t in omega (arith, m.0, w.number));
      first = λ i j t same. r.first t.key i t.wid (ap (number_in (keys_in ss)) same ∙ w.number) t.reads.read;
      second = λ i j t same. (up_to ss clean a b i j (Some o) l t).1 (sym (ap (number_in (keys_in ss)) same ∙ w.number));
    }
