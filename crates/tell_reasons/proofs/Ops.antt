-- Operations of nodes, and the events that a history keeps of them.
use Rattle.tell_reasons.proofs.Prelude.{◌≡◌, ℕ, ◌≤◌, List, [], length, Option, None, Some, refl, sym, ap, ◌∙◌, arith, lt-ltb, get_or, slice_get, unwrap_or, nat_lt, cond-true, position-Some, slice_get_past, slice_get-get_or, ClientSession}
use Rattle.tell_reasons.proofs.Prelude.{Op, Read, Write}
use Rattle.std.specs.Str.{bytes_eq}
use Rattle.std.proofs.lemmas.Slice.Eq.{bytes_eq-Decides}
use Rattle.serializability.specs.declared.event.Event.TheVariants as event
use Rattle.log_definitions.specs.WellFormed.{keys_in}
use Rattle.log_definitions.specs.Numbers.{number_in, log_of}
use Rattle.log_definitions.proofs.Keys.{Listed, number_below}
use Rattle.log_definitions.proofs.Nodes.{log_keys}
use Rattle.reason_laws.proofs.Numbers.{listed_at}
use Rattle.reasons.proofs.Ops.{event_at, op_at as op_of_event}
use Rattle.tell_reasons.specs.Reasons.{op_at, key_bytes}

-- the key with the number of a listed key is that key
numbered : (keys : List (List ℕ)) (key : List ℕ) → Listed keys key → slice_get keys (number_in keys key) ≡ Some key
numbered keys key h =
    let n = number_in keys key in
    let at = position-Some (bytes_eq key) keys n [] (cond-true (nat_lt n (length keys)) (Some n) None (lt-ltb n (length keys) (number_below keys key h))) in
    slice_get-get_or keys n [] at.0 ∙ ap (λ k. Some k) (sym ((bytes_eq-Decides key (get_or keys n [])).0 at.1))

key_is : (ss : List ClientSession) (x : ℕ) (key : List ℕ) → number_in (keys_in ss) key ≡ x → Listed (keys_in ss) key → key ≡ key_bytes ss x
key_is ss x key e h = ap (λ k. unwrap_or k []) (sym (numbered (keys_in ss) key h)) ∙ ap (key_bytes ss) e

pub read_told : (ss : List ClientSession) (v i x w : ℕ) → slice_get ((log_of ss).ops v) i ≡ Some (event.Read x w) → Some (Read (key_bytes ss x) w) ≡ op_at ss v i
read_told ss v i x w h =
    let r = op_of_event ss v i (event.Read x w) h in
    sym (r.stands ∙ ap (λ key. Some (Read key w)) (key_is ss x r.key r.number (listed_at ss v i (Read r.key w) r.stands)))

pub write_told : (ss : List ClientSession) (v i x w : ℕ) → slice_get ((log_of ss).ops v) i ≡ Some (event.Write x w) → Some (Write (key_bytes ss x) w) ≡ op_at ss v i
write_told ss v i x w h =
    let r = op_of_event ss v i (event.Write x w) h in
    sym (r.stands ∙ ap (λ key. Some (Write key w)) (key_is ss x r.key r.number (listed_at ss v i (Write r.key w) r.stands)))

pub no_op : (ss : List ClientSession) (v i : ℕ) → None ≡ slice_get ((log_of ss).ops v) i → None ≡ op_at ss v i
no_op ss v i e = go (op_at ss v i) refl
  where
    go : (o : Option Op) → op_at ss v i ≡ o → None ≡ o
    go None h = refl
    go (Some o) h = let there = event_at ss v i o h in cc

-- ---- the bytes of a key
pub key_kept : (ss : List ClientSession) (x : ℕ) (key : List ℕ) → slice_get (keys_in ss) x ≡ Some key → key ≡ key_bytes ss x
key_kept ss x key e = ap (λ k. unwrap_or k []) (sym e)

pub key_past : (ss : List ClientSession) (x : ℕ) → (log_of ss).keys ≤ x → [] ≡ key_bytes ss x
key_past ss x h = let keys = log_keys ss in ap (λ k. unwrap_or k []) (sym (slice_get_past (keys_in ss) x (omega (arith, h, keys))))
