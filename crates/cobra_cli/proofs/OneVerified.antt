-- An order file has one answer.
use Rattle.cobra_cli.proofs.Prelude.{◌≡◌, ◌⊎◌, ℕ, true, false, List, Option, None, Some, refl, sym, ap, ◌∙◌, inl, inr, ClientSession, version_of, first_line, IsWellFormed, log_of, IsWellFormedList, room, serial_numbered, replay_fault}
use Rattle.cobra_cli.proofs.Prelude.{ReplayFault, Status, IsListed, IsVerified, IsRefusal, IsReplayRefused, IsNotVerified, is_memory}
use Rattle.std.proofs.lemmas.Bool.{cases_Bool, false≢true}
use Rattle.log_definitions.proofs.Scanning.{rules_where_no_fault, no_fault_where_rules}
use Rattle.session_history.specs.Tables.{name_in}
use Rattle.order_text.specs.Faults as listing
use Rattle.order_text.specs.declared.fault.OrderFault.{OrderFault}
use Rattle.order_text.specs.declared.fault.OrderFault.TheVariants as listing_fault
use Rattle.order_text.proofs.Printing.{order_text-injective}
use Rattle.decode_order.specs.declared.fault.ReplayFault.TheVariants as replay
use Rattle.decode_order.proofs.Whole.{fault_serial}
use Rattle.cobra_answers.specs.declared.fault.Fault.{Fault}
use Rattle.cobra_answers.specs.declared.fault.Fault.TheVariants as fault

pub one_accepted : (given : List ℕ) (ss : List ClientSession) (s t : Status) (text other : List ℕ) → IsVerified given ss s text → IsVerified given ss t other → (s ≡ t) × (text ≡ other)
one_accepted given ss s t text other h k = (h.ends ∙ sym k.ends, h.told ∙ sym k.told)

-- ---- one order is listed
one_listed : (log given : List ℕ) (ss : List ClientSession) (a b : List ℕ) → IsWellFormed log ss → IsListed given ss a → IsListed given ss b → a ≡ b
one_listed log given ss a b w h k =
    let well : IsWellFormedList ss = record { legal = w.legal; sessions = no_fault_where_rules 1 ss (rules_where_no_fault (first_line (version_of log)) ss w.sessions) } in
    order_text-injective ss (record { well = well; room = room (version_of log) log ss w.size w.lines }) a b h.nodes k.nodes (sym h.listed ∙ k.listed)

-- ---- a replay is refused in one way

abbrev told : List ClientSession → Option ReplayFault → Fault
told ss None = fault.Memory
told ss (Some replay.NotAPermutation) = fault.NotAPermutation
told ss (Some (replay.SessionOrder v)) = fault.SessionOrder (name_in ss v).0 (name_in ss v).1
told ss (Some (replay.MomentOrder v)) = fault.MomentOrder (name_in ss v).0 (name_in ss v).1
told ss (Some (replay.ReadMismatch v op)) = fault.ReadMismatch (name_in ss v).0 (name_in ss v).1 op
told ss (Some replay.Memory) = fault.Memory

is_told : (ss : List ClientSession) (order : List ℕ) (f : Fault) → IsRefusal ss order f → is_memory f ≡ false → f ≡ told ss (replay_fault (log_of ss) order)
is_told ss order fault.NotAPermutation h m = rw h refl
is_told ss order (fault.SessionOrder s p) h m = rw (h.1.0) (ap (λ (n : ℕ × ℕ). fault.SessionOrder n.0 n.1) (sym h.1.1))
is_told ss order (fault.MomentOrder s p) h m = rw (h.1.0) (ap (λ (n : ℕ × ℕ). fault.MomentOrder n.0 n.1) (sym h.1.1))
is_told ss order (fault.ReadMismatch s p op) h m = rw (h.1.0) (ap (λ (n : ℕ × ℕ). fault.ReadMismatch n.0 n.1 op) (sym h.1.1))
is_told ss order fault.Memory h m = cc
is_told ss order (fault.Log e) h m = absurd h
is_told ss order (fault.Formula e) h m = absurd h
is_told ss order (fault.Answer e) h m = absurd h
is_told ss order (fault.NotAModel c) h m = absurd h
is_told ss order (fault.Order e) h m = absurd h
is_told ss order (fault.Device n) h m = absurd h

-- ---- the order file has a fault, or a replay of what it lists is refused
abbrev IsOneOf : List ℕ → List ClientSession → Fault → Type 0
IsOneOf given ss f = ((e : OrderFault) × ((f ≡ fault.Order e) × (listing.order_fault ss given ≡ Some e))) ⊎ IsReplayRefused given ss f

of_order : (given : List ℕ) (ss : List ClientSession) (e : OrderFault) → listing.IsOrderFault e (listing.order_fault ss given) → is_memory (fault.Order e) ≡ false → listing.order_fault ss given ≡ Some e
of_order given ss (listing_fault.BadLine n) h m = h
of_order given ss (listing_fault.NoSuchTransaction n) h m = h
of_order given ss listing_fault.TooLong h m = h
of_order given ss listing_fault.Memory h m = cc

one_of : (given : List ℕ) (ss : List ClientSession) (f : Fault) → IsNotVerified given f ss → is_memory f ≡ false → IsOneOf given ss f
one_of given ss (fault.Order e) h m = inl (e, (refl, of_order given ss e h m))
one_of given ss fault.NotAPermutation h m = inr h
one_of given ss (fault.SessionOrder s p) h m = inr h
one_of given ss (fault.MomentOrder s p) h m = inr h
one_of given ss (fault.ReadMismatch s p op) h m = inr h
one_of given ss fault.Memory h m = inr h
one_of given ss (fault.Log e) h m = inr h
one_of given ss (fault.Formula e) h m = inr h
one_of given ss (fault.Answer e) h m = inr h
one_of given ss (fault.NotAModel c) h m = inr h
one_of given ss (fault.Device n) h m = inr h

fault_and_none : (o : Option OrderFault) (e : OrderFault) → o ≡ Some e → o ≡ None → ⊥
fault_and_none o e h k = cc

one_some : (o : Option OrderFault) (d e : OrderFault) → o ≡ Some d → o ≡ Some e → d ≡ e
one_some o d e h k = cc

same_fault : (log given : List ℕ) (ss : List ClientSession) (f g : Fault) → IsWellFormed log ss → IsOneOf given ss f → IsOneOf given ss g → is_memory f ≡ false → is_memory g ≡ false → f ≡ g
same_fault log given ss f g w (inl h) (inl k) m n = h.1.0 ∙ ap fault.Order (one_some (listing.order_fault ss given) h.0 k.0 h.1.1 k.1.1) ∙ sym k.1.0
same_fault log given ss f g w (inl h) (inr k) m n = absurd (fault_and_none (listing.order_fault ss given) h.0 h.1.1 k.listed.accepted)
same_fault log given ss f g w (inr h) (inl k) m n = absurd (fault_and_none (listing.order_fault ss given) k.0 k.1.1 h.listed.accepted)
same_fault log given ss f g w (inr h) (inr k) m n =
    is_told ss h.order f h.refused m
    ∙ ap (λ (order : List ℕ). told ss (replay_fault (log_of ss) order)) (one_listed log given ss h.order k.order w h.listed k.listed)
    ∙ sym (is_told ss k.order g k.refused n)

pub one_refused : (log given : List ℕ) (ss : List ClientSession) (f g : Fault) → IsWellFormed log ss → IsNotVerified given f ss → IsNotVerified given g ss → is_memory f ≡ false → is_memory g ≡ false → f ≡ g
one_refused log given ss f g w h k m n = same_fault log given ss f g w (one_of given ss f h m) (one_of given ss g k n) m n

-- ---- what is accepted is not refused
never_told : (f : Fault) (ss : List ClientSession) → f ≡ told ss None → is_memory f ≡ true
never_told f ss e = ap is_memory e

never_both : (log given : List ℕ) (ss : List ClientSession) (s : Status) (text : List ℕ) (f : Fault) → IsWellFormed log ss → IsVerified given ss s text → IsOneOf given ss f → is_memory f ≡ false → ⊥
never_both log given ss s text f w h (inl k) m = fault_and_none (listing.order_fault ss given) k.0 k.1.1 h.listed.accepted
never_both log given ss s text f w h (inr k) m =
    let same = one_listed log given ss k.order h.order w k.listed h.listed in
    let none : replay_fault (log_of ss) k.order ≡ None = ap (replay_fault (log_of ss)) same ∙ fault_serial (log_of ss) h.order (serial_numbered ss h.order h.serial) in
    let memory = never_told f ss (is_told ss k.order f k.refused m ∙ ap (told ss) none) in
    false≢true (sym m ∙ memory)

pub accepted_apart : (log given : List ℕ) (ss : List ClientSession) (s : Status) (text : List ℕ) (f : Fault) → IsWellFormed log ss → IsVerified given ss s text → IsNotVerified given f ss → is_memory f ≡ true
accepted_apart log given ss s text f w h k = elim (cases_Bool (is_memory f)) [
  | inl t ↦ t
  | inr m ↦ absurd (never_both log given ss s text f w h (one_of given ss f k m) m)
]
