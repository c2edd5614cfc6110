-- A text has a fault other than memory exactly where no sessions make it a log within its limits.
use Rattle.log_definitions.proofs.Prelude.{◌≡◌, ◌≢◌, ℕ, ◌+◌, Bool, List, [], ◌∷◌, Option, Some, None, Err, refl, sym, ap, ◌∙◌, arith, ClientSession, lines, first_line, version_of, body_of, size_fault, Place, Start, step, first_fault}
use Rattle.log_definitions.proofs.Prelude.{grammar_fault, LogFault, Memory, Version, grammar_fault_none, log_text_injective, IsLogWithin, IsFaultWithin, memory, size, grammar, list, list_fault}
use Rattle.log_definitions.proofs.Accepted.{IsTextOfSome, sessions_where_no_fault}

-- ---- no definition answers memory
abbrev pub NotMemory : Option LogFault → Type 0
NotMemory o = o ≡ Some Memory → ⊥

pub size_fault_named : (text : List ℕ) → NotMemory (size_fault text)
unfolding size_fault
size_fault_named text e = grind arith

pub list_fault_named : (n : ℕ) (ss : List ClientSession) → NotMemory (list_fault n ss)
unfolding list_fault
list_fault_named n ss e = grind arith

step_named : (v : Version) (n : ℕ) (p : Place) (l : List ℕ × Bool) → step v n p l ≡ Err Memory → ⊥
unfolding step
step_named v n p l e = grind arith

first_fault_named : (v : Version) (ls : List (List ℕ × Bool)) (n : ℕ) (p : Place) → NotMemory (first_fault v n p ls)
first_fault_named v [] n p e = grind arith
first_fault_named v (l ∷ ls) n p e = grind (arith, step_named v n p l, first_fault_named v ls (n + 1))

grammar_fault_named : (text : List ℕ) → NotMemory (grammar_fault text)
unfolding grammar_fault
grammar_fault_named text = first_fault_named (version_of text) (lines (body_of text)) (first_line (version_of text)) Start

-- ---- a text with a fault has no list
none_some : {A : Type 0} (o : Option A) (x : A) → o ≡ Some x → o ≡ None → ⊥
none_some o x a b = cc

other : (o : Option LogFault) (f : LogFault) → NotMemory o → o ≡ Some f → f ≢ Memory
other o f named e m = named (e ∙ ap (λ g. Some g) m)

module _ {text_fault : List ℕ → Option LogFault} {sessions_fault : ℕ → List ClientSession → Option LogFault} where
  pub one_list : (text : List ℕ) (a b : List ClientSession) → IsLogWithin text_fault sessions_fault text a → IsLogWithin text_fault sessions_fault text b → a ≡ b
  one_list text a b v w = (log_text_injective (version_of text) (version_of text) a b v.legal w.legal (sym v.lines ∙ w.lines)).1

  pub refused : (text : List ℕ) (f : LogFault) → IsFaultWithin text_fault sessions_fault text f → f ≢ Memory → (ss : List ClientSession) → IsLogWithin text_fault sessions_fault text ss → ⊥
  refused text _ memory ne ss w = ne refl
  refused text _ (size f e) ne ss w = none_some _ f e w.size
  refused text _ (grammar f s e) ne ss w = none_some _ f e (ap grammar_fault w.lines ∙ grammar_fault_none (version_of text) ss w.legal w.held)
  refused text _ (list f ts s l k t e) ne ss w =
      let v = version_of text in
      none_some _ f e (ap (sessions_fault (first_line v)) (log_text_injective v v ts ss l w.legal (sym t ∙ w.lines)).1 ∙ w.sessions)

-- a text without a list has a fault
module _ (text_fault : List ℕ → Option LogFault) (sessions_fault : ℕ → List ClientSession → Option LogFault) where
  abbrev pub HasFault : List ℕ → Type 0
  HasFault text = (f : LogFault) × IsFaultWithin text_fault sessions_fault text f × (f ≢ Memory)

  pub fault_where_none : ((text : List ℕ) → NotMemory (text_fault text)) → ((n : ℕ) (ss : List ClientSession) → NotMemory (sessions_fault n ss)) → (text : List ℕ) → ((ss : List ClientSession) → IsLogWithin text_fault sessions_fault text ss → ⊥) → HasFault text
  fault_where_none text_named sessions_named text h = by_size (text_fault text) refl
    where
      by_list : text_fault text ≡ None → grammar_fault text ≡ None → HasFault text
      by_list s g =
          let some = sessions_where_no_fault text g in
          go some (sessions_fault (first_line (version_of text)) some.sessions) refl
        where
          go : (some : IsTextOfSome text) (o : Option LogFault) → sessions_fault (first_line (version_of text)) some.sessions ≡ o → HasFault text
          go some None e = absurd (h some.sessions (record { legal = some.legal; held = some.held; lines = some.by_text; size = s; sessions = e }))
          go some (Some f) e = (f, list f some.sessions s some.legal some.held some.by_text e, other _ f (sessions_named (first_line (version_of text)) some.sessions) e)

      by_grammar : text_fault text ≡ None → (o : Option LogFault) → grammar_fault text ≡ o → HasFault text
      by_grammar s None e = by_list s e
      by_grammar s (Some f) e = (f, grammar f s e, other _ f (grammar_fault_named text) e)

      by_size : (o : Option LogFault) → text_fault text ≡ o → HasFault text
      by_size None e = by_grammar e (grammar_fault text) refl
      by_size (Some f) e = (f, size f e, other _ f (text_named text) e)
