-- Texts that are told and handed on.
use Rattle.cobra_calls.proofs.Prelude.{ℕ, List, Option, None, Some, length, sym, subst, ◌∙◌, take-length, Keeps, Appends, TellsFront}

appends_kept : (a b c : Option (List ℕ)) (text : List ℕ) → Appends a b text → Keeps b c → Appends a c text
appends_kept None b c text h k = tt
appends_kept (Some xs) None c text h k = absurd h
appends_kept (Some xs) (Some ys) None text h k = absurd k
appends_kept (Some xs) (Some ys) (Some zs) text h k = k ∙ h

-- all of it is its first bytes too
pub whole_is_cut : (a b c : Option (List ℕ)) (text : List ℕ) → Appends a b text → Keeps b c → TellsFront a c text
whole_is_cut a b c text h k = (length text, subst (Appends a c) (sym (take-length text)) (appends_kept a b c text h k))
