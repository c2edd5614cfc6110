-- What a status says of the sessions.
use Rattle.cobra_cli.proofs.Prelude.{◌≡◌, ℕ, List, refl, ap, subst, ClientSession, IsSerialOrder, HasNoOrder, IsSearched, Decides, Decision, Done, NotSerializable, Unknown, status_of, verdict_text}
use Rattle.branch_search.specs.declared.answer.Answer.TheVariants as search
use Rattle.deciding.specs.declared.decision.Decision.TheVariants.{Serial, Anomalous, Cyclic, Dead, Refuted, Spent}
use Rattle.cobra_answers.specs.Verdicts.{serial_text, spent_text}

pub record IsOrderTold (ss : List ClientSession) (d : Decision) : Type 0 where
  pub order : List ℕ
  pub serial : IsSerialOrder ss order
  pub text : verdict_text ss d ≡ serial_text ss order

pub done_order : (budget : ℕ) (ss : List ClientSession) (d : Decision) → Decides budget ss d → Done ≡ status_of d → IsOrderTold ss d
done_order budget ss (Serial order) h e = record { order = order; serial = h.0; text = refl }
done_order budget ss (Anomalous a) h e = let f : Done ≡ NotSerializable = e in absurd (cc)
done_order budget ss (Cyclic line) h e = let f : Done ≡ NotSerializable = e in absurd (cc)
done_order budget ss (Dead ledger) h e = let f : Done ≡ NotSerializable = e in absurd (cc)
done_order budget ss (Refuted left tree) h e = let f : Done ≡ NotSerializable = e in absurd (cc)
done_order budget ss (Spent closed) h e = let f : Done ≡ Unknown = e in absurd (cc)

pub refused_none : (budget : ℕ) (ss : List ClientSession) (d : Decision) → Decides budget ss d → NotSerializable ≡ status_of d → HasNoOrder ss
refused_none budget ss (Serial order) h e = let f : NotSerializable ≡ Done = e in absurd (cc)
refused_none budget ss (Anomalous a) h e = h.0
refused_none budget ss (Cyclic line) h e = h.0
refused_none budget ss (Dead ledger) h e = h.0
refused_none budget ss (Refuted left tree) h e = h.0
refused_none budget ss (Spent closed) h e = let f : NotSerializable ≡ Unknown = e in absurd (cc)

pub record IsSpentTold (budget : ℕ) (ss : List ClientSession) (d : Decision) : Type 0 where
  pub searched : IsSearched budget ss (search.Unknown budget)
  pub text : verdict_text ss d ≡ spent_text budget

pub unknown_spent : (budget : ℕ) (ss : List ClientSession) (d : Decision) → Decides budget ss d → Unknown ≡ status_of d → IsSpentTold budget ss d
unknown_spent budget ss (Serial order) h e = let f : Unknown ≡ Done = e in absurd (cc)
unknown_spent budget ss (Anomalous a) h e = let f : Unknown ≡ NotSerializable = e in absurd (cc)
unknown_spent budget ss (Cyclic line) h e = let f : Unknown ≡ NotSerializable = e in absurd (cc)
unknown_spent budget ss (Dead ledger) h e = let f : Unknown ≡ NotSerializable = e in absurd (cc)
unknown_spent budget ss (Refuted left tree) h e = let f : Unknown ≡ NotSerializable = e in absurd (cc)
unknown_spent budget ss (Spent closed) h e = record {
  searched = subst (λ (n : ℕ). IsSearched budget ss (search.Unknown n)) h.0 h.1;
  text = ap spent_text h.0;
}
