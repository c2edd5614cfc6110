-- The plain formula of a clean log stands for its serial orders.
use Rattle.cobra_formulas.proofs.Prelude.{◌≡◌, sym, subst, List, ClientSession, Cnf, IsWellFormedList, plain_answer, answer_where_some, answer_serial, answer_decodes, IsFaithful}

pub faithful_plain : (ss : List ClientSession) → IsWellFormedList ss → (f : Cnf) → f ≡ plain_answer ss → IsFaithful ss f
faithful_plain ss h f e = subst (λ (g : Cnf). IsFaithful ss g) (sym e) (record {
  headline = record {
    satisfied_where_some = answer_where_some ss h;
    serial_where_satisfied = λ values s. (let d = answer_decodes ss h values s in (d.0, answer_serial ss h values s d.0 d.1));
  };
  orders = answer_serial ss h;
})
