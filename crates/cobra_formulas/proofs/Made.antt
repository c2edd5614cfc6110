-- What follows from how a formula was made.
use Rattle.cobra_formulas.proofs.Prelude.{Bool, List, ℕ, ClientSession, Cnf, Satisfies, before, IsDecoded, IsFormulaFrom, IsFormulaOf, IsFaithful, Basis}
use Rattle.log_definitions.specs.Serial.{IsSerialOrder}

pub belongs_so : (plain : Bool) (ss : List ClientSession) (b : Basis) (f : Cnf) → IsFormulaFrom plain ss b f → IsFormulaOf plain ss f
belongs_so plain ss b f h = record { basis = b; made = h }

pub serial_of : (ss : List ClientSession) (f : Cnf) → IsFaithful ss f → (values : List Bool) (order : List ℕ) → Satisfies values f → IsDecoded f.nodes (before f values) order → IsSerialOrder ss order
serial_of ss f h values order s d = h.orders values s order d
