-- Why an assignment gives no order.
use Rattle.std.specs.Prelude.{◌≡◌, ◌≢◌, Bool, List, length}
use Rattle.serializability.specs.Formula.{Satisfies}
use Rattle.order_cnf.specs.Data.{FormulaData, cnf_of, IsFirstFalse}
use Rattle.decode_order.specs.declared.fault.DecodeFault.{DecodeFault}
use Rattle.decode_order.specs.declared.fault.DecodeFault.TheVariants.{NotAModel, WrongLength, Memory}

-- A wrong length comes before a false clause, of which the first is named, and memory is refused to
-- nothing but a satisfying assignment.
abbrev pub IsDecodeFault : FormulaData → List Bool → DecodeFault → Type 0
IsDecodeFault f values WrongLength = length values ≢ f.variables
IsDecodeFault f values (NotAModel k) = (length values ≡ f.variables)
    × IsFirstFalse values f.clauses k
IsDecodeFault f values Memory = Satisfies values (cnf_of f)
