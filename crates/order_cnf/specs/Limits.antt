-- When there is no plain formula.
use Rattle.std.specs.Prelude.{◌≡◌, ◌⊎◌, nat_lt, if◌then◌else◌, length, Option, None, Some}
use Rattle.std.specs.Option.{option_or}
use Rattle.serializability.specs.Log.{Log}
use Rattle.serializability.specs.Polygraph.{bipaths}
use Rattle.serializability.specs.Formula.{Cnf}
use Rattle.serializability.specs.Plain.{plain}
use Rattle.polygraph.specs.declared.fault.PolyFault.{PolyFault}
use Rattle.polygraph.specs.declared.fault.PolyFault.TheVariants as poly
use Rattle.order_cnf.specs.declared.fault.CnfFault.{CnfFault}
use Rattle.order_cnf.specs.declared.fault.CnfFault.TheVariants.{TooManyForPlain, TooManyChoices, FormulaTooLarge, Memory}
use Rattle.order_cnf.specs.declared.plain.TheConstants.{MAX_PLAIN_NODES}
use Rattle.polygraph.specs.declared.index.TheConstants.{MAX_CHOICES}
use Rattle.serializability.specs.declared.literal.TheConstants.{MAX_CLAUSES}

-- more than 100 nodes, and then more than 100,000 bipaths
abbrev pub choices_fault : Log → Option CnfFault
choices_fault log =
    if nat_lt MAX_PLAIN_NODES log.nodes then Some TooManyForPlain
    else if nat_lt MAX_CHOICES (length (bipaths log)) then Some TooManyChoices
    else None

-- more than 20,000,000 clauses
abbrev pub size_fault : Cnf → Option CnfFault
size_fault f = if nat_lt MAX_CLAUSES (length f.clauses) then Some FormulaTooLarge else None

abbrev pub plain_fault : Log → Option CnfFault
plain_fault log = option_or (choices_fault log) (size_fault (plain log))

-- a call fails by this fault, or for want of memory
abbrev pub IsFault : CnfFault → Option CnfFault → Type 0
IsFault e fault = (e ≡ Memory) ⊎ (fault ≡ Some e)

-- what the refusal of a polygraph is told as
abbrev pub fault_of : PolyFault → CnfFault
fault_of poly.TooManyChoices = TooManyChoices
fault_of poly.Memory = Memory
