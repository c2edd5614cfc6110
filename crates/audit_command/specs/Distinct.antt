-- Parts of which none holds another one, the least first.
use Rattle.std.specs.Prelude.{◌≡◌, ◌&&◌, Bool, true, false, nat_eq, ℕ, ◌≤◌, List, [], ◌∷◌, length, AllPairs, Option, Some, None, String, string_bytes}
use Rattle.std.specs.List.{AllByRecursion, list_all, list_any}
use Rattle.std.specs.Cmp.Lexicographic.{pointwise}
use Rattle.std.specs.Str.{bytes_eq}
use Rattle.std.specs.declared.alloc.Global.{Global}
use Rattle.audit_report.specs.declared.told.ToldTxn.{ToldTxn}
use Rattle.audit_report.specs.declared.told.ToldPart.{ToldPart}

-- the same session, place and lines
abbrev pub same_txn : ToldTxn → ToldTxn → Bool
same_txn a b = nat_eq a.session b.session && (nat_eq a.place b.place
    && (nat_eq a.first b.first && nat_eq a.last b.last))

-- this is one of the part's transactions; and so is each of these
abbrev pub is_among : ToldTxn → ToldPart → Bool
is_among t p = list_any (λ own. same_txn own t) p.txns.items

abbrev pub holds_txns : List ToldTxn → ToldPart → Bool
holds_txns txns p = list_all (λ t. is_among t p) txns

-- it lacks one of these transactions
abbrev pub IsOther : List ToldTxn → ToldPart → Type 0
IsOther txns p = holds_txns txns p ≡ false

-- no part holds all transactions of an earlier one
abbrev pub AreDistinct : List ToldPart → Type 0
AreDistinct [] = Unit {0}
AreDistinct (p ∷ ps) = AllByRecursion (IsOther p.txns.items) ps × AreDistinct ps

-- no part has more transactions than a later one
abbrev pub IsNoLarger : ToldPart → ToldPart → Type 0
IsNoLarger p q = length p.txns.items ≤ length q.txns.items

abbrev pub AreLeastFirst : List ToldPart → Type 0
AreLeastFirst parts = AllPairs IsNoLarger parts

-- ---- looked for

-- it holds all transactions of one of the parts
abbrev pub holds_one : List ToldPart → ToldPart → Bool
holds_one parts p = list_any (λ q. holds_txns q.txns.items p) parts

-- these are the transactions of the part
abbrev pub has_txns : List ToldTxn → ToldPart → Bool
has_txns txns p = pointwise same_txn p.txns.items txns

-- this is the name; and a name that is this one, or is missing, adds nothing
abbrev pub has_name : List ℕ → Option (String Global) → Bool
has_name name None = false
has_name name (Some own) = bytes_eq (string_bytes own) name

abbrev pub adds_no_name : Option (String Global) → Option (String Global) → Bool
adds_no_name None told = true
adds_no_name (Some name) told = has_name (string_bytes name) told

-- a part adds nothing to another one: it has its transactions, and no other name
abbrev pub adds_nothing : ToldPart → ToldPart → Bool
adds_nothing p told = has_txns p.txns.items told && adds_no_name p.known_as told.known_as

-- it adds nothing to one of these
abbrev pub is_told_by : ToldPart → List ToldPart → Bool
is_told_by p parts = list_any (adds_nothing p) parts
