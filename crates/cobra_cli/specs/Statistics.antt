-- The text of a log's counts, and of those of its formula.
use Rattle.std.specs.Prelude.{ℕ, ◌-◌, ◌≤◌, if◌then◌else◌, List, [], ◌∷◌, ◌++◌, length, count_by, codes, decimal}
use Rattle.session_log.specs.Text.{ClientSession}
use Rattle.session_log.specs.Version.{has_unknown_line}
use Rattle.session_log.specs.declared.version.Version.{Version}
use Rattle.serializability.specs.Formula.{Cnf}
use Rattle.log_definitions.specs.Unknown.{txns_in, ops_in, is_committed, is_unknown}
use Rattle.log_definitions.specs.WellFormed.{keys_in, is_aborted}
use Rattle.log_definitions.specs.Serial.{committed_in}
use Rattle.cobra_formulas.specs.declared.basis.Basis.{Basis}
use Rattle.cobra_formulas.specs.declared.basis.Basis.TheVariants.{Anomalous, Bipaths, Chains}

-- a word, a space and a number
abbrev pub count_line : List ℕ → ℕ → List ℕ
count_line word n = word ++ 32 ∷ decimal n ++ 10 ∷ []

-- the counts of outcomes that the client never learnt, and of those of them that are taken, where a
-- log of this version may have any
abbrev pub unlearnt_text : Version → ℕ → ℕ → List ℕ
unlearnt_text v unknown taken =
    if has_unknown_line v then count_line (codes "unknown") unknown ++ count_line
    (codes "taken") taken else []

-- the taken ones are the nodes that no commit made
abbrev pub taken_count : List ClientSession → ℕ
taken_count ss = length (committed_in ss) - count_by is_committed (txns_in ss)

abbrev pub counts_text : Version → List ClientSession → List ℕ
counts_text v ss =
    count_line (codes "sessions") (length ss)
    ++ count_line (codes "committed") (count_by is_committed (txns_in ss))
    ++ count_line (codes "aborted") (count_by is_aborted (txns_in ss))
    ++ unlearnt_text v (count_by is_unknown (txns_in ss)) (taken_count ss)
    ++ count_line (codes "keys") (length (keys_in ss))
    ++ count_line (codes "operations") (length (ops_in ss))

-- the anomaly; or the number of bipaths; or the number of choices between chains, of those of them
-- that are not open, and of those that are
abbrev pub basis_text : Basis → List ℕ
basis_text (Anomalous number) = codes "anomaly A" ++ decimal number ++ 10 ∷ []
basis_text (Bipaths count) = count_line (codes "choices") count
basis_text (Chains all left) =
    count_line (codes "choices") all ++ count_line (codes "forced") (all - left) ++ count_line
    (codes "open") left

-- no more choices are open than there are
abbrev pub OpensNoMore : Basis → Type 0
OpensNoMore (Anomalous number) = Unit {0}
OpensNoMore (Bipaths count) = Unit {0}
OpensNoMore (Chains all left) = left ≤ all

unfoldable pub stats_text : Version → List ClientSession → Basis → Cnf → List ℕ
stats_text v ss b f =
    counts_text v ss
    ++ basis_text b
    ++ count_line (codes "variables") f.variables
    ++ count_line (codes "clauses") (length f.clauses)
