-- How it is told that all four pairs of two versions of a key and two of another were read.
use Rattle.std.specs.Prelude.{ℕ, List, ◌++◌, codes}
use Rattle.log_lines.specs.declared.placed.PlacedHistory.{PlacedHistory}
use Rattle.reason_laws.specs.declared.crossing.Crossing.{Crossing}
use Rattle.reason_laws.specs.declared.crossing.PairRead.{PairRead}
use Rattle.tell_reasons.specs.Reasons.{reads_text, key_and_wid, op_at, op_in_line}

-- `    5.1 reads x 1 (line 19) and y 3 (line 20)`
abbrev pub pair_text : PlacedHistory → PairRead → List ℕ
pair_text log p =
    codes "    " ++ reads_text log p.node p.first ++ codes " and "
    ++ key_and_wid (op_at log.history.now p.node p.second) ++ op_in_line log p.node p.second
    ++ codes "\n"

-- the four, and what that is called (Elle)
abbrev pub crossing_text : PlacedHistory → Crossing → List ℕ
crossing_text log c =
    codes "four transactions read these pairs of versions; in a serial order each key changes once from one version to the other, so it has at most three of them:\n"
    ++ pair_text log c.one_one ++ pair_text log c.one_two
    ++ pair_text log c.two_one ++ pair_text log c.two_two
    ++ codes "known as: long fork (G-nonadjacent-item)\n"
