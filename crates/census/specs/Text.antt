-- The census as text.
use Rattle.std.specs.Prelude.{ℕ, ◌+◌, ◌==◌, if◌then◌else◌, List, ◌++◌, codes, decimal}
use Rattle.std.specs.List.{flat_map}
use Rattle.census.specs.declared.numbers.Census.{Census}
use Rattle.census.specs.declared.numbers.KeyFaults.{KeyFaults}

abbrev pub reads_word : ℕ → List ℕ
reads_word n = if n == 1 then codes " read\n" else codes " reads\n"

abbrev pub transactions_word : ℕ → List ℕ
transactions_word n = if n == 1 then codes " transaction\n" else codes " transactions\n"

abbrev pub faults_word : ℕ → List ℕ
faults_word n = if n == 1 then codes " fault\n" else codes " faults\n"

abbrev pub total_of : Census → ℕ
total_of c = c.unknown_reads + c.aborted_reads + c.intermediate_reads + c.own_writes_missed
    + c.future_reads + c.split_reads + c.lost_updates

-- how many faults there are
unfoldable pub first_line : ℕ → List ℕ
first_line n = if n == 0 then codes "census: no fault of A1 to A7\n" else
    codes "census: " ++ decimal n ++ faults_word n

-- a line: a name, a number and a word
unfoldable pub count_line : List ℕ → ℕ → List ℕ → List ℕ
count_line name n word = name ++ decimal n ++ word

-- a line: a key and its number
unfoldable pub key_line : KeyFaults → List ℕ
key_line l = codes "key " ++ l.key ++ count_line (codes ": ") l.faults (faults_word l.faults)

unfoldable pub census_text : Census → List ℕ
census_text c =
    first_line (total_of c)
    ++ count_line (codes "A1 unknown read: ") c.unknown_reads (reads_word c.unknown_reads)
    ++ count_line (codes "A2 aborted read: ") c.aborted_reads (reads_word c.aborted_reads)
    ++ count_line (codes "A3 intermediate read: ") c.intermediate_reads
    (reads_word c.intermediate_reads)
    ++ count_line (codes "A4 own write missed: ") c.own_writes_missed
    (reads_word c.own_writes_missed)
    ++ count_line (codes "A5 future read: ") c.future_reads (reads_word c.future_reads)
    ++ count_line (codes "A6 split read: ") c.split_reads (reads_word c.split_reads)
    ++ count_line (codes "A7 lost update: ") c.lost_updates (transactions_word c.lost_updates)
    ++ flat_map key_line c.worst_keys.items
