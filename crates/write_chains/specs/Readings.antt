-- Who reads a key, and from whom.
use Rattle.std.specs.Prelude.{ℕ, ◌==◌, if◌then◌else◌, List, [], ◌∷◌, ◌++◌, map}
use Rattle.std.specs.List.{filter, filter_map}
use Rattle.std.specs.Option.{option_map}
use Rattle.serializability.specs.Log.{Log}
use Rattle.serializability.specs.Polygraph.{committed, source}
use Rattle.session_history.specs.declared.reads.ReadFrom.{ReadFrom}
use Rattle.write_chains.specs.declared.readings.Reading.{Reading}

-- those of these nodes that read the key externally, each with the node that it reads from
abbrev pub readings_among : Log → ℕ → List ℕ → List Reading
readings_among log x nodes = filter_map (λ r. option_map (λ w. record { reader = r; source = w })
    (source log r x)) nodes

abbrev pub readings_in : Log → ℕ → List Reading
readings_in log x = readings_among log x (committed log)

-- the readings of the key among what a node reads
abbrev pub readings_by : ℕ → ℕ → List ReadFrom → List Reading
readings_by r x [] = []
readings_by r x (read ∷ reads) = (if read.key == x then record { reader = r; source = read.source }
    ∷ [] else []) ++ readings_by r x reads

-- the readers of a node among these
abbrev pub readers_among : ℕ → List Reading → List ℕ
readers_among w readings = map (λ r. r.reader) (filter (λ r. r.source == w) readings)
