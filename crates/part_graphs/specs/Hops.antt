-- The arrows of evidence against a level below prefix: sessions and reads, and what comes before what
-- since a read sees the one and names the other.
use Rattle.std.specs.Prelude.{ℕ, List, ◌++◌}
use Rattle.std.specs.List.{flat_map}
use Rattle.session_log.specs.Text.{ClientSession}
use Rattle.log_lines.specs.Rows.{Table}
use Rattle.level_refutations.specs.declared.evidence.Step.TheVariants as step
use Rattle.level_refutations.specs.declared.evidence.Edge.TheVariants as edge
use Rattle.level_refutations.specs.declared.evidence.{OpAt.OpAt, Hop.Hop, Step.Step, Overlooked.Overlooked, Edge.Edge}
use Rattle.part_graphs.specs.Arrows.{session_look, read_look, anti_dependency_look, version_order_look, arrow}

abbrev pub step_look : Step → List ℕ
step_look step.Session = session_look
step_look (step.Read write read) = read_look

abbrev pub hop_arrow : Table → List ClientSession → Hop → List ℕ
hop_arrow table ss hop = arrow table ss hop.from hop.to (step_look hop.step)

abbrev pub path_arrows : Table → List ClientSession → List Hop → List ℕ
path_arrows table ss hops = flat_map (hop_arrow table ss) hops

-- the read of what it names, and by which it sees what it overlooks
unfoldable pub found_arrows : Table → List ClientSession → Overlooked → OpAt → List ℕ
found_arrows table ss o found = arrow table ss found.txn o.read.txn read_look
    ++ path_arrows table ss o.path.items

-- and that what is overlooked stands before what it names
abbrev pub forced_arrows : Table → List ClientSession → Overlooked → OpAt → List ℕ
forced_arrows table ss o found = arrow table ss o.write.txn found.txn version_order_look
    ++ found_arrows table ss o found

abbrev pub edge_arrows : Table → List ClientSession → Edge → List ℕ
edge_arrows table ss (edge.Known hop) = hop_arrow table ss hop
edge_arrows table ss (edge.Forced o found) = forced_arrows table ss o found

abbrev pub circle_arrows : Table → List ClientSession → List Edge → List ℕ
circle_arrows table ss edges = flat_map (edge_arrows table ss) edges

-- a read of the initial value comes before the write of the key that it sees, and by which it sees it
abbrev pub initial_arrows : Table → List ClientSession → Overlooked → List ℕ
initial_arrows table ss o = arrow table ss o.read.txn o.write.txn anti_dependency_look
    ++ path_arrows table ss o.path.items
