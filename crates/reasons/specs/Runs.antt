-- Lines of nodes of which each run of one session is told by its ends.
use Rattle.std.specs.Prelude.{ℕ, ◌==◌, ◌&&◌, nat_lt, Bool, false, if◌then◌else◌, List, [], ◌∷◌}
use Rattle.session_log.specs.Text.{ClientSession}
use Rattle.log_definitions.specs.Serial.{session_of}

-- both are of one session, and the first stands before the second in it
abbrev pub is_behind : List ClientSession → ℕ → ℕ → Bool
is_behind ss a b = nat_lt a b && session_of ss a == session_of ss b

abbrev pub goes_on : List ClientSession → ℕ → ℕ → ℕ → Bool
goes_on ss a b c = is_behind ss a b && is_behind ss b c

-- the node stands between the one told before it and the first behind it in one session
abbrev pub is_between : List ClientSession → ℕ → ℕ → List ℕ → Bool
is_between ss a b [] = false
is_between ss a b (c ∷ rest) = goes_on ss a b c

-- what is told behind this node, of those that stand there
unfoldable pub told_behind : List ClientSession → ℕ → List ℕ → List ℕ
told_behind ss a [] = []
told_behind ss a (b ∷ rest) = if is_between ss a b rest then told_behind ss a rest
    else b ∷ told_behind ss b rest

abbrev pub without_runs : List ClientSession → List ℕ → List ℕ
without_runs ss [] = []
without_runs ss (a ∷ rest) = a ∷ told_behind ss a rest
