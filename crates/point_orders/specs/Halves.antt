-- The transactions of the log in which writers are split, by those for which they stand.
use Rattle.std.specs.Prelude.{ℕ, zero, suc, ◌+◌, true, false, if◌then◌else◌, List, [], ◌∷◌, ◌++◌, codes, unwrap_or, slice_get}
use Rattle.std.specs.List.{flat_map}
use Rattle.session_log.specs.Text.{ClientSession, Transaction}
use Rattle.log_definitions.specs.Unknown.{is_committed}
use Rattle.point_laws.specs.Split.{is_writer}
use Rattle.point_orders.specs.Text.{word_line}
use Rattle.point_orders.specs.declared.halves.Half.{Half}

-- the snapshot and the commit of a transaction of this session and place, each alone, or both at once
abbrev pub snapshot_of : ℕ → ℕ → Half
snapshot_of session place = record {
  session = session;
  place = place;
  has_snapshot = true;
  has_commit = false;
}

abbrev pub commit_of : ℕ → ℕ → Half
commit_of session place = record {
  session = session;
  place = place;
  has_snapshot = false;
  has_commit = true;
}

abbrev pub both_of : ℕ → ℕ → Half
both_of session place = record {
  session = session;
  place = place;
  has_snapshot = true;
  has_commit = true;
}

-- what stands for a transaction, if it is committed
abbrev pub halves_of : ℕ → ℕ → Transaction → List Half
halves_of session place t =
    if is_writer t then (snapshot_of session place ∷ commit_of session place ∷ []) else
    (if is_committed t then both_of session place ∷ [] else [])

abbrev pub halves_from : ℕ → ℕ → List Transaction → List Half
halves_from session place [] = []
halves_from session place (t ∷ ts) = halves_of session place t ++ halves_from session (place + 1) ts

abbrev pub halves_in : List ClientSession → List Half
halves_in [] = []
halves_in (s ∷ ss) = halves_from s.number 1 s.txns ++ halves_in ss

-- the lines of its points
abbrev pub half_text : Half → List ℕ
half_text h =
    (if h.has_snapshot then word_line (h.session, h.place) (codes "snapshot") else [])
    ++ (if h.has_commit then word_line (h.session, h.place) (codes "commit") else [])

abbrev pub no_half : Half
no_half = record { session = 0; place = 0; has_snapshot = false; has_commit = false }

abbrev pub half_at : List Half → ℕ → Half
half_at halves zero = no_half
half_at halves (suc i) = unwrap_or (slice_get halves i) no_half

abbrev pub halves_text : List Half → List ℕ → List ℕ
halves_text halves order = flat_map (λ k. half_text (half_at halves k)) order
