-- What a sink does with a piece, and what a call that writes a piece of a text does.
use Rattle.std.specs.Prelude.{◌≡◌, ℕ, zero, suc, ◌+◌, ◌-◌, ◌^◌, ◌<◌, ◌≤◌, nat_lt, if◌then◌else◌, List, [], ◌∷◌, length, take, Option, Result, Ok, Err, IfOk, IfErr, Bool, true, false}
use Rattle.std.specs.Io.KnownBytes.{Appends}
use Rattle.output.specs.declared.fault.SinkFailed.{SinkFailed}
use Rattle.output.specs.declared.fault.WriteFault.{WriteFault}

-- the greatest count of failures
abbrev pub most_failures : ℕ
most_failures = 2 ^ 64 - 1

-- the count after one more, which stops at the greatest
abbrev pub one_more : ℕ → ℕ
one_more count = if nat_lt count most_failures then count + 1 else count

-- a piece was not taken: the call failed, or took nothing of a piece that has bytes
abbrev pub is_refused : Result ℕ SinkFailed → List ℕ → Bool
is_refused (Ok zero) [] = false
is_refused (Ok zero) (b ∷ piece) = true
is_refused (Ok (suc n)) piece = false
is_refused (Err e) piece = true

-- what came of writing a piece of a text, of which so many bytes had gone out before: at `Ok` all
-- of the piece went out, and at `Err` its front, up to the count that the fault names, but not all
-- of it
pub record WritesFrom (old new : Option (List ℕ)) (before : ℕ) (piece : List ℕ)
    (result : Result ℕ WriteFault) : Type 0 where
  pub ok : IfOk result (λ n. (n ≡ before + length piece) × Appends old new piece)
  pub err : IfErr result (λ e. (before ≤ e.written) × (e.written < before + length piece)
      × Appends old new (take (e.written - before) piece))
