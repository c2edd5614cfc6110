-- What the level of isolation that is asked for means for judging.
use Rattle.std.specs.Prelude.{◌||◌, ℕ, Bool, true, false, not, Option, None, Some, nat_lt}
use Rattle.level_laws.specs.declared.level.Level.{Level as BelowLevel}
use Rattle.level_laws.specs.declared.level.Level.TheVariants as below
use Rattle.call_options.specs.declared.format.Format.{Format}
use Rattle.call_options.specs.declared.format.Format.TheVariants.{Text, Dot}
use Rattle.isolation.specs.Levels.{is_strict}
use Rattle.isolation.specs.declared.level.Isolation.{Isolation}
use Rattle.isolation.specs.declared.level.Isolation.TheVariants as isolation
use Rattle.judging.specs.declared.level.Level.{Level}
use Rattle.judging.specs.declared.level.Level.TheVariants.{Serializable, Snapshot, Prefix, Below}
use Rattle.audit_command.specs.declared.options.AuditOptions.{AuditOptions}

-- at which level a log is judged for one that a store promises
abbrev pub judged_of : Isolation → Level
judged_of isolation.StrictSerializable = Serializable
judged_of isolation.Serializable = Serializable
judged_of isolation.StrictSnapshot = Snapshot
judged_of isolation.Snapshot = Snapshot
judged_of isolation.Prefix = Prefix
judged_of isolation.Causal = Below below.Causal
judged_of isolation.ReadAtomic = Below below.ReadAtomic
judged_of isolation.MonotonicAtomicView = Below below.MonotonicAtomicView
judged_of isolation.ReadCommitted = Below below.ReadCommitted

abbrev pub judged_level : Option Isolation → Level
judged_level None = Serializable
judged_level (Some level) = judged_of level

-- how far down a level stands: each promises what those below it do
abbrev pub depth_below : BelowLevel → ℕ
depth_below below.Causal = 3
depth_below below.ReadAtomic = 4
depth_below below.MonotonicAtomicView = 5
depth_below below.ReadCommitted = 6

abbrev pub depth : Level → ℕ
depth Serializable = 0
depth Snapshot = 1
depth Prefix = 2
depth (Below level) = depth_below level

abbrev pub is_above : Level → Level → Bool
is_above one other = nat_lt (depth one) (depth other)

-- a level is asked for that keeps the order of stated moments
abbrev pub asks_moments : Option Isolation → Bool
asks_moments None = false
asks_moments (Some level) = is_strict level

-- a level is asked for that does not
abbrev pub leaves_moments : Option Isolation → Bool
leaves_moments None = false
leaves_moments (Some level) = not (is_strict level)

-- a graph is asked for
abbrev pub is_graph : Format → Bool
is_graph Text = false
is_graph Dot = true

-- the options, with what the level that is asked for means for judging; for a graph no other is judged
abbrev pub settled : AuditOptions → AuditOptions
settled o = record o {
  means = record o.means { level = judged_level o.level };
  only = o.only || is_graph o.explanation;
  no_moments = o.no_moments || leaves_moments o.level;
}
