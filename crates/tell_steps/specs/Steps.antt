-- Why an edge stands among forced steps and decided orders, and lines of such edges.
use Rattle.std.specs.Prelude.{◌≡◌, ◌≢◌, ◌⊎◌, ℕ, zero, suc, ◌<◌, List, [], ◌∷◌, slice_get, Some}
use Rattle.std.specs.List.{Contains}
use Rattle.session_log.specs.Text.{ClientSession}
use Rattle.serializability.specs.Log.{Log}
use Rattle.serializability.specs.Polygraph.{Edge}
use Rattle.chain_laws.specs.Chains.{heads, tail, chain_first}
use Rattle.log_definitions.specs.Numbers.{log_of}
use Rattle.reasons.specs.Given.{IsReason, IsOfFirstKind, IsLeast, HaveNone}
use Rattle.tell_reasons.specs.declared.why.ChainOrder.{ChainOrder}
use Rattle.tell_reasons.specs.declared.why.Why.{Why}
use Rattle.tell_reasons.specs.declared.why.Why.TheVariants.{Known, Forced, Chosen}
use Rattle.tell_steps.specs.declared.item.Item.{Item}
use Rattle.tell_steps.specs.declared.item.Item.TheVariants as item

-- the same two chains the other way round
abbrev pub turned : ChainOrder → ChainOrder
turned o = record { key = o.key; first = o.second; second = o.first }

-- two chains of the key, by their heads, other than that of the initial value
pub record IsOrder (log : Log) (o : ChainOrder) : Type 0 where
  pub key_of : o.key < log.keys
  pub one : Contains (heads log o.key) o.first
  pub two : Contains (heads log o.key) o.second
  pub apart : o.first ≢ o.second

-- the edges of the first chain before the second
abbrev pub edges_in : Log → ChainOrder → List Edge
edges_in log o = chain_first log o.key o.first o.second

-- where the chains stand in this order, so does the edge: it is one of them, or leads from the last
-- writer of the first chain
abbrev pub Follows : Log → ChainOrder → Edge → Type 0
Follows log o e = Contains (edges_in log o) e ⊎ (e ≡ (tail log o.key o.first, o.second))

-- step k, from 0, is this order, which has the edge, and no step before it has
pub record IsFirstWith (log : Log) (steps : List ChainOrder) (k : ℕ) (step : ChainOrder)
    (e : Edge) : Type 0 where
  pub at : slice_get steps k ≡ Some step
  pub has : Contains (edges_in log step) e
  pub before : (j : ℕ) (o : ChainOrder) → j < k → slice_get steps j ≡ Some o
      → Contains (edges_in log o) e → ⊥

-- no step has the edge
pub record NoStepHas (log : Log) (steps : List ChainOrder) (e : Edge) : Type 0 where
  pub none : (o : ChainOrder) → Contains steps o → Contains (edges_in log o) e → ⊥

-- Why a stands before b: by a reason in the log, of the first kind that has one, with the least
-- operations; where the log has none, by the first step that puts it so, by its number from 1, and
-- the order that it is; and where no step does, by what was decided.
abbrev pub IsWhy : List ClientSession → List ChainOrder → List ChainOrder → ℕ → ℕ → Why → Type 0
IsWhy ss steps decided a b (Known r) = IsReason ss a b r × IsOfFirstKind ss a b r × IsLeast ss a b r
IsWhy ss steps decided a b (Forced zero o) = ⊥
IsWhy ss steps decided a b (Forced (suc k) o) = HaveNone ss a b
    × IsFirstWith (log_of ss) steps k o (a, b)
IsWhy ss steps decided a b (Chosen o) = HaveNone ss a b × NoStepHas (log_of ss) steps (a, b)
    × Contains decided o × Contains (edges_in (log_of ss) o) (a, b)

-- the edges of a line of nodes, one behind the other, each with why it stands
pub data IsLineTold (ss : List ClientSession) (steps decided : List ChainOrder) : List ℕ → List Item
    → Type 0 where
  ends : (v : ℕ) → IsLineTold ss steps decided (v ∷ []) []
  goes : (a b : ℕ) (rest : List ℕ) (why : Why) (items : List Item) → IsWhy ss steps decided a b why
      → IsLineTold ss steps decided (b ∷ rest) items →
      IsLineTold ss steps decided (a ∷ b ∷ rest) (item.Edge a b why ∷ items)
