-- What a level forces holds in each of its orders.
use Rattle.level_refutations.proofs.Prelude.{◌≡◌, ℕ, List, ◌∷◌, ◌∙◌, subst, inl, inr, Contains, ClientSession, Write, Before, Apart-from_IsDistinct, ops_of, ops_in, IsSoundLog, op_in_log, one_node, ForcedIsKept, InitialIsNotOverlooked}
use Rattle.list_lemmas.proofs.Each.{member}
use Rattle.log_definitions.specs.WellFormed.{written}
use Rattle.log_definitions.proofs.Chosen.{Has-written}
pub use Rattle.level_laws.proofs.LastWrites.{some_written as last_written}

-- an identity is written by one node
pub wrote_once : (ss : List ClientSession) → IsSoundLog ss → (u v : ℕ) (k l : List ℕ) (w : ℕ) → Contains (ops_of ss u) (Write k w) → Contains (ops_of ss v) (Write l w) → u ≡ v
wrote_once ss sound u v k l w a b =
    one_node ss (Apart-from_IsDistinct (0 ∷ written (ops_in ss)) sound.writes).1 u v w (Has-written (ops_of ss u) k w a) (Has-written (ops_of ss v) l w b)

pub kept : ForcedIsKept
kept level ss order sound h u t f =
    let o = f.overlooks in
    elim (h.found f.reader f.before f.key f.wid o.reads o.external) [
      | inl none ↦ absurd (none.1 u o.sees o.writes)
      | inr (last, is) ↦
          let same : last ≡ t = wrote_once ss sound last t f.key f.key f.wid (last_written f.key (ops_of ss last) f.wid is.final) f.found in
          subst (Before order u) same (is.last u (λ e. f.other (e ∙ same)) o.sees o.writes)
    ]

-- nobody writes 0
writes_zero : (ss : List ClientSession) → IsSoundLog ss → (v : ℕ) (key : List ℕ) → Contains (ops_of ss v) (Write key 0) → ⊥
writes_zero ss sound v key c =
    (Apart-from_IsDistinct (0 ∷ written (ops_in ss)) sound.writes).0 (Has-written (ops_in ss) key 0 (member (Contains (ops_in ss)) (ops_of ss v) (Write key 0) (op_in_log ss v) c))

pub not_overlooked : InitialIsNotOverlooked
not_overlooked level ss order sound h u v before key o =
    elim (h.found v before key 0 o.reads o.external) [
      | inl none ↦ none.1 u o.sees o.writes
      | inr (last, is) ↦ writes_zero ss sound last key (last_written key (ops_of ss last) 0 is.final)
    ]
