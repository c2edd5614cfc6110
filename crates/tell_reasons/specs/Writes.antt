-- Where an operation of a log stands.
use Rattle.std.specs.Prelude.{◌≡◌, ℕ, ◌==◌, ◌&&◌, Bool, true, false, List, [], ◌∷◌, take, Option, None, Some, slice_get, position}
use Rattle.std.specs.List.{flat_map, zip, AllByRecursion}
use Rattle.std.specs.Option.{option_map, option_map_or, option_or}
use Rattle.std.specs.Str.{bytes_eq}
use Rattle.session_log.specs.Text.{ClientSession, Transaction, view_txn}
use Rattle.session_log.specs.declared.session.Op.{Op}
use Rattle.session_log.specs.declared.session.Op.TheVariants.{Read, Write}
use Rattle.log_definitions.specs.Unknown.{ops_in}
use Rattle.log_lines.specs.Rows.{TxnRow, Table, view_place}
use Rattle.log_lines.specs.Places.{StandsAt}
use Rattle.tell_reasons.specs.declared.writes.WriteAt.{WriteAt}

-- operation i, from 0, of a transaction with this row, in the session of this number
pub record OpOf : Type 0 where
  pub session : ℕ
  pub txn : Transaction
  pub row : TxnRow
  pub i : ℕ

abbrev pub view_write : WriteAt → OpOf
view_write w = record {
  session = w.session;
  txn = view_txn w.txn.now;
  row = view_place w.place.now;
  i = w.op;
}

-- what the first of these gives that gives something
abbrev pub first_given : {X Y : Type 0} → (X → Option Y) → List X → Option Y
first_given f [] = None
first_given f (x ∷ xs) = option_or (f x) (first_given f xs)

-- the first operation that passes: of a transaction, of a session, and of all sessions
abbrev pub first_of : (Op → Bool) → ℕ → Transaction × TxnRow → Option OpOf
first_of passes session p = option_map (λ i. record {
  session = session;
  txn = p.0;
  row = p.1;
  i = i;
}) (position passes p.0.ops)

abbrev pub first_in : (Op → Bool) → ClientSession → List TxnRow → Option OpOf
first_in passes s rows = first_given (first_of passes s.number) (zip s.txns rows)

abbrev pub first_op : (Op → Bool) → List ClientSession → Table → Option OpOf
first_op passes ss table = first_given (λ p. first_in passes p.0 p.1) (zip ss table)

-- a write of this identity: of this key, or of any
abbrev pub is_write_as : Option (List ℕ) → ℕ → Op → Bool
is_write_as key wid (Read k w) = false
is_write_as key wid (Write k w) = (w == wid) && option_map_or (λ x. bytes_eq x k) key true

-- the operation passes, and none does in an earlier session, in an earlier transaction of its
-- session, or in front of it
pub record IsFirst (passes : Op → Bool) (ss : List ClientSession) (table : Table) (o : OpOf)
    : Type 0 where
  pub place : ℕ
  pub stands : StandsAt ss table o.session place o.txn o.row
  pub op : Op
  pub is : slice_get o.txn.ops o.i ≡ Some op
  pub holds : passes op ≡ true
  pub sessions : AllByRecursion (λ op. passes op ≡ false) (ops_in (take stands.at ss))
  pub txns : AllByRecursion (λ op. passes op ≡ false)
      (flat_map (λ t. t.ops) (take stands.index stands.of.txns))
  pub ops : AllByRecursion (λ op. passes op ≡ false) (take o.i o.txn.ops)
