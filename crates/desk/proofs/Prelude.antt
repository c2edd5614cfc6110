-- What the proofs of this crate name of other modules.
pub use Rattle.desk.specs.Account.{calls_coded, stored}
pub use Rattle.desk.specs.History.{entry, replay, IsLegal, part_of, IsEntered, IsReached, opening_of}
pub use Rattle.desk.specs.Rows.{AreSeated, names_of, AreTied, place_of, staying, AreNamed}
pub use Rattle.desk.specs.Seats.{has_seat, AreFresh, AreNumbered, HasSeatsTo, IsLeastMissing, IsSeat}
pub use Rattle.desk.specs.Views.{SeatView}
pub use Rattle.desk.specs.contracts.account.Receipt.{the_row}
pub use Rattle.desk.specs.declared.history.Entry.{Entry}
pub use Rattle.desk.specs.declared.row.SeatRow.{SeatRow}
pub use Rattle.std.proofs.Common.{◌≡◌, ◌≢◌, ℕ, List, [], ◌∷◌, ◌++◌, Bool, true, false, Option, ◌==◌, refl, sym, ap, ◌∙◌, subst, ◌<◌, ◌≤◌, ⊎_elim, zero, suc, ◌+◌, ◌-◌, ◌||◌, Some, None, Result, Ok, Err, length, arith, ◌⊎◌, inl, inr}
pub use Rattle.std.proofs.Common.{length-append, get_or, All, append_assoc}
pub use Rattle.std.proofs.lemmas.Bool.{eq-eqb, eqb-true, or_right}
pub use Rattle.std.proofs.lemmas.List.{length-set, set-get_or, append-nil}
pub use Rattle.std.proofs.lemmas.List.Elements.{All-push}
pub use Rattle.std.proofs.lemmas.Option.{slice_get_within, get_or_from_slice_get, slice_get_read, same_Some}
pub use Rattle.std.specs.Bool.{OnFalse, ⊤}
pub use Rattle.std.specs.Prelude.{if◌then◌else◌, slice_get, slice_index_or, IfErr, slice_set, OnOk, is_err, vec_len, vec_capacity}
