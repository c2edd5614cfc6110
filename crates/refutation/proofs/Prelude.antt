-- What the proofs of this crate name of other modules.
pub use Rattle.refutation.specs.Follows.{met, SatisfiesAll, Follows, Entails, IsRefuted}
pub use Rattle.refutation.specs.Hinted.{looked, hinted}
pub use Rattle.refutation.specs.Known.{HasValue, IsTrailed, all_open, Agrees, Assumes, value_is, known_false, left_of, with_true, with_false}
pub use Rattle.refutation.specs.Numbered.{clause_at}
pub use Rattle.refutation.specs.Standing.{Standing, standing, IsSound}
pub use Rattle.refutation.specs.Stored.{clause_in, clauses_in, IsWithin, AreWithin}
pub use Rattle.serializability.proofs.Places.{each_from_append, each_from_map, each_of_append}
pub use Rattle.serializability.specs.Formula.{value_of, literal_true, clause_true}
pub use Rattle.serializability.specs.declared.literal.Literal.{Literal}
pub use Rattle.std.proofs.Common.{◌≡◌, ◌≢◌, ℕ, zero, suc, Bool, List, [], ◌∷◌, length, slice_set, slice_get, Option, Some, None, ◌⊎◌, inl, inr, refl, ap, subst, Contains, arith, ◌-◌, ◌≤◌, Result, Ok, Err, OnErr, ◌++◌, take, drop, ◌∙◌}
pub use Rattle.std.proofs.Common.{length-append, length-drop, ◌+◌, ◌<◌, true, false, not, ◌||◌, if◌then◌else◌, get_or, is_some, unwrap_or, map, sym, length-set, add-one, rules}
pub use Rattle.std.proofs.Math.Seq.{drop-append_seam, take-length, drop-cons, take-suc}
pub use Rattle.std.proofs.lemmas.List.{take-append-le, drop-append-le, map-append, take-append-drop, length-replicate, nil_from_length, map-set}
pub use Rattle.std.specs.List.{slice_range, AllByRecursion}
pub use Rattle.std.specs.Option.{option_to_list, option_map}
