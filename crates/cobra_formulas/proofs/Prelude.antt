-- What the proofs of this crate name of other modules.
pub use Rattle.cobra_formulas.specs.Formulas.{IsFormulaFrom, IsFormulaOf, IsFaithful, IsReducedWithin, IsReducedFault, IsReducedFormula, by_anomaly, by_cycle, by_pruning, by_choices}
pub use Rattle.cobra_formulas.specs.declared.basis.Basis.{Basis}
pub use Rattle.headline.proofs.Answered.{answer_where_some, answer_serial, answer_decodes, clean_log, none_serial}
pub use Rattle.known_graph.specs.Graphs.{IsKnownGraph}
pub use Rattle.log_definitions.specs.Numbers.{IsWellFormedList, log_of, formula_where}
unfoldable pub use Rattle.log_definitions.specs.Numbers.{plain_answer}
pub use Rattle.order_cnf.specs.Data.{is_listed, cnf_of}
pub use Rattle.order_cnf.specs.Left.{formula_of_rest}
pub use Rattle.polygraph.specs.Polygraphs.{IsPolygraph}
pub use Rattle.pruning_laws.specs.Forced.{Sides, edges_with, open_from, pruned, edges_of, other, EachNumbered, kept_from, IsRefuted, IsClosed, IsForced, IsDead}
pub use Rattle.reach_laws.specs.Reach.{Graph, Reaches, IsCyclic}
pub use Rattle.serializability.specs.Decoded.{before, IsDecoded}
pub use Rattle.serializability.specs.Formula.{Cnf, Satisfies}
pub use Rattle.serializability.specs.Polygraph.{Choice, Polygraph, Edge}
pub use Rattle.session_log.specs.Text.{ClientSession, IsLegal, IsHeldBy, log_text, view}
pub use Rattle.session_log.specs.Version.{version_of, first_line}
pub use Rattle.std.proofs.Common.{◌≡◌, ℕ, List, Option, Some, None, Result, Ok, Err, refl, sym, subst, Bool, length, IfOk, ap, ◌∙◌, inl, inr, ◌+◌, true, [], ◌∷◌, ◌++◌, map}
pub use Rattle.std.proofs.lemmas.Result.{err_from_is_err_and}
pub use Rattle.std.specs.List.{AllByRecursion, Contains}
pub use Rattle.std.specs.Prelude.{IfErr, nat_lt}
