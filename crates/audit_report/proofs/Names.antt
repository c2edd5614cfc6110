-- The text of an order, by names.
use Rattle.audit_report.proofs.Prelude.{◌≡◌, ℕ, zero, suc, List, [], ◌∷◌, refl, ap, ◌∙◌, unwrap_or, slice_get, flat_map, ClientSession, name_at, names_text}
use Rattle.std.specs.Option.{option_map_or}
use Rattle.std.proofs.Math.Path.{fun_ext}
use Rattle.log_definitions.specs.Unknown.{resolved}
use Rattle.log_definitions.specs.Serial.{Committed, committed_in, node_in, node_of}
use Rattle.log_laws.proofs.Resolved.{nodes_stay}
use Rattle.session_history.specs.Tables.{name_in}
use Rattle.node_names.specs.Names.{names_of}
use Rattle.order_text.specs.Text.{name_line, order_text}

at_index : (nodes : List Committed) (i : ℕ) → unwrap_or (slice_get (names_of nodes) i) (0, 0) ≡ option_map_or (λ (node : Committed). (node.session, node.place)) (slice_get nodes i) (0, 0)
at_index [] i = refl
at_index (c ∷ nodes) zero = refl
at_index (c ∷ nodes) (suc i) = at_index nodes i

at_number : (nodes : List Committed) (v : ℕ) → name_at (names_of nodes) v ≡ option_map_or (λ (node : Committed). (node.session, node.place)) (node_in nodes v) (0, 0)
at_number nodes zero = refl
at_number nodes (suc i) = at_index nodes i

named : (ss : List ClientSession) (v : ℕ) → name_at (names_of (committed_in ss)) v ≡ name_in ss v
unfolding node_of
named ss v = at_number (committed_in ss) v

pub text_of_order : (ss known : List ClientSession) (names : List (ℕ × ℕ)) (order : List ℕ) → known ≡ resolved ss → names ≡ names_of (committed_in known) → names_text names order ≡ order_text ss order
unfolding order_text
text_of_order ss known names order e f =
    let names_are : names ≡ names_of (committed_in ss) = f ∙ ap (λ l. names_of (committed_in l)) e ∙ ap names_of (nodes_stay ss) in
    ap (λ l. names_text l order) names_are
    ∙ ap (λ (name : ℕ → ℕ × ℕ). flat_map (λ v. name_line (name v)) order) (fun_ext (λ v. named ss v))
