-- Texts of what stands in a range, one piece more.
use Rattle.std.proofs.Common.{◌≡◌, ℕ, ◌+◌, ◌*◌, List, [], ◌∷◌, ◌++◌, refl, sym, ap, ◌∙◌, add-one, arith}
use Rattle.std.specs.Prelude.{replicate}
use Rattle.std.specs.List.{filter}
use Rattle.std.proofs.lemmas.List.{replicate-append-replicate}
use Rattle.log_lines.specs.declared.placed.PlacedHistory.{PlacedHistory}
use Rattle.tell_steps.specs.declared.item.Item.{Item}
use Rattle.tell_texts.specs.declared.boxes.Look.{Look}
use Rattle.tell_texts.specs.Graphs.{is_edge_of, op_label, op_labels, box, boxes}
use Rattle.tell_texts.specs.Texts.{indent}

pub indent_more : (k : ℕ) → indent (k + 1) ≡ indent k ++ 32 ∷ 32 ∷ []
indent_more k =
    let e : 2 * (k + 1) ≡ 2 * k + 2 = omega arith in
    ap (λ n. replicate n 32) e ∙ sym (replicate-append-replicate (2 * k) 2 32)

pub labels_more : (look : Look) (log : PlacedHistory) (items : List Item) (v k : ℕ) → op_labels look log items v (k + 1) ≡ op_labels look log items v k ++ op_label look log items v k
labels_more look log items v k = rw add-one refl

pub boxes_more : (look : Look) (log : PlacedHistory) (items : List Item) (k : ℕ) → boxes look log items (k + 1) ≡ boxes look log items k ++ box look log (k + 1) (filter (is_edge_of (k + 1)) items)
boxes_more look log items k = rw add-one refl
