use Rattle.order_cnf.proofs.Prelude.{◌≡◌, ◌∷◌, ◌++◌, [], length, take, flat_map}
use Rattle.order_cnf.proofs.reduced.sides_of.Given as goal

abbrev pub invariant-loop-choice : goal.invariant-loop-choice
invariant-loop-choice l = record {
  edges : l.sides.edges.items ≡ flat_map (λ h. h.one ++ h.two) (take l.choice-index l.choices);
  counts : l.sides.counts.items ≡ flat_map (λ h. length h.one ∷ length h.two ∷ []) (take l.choice-index l.choices);
}
