-- A text without a fault is the text of nodes.
use Rattle.order_text.proofs.Prelude.{◌≡◌, ℕ, ◌+◌, ◌≤◌, ◌^◌, Bool, true, false, cond, List, [], ◌∷◌, ◌++◌, length, Option, Some, None, refl, sym, ap, ◌∙◌, nat_lt, ◌&&◌, flat_map, option_or, is_some, ltb-false, All-nil, All-cons}
use Rattle.order_text.proofs.Prelude.{ClientSession, lines, bytes_of, name_in, name_line, order_text, AreNodes, is_name, named, line_fault, first_fault, order_fault, OrderFault, BadLine, NoSuchTransaction, TooLong}
use Rattle.session_log.proofs.Lying.{text_of_lines_is}
use Rattle.order_text.proofs.Reading.{IsNode, IsRead, bytes_read, named-sound}

-- ---- each names a node
neither : (a b : Option OrderFault) → option_or a b ≡ None → (a ≡ None) × (b ≡ None)
neither None b e = (refl, e)
neither (Some f) b e = cc

some_fault : (t : Bool) (f g : OrderFault) → cond t (Some f) (Some g) ≡ None → ⊥
some_fault true f g e = cc
some_fault false f g e = cc

node_read : (ss : List ClientSession) (n : ℕ) (l : List ℕ × Bool) → line_fault ss n l ≡ None → (v : ℕ) × IsRead ss n l v
unfolding line_fault
node_read ss n l e = go (named ss l.0) refl
  where
    go : (o : Option ℕ) → named ss l.0 ≡ o → (v : ℕ) × IsRead ss n l v
    go None h = absurd (some_fault (l.1 && is_name l.0) (NoSuchTransaction n) (BadLine n) (ap (λ o. cond (l.1 && is_name l.0) (cond (is_some o) None (Some (NoSuchTransaction n))) (Some (BadLine n))) (sym h) ∙ e))
    go (Some v) h = (v, record { accepted = e; named = h })

-- the nodes that these lines name
record AreRead (ss : List ClientSession) (ls : List (List ℕ × Bool)) : Type 0 where
  pub order : List ℕ
  pub nodes : AreNodes ss order
  pub text : flat_map bytes_of ls ≡ order_text ss order

order_read : (ss : List ClientSession) (n : ℕ) (ls : List (List ℕ × Bool)) → first_fault ss n ls ≡ None → AreRead ss ls
unfolding order_text
order_read ss n [] e = record { order = []; nodes = All-nil (IsNode ss); text = refl }
order_read ss n (l ∷ ls) e =
    let parts = neither (line_fault ss n l) (first_fault ss (n + 1) ls) e in
    let first = node_read ss n l parts.0 in
    let rest = order_read ss (n + 1) ls parts.1 in
    record {
      order = first.0 ∷ rest.order;
      nodes = All-cons (IsNode ss) first.0 rest.order (named-sound ss l.0 first.0 first.1.named).1 rest.nodes;
      text = ap (λ x. x ++ flat_map bytes_of ls) (bytes_read ss n l.0 l.1 first.0 first.1)
          ∙ ap (λ x. name_line (name_in ss first.0) ++ x) rest.text;
    }

no_fault_parts : (t : Bool) (rest : Option OrderFault) → cond t (Some TooLong) rest ≡ None → (t ≡ false) × (rest ≡ None)
no_fault_parts true rest e = cc
no_fault_parts false rest e = (refl, e)

pub accepted_printed : (ss : List ClientSession) (text : List ℕ) → order_fault ss text ≡ None → (length text ≤ 2 ^ 20) × ((order : List ℕ) × AreNodes ss order × (text ≡ order_text ss order))
unfolding order_fault
accepted_printed ss text e =
    let parts = no_fault_parts (nat_lt (2 ^ 20) (length text)) (first_fault ss 1 (lines text)) e in
    let read = order_read ss 1 (lines text) parts.1 in
    (ltb-false (2 ^ 20) (length text) parts.0, (read.order, read.nodes, sym (text_of_lines_is text) ∙ read.text))
