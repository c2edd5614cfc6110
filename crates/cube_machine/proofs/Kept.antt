-- What the type of the machine keeps, where a node is closed and where two are added.
use Rattle.cube_machine.proofs.Prelude.{◌≡◌, ℕ, ◌+◌, ◌*◌, ◌≤◌, false, eqb, ◌||◌, not, Some, ◌∙◌, List, [], ◌∷◌, ◌++◌, length, sym, ap, subst, arith, Vec, Global, slice_get, slice_set, eqb-false, or_parts, length-append, length-set}
use Rattle.cube_machine.proofs.Prelude.{Polygraph, Graph, Node, State, root, with_mark, has_solved, has_live, is_finished, CubeState, HasSides, SideEdge, Growth, cube_in, IsOnce, AreOnce, IsNoted, AreNoted, Decided}
use Rattle.cube_machine.specs.Machines.{IsMachine}
use Rattle.cube_machine.proofs.Splits.{length_marked}
use Rattle.cube_machine.proofs.Noted.{noted_marked, noted_more, noted_went, once_marked, once_more, once_root}

-- the budget is not spent
short : (s : State) → is_finished s ≡ false → s.closed ≤ s.budget → s.closed + 1 ≤ s.budget
short s going le =
    let a = or_parts (has_solved s.nodes) (eqb s.closed s.budget || not (has_live s.nodes)) going in
    let b = or_parts (eqb s.closed s.budget) (not (has_live s.nodes)) a.1 in
    let ne : s.closed ≡ s.budget → ⊥ = eqb-false s.closed s.budget b.0 in
    omega (arith, le, ne)

pub kept_closed : (p : Polygraph) (tree now : Growth) (closed budget : ℕ) (graph : Graph) (lists : List (Vec SideEdge Global)) (table : List Decided) (id : ℕ) (m : CubeState) → IsMachine p tree closed budget graph lists table
    → is_finished (record { polygraph = p; nodes = tree.nodes; closed = closed; budget = budget }) ≡ false
    → now.nodes ≡ with_mark tree.nodes id m → now.room ≡ tree.room → IsMachine p now (closed + 1) budget graph lists table
kept_closed p tree now closed budget graph lists table id m k going e room =
    let fits = short (record { polygraph = p; nodes = tree.nodes; closed = closed; budget = budget }) going k.counted in
    let n = ap length e in let l = length_marked tree.nodes id m in let small = k.small in let roomy = k.roomy in
    record {
      small = omega (arith, n, l, small);
      roomy = omega (arith, roomy, room);
      counted = fits;
      few = k.few;
      alike = k.alike;
      listed = k.listed;
      once = subst AreOnce (sym e) (once_marked tree.nodes id m k.once);
      seats = k.seats;
      noted = subst (λ nodes. AreNoted nodes (length p.choices) table) (sym e) (noted_marked tree.nodes (length p.choices) table id m k.noted);
    }

pub kept_split : (p : Polygraph) (tree now : Growth) (closed budget : ℕ) (graph : Graph) (lists : List (Vec SideEdge Global)) (table : List Decided) (id : ℕ) (m : CubeState) (a b : Node) → IsMachine p tree closed budget graph lists table
    → is_finished (record { polygraph = p; nodes = tree.nodes; closed = closed; budget = budget }) ≡ false
    → ((k : ℕ) → IsOnce (cube_in (a ∷ b ∷ []) k)) → now.nodes ≡ with_mark tree.nodes id m ++ a ∷ b ∷ [] → now.room ≡ tree.room → IsMachine p now (closed + 1) budget graph lists table
kept_split p tree now closed budget graph lists table id m a b k going once e room =
    let fits = short (record { polygraph = p; nodes = tree.nodes; closed = closed; budget = budget }) going k.counted in
    let n = ap length e in let l = length_marked tree.nodes id m in let t = length-append (with_mark tree.nodes id m) (a ∷ b ∷ []) in
    let small = k.small in let roomy = k.roomy in
    record {
      small = omega (arith, n, t, l, small);
      roomy = omega (arith, roomy, room);
      counted = fits;
      few = k.few;
      alike = k.alike;
      listed = k.listed;
      once = subst AreOnce (sym e) (once_more (with_mark tree.nodes id m) (a ∷ b ∷ []) (once_marked tree.nodes id m k.once) once);
      seats = k.seats;
      noted = subst (λ nodes. AreNoted nodes (length p.choices) table) (sym e) (noted_more (with_mark tree.nodes id m) (a ∷ b ∷ []) (length p.choices) table (noted_marked tree.nodes (length p.choices) table id m k.noted));
    }

-- a node is marked that is not closed
pub kept_marked : (p : Polygraph) (tree now : Growth) (closed budget : ℕ) (graph : Graph) (lists : List (Vec SideEdge Global)) (table : List Decided) (id : ℕ) (m : CubeState) → IsMachine p tree closed budget graph lists table
    → now.nodes ≡ with_mark tree.nodes id m → now.room ≡ tree.room → IsMachine p now closed budget graph lists table
kept_marked p tree now closed budget graph lists table id m k e room =
    let n = ap length e in let l = length_marked tree.nodes id m in let small = k.small in let roomy = k.roomy in
    record {
      small = omega (arith, n, l, small);
      roomy = omega (arith, roomy, room);
      counted = k.counted;
      few = k.few;
      alike = k.alike;
      listed = k.listed;
      once = subst AreOnce (sym e) (once_marked tree.nodes id m k.once);
      seats = k.seats;
      noted = subst (λ nodes. AreNoted nodes (length p.choices) table) (sym e) (noted_marked tree.nodes (length p.choices) table id m k.noted);
    }

-- a seat goes to another node
pub kept_went : (p : Polygraph) (tree : Growth) (closed budget : ℕ) (graph : Graph) (lists : List (Vec SideEdge Global)) (table : List Decided) (k : ℕ) (old now : Decided) → IsMachine p tree closed budget graph lists table
    → slice_get table k ≡ Some old → IsNoted tree.nodes now → length now.flags.items ≡ length old.flags.items → IsMachine p tree closed budget graph lists (slice_set table k now)
kept_went p tree closed budget graph lists table k old now m at n l = record {
  small = m.small;
  roomy = m.roomy;
  counted = m.counted;
  few = m.few;
  alike = m.alike;
  listed = m.listed;
  once = m.once;
  seats = length-set table k now ∙ m.seats;
  noted = noted_went tree.nodes (length p.choices) table k old now m.noted at n l;
}

-- at first
pub kept_first : (p : Polygraph) (tree : Growth) (budget : ℕ) (graph : Graph) (lists : List (Vec SideEdge Global)) (table : List Decided) → tree.nodes ≡ root ∷ [] → 2 * budget + 1 ≤ tree.room → budget ≤ 1000000 → graph.nodes ≡ p.nodes
    → HasSides p.choices lists → length table ≡ 17 → AreNoted (root ∷ []) (length p.choices) table → IsMachine p tree 0 budget graph lists table
kept_first p tree budget graph lists table e room few alike listed seats noted =
    let n = ap length e in
    record {
      small = omega (arith, n);
      roomy = room;
      counted = omega arith;
      few = few;
      alike = alike;
      listed = listed;
      once = subst AreOnce (sym e) once_root;
      seats = seats;
      noted = subst (λ nodes. AreNoted nodes (length p.choices) table) (sym e) noted;
    }
