use Rattle.branching.proofs.Prelude.{ℕ, subst, IfSome, IfNone, View, view_of, AreKept, AreMarks, AreUnforced}
use Rattle.branching.proofs.Unforced.{few_marks, some_kept, none_kept, some_open, none_open}
use Rattle.branching.proofs.view.CubeView.next_marked.Goals as goal

pub next-requires : goal.next-requires
next-requires c =
    let k = c.self.inside in
    let m : AreKept k.reduced.now.poly.nodes k.reduced.now.poly.choices k.sides k.graph.edges c.in-Kept.kept =
    subst (AreMarks k.reduced.now.poly.nodes k.reduced.now.poly.choices k.sides k.graph.edges) c.in-Kept.is c.self.invariant.marks in
    record { short = few_marks (view_of k) c.in-Kept.kept.bits.items k.graph c.self.invariant.view m.marked }

pub returns-in-Unkept-clause-below : goal.returns-in-Unkept-clause-below
returns-in-Unkept-clause-below c =
    subst (λ (v : View). IfSome c.next_open.result (AreUnforced v c.args.from)) c.self.view_is (some_open (view_of c.self.inside) c.args.from c.next_open.result c.next_open.ensures.next)

pub returns-in-Unkept-clause-none : goal.returns-in-Unkept-clause-none
returns-in-Unkept-clause-none c =
    subst (λ (v : View). IfNone c.next_open.result ((n : ℕ) → AreUnforced v c.args.from n)) c.self.view_is (none_open (view_of c.self.inside) c.args.from c.next_open.result c.next_open.ensures.next)

pub returns-in-Kept-clause-below : goal.returns-in-Kept-clause-below
returns-in-Kept-clause-below c =
    let k = c.self.inside in
    let m : AreKept k.reduced.now.poly.nodes k.reduced.now.poly.choices k.sides k.graph.edges c.in-Kept.kept =
    subst (AreMarks k.reduced.now.poly.nodes k.reduced.now.poly.choices k.sides k.graph.edges) c.in-Kept.is c.self.invariant.marks in
    subst (λ (v : View). IfSome c.next.result (AreUnforced v c.args.from)) c.self.view_is
    (some_kept (view_of k) k.graph c.in-Kept.kept.bits.items c.args.from c.next.result c.self.invariant.graph m.marked c.next.ensures.below)

pub returns-in-Kept-clause-none : goal.returns-in-Kept-clause-none
returns-in-Kept-clause-none c =
    let k = c.self.inside in
    let m : AreKept k.reduced.now.poly.nodes k.reduced.now.poly.choices k.sides k.graph.edges c.in-Kept.kept =
    subst (AreMarks k.reduced.now.poly.nodes k.reduced.now.poly.choices k.sides k.graph.edges) c.in-Kept.is c.self.invariant.marks in
    subst (λ (v : View). IfNone c.next.result ((n : ℕ) → AreUnforced v c.args.from n)) c.self.view_is
    (none_kept (view_of k) k.graph c.in-Kept.kept.bits.items c.args.from c.next.result c.self.invariant.view c.self.invariant.graph m.marked c.next.ensures.none)
