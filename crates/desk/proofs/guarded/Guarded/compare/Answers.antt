use Rattle.desk.proofs.Prelude.{◌≡◌, ◌+◌, ◌-◌, ◌≤◌, Some, sym, ap, ◌∙◌, subst, arith, slice_get, vec_len, vec_capacity, part_of, AreTied, staying}
use Rattle.desk.proofs.Tied.{row_at, same_again}
use Rattle.desk.proofs.guarded.Guarded.compare.Goals as goal

pub compare-requires : goal.compare-requires
compare-requires g c =
    let k = c.from.result - 1 in let d = c.index_mut-row.result.now in let s = c.get.ensures in let f = c.from.ensures in
    let is : k ≡ c.args.seat - 1 = omega arith in let n = ap (slice_get g.J.Naming.names) is ∙ c.requires.named in
    let at = row_at g.J.Naming.names c.self.inside.rows.items c.self.inside.history.items k _ d c.self.invariant.2 n c.index_mut-row.ensures.value in
    let both : Some d.account.name ≡ Some c.args.receipt.now.name = sym (c.self.invariant.2.1 k d at).0 ∙ n in cc

pub invariant_of-self : goal.invariant_of-self
invariant_of-self g c =
    let i = c.self.invariant in
    let is = same_again c.self.inside.rows.items (c.from.result - 1) c.index_mut-row.result.now c.compare.new.self c.index_mut-row.ensures.value c.compare.ensures.row in
    (i.0, i.1, subst (λ rows. AreTied g.J.Naming.names rows c.self.inside.history.items) (sym is) i.2, subst (λ rows. vec_len c.self.inside.history + staying rows ≤ vec_capacity c.self.inside.history) (sym is) i.3, i.4)

pub returns-clause-part : goal.returns-clause-part
returns-clause-part g c =
    let k = c.from.result - 1 in let d = c.index_mut-row.result.now in let s = c.get.ensures in let f = c.from.ensures in
    let is : k ≡ c.args.seat - 1 = omega arith in let here : c.args.seat ≡ k + 1 = omega arith in
    let n = ap (slice_get g.J.Naming.names) is ∙ c.requires.named in
    let at = row_at g.J.Naming.names c.self.inside.rows.items c.self.inside.history.items k _ d c.self.invariant.2 n c.index_mut-row.ensures.value in
    (λ j. part_of (here j) ((sym (ap (λ v. v.history) c.self.view_is)) j)) ∙ sym (c.self.invariant.2.1 k d at).1 ∙ c.compare.ensures.same.1
