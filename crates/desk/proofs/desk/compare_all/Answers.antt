use Rattle.desk.proofs.Prelude.{◌≡◌, List, [], ◌∷◌, ◌++◌, All, refl, sym, ap, ◌∙◌, subst, arith, append_assoc, length, All-push, append-nil, part_of}
use Rattle.desk.proofs.desk.compare_all.Goals as goal

nothing : {A : Type 0} (xs : List A) → length xs ≡ 0 → xs ≡ []
nothing [] e = refl
nothing (x ∷ xs) e = absurd (omega arith)

pub loop-left-preserved : goal.loop-left-preserved
loop-left-preserved g c =
    let i = c.loop-left.invariant in let e = c.compare_one-guarded.ensures in
    (e.same ∙ i.0, All-push (λ x. part_of x.number c.args.guarded.history ≡ x.calls) c.loop-left.yielded c.in-Some.left i.1 (ap (λ h. part_of c.in-Some.left.number h.history) (sym i.0) ∙ e.part), append_assoc c.loop-left.yielded (c.in-Some.left ∷ []) c.next.new.self.rest.items ∙ ap (λ l. c.loop-left.yielded ++ l) (sym c.in-Some.ensures.steps.0) ∙ i.2)

pub returns-clause-parts : goal.returns-clause-parts
returns-clause-parts g c =
    let n = c.in-None.ensures.steps.0 in let o = c.loop-left.left-iterator.rest.ok in
    let none = nothing c.loop-left.left-iterator.rest.items (omega arith) in
    let all : c.loop-left.yielded ≡ c.args.lefts.items = sym (append-nil c.loop-left.yielded) ∙ ap (λ l. c.loop-left.yielded ++ l) (sym none) ∙ c.loop-left.invariant.2 in
    subst (All (λ x. part_of x.number c.args.guarded.history ≡ x.calls)) all c.loop-left.invariant.1
