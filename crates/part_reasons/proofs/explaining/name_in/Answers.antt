use Rattle.part_reasons.proofs.Prelude.{[], ◌∷◌, ◌++◌, ◌≡◌, ℕ, List, arith, refl, sym, ap, ◌∙◌, subst, codes, MatchOption, IfSome, Option, Some, None, ◌≢◌, Bor, Contains, IfOk-weaker, lines}
use Rattle.std.proofs.lemmas.Bool.Decides.{Decides-eqb}
use Rattle.std.proofs.lemmas.List.Elements.{Contains-append_right}
use Rattle.std.proofs.lemmas.Slice.Eq.{strip_prefix_is}
use Rattle.part_reasons.proofs.explaining.name_in.Goals as goal

some_weaker : {X : Type 0} (o : Option X) (P Q : X → Type 0) → ((x : X) → P x → Q x) → IfSome o P → IfSome o Q
some_weaker None P Q f h = tt
some_weaker (Some x) P Q f h = f x h

pub returns-in-Some : goal.returns-in-Some
returns-in-Some c =
    let line = c.next_line.result.0.now in
    let ended = c.next_line.result.1 in
    let after = lines c.next_line.result.2.now in
    let has : line ≡ codes "known as: " ++ c.in-Some.name.now =
    subst (λ (r : Option (Bor (List ℕ))). MatchOption r ((rest : List ℕ) → line ≢ codes "known as: " ++ rest) (λ x. line ≡ codes "known as: " ++ x.now)) c.in-Some.is
    (strip_prefix_is Decides-eqb line (codes "known as: ") c.strip_prefix.result c.strip_prefix.ensures.cases) in
    let first : Contains (lines c.args.text.now) (line, ended) =
    c.loop-rest.invariant (line, ended) (subst (λ ls. Contains ls (line, ended)) (sym c.next_line.ensures.line) (0, omega arith, refl)) in
    record {
      named = IfOk-weaker c.owned_text.result _ _
          (λ told h. some_weaker told _ _ (λ name e. record { ended = ended; line = subst (λ l. Contains (lines c.args.text.now) (l, ended)) (has ∙ ap (λ n. codes "known as: " ++ n) (sym e)) first }) h)
          c.owned_text.ensures.text;
    }

pub loop-rest-preserved : goal.loop-rest-preserved
loop-rest-preserved c = λ x h.
    c.loop-rest.invariant x (subst (λ ls. Contains ls x) (sym c.next_line.ensures.line)
    (Contains-append_right ((c.next_line.result.0.now, c.next_line.result.1) ∷ []) (lines c.next_line.result.2.now) x h))
