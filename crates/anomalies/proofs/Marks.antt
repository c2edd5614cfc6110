-- The marks of a node's operations, one operation further.
use Rattle.anomalies.proofs.Prelude.{◌≡◌, ℕ, ◌+◌, ◌<◌, eqb, List, [], ◌∷◌, ◌++◌, length, get_or, set, Option, None, Some, refl, sym, ap, ◌∙◌, subst, arith, eq-eqb, inl, inr, IfSome, cases_eq, cond-true, cond-false, get_or-set_same}
use Rattle.anomalies.proofs.Prelude.{get_or-set_other, length-set, Event, Log, event_anomaly, LastUse, Usage, event_key, IsUsage, used_by, used_after, AreBelow, AreMarked}
use Rattle.anomalies.proofs.Usages.{usage_more, usage_other}

-- ---- before the first operation
none_used : (v : ℕ) (o : Option LastUse) → IfSome o (λ mark. mark.node < v) → used_by v o ≡ None
none_used v v1 h = grind (arith, cond-false)

still_below : (v : ℕ) (o : Option LastUse) → IfSome o (λ mark. mark.node < v) → IfSome o (λ mark. mark.node < v + 1)
still_below v None h = h
still_below v (Some mark) h = omega (arith, h)

nothing_done : (x : ℕ) → IsUsage x [] None
nothing_done x = record { own = refl; reads = λ _ w. refl }

pub marked_none : (v : ℕ) (marks : List (Option LastUse)) → AreBelow v marks → AreMarked v [] marks
marked_none v marks h = grind (arith, none_used, nothing_done, still_below)

-- ---- one operation further
abbrev pub mark_of : ℕ → List (Option LastUse) → Event → LastUse
mark_of v marks e = record { node = v; used = used_after (used_by v (get_or marks (event_key e) None)) e }

own_mark : (v : ℕ) (u : Usage) → used_by v (Some (record { node = v; used = u })) ≡ Some u
own_mark v u = cond-true (eqb v v) (Some u) None (eq-eqb v v refl)

pub marked_more : (log : Log) (v : ℕ) (before behind : List Event) (e : Event) (marks : List (Option LastUse)) → AreMarked v before marks → event_key e < length marks → event_anomaly log v before e behind ≡ None → AreMarked v (before ++ e ∷ []) (set marks (event_key e) (Some (mark_of v marks e)))
marked_more log v before behind e marks h lt none =
    let k = event_key e in
    let m = mark_of v marks e in
    record {
      usages = λ x in_marks. elim (cases_eq k x) [
        | inl same ↦
            let used = usage_more log v before behind e (used_by v (get_or marks k None)) (h.usages k lt) none in
            let here : used_by v (get_or (set marks k (Some m)) k None) ≡ Some m.used = ap (used_by v) (get_or-set_same marks k (Some m) None lt) ∙ own_mark v m.used in
            let there : IsUsage k (before ++ e ∷ []) (used_by v (get_or (set marks k (Some m)) k None)) = subst (IsUsage k (before ++ e ∷ [])) (sym here) used in
            subst (λ y. IsUsage y (before ++ e ∷ []) (used_by v (get_or (set marks k (Some m)) y None))) same there
        | inr other ↦
            let within : x < length marks = omega (arith, length-set marks k (Some m), in_marks) in
            let kept = get_or-set_other marks k x (Some m) None (λ s. other (sym s)) in
            subst (λ o. IsUsage x (before ++ e ∷ []) (used_by v o)) (sym kept) (usage_other x before e _ other (h.usages x within))
      ];
      below = λ x. elim (cases_eq k x) [
        | inl same ↦
            let here = get_or-set_same marks k (Some m) None lt in
            let there : IfSome (get_or (set marks k (Some m)) k None) (λ mark. mark.node < v + 1) = subst (λ o. IfSome o (λ mark. mark.node < v + 1)) (sym here) (omega arith) in
            subst (λ y. IfSome (get_or (set marks k (Some m)) y None) (λ mark. mark.node < v + 1)) same there
        | inr other ↦ subst (λ o. IfSome o (λ mark. mark.node < v + 1)) (sym (get_or-set_other marks k x (Some m) None (λ s. other (sym s)))) (h.below x)
      ];
    }

-- the marks of a node, which is the one with this number
pub below_next : (u v : ℕ) (old new : List (Option LastUse)) → u ≡ v → old ≡ new → AreBelow (u + 1) new → AreBelow (v + 1) old
below_next u v old new same is h = grind arith
