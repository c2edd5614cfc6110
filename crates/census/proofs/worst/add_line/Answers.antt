use Rattle.census.proofs.Prelude.{◌≡◌, ◌≤◌, ℕ, List, take, ap, subst, ◌∙◌, insert, KeyFaults, place_in}
use Rattle.census.proofs.Ranks.{left_out}
use Rattle.census.proofs.worst.add_line.Goals as goal
use Rattle.census.proofs.worst.add_line.Goals.{then-place-lt-MOST_KEYS+in_ok-key+in_ok-insert, else-place-lt-MOST_KEYS}

pub returns : goal.returns
returns c =
    let old = c.args.worst.now.items in
    let line : List ℕ → KeyFaults = λ key. record { key = key; faults = c.args.faults } in
    let place : c.place_of-place.result ≡ place_in c.args.faults old = c.place_of-place.ensures ∙ ap (place_in c.args.faults) c.as_slice.ensures.value in
    c.truncate.ensures.items
    ∙ elim c.if-place-lt-MOST_KEYS.branch [
      | then-place-lt-MOST_KEYS+in_ok-key+in_ok-insert w ↦
          ap (λ v. take 10 v.items) w.worst-is
          ∙ ap (take 10) w.in_ok-insert.ensures.items
          ∙ ap (λ key. take 10 (insert old c.place_of-place.result (line key))) w.in_ok-key.ensures.same
          ∙ ap (λ n. take 10 (insert old n (line c.args.key.now))) place
      | else-place-lt-MOST_KEYS w ↦
          ap (λ v. take 10 v.items) w.worst-is
          ∙ left_out (line c.args.key.now) old (subst (λ n. 10 ≤ n) place w.if-place-lt-MOST_KEYS.false)
    ]
