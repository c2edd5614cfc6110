use Rattle.std.proofs.Common.{◌≡◌, ℕ, List, map, nat_cmp, subst, ◌∙◌}
use Rattle.std.specs.BTreeSet.{contains}
use Rattle.session_log.specs.Text.{view}
use Rattle.session_log.specs.declared.session.Session.{Session}
use Rattle.session_history.specs.Worklist.{IsOnce}
use Rattle.log_definitions.specs.Unknown.{taken}
use Rattle.known_outcomes.proofs.Changed.{settled_resolved}
use Rattle.known_outcomes.proofs.resolve.Goals as goal

pub returns : goal.returns
returns c =
    let ss = map view c.args.sessions.items in
    let chosen = contains nat_cmp c.in_ok-taken.taken in
    let P : List Session → Type 0 = λ xs. IsOnce (map view xs) → (n : ℕ) → chosen n ≡ taken (map view xs) n in
    let are : P c.args.sessions.items = subst P c.deref-2.ensures.value c.in_ok-taken.ensures in
    record {
      resolved = c.settle_all.ensures ∙ settled_resolved chosen ss (are (record { sessions = c.requires.numbers; writes = c.requires.writes }));
    }
