use Rattle.session_history.proofs.Prelude.{sym, ◌∙◌, nat_cmp, get, slice_cmp}
use Rattle.session_history.proofs.Seen.{number_stays, listed, not_listed, found_more, first_seen_known, first_seen_new, number_of_pushed, places_pushed}
use Rattle.session_history.proofs.numbers.Numbers.search.Goals as goal

pub returns-in-Some-clause-keys : goal.returns-in-Some-clause-keys
returns-in-Some-clause-keys c =
    let xs = c.args.self.now.texts.items in
    first_seen_known xs c.args.key.now (listed xs c.args.key.now c.in-Some.number.now (sym (c.in-Some.ensures.value ∙ c.requires.found c.args.key.now))).0

pub returns-in-Some-clause-number : goal.returns-in-Some-clause-number
returns-in-Some-clause-number c = λ later.
    let xs = c.args.self.now.texts.items in
    let at = listed xs c.args.key.now c.in-Some.number.now (sym (c.in-Some.ensures.value ∙ c.requires.found c.args.key.now)) in
    sym (number_stays later xs c.args.key.now at.0 ∙ at.1)

pub returns-clause-finds : goal.returns-clause-finds
returns-clause-finds c = record {
  places = places_pushed c.args.self.now.texts.items c.push.new.self.items c.args.key.now c.in_ok-to_owned_key-2.field-0
      (not_listed c.args.self.now.texts.items c.args.key.now (sym (c.in_default.ensures.value ∙ c.requires.found c.args.key.now)))
      c.in_ok-push.ensures.items c.in_ok-to_owned_key-2.ensures.same c.requires.places;
  marks = c.requires.marks;
  found = found_more (get (slice_cmp nat_cmp) c.args.self.now.numbers) (get (slice_cmp nat_cmp) c.insert.new.self)
      c.args.self.now.texts.items c.push.new.self.items c.args.key.now c.in_ok-to_owned_key.field-0 c.in_ok-to_owned_key-2.field-0 c.len-number.result
      c.requires.found c.in_default.ensures.value c.in_ok-insert.ensures.updates.0 c.in_ok-push.ensures.items
      c.in_ok-to_owned_key.ensures.same c.in_ok-to_owned_key-2.ensures.same c.len-number.ensures;
}

pub returns-clause-keys : goal.returns-clause-keys
returns-clause-keys c =
    let xs = c.args.self.now.texts.items in
    first_seen_new xs c.push.new.self.items c.args.key.now c.in_ok-to_owned_key-2.field-0
    (not_listed xs c.args.key.now (sym (c.in_default.ensures.value ∙ c.requires.found c.args.key.now)))
    c.in_ok-push.ensures.items c.in_ok-to_owned_key-2.ensures.same

pub returns-clause-number : goal.returns-clause-number
returns-clause-number c =
    let xs = c.args.self.now.texts.items in
    number_of_pushed xs c.push.new.self.items c.args.key.now c.in_ok-to_owned_key-2.field-0 c.len-number.result
    (not_listed xs c.args.key.now (sym (c.in_default.ensures.value ∙ c.requires.found c.args.key.now)))
    c.in_ok-push.ensures.items c.in_ok-to_owned_key-2.ensures.same c.len-number.ensures
