use Rattle.census.proofs.Prelude.{◌||◌, List, sym, ap, ◌∙◌, subst, Transaction, Op, has_version, AreBehind, KnowsUpdates, Updates, filter, list_any, at_read, updates_by, updates_in, is_committed}
use Rattle.census.proofs.Behind.{updated_reads, updated_again}
use Rattle.census.proofs.Knowing.{updates_more, kept_more, kept_same}
use Rattle.census.proofs.updates.Updates.add.Goals as goal

pub returns-then-not-is_committed : goal.returns-then-not-is_committed
returns-then-not-is_committed c = λ behind before t same is known.
    let P : List Transaction → Type 0 = λ ts. KnowsUpdates ts c.args.self.now in
    subst P (sym (kept_same before t (sym is ∙ c.if-not-is_committed.true))) known

pub returns : goal.returns
returns c = λ behind before t same is known.
    let old = c.args.self.now in
    let states = c.args.states.now in
    let new : Updates = record { once = c.add_updates.new.versions; again = c.add_repeats.new.versions } in
    let Q : List Op → Type 0 = λ ops. AreBehind ops states in
    let here = subst Q same behind in
    let P : List Transaction → Type 0 = λ ts. KnowsUpdates ts new in
    subst P (sym (kept_more before t (sym is ∙ c.if-not-is_committed.false)))
    (updates_more (filter is_committed before) t old new known
    (λ k w. c.in_ok-add_updates.ensures k w ∙ ap (λ (l : List Op). has_version old.once k w || list_any (at_read (updates_by states) k w) l) same ∙ ap (λ b. has_version old.once k w || b) (updated_reads t states here k w))
    (λ k w. c.in_ok-add_repeats.ensures k w ∙ ap (λ (l : List Op). has_version old.again k w || list_any (at_read (updates_in old.once states) k w) l) same ∙ ap (λ b. has_version old.again k w || b) (updated_again t states (has_version old.once) here k w)))
