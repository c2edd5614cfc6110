use Rattle.proof_checks.proofs.Prelude.{◌≡◌, refl, ap, Some, length, proof_of, numbers_at}
use Rattle.proof_checks.proofs.Taken.{not_all_stand, all_stand, taken_deletion, taken_addition, fault_of_addition}
use Rattle.proof_checks.proofs.lrat.Lrat.take.Goals as goal

pub returns-then-not-branch-clause-fault : goal.returns-then-not-branch-clause-fault
returns-then-not-branch-clause-fault c =
    not_all_stand (length c.args.checker.now.known) c.args.line (proof_of c.args.checker.now c.args.self.now.added.items) (proof_of c.args.checker.now c.deref.result.now)
    (record { action = c.args.action; literals = c.args.self.now.literals.items; ids = c.args.self.now.ids.items }) c.deref-2.result.now c.resolve.new.numbers.items c.in_ok-resolve.field-0
    c.in_ok-resolve.ensures (ap (proof_of c.args.checker.now) c.deref.ensures.value) c.deref-2.ensures.value c.if-not-branch.true

pub returns-in_ok-delete-in-Delete-clause-taken : goal.returns-in_ok-delete-in-Delete-clause-taken
returns-in_ok-delete-in-Delete-clause-taken c =
    let stand : numbers_at (proof_of c.args.checker.now c.args.self.now.added.items) c.args.self.now.ids.items ≡ Some c.resolve.new.numbers.items =
    all_stand (proof_of c.args.checker.now c.args.self.now.added.items) (proof_of c.args.checker.now c.deref.result.now) c.deref-2.result.now c.args.self.now.ids.items c.resolve.new.numbers.items c.in_ok-resolve.field-0
    c.in_ok-resolve.ensures (ap (proof_of c.args.checker.now) c.deref.ensures.value) c.deref-2.ensures.value c.if-not-branch.false in
    taken_deletion (length c.args.checker.now.known) c.args.line (proof_of c.args.checker.now c.args.self.now.added.items) (proof_of c.delete.new.checker c.args.self.now.added.items)
    (record { action = c.args.action; literals = c.args.self.now.literals.items; ids = c.args.self.now.ids.items }) c.resolve.new.numbers.items c.deref-in-Delete.result.now stand c.in-Delete.is c.deref-in-Delete.ensures.value c.delete.ensures.clauses refl

pub returns-in-Add-clause-taken : goal.returns-in-Add-clause-taken
returns-in-Add-clause-taken c =
    let stand : numbers_at (proof_of c.args.checker.now c.args.self.now.added.items) c.args.self.now.ids.items ≡ Some c.resolve.new.numbers.items =
    all_stand (proof_of c.args.checker.now c.args.self.now.added.items) (proof_of c.args.checker.now c.deref.result.now) c.deref-2.result.now c.args.self.now.ids.items c.resolve.new.numbers.items c.in_ok-resolve.field-0
    c.in_ok-resolve.ensures (ap (proof_of c.args.checker.now) c.deref.ensures.value) c.deref-2.ensures.value c.if-not-branch.false in
    taken_addition (length c.args.checker.now.known) c.args.line (proof_of c.args.checker.now c.args.self.now.added.items) (proof_of c.add.new.checker c.add.new.self.added.items)
    (record { action = c.args.action; literals = c.args.self.now.literals.items; ids = c.args.self.now.ids.items }) c.resolve.new.numbers.items c.in-Add.id c.add.result stand c.in-Add.is c.add.ensures.added

pub returns-in-Add-clause-fault : goal.returns-in-Add-clause-fault
returns-in-Add-clause-fault c =
    let stand : numbers_at (proof_of c.args.checker.now c.args.self.now.added.items) c.args.self.now.ids.items ≡ Some c.resolve.new.numbers.items =
    all_stand (proof_of c.args.checker.now c.args.self.now.added.items) (proof_of c.args.checker.now c.deref.result.now) c.deref-2.result.now c.args.self.now.ids.items c.resolve.new.numbers.items c.in_ok-resolve.field-0
    c.in_ok-resolve.ensures (ap (proof_of c.args.checker.now) c.deref.ensures.value) c.deref-2.ensures.value c.if-not-branch.false in
    fault_of_addition (length c.args.checker.now.known) c.args.line (proof_of c.args.checker.now c.args.self.now.added.items)
    (record { action = c.args.action; literals = c.args.self.now.literals.items; ids = c.args.self.now.ids.items }) c.resolve.new.numbers.items c.in-Add.id c.add.result stand c.in-Add.is c.add.ensures.fault
