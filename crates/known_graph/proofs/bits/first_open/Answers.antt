use Rattle.known_graph.proofs.Opened.{open_found, done_none, done_more, done_all}
use Rattle.known_graph.proofs.bits.first_open.Goals as goal

pub loop-i-init : goal.loop-i-init
loop-i-init c = done_none c.args.words.now c.args.done.now

pub returns-then-open-ne0-clause-found : goal.returns-then-open-ne0-clause-found
returns-then-open-ne0-clause-found c =
    let f = open_found c.args.words.now c.args.done.now c.loop-i.i (c.type_inv.words c.loop-i.i).fits (c.type_inv.done c.loop-i.i).fits c.if-open-ne0.true in
    (f.set, f.clear)

pub loop-i-preserved : goal.loop-i-preserved
loop-i-preserved c = done_more c.args.words.now c.args.done.now c.loop-i.i (c.type_inv.done c.loop-i.i).fits c.if-open-ne0.false c.loop-i.invariant

pub returns-clause-none : goal.returns-clause-none
returns-clause-none c = done_all c.args.words.now c.args.done.now c.loop-i.i c.loop-i-test.false c.loop-i.invariant
