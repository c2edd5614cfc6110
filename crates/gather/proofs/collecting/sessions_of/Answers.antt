use Rattle.std.proofs.Common.{◌∙◌, length, map, Some, sym, ap, subst, arith}
use Rattle.std.proofs.lemmas.Result.{err_from_is_err_and}
use Rattle.session_log.specs.Text.{view}
use Rattle.gather.proofs.Places.{next_at, seen_more, seen_all}
use Rattle.gather.proofs.Reading.{IsReadTo, none_read, one_read, one_refused, all_read}
use Rattle.gather.proofs.collecting.sessions_of.Goals as goal

pub loop-piece-init : goal.loop-piece-init
loop-piece-init c = record {
  whole = c.into_iter-piece-iterator.ensures.into_iter_gives.0;
  read = subst (λ xs. IsReadTo c.args._log.now 0 (map view xs)) (sym c.in_ok-sessions.ensures.items) (none_read c.args._log.now);
}

pub returns-in_err-into_outcome-clause-fault : goal.returns-in_err-into_outcome-clause-fault
returns-in_err-into_outcome-clause-fault c =
    let seen = c.loop-piece.yielded in let i = c.loop-piece.invariant in let rest = c.loop-piece.piece-iterator.rest.items in let p = c.in-Some-piece.parsed in
    let at = next_at seen rest c.next.new.self.rest.items c.args.found.items c.in-Some.piece i.whole c.in-Some.ensures.steps.0 ∙ ap Some c.in-Some-piece.is in
    let e = err_from_is_err_and c.from_residual-in_err-into_outcome.result c.from_residual-in_err-into_outcome.ensures.1 in
    rw (e.1, e.2) (one_refused c.args._log.now (length seen) (map view c.loop-piece.sessions.items) p c.in_err-into_outcome.field-0.0 i.read (c.requires.pieces (length seen) p at) c.into_outcome.ensures.read c.in_err-into_outcome.ensures.fault)

pub loop-piece-preserved : goal.loop-piece-preserved
loop-piece-preserved c =
    let log = c.args._log.now in let seen = c.loop-piece.yielded in let i = c.loop-piece.invariant in let rest = c.loop-piece.piece-iterator.rest.items in let more = c.next.new.self.rest.items in
    let x = c.in-Some.piece in let p = c.in-Some-piece.parsed in let s = c.in_ok-into_outcome.field-0 in let ss = c.loop-piece.sessions.items in
    let at = next_at seen rest more c.args.found.items x i.whole c.in-Some.ensures.steps.0 ∙ ap Some c.in-Some-piece.is in
    record {
      whole = seen_more seen rest more c.args.found.items x i.whole c.in-Some.ensures.steps.0;
      read = one_read log seen x ss c.push.new.self.items p s i.read (c.requires.pieces (length seen) p at) c.into_outcome.ensures.read c.in_ok-into_outcome.ensures.session c.in_ok-push.ensures.items;
    }

pub returns-clause-text : goal.returns-clause-text
returns-clause-text c =
    let rest = c.loop-piece.piece-iterator.rest in let i = c.loop-piece.invariant in
    let n = c.in-None.ensures.steps.0 in let o = rest.ok in
    let all = seen_all c.loop-piece.yielded rest.items c.args.found.items i.whole (omega arith) in
    all_read c.args._log.now (length c.loop-piece.yielded) (map view c.loop-piece.sessions.items) i.read (let e = ap length all in let r = c.requires.count in omega arith)

pub returns-clause-legal : goal.returns-clause-legal
returns-clause-legal c = c.loop-piece.invariant.read.legal

pub returns-clause-held : goal.returns-clause-held
returns-clause-held c = c.loop-piece.invariant.read.held
