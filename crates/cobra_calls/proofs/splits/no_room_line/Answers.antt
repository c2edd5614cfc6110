use Rattle.cobra_calls.proofs.Prelude.{◌≡◌, IfOk, string_bytes, sym, subst, no_room_line}
use Rattle.cobra_calls.proofs.splits.no_room_line.Goals as goal

pub returns-in-Identities : goal.returns-in-Identities
returns-in-Identities c = record { line = subst (λ why. IfOk c.format-in-Identities.result (λ line. string_bytes line ≡ no_room_line c.args.name.now why)) (sym c.in-Identities.is) c.format-in-Identities.ensures.ok }
