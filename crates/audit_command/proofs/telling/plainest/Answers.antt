use Rattle.audit_command.proofs.Prelude.{map, view}
use Rattle.audit_command.proofs.Resolved.{all_told_of}
use Rattle.audit_command.proofs.telling.plainest.Goals as goal

pub last_plain-requires-clause-parts : goal.last_plain-requires-clause-parts
last_plain-requires-clause-parts g c κs within =
    let k = c.requires.known in
    all_told_of c.args.options.now.means.level (map view c.args.log.now.sessions.now) k c.in_ok-more.more.items (c.in_ok-more.ensures.told k.ss k.legal k.sound k.is)
