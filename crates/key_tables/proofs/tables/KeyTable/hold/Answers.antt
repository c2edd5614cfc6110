use Rattle.list_lemmas.proofs.Elements.{looked_up}
use Rattle.key_tables.proofs.Parts.{updated_by}
use Rattle.key_tables.proofs.tables.KeyTable.hold.Goals as goal

pub returns : goal.returns
returns c k =
    let ts = c.args.self.now.tables.items in
    let table = c.in-Some.table.now in
    let place = c.place_of-place.result in
    updated_by ts place table c.hold.new.table c.args.key.now c.args.value
    (looked_up ts place table c.in-Some.ensures.item.0 c.in-Some.ensures.item.1)
    c.place_of-place.ensures
    c.in_ok-hold.ensures.held k
