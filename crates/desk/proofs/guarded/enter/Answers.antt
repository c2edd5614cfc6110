use Rattle.desk.proofs.Prelude.{◌≡◌, ◌+◌, ◌-◌, [], ◌∷◌, ◌++◌, sym, ap, ◌∙◌, arith, slice_get, vec_len, vec_capacity, part_of}
use Rattle.desk.proofs.Legal.{part_of-mine}
use Rattle.desk.proofs.Tied.{row_at, tied_write, room_for}
use Rattle.desk.proofs.guarded.enter.Goals as goal

pub push_reserved-requires : goal.push_reserved-requires
push_reserved-requires g c =
    let k = c.from.result - 1 in let d = c.index_mut-row.result.now in let a = c.add.ensures in
    let s = c.get.ensures in let f = c.from.ensures in
    let is : k ≡ c.args.seat - 1 = omega arith in
    let at = row_at g.J.Naming.names c.args.rows.now.items c.args.history.now.items k _ d c.requires.tied (ap (slice_get g.J.Naming.names) is ∙ c.requires.named) c.index_mut-row.ensures.value in
    (room_for c.args.rows.now.items k d c.add.new.self (vec_len c.args.history.now) (vec_capacity c.args.history.now) c.args.last at (a.same.0 ∙ c.requires.here) a.row.0 c.requires.room c.requires.more).0

pub returns-clause-tied : goal.returns-clause-tied
returns-clause-tied g c =
    let k = c.from.result - 1 in let d = c.index_mut-row.result.now in let a = c.add.ensures in
    let s = c.get.ensures in let f = c.from.ensures in
    let is : k ≡ c.args.seat - 1 = omega arith in let here : c.args.seat ≡ k + 1 = omega arith in
    let at = row_at g.J.Naming.names c.args.rows.now.items c.args.history.now.items k _ d c.requires.tied (ap (slice_get g.J.Naming.names) is ∙ c.requires.named) c.index_mut-row.ensures.value in
    tied_write g.J.Naming.names c.args.rows.now.items c.args.history.now.items c.push_reserved.new.self.items k c.args.seat d c.add.new.self c.args.event c.args.reply c.requires.tied at here c.push_reserved.ensures.items a.row.1 a.row.2

pub returns-clause-room : goal.returns-clause-room
returns-clause-room g c =
    let k = c.from.result - 1 in let d = c.index_mut-row.result.now in let a = c.add.ensures in
    let s = c.get.ensures in let f = c.from.ensures in let u = c.push_reserved.ensures in
    let is : k ≡ c.args.seat - 1 = omega arith in
    let at = row_at g.J.Naming.names c.args.rows.now.items c.args.history.now.items k _ d c.requires.tied (ap (slice_get g.J.Naming.names) is ∙ c.requires.named) c.index_mut-row.ensures.value in
    let room = (room_for c.args.rows.now.items k d c.add.new.self (vec_len c.args.history.now) (vec_capacity c.args.history.now) c.args.last at (a.same.0 ∙ c.requires.here) a.row.0 c.requires.room c.requires.more).1 in
    let l = u.len in let m = u.capacity in omega arith

pub returns-clause-part : goal.returns-clause-part
returns-clause-part g c =
    let k = c.from.result - 1 in let d = c.index_mut-row.result.now in let a = c.add.ensures in
    let s = c.get.ensures in let f = c.from.ensures in
    let is : k ≡ c.args.seat - 1 = omega arith in let here : k + 1 ≡ c.args.seat = omega arith in
    let at = row_at g.J.Naming.names c.args.rows.now.items c.args.history.now.items k _ d c.requires.tied (ap (slice_get g.J.Naming.names) is ∙ c.requires.named) c.index_mut-row.ensures.value in
    let mine = (c.requires.tied.1 k d at).1 ∙ ap (λ n. part_of n c.args.history.now.items) here in
    ap (part_of c.args.seat) c.push_reserved.ensures.items ∙ part_of-mine c.args.seat c.args.history.now.items c.args.event c.args.reply
    ∙ ap (λ l. l ++ (c.args.event, c.args.reply) ∷ []) (sym mine ∙ a.same.1) ∙ sym a.receipt.2
