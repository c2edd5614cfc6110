use Rattle.cube_machine.proofs.Prelude.{◌≡◌, ◌∙◌, None, false, true, subst, sym, arith, slice_get, option_map_or, slice_get_read, Node, is_open, held_from, Held, Growth}
use Rattle.cube_machine.proofs.Cubes.{mark_written}
use Rattle.cube_machine.proofs.Places.{IsPlace}
use Rattle.cube_machine.proofs.Seats.{slot_at}
use Rattle.cube_machine.proofs.Trees.{tree_hold, open_below, open_marked, open_placed, listed_ascending}
use Rattle.cube_machine.proofs.tree.Tree.hold.Goals as goal

pub index_mut-requires : goal.index_mut-requires
index_mut-requires c =
    let xs = c.self.inside.nodes in
    let r = subst (λ (s : Growth). option_map_or (λ (y : Node). is_open y.mark) (slice_get s.nodes c.args.id) false ≡ true) (sym c.self.view_is) c.requires.ready in
    let lt = open_below xs.items c.args.id r in let o = xs.ok.0 in omega (arith, lt, o)

pub place_of-place-requires : goal.place_of-place-requires
place_of-place-requires c =
    let i = c.self.inside in
    record { ascending = rw c.deref.ensures.value (listed_ascending i.nodes.items i.open_nodes.items i.held i.solved c.self.invariant.0) }

pub remove-requires : goal.remove-requires
remove-requires c =
    let i = c.self.inside in let xs = i.nodes in
    let r = subst (λ (s : Growth). option_map_or (λ (y : Node). is_open y.mark) (slice_get s.nodes c.args.id) false ≡ true) (sym c.self.view_is) c.requires.ready in
    let lt = open_below xs.items c.args.id r in let o = xs.ok.0 in let q = i.open_nodes.ok.0 in
    let at = slice_get_read xs.items xs.len c.args.id c.index_mut.result.now o (omega (arith, lt, o)) c.index_mut.ensures.value in
    let e = c.place_of-place.ensures in
    let w = subst (λ l. IsPlace c.args.id l c.place_of-place.result) c.deref.ensures.value (record { within = e.within; below = e.below; above = e.above }) in
    let p = open_placed xs.items i.open_nodes.items i.held i.solved c.self.invariant.0 c.args.id c.place_of-place.result c.index_mut.result.now at (open_marked xs.items c.args.id c.index_mut.result.now at r) w in
    omega (arith, p, q)

pub invariant_of-self : goal.invariant_of-self
invariant_of-self c =
    let i = c.self.inside in let xs = i.nodes in
    let r = subst (λ (s : Growth). option_map_or (λ (y : Node). is_open y.mark) (slice_get s.nodes c.args.id) false ≡ true) (sym c.self.view_is) c.requires.ready in
    let free = subst (λ (s : Growth). held_from c.args.seat 0 s.nodes ≡ None) (sym c.self.view_is) c.requires.free in
    let lt = open_below xs.items c.args.id r in let o = xs.ok.0 in
    let at = slice_get_read xs.items xs.len c.args.id c.index_mut.result.now o (omega (arith, lt, o)) c.index_mut.ensures.value in
    let e = c.place_of-place.ensures in
    let w = subst (λ l. IsPlace c.args.id l c.place_of-place.result) c.deref.ensures.value (record { within = e.within; below = e.below; above = e.above }) in
    let le = c.get.ensures.range in let n = c.from-slot.ensures ∙ c.get.ensures.value in
    let s = slot_at xs.items i.open_nodes.items i.held i.solved c.args.seat None c.self.invariant.0 (omega (arith, le)) free in
    let k = c.remove.ensures.capacity in let q = c.self.invariant.1 in
    (rw (c.remove.ensures.items, n) (tree_hold xs.items i.open_nodes.items i.held i.solved c.self.invariant.0 c.args.seat c.args.id c.place_of-place.result c.index_mut.result.now at (open_marked xs.items c.args.id c.index_mut.result.now at r) s w), omega (arith, k, q))

pub returns-clause-nodes : goal.returns-clause-nodes
returns-clause-nodes c =
    let xs = c.self.inside.nodes in
    let r = subst (λ (s : Growth). option_map_or (λ (y : Node). is_open y.mark) (slice_get s.nodes c.args.id) false ≡ true) (sym c.self.view_is) c.requires.ready in
    let lt = open_below xs.items c.args.id r in let o = xs.ok.0 in
    let at = slice_get_read xs.items xs.len c.args.id c.index_mut.result.now o (omega (arith, lt, o)) c.index_mut.ensures.value in
    rw (← c.self.view_is) (mark_written xs.items c.args.id c.index_mut.result.now (Held c.args.seat) at)
