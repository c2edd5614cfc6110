use Rattle.polygraph.proofs.Prelude.{◌≡◌, ◌∙◌, ap, refl, sym, list_all, false≢true, ListsOnce, keeps_one}
use Rattle.polygraph.proofs.Kept.{fits_is, kept_where_fits, all_where_fits}
use Rattle.polygraph.proofs.fits.order_fits.Goals as goal

pub returns-then-keeps_known : goal.returns-then-keeps_known
returns-then-keeps_known c =
    let p = c.args.polygraph.now in
    let order = c.args.order.now in
    let places = c.in-Some.places.places in
    let here = rw c.nodes.ensures.count at c.in-Some.ensures.places in
    let once : ListsOnce p.nodes order = rw c.nodes.ensures.count at (c.in-Some.ensures.once.0 refl) in
    let kept = rw c.known.ensures at (c.keeps_known.ensures.0 c.if-keeps_known.true) in
    let all : c.keeps_each.result ≡ list_all (keeps_one places) p.choices = c.keeps_each.ensures ∙ ap (list_all (keeps_one places)) c.choices.ensures.choices in (
      λ t. fits_is p order places once here c.nodes.ensures.polygraph c.nodes.ensures.known kept (sym all ∙ t),
      λ f. all ∙ all_where_fits p order places here c.nodes.ensures.polygraph f,
    )

pub returns-else-keeps_known : goal.returns-else-keeps_known
returns-else-keeps_known c =
    let p = c.args.polygraph.now in
    let order = c.args.order.now in
    let places = c.in-Some.places.places in
    let here = rw c.nodes.ensures.count at c.in-Some.ensures.places in (
      λ t. absurd (false≢true (sym c.if-keeps_known.false ∙ t)),
      λ f. c.keeps_known.ensures.1 (rw c.known.ensures (kept_where_fits p order places here c.nodes.ensures.known f)),
    )
