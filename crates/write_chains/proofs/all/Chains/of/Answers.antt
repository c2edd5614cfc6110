use Rattle.write_chains.proofs.Prelude.{log_of, next, readers, key_view, key_in}
use Rattle.write_chains.proofs.Nexts.{fit}
use Rattle.write_chains.proofs.Inside.{inner_further, mapped_further}
use Rattle.write_chains.proofs.all.Chains.of.Goals as goal

pub add_inner_edges-requires : goal.add_inner_edges-requires
add_inner_edges-requires c = record { links = fit (log_of c.args.history.now) c.loop-key.key c.in_ok-links.links c.in_ok-links.ensures.links }

pub loop-key-preserved : goal.loop-key-preserved
loop-key-preserved c =
    let log = log_of c.args.history.now in
    let x = c.loop-key.key in
    let links = c.in_ok-links.ensures.links in
    record {
      keys = mapped_further (key_in log) key_view x c.loop-key.keys.items c.push.new.self.items c.in_ok-key_chains.field-0 c.loop-key.invariant.keys c.in_ok-push.ensures.items c.in_ok-key_chains.ensures.chains;
      inner = inner_further log x c.loop-key.inner.items c.add_inner_edges.new.edges.items c.loop-key.invariant.inner
          (c.in_ok-add_inner_edges.ensures.edges log.nodes (next log x) (readers log x) links.next links.readers);
    }
