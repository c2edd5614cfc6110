use Rattle.cobra_cli.proofs.telling.explanation.Goals as goal

pub returns-clause-text : goal.returns-clause-text
returns-clause-text c = record {
  why = c.in_ok-why.why.items;
  explained = c.in_ok-why.ensures.explained;
  told = rw (c.deref.ensures.value, c.deref-2.ensures.value, c.in_ok-whole.ensures.text) at c.in_ok-write_explanation.ensures.text;
}
