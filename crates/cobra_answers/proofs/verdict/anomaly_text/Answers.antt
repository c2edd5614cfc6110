use Rattle.std.proofs.Common.{Some, ap, ◌∙◌}
use Rattle.anomaly_laws.proofs.Meaning.{both_update}
use Rattle.log_definitions.specs.Numbers.{log_of}
use Rattle.cobra_answers.proofs.Told.{reader_within, lost_within}
use Rattle.cobra_answers.proofs.verdict.anomaly_text.Goals as goal

pub read_text-requires : goal.read_text-requires
read_text-requires c = record {
  known = reader_within (log_of c.args.history.now) c.in-Read.kind c.in-Read.node c.in-Read.op (c.requires.reported ∙ ap (λ a. Some a) c.in-Read.is);
}

pub lost_text-requires : goal.lost_text-requires
lost_text-requires c =
    let log = log_of c.args.history.now in
    let lost = c.in-LostUpdate in
    let reported = c.requires.reported ∙ ap (λ a. Some a) lost.is in
    let within = lost_within log lost.key lost.source lost.first lost.second reported in
    let both = both_update log lost.key lost.source lost.first lost.second reported in
    record { key = within.0; source = within.1; first = both.1.high; second = both.2.high }
