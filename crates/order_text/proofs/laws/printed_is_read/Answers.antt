use Rattle.order_text.proofs.Printing.{printed_accepted, printed_short, order_text-injective}
use Rattle.order_text.proofs.laws.printed_is_read.Goals as goal

pub returns : goal.returns
returns c = record {
  accepted = λ ss well room. printed_accepted ss (record { well = well; room = room });
  short = λ ss well room. printed_short ss (record { well = well; room = room });
  unique = λ ss well room. order_text-injective ss (record { well = well; room = room });
}
