use Rattle.known_graph.proofs.Prelude.{◌≡◌, ◌/◌, ◌%◌, ◌^◌, ◌<◌, ◌≤◌, eqb, length, get_or, sym, ap, ◌∙◌, rules, bit_and, get_or_read}
use Rattle.known_graph.proofs.Words.{bit_of-read, bit_of-past}
use Rattle.known_graph.proofs.bits.has_bit.Goals as goal

pub returns-in-Some : goal.returns-in-Some
returns-in-Some c =
    let words = c.args.words.now in
    let k = c.args.number in
    let within : k / 64 < length words = search rules in
    let word : c.in-Some.word.now ≡ get_or words (k / 64) 0 = get_or_read words (k / 64) c.in-Some.word.now within c.in-Some.ensures.lookup.1 0 in
    record { value = ap (λ w. eqb (bit_and (w / 2 ^ (k % 64)) 1) 1) word ∙ bit_of-read words k }

pub returns-in-None : goal.returns-in-None
returns-in-None c =
    let past : length c.args.words.now ≤ c.args.number / 64 = search rules in
    record { value = sym (bit_of-past c.args.words.now c.args.number past) }
