use Rattle.dimacs.proofs.Prelude.{◌≡◌, ◌++◌, ◌∷◌, [], length, ap, ◌∙◌, sym, arith, length-take-le}
use Rattle.std.specs.Fmt.{decimal}
use Rattle.dimacs.proofs.Numerals.{few_digits, blank, last_byte, text_in_front}
use Rattle.dimacs.proofs.numeral.Numeral.of.Goals as goal

pub slice_bounds-bytes-end : goal.slice_bounds-bytes-end
slice_bounds-bytes-end c =
    let digits = c.as_bytes-digits.result.now in
    omega (arith, few_digits c.args.variable digits (omega (arith, c.if-variable-gt-MAX_KEPT.false)) (c.as_bytes-digits.ensures.value ∙ c.format.ensures.text))

pub copy_from_slice-requires : goal.copy_from_slice-requires
copy_from_slice-requires c =
    let digits = c.as_bytes-digits.result.now in
    let few = few_digits c.args.variable digits (omega (arith, c.if-variable-gt-MAX_KEPT.false)) (c.as_bytes-digits.ensures.value ∙ c.format.ensures.text) in
    length-take-le (length digits) blank (omega (arith, few))

pub slice_bounds-copy_from_slice-end : goal.slice_bounds-copy_from_slice-end
slice_bounds-copy_from_slice-end c = sym (copy_from_slice-requires c)

pub invariant_of-result : goal.invariant_of-result
invariant_of-result c =
    let digits = c.as_bytes-digits.result.now in
    let is = c.as_bytes-digits.ensures.value ∙ c.format.ensures.text in
    let few = few_digits c.args.variable digits (omega (arith, c.if-variable-gt-MAX_KEPT.false)) is in
    let front = c.copy_from_slice.new.self in
    let same = c.copy_from_slice.ensures.after in
    record {
      short = omega (arith, last_byte digits front few same, few);
      right = λ variable e.
          let n : c.args.variable ≡ variable = omega (arith, e) in
          text_in_front digits front few same ∙ ap (λ d. d ++ 32 ∷ []) is ∙ ap (λ m. decimal m ++ 32 ∷ []) n;
    }
