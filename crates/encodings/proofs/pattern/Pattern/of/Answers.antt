use Rattle.std.proofs.Common.{◌∙◌, arith, length, ◌<◌}
use Rattle.encodings.specs.Masks.{mask_bit, value_bit}
use Rattle.encodings.proofs.Places.{digits_next, grows, mask_bit_small, value_bit_small}
use Rattle.encodings.proofs.pattern.Pattern.of.Goals as goal

pub loop-place-preserved : goal.loop-place-preserved
loop-place-preserved c =
    let at : c.loop-place.place-index < length c.args.places.now =
    omega (arith, c.loop-place-test.true, c.as_bytes-place-items.ensures.len) in
    rw (c.mask_bit.ensures, c.value_bit.ensures, c.as_bytes-place-items.ensures.value) (record {
      mask = digits_next (mask_bit c.args.clear c.args.set) _ _ 0 _ at ∙ c.loop-place.invariant.mask;
      value = digits_next (value_bit c.args.clear c.args.set) _ _ 0 _ at ∙ c.loop-place.invariant.value;
      small_mask = grows _ _ _ c.loop-place.invariant.small_mask (mask_bit_small c.args.clear c.args.set _);
      small_value = grows _ _ _ c.loop-place.invariant.small_value (value_bit_small c.args.clear c.args.set _);
    })
