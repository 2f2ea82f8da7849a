use Rattle.std.proofs.Common.{◌≡◌, ◌<◌, ◌^◌, ◌+◌, ◌*◌, length, drop}
use Rattle.encodings.specs.Masks.{mask_of, value_of}
use Rattle.encodings.proofs.pattern.Pattern.of.Given as goal

abbrev pub invariant-loop-place : goal.invariant-loop-place
invariant-loop-place l = record {
  mask : l.mask * 2 ^ length (drop l.place-index l.places) + mask_of l.clear l.set (drop l.place-index l.places)
      ≡ mask_of l.clear l.set l.places;
  value : l.value * 2 ^ length (drop l.place-index l.places) + value_of l.clear l.set (drop l.place-index l.places)
      ≡ value_of l.clear l.set l.places;
  small_mask : l.mask < 2 ^ l.place-index;
  small_value : l.value < 2 ^ l.place-index;
}
