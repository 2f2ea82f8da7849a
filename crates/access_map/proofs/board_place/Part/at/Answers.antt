use Rattle.std.proofs.Common.{◌≡◌, ℕ, Bool, ◌∙◌, ap, arith, sym}
use Rattle.access_map.proofs.PlacesMade.{kinds_alike}
use Rattle.access_map.specs.declared.world.Place.TheVariants.{Flash, Ram, SecondRam, Window}
use Rattle.access_map.specs.Places.{is_in_bus, is_in_device}
use Rattle.access_map.specs.Worlds.{is_in_place}
use Rattle.platform.specs.Boards.{numbers_of}
use Rattle.access_map.proofs.board_place.Part.at.Goals as goal

-- what holds as at a beginning holds as at an address that is the same
at_first : (p : ℕ → Bool) (a begins first : ℕ) → p a ≡ p begins → begins ≡ first → p a ≡ p first
at_first p a begins first e is = e ∙ ap p is

-- each address passes the tests that the first one passes
pub returns-clause-right : goal.returns-clause-right
returns-clause-right c a above below =
    let one = c.cut_at_place-flash.ensures.first in
    let two = c.cut_at_place-ram.ensures.first ∙ one in
    let three = c.cut_at_place-second.ensures.first ∙ two in
    let four = c.cut_at-bus.ensures.first ∙ three in
    let five = c.cut_at_devices-device.ensures.first ∙ four in
    let six = c.cut_at_place-window.ensures.first ∙ five in
    let f = c.cut_at_place-ram.ensures.last in
    let e = c.cut_at_place-second.ensures.last in
    let d = c.cut_at-bus.ensures.last in
    let b = c.cut_at_devices-device.ensures.last in
    let w = c.cut_at_place-window.ensures.last in
    kinds_alike (numbers_of c.args.board.now) c.args.devices.now a c.args.first
    (at_first (λ x. is_in_place (numbers_of c.args.board.now) Flash x) a _ _
    (c.cut_at_place-flash.ensures.alike a (omega (arith, above, one)) (omega (arith, below, w, b, d, e, f))) one)
    (at_first (λ x. is_in_place (numbers_of c.args.board.now) Ram x) a _ _
    (c.cut_at_place-ram.ensures.alike a (omega (arith, above, two)) (omega (arith, below, w, b, d, e))) two)
    (at_first (λ x. is_in_place (numbers_of c.args.board.now) SecondRam x) a _ _
    (c.cut_at_place-second.ensures.alike a (omega (arith, above, three)) (omega (arith, below, w, b, d))) three)
    (at_first is_in_bus a _ _
    (c.cut_at-bus.ensures.alike a (omega (arith, above, four)) (omega (arith, below, w, b))) four)
    (at_first (λ x. is_in_device c.args.devices.now x) a _ _
    (c.cut_at_devices-device.ensures.alike a (omega (arith, above, five)) (omega (arith, below, w))) five)
    (at_first (λ x. is_in_place (numbers_of c.args.board.now) Window x) a _ _
    (c.cut_at_place-window.ensures.alike a (omega (arith, above, six)) below) six)
    ∙ sym c.kind_at.ensures
