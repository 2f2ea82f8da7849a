use Rattle.encodings.proofs.Letters.{below_width}
use Rattle.encodings.proofs.pattern.Letters.register.Goals as goal

pub new-requires : goal.new-requires
new-requires c = below_width 4 c.args.self.places.now c.args.letter _ c.requires c.number.ensures.small
