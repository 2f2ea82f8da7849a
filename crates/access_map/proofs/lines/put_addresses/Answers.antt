use Rattle.access_map.specs.Lines.{addresses_text, spaced}
use Rattle.access_map.proofs.Texts.{in_two}
use Rattle.access_map.proofs.lines.put_addresses.Goals as goal

pub returns-clause-text : goal.returns-clause-text
unfolding addresses_text
returns-clause-text c =
    in_two c.args.line.now c.put_spaced.new.line c.put_spaced-2.new.line (spaced c.args.first) (spaced c.args.last)
    c.put_spaced.ensures.text c.put_spaced-2.ensures.text
