use Rattle.std.proofs.Common.{◌∙◌, [], ap, unwrap_or}
use Rattle.clap.proofs.WalkLemmas.{raw_values-rows}
use Rattle.clap.specs.Words.{found_of}
use Rattle.command_line.proofs.subcommands.values_of.Goals as goal

pub returns : goal.returns
returns c =
    ap (λ found. unwrap_or found [])
    (c.get_raw.ensures ∙ raw_values-rows (found_of c.args.matches.now) c.args.id.now)
