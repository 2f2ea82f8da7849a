use Rattle.std.proofs.Common.{map, string_bytes}
use Rattle.clap.specs.Words.{app_of}
use Rattle.command_line.proofs.Parsing.{refused, taken_as}
use Rattle.command_line.proofs.words.subcommand_of.Goals as goal

pub returns-in-Err : goal.returns-in-Err
returns-in-Err c =
    refused (map string_bytes c.args.words.now) (app_of c.in-Ok.command) c.in-Err.error c.error_of.result
    c.in-Ok.ensures c.in-Err.ensures.kinds c.error_of.ensures

pub returns-in-Ok-try_get_matches_from : goal.returns-in-Ok-try_get_matches_from
returns-in-Ok-try_get_matches_from c =
    taken_as (map string_bytes c.args.words.now) (app_of c.in-Ok.command) _ _ _ c.subcommand_in.result c.in-Ok.ensures
    c.in-Ok-try_get_matches_from.ensures.matches c.in-Ok-try_get_matches_from.ensures.kinds c.subcommand_in.ensures
