use Rattle.std.proofs.Common.{◌≡◌, Bool, true, false, not, option_map, refl}
use Rattle.toml.specs.View.{table_view}
use Rattle.board.specs.Texts.{board_in, board_keys}
use Rattle.board.specs.Values.{has_only}
use Rattle.platform.specs.Boards.{numbers_of}
use Rattle.reasons.proofs.Documents.{after_devices}
use Rattle.reasons.proofs.settings.document_problem.Goals as goal

is_not_false : (b : Bool) → false ≡ not b → b ≡ true
is_not_false true h = refl
is_not_false false h = absurd cc

-- the script is refused or not, after numbers, keys, a second RAM and devices that are read
pub returns-in-Ok-devices_at : goal.returns-in-Ok-devices_at
unfolding board_in
returns-in-Ok-devices_at c =
    let known : has_only board_keys (table_view c.args.document.now) ≡ true =
    is_not_false (has_only board_keys (table_view c.args.document.now)) c.in_default-unknown.ensures in
    rw (c.in-Ok.ensures, known, c.in-Ok-with_second_ram.ensures, c.in-Ok-devices_at.ensures)
    (after_devices (table_view c.args.document.now) (numbers_of c.in-Ok-with_second_ram.layout) c.in-Ok-devices_at.found
    _ (rw c.devices.ensures.value at c.script_part.ensures))
