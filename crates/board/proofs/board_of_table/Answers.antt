use Rattle.std.proofs.Common.{◌∙◌, List, subst, sym}
use Rattle.devices.specs.declared.device.Device.{Device}
use Rattle.platform.specs.Boards.{numbers_of}
use Rattle.platform.specs.SystemInvariant.{HaveLinesOfBoard}
use Rattle.platform.specs.Wiring.{AreWired}
use Rattle.board.proofs.Lines.{lines_at}
use Rattle.board.proofs.Ordered.{script_is}
use Rattle.board.proofs.Taken.{is_board}
use Rattle.board.proofs.Wired.{are_wired}
use Rattle.board.proofs.board_of_table.Goals as goal

pub returns-clause-board : goal.returns-clause-board
returns-clause-board c =
    let layout = c.in_ok-layout-2.layout in
    is_board (record {
      layout = layout;
      events = c.in_ok-events.events;
      devices = c.in-Ok.devices;
    }) (script_is _ _ _ _ _ c.in_ok-events.ensures)
    (subst (HaveLinesOfBoard layout.interrupts) (sym (c.in-Ok.ensures ∙ c.devices-devices.ensures.value))
    (lines_at (numbers_of layout) _ _ c.in_ok-find_devices.ensures))

pub returns-clause-wired : goal.returns-clause-wired
returns-clause-wired c =
    let events = c.in_ok-events.events.items in
    let same = c.devices-devices.ensures.value in
    subst (λ (devices : List Device). AreWired devices events) (sym c.in-Ok.ensures)
    (subst (λ (devices : List Device). AreWired devices events) (sym same)
    (are_wired (numbers_of c.in_ok-layout-2.layout) _ _ _ _ _ events c.in_ok-find_devices.ensures
    (rw same at c.in_ok-events.ensures)))
