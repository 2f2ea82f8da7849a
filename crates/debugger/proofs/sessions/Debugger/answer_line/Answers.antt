use Rattle.std.proofs.Common.{◌≡◌, ap}
use Rattle.debugger.proofs.Rooms.{line_held, room_after}
use Rattle.debugger.specs.Held.{Held, data_of}
use Rattle.debugger.specs.Sessions.{line_asked}
use Rattle.debugger.specs.Slots.{HaveRoom}
use Rattle.target.specs.MachineModel.{MachineModel}
use Rattle.debugger.proofs.sessions.Debugger.answer_line.Goals as goal

pub returns-in-Ok-clause-kept : goal.returns-in-Ok-clause-kept
returns-in-Ok-clause-kept g c =
    let s = (g.T.Target.model c.args.machine.now).state in
    let h : Held = record {
      settings = c.self.inside.settings;
      line = c.self.inside.line_buffer;
      slots = c.self.inside.slots;
      is_open = c.self.inside.is_open;
    } in
    let is : c.read_line-asked.result ≡ line_asked (data_of h) =
    rw (← c.slots.ensures, ← c.line.ensures) c.read_line-asked.ensures in
    rw (← c.self.view_is) (line_held h s _ _ _ _ is c.clear.ensures c.quits.ensures c.answer.ensures.kept)

pub returns-in-Ok-clause-room : goal.returns-in-Ok-clause-room
returns-in-Ok-clause-room g c =
    let s = (g.T.Target.model c.args.machine.now).state in
    let room : HaveRoom c.self.inside.slots s.bus = rw (← c.self.view_is) at c.requires in
    room_after c.self.inside.settings s _ c.self.inside.slots _ c.read_line-asked.result room
    (ap (λ (h : Held). h.slots) c.answer.ensures.kept)
    (ap (λ (m : MachineModel). m.state) c.in-Ok.ensures.delivers.stands)
