use Rattle.std.proofs.Common.{◌≡◌, ◌∷◌, [], Ok, ap, refl, rules}
use Rattle.gdb_server.proofs.Putting.{delivers_then}
use Rattle.gdb_server.specs.Commands.{command_text, console_text}
use Rattle.gdb_server.specs.Conduct.{piece}
use Rattle.gdb_server.specs.Sessions.{Session, ok, reply_packet, with_reply}
use Rattle.output.specs.declared.writer.IoError.{IoError}
use Rattle.serving.proofs.Delivering.{cut_before, one_cut, put_delivers}
use Rattle.serving.specs.Pieces.{Piece, DeliversAll}
use Rattle.gdb_server.proofs.session.Session.report.Goals as goal

pub returns-in-Err-clause-delivers : goal.returns-in-Err-clause-delivers
returns-in-Err-clause-delivers g c =
    let s = c.args.machine.now.state in
    let past : c.self.inside.past ≡ c.args.self.now.past = ap (λ (k : Session). k.past) c.self.view_is in
    let put = rw (c.last_refusal.ensures, past) at c.in-Err.ensures in
    let text : Piece =
    piece s (console_text (command_text c.args.self.now.past s c.args.self.now.refused c.args.refused c.args.asked)) in
    cut_before (text ∷ []) (piece s (reply_packet ok) ∷ []) _ _ _ _ (one_cut text _ _ _ _ put.0 refl put.1)

pub returns-clause-delivers : goal.returns-clause-delivers
returns-clause-delivers g c =
    let m = c.args.machine.now in
    let past : c.self.inside.past ≡ c.args.self.now.past = ap (λ (k : Session). k.past) c.self.view_is in
    let put = rw (c.last_refusal.ensures, past) at c.in-Ok.ensures in
    let then = rw c.data_of_reply.ensures at c.put_reply.ensures.put in
    let text : Piece =
    piece m.state (console_text
    (command_text c.args.self.now.past m.state c.args.self.now.refused c.args.refused c.args.asked)) in
    let first : DeliversAll (text ∷ []) m m (g.W.Out.writing c.args.out.now)
    (g.W.Out.writing c.report_command.new.out) =
    put_delivers {E = IoError} text m m _ _ (Ok c.in-Ok.field-0) put refl in
    let last : Piece = piece m.state (reply_packet ok) in
    delivers_then (text ∷ []) (last ∷ []) m m m (g.W.Out.writing c.args.out.now)
    (g.W.Out.writing c.report_command.new.out) (g.W.Out.writing c.put_reply.new.out) c.put_reply.result
    first (put_delivers last m m _ _ _ then refl)

pub returns-clause-kept : goal.returns-clause-kept
returns-clause-kept g c =
    let kept : c.put_reply.new.self ≡ with_reply c.args.self.now ok =
    rw c.data_of_reply.ensures at c.put_reply.ensures.kept in
    search rules
