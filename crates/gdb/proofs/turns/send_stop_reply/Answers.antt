use Rattle.std.proofs.Common.{◌≡◌, ℕ, List, [], ◌++◌, ap, subst, ◌∙◌}
use Rattle.gdb.specs.Targets.{target_values}
use Rattle.gdb_packets.specs.Replies.{packet_of}
use Rattle.gdb_texts.specs.Stops.{stop_reply}
use Rattle.output.specs.Output.{Put}
use Rattle.gdb.proofs.turns.send_stop_reply.Goals as goal

-- a page that was empty has what was appended
only_page : (old new text : List ℕ) → old ≡ [] → new ≡ old ++ text → new ≡ text
only_page old new text empty is = is ∙ ap (λ (front : List ℕ). front ++ text) empty

pub returns-clause-put : goal.returns-clause-put
returns-clause-put g c =
    let same : c.as_slice.result.now
    ≡ stop_reply c.args.reason c.args.features (target_values c.args.machine.now.state) =
    c.as_slice.ensures.value ∙ (only_page _ _ _ c.new-content.ensures c.put_stop_reply.ensures
    ∙ ap (λ (values : List ℕ). stop_reply c.args.reason c.args.features values) c.register_values.ensures) in
    subst (λ (content : List ℕ). Put (g.W.Out.writing c.args.out.now) (g.W.Out.writing c.send_packet.new.out)
    (packet_of content) c.send_packet.result) same c.send_packet.ensures.put

pub returns-clause-sent : goal.returns-clause-sent
returns-clause-sent g c =
    c.send_packet.ensures.sent ∙ ap packet_of (c.as_slice.ensures.value
    ∙ (only_page _ _ _ c.new-content.ensures c.put_stop_reply.ensures
    ∙ ap (λ (values : List ℕ). stop_reply c.args.reason c.args.features values) c.register_values.ensures))
