use Rattle.gdb_server.proofs.session.Session.put_reply.Goals as goal

pub returns-in-Ok-clause-kept : goal.returns-in-Ok-clause-kept
returns-in-Ok-clause-kept g c = rw c.in-Ok.is (rw c.as_slice.ensures.text at c.send.ensures.kept)

pub returns-in-Err-clause-kept : goal.returns-in-Err-clause-kept
returns-in-Err-clause-kept g c =
    rw c.in-Err.is (rw (c.reply_text.ensures.text, c.keep_refusal.ensures) at c.send-in-Err.ensures.kept)
