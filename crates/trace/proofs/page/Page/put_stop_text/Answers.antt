use Rattle.std.proofs.Common.{append_assoc}
use Rattle.trace.proofs.page.Page.put_stop_text.Goals as goal

pub returns-in-Breakpoint-clause-text : goal.returns-in-Breakpoint-clause-text
returns-in-Breakpoint-clause-text g c =
    rw (c.in-Breakpoint.is, c.put_decimal.ensures.text, c.put-in-Breakpoint.ensures, append_assoc)

pub returns-in-Unpredictable-clause-text : goal.returns-in-Unpredictable-clause-text
returns-in-Unpredictable-clause-text g c =
    rw (
      c.in-Unpredictable.is,
      c.put_slice.ensures,
      c.word.ensures.word,
      c.put-in-Unpredictable.ensures,
      append_assoc,
    )

pub returns-in-OutOfProfile-clause-text : goal.returns-in-OutOfProfile-clause-text
returns-in-OutOfProfile-clause-text g c =
    rw (
      c.in-OutOfProfile.is,
      c.put_slice-in-OutOfProfile.ensures,
      c.word-in-OutOfProfile.ensures.word,
      c.put-in-OutOfProfile.ensures,
      append_assoc,
    )
