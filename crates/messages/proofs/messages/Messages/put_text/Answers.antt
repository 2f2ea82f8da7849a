use Rattle.std.proofs.lemmas.Str.{IsUtf8-past_char}
use Rattle.std.specs.Str.{chars}
use Rattle.std.specs.Str.Iter.{chars_rest}
use Rattle.messages.specs.Clips.{left_after, with_characters}
use Rattle.messages.proofs.Joining.{left_done, left_more, line_done, line_more}
use Rattle.messages.proofs.messages.Messages.put_text.Goals as goal

pub characters-preserved : goal.characters-preserved
characters-preserved g c =
    let held = c.characters.invariant in
    let parts = c.in-Some.ensures.steps.0 in (
      IsUtf8-past_char _ _ c.in-Some.character held.0 parts,
      line_more c.characters.self.line c.put.new.self.line
          (with_characters c.args.self.now.line (chars c.args.text.now))
          (chars_rest c.characters.character-iterator) (chars_rest c.next.new.self) c.in-Some.character held.0 parts
          c.put.ensures.line held.1,
      left_more c.characters.self.lines_left c.put.new.self.lines_left
          (left_after c.args.self.now.lines_left (chars c.args.text.now))
          (chars_rest c.characters.character-iterator) (chars_rest c.next.new.self) c.in-Some.character held.0 parts
          c.put.ensures.left held.2,
    )

pub returns-clause-line : goal.returns-clause-line
returns-clause-line g c =
    line_done c.characters.self.line (with_characters c.args.self.now.line (chars c.args.text.now))
    (chars_rest c.characters.character-iterator) c.in-None.ensures.steps.0.0 c.characters.invariant.1

pub returns-clause-left : goal.returns-clause-left
returns-clause-left g c =
    left_done c.characters.self.lines_left (left_after c.args.self.now.lines_left (chars c.args.text.now))
    (chars_rest c.characters.character-iterator) c.in-None.ensures.steps.0.0 c.characters.invariant.2
