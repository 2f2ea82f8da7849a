use Rattle.std.proofs.Common.{◌≡◌, sym, ap, ◌∙◌}
use Rattle.std.proofs.lemmas.Str.{IsUtf8-past_char}
use Rattle.std.specs.Str.{chars}
use Rattle.std.specs.Str.Iter.{chars_rest}
use Rattle.messages.specs.Clips.{clipped, empty, joined}
use Rattle.messages.specs.Visible.{visible}
use Rattle.messages.proofs.Joining.{joined_done, joined_last, joined_more}
use Rattle.messages.proofs.quoted.escape_all.Goals as goal

pub characters-preserved : goal.characters-preserved
characters-preserved c =
    let held = c.characters.invariant in
    let parts = c.in-Some.ensures.steps.0 in
    let pushed : c.push.new.self ≡ clipped 198 c.characters.shown (visible c.in-Some.character) =
    c.push.ensures ∙ ap (clipped 198 c.characters.shown) (c.as_str.ensures.value ∙ c.visible.ensures) in (
      IsUtf8-past_char _ _ c.in-Some.character held.0 parts,
      joined_more 198 visible c.characters.shown c.push.new.self (joined 198 visible empty (chars c.args.text.now))
          (chars_rest c.characters.character-iterator) (chars_rest c.next.new.self) c.in-Some.character held.0 parts
          pushed held.1,
    )

pub returns-then-is_cut : goal.returns-then-is_cut
returns-then-is_cut c =
    let held = c.characters.invariant in
    let parts = c.in-Some.ensures.steps.0 in
    let pushed : c.push.new.self ≡ clipped 198 c.characters.shown (visible c.in-Some.character) =
    c.push.ensures ∙ ap (clipped 198 c.characters.shown) (c.as_str.ensures.value ∙ c.visible.ensures) in
    joined_last 198 visible c.characters.shown c.push.new.self (joined 198 visible empty (chars c.args.text.now))
    (chars_rest c.characters.character-iterator) (chars_rest c.next.new.self) c.in-Some.character held.0 parts pushed
    held.1 (sym c.is_cut.ensures ∙ c.if-is_cut.true)

pub returns : goal.returns
returns c =
    joined_done 198 visible c.characters.shown (joined 198 visible empty (chars c.args.text.now))
    (chars_rest c.characters.character-iterator) c.in-None.ensures.steps.0.0 c.characters.invariant.1
