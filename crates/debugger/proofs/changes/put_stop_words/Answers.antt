use Rattle.std.proofs.Common.{◌≡◌, ◌∙◌, List, ℕ, ◌++◌, ap}
use Rattle.debugger.proofs.Words.{is_longer, words_after}
use Rattle.platform.specs.Text.{stop_line}
use Rattle.debugger.proofs.changes.put_stop_words.Goals as goal

pub split_at-requires : goal.split_at-requires
split_at-requires c =
    is_longer c.args.stop.now _ (c.as_slice.ensures ∙ (c.put_stop.ensures.text
    ∙ ap (λ (xs : List ℕ). xs ++ stop_line c.args.stop.now) c.new-line.ensures))

pub returns : goal.returns
returns c =
    let line : c.as_slice.result.now ≡ stop_line c.args.stop.now = c.as_slice.ensures ∙ (c.put_stop.ensures.text
    ∙ ap (λ (xs : List ℕ). xs ++ stop_line c.args.stop.now) c.new-line.ensures) in
    c.put_slice.ensures
    ∙ ap (λ (xs : List ℕ). c.args.page.now ++ xs)
    (c.split_at.ensures.back ∙ words_after c.args.stop.now c.as_slice.result.now line)
