use Rattle.std.proofs.Common.{◌≡◌, ◌∙◌, ◌≤◌, ◌<◌, Some, ap, arith, length, refl, subst}
use Rattle.std.proofs.lemmas.Option.{slice_get_read}
use Rattle.std.specs.List.{slice_get}
use Rattle.std.specs.Str.{bytes_eq}
use Rattle.command_line.proofs.stops.case_named.Goals as goal
use Rattle.command_line.proofs.Searching.{none_at_all, none_yet}
use Rattle.platform.specs.Text.{stop_text}

pub cases-preserved : goal.cases-preserved
cases-preserved g c =
    let within : c.cases.case-index < length c.all-case-items.result.now = omega (arith, c.cases-test.true) in
    none_yet (λ x. stop_text (g.N.NamedStop.stop x)) g.N.NamedStop.all c.args.words.now c.cases.case-index
    c.case-item.result _ c.cases.invariant
    (subst (λ xs. slice_get xs c.cases.case-index ≡ Some c.case-item.result) c.all-case-items.ensures
    (slice_get_read c.all-case-items.result.now _ c.cases.case-index c.case-item.result refl within c.case-item.is))
    (c.has_words.ensures ∙ ap (λ s. bytes_eq (stop_text s) c.args.words.now) c.stop-stop.ensures)
    c.if-has_words.false

pub returns-clause-none : goal.returns-clause-none
returns-clause-none g c =
    let beyond : length c.all-case-items.result.now ≤ c.cases.case-index = omega (arith, c.cases-test.false) in
    λ none. none_at_all (λ x. stop_text (g.N.NamedStop.stop x)) g.N.NamedStop.all c.args.words.now c.cases.case-index
    c.cases.invariant (subst (λ xs. length xs ≤ c.cases.case-index) c.all-case-items.ensures beyond)
    g.met.N.NamedStop.is_listed
