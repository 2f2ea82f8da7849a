-- The lines that say why a run ended.
use Rattle.std.proofs.Common.{◌≡◌, Bool, true, false, List, [], ◌∷◌, ◌++◌, cond, refl, ◌∙◌, ap}
use Rattle.std.proofs.lemmas.List.Elements.{filter-append}
use Rattle.gdb.specs.Whys.{needs_line, needed_lines}
use Rattle.gdb_texts.specs.declared.settings.Settings.{Settings}
use Rattle.gdb_texts.specs.declared.watchpoints.Watchpoint.{Watchpoint}
use Rattle.platform.specs.declared.event.Event.{Event}
use Rattle.platform.specs.Events.{line, lines}
use Rattle.std.specs.List.{filter}
use Rattle.trace.proofs.Selecting.{line_alone, lines-append}

pub needed-append : (k : Settings) (w : List Watchpoint) (xs ys : List Event)
    → needed_lines k w (xs ++ ys) ≡ needed_lines k w xs ++ needed_lines k w ys
needed-append k w xs ys =
    ap lines (filter-append (λ (e : Event). needs_line k w e.what) xs ys)
    ∙ lines-append (filter (λ (e : Event). needs_line k w e.what) xs) (filter (λ (e : Event). needs_line k w e.what) ys)

pub needed-nil : (k : Settings) (w : List Watchpoint) → needed_lines k w [] ≡ []
unfolding lines
needed-nil k w = refl

pub needed_one : (k : Settings) (w : List Watchpoint) (e : Event) → needs_line k w e.what ≡ true
    → needed_lines k w (e ∷ []) ≡ line e
needed_one k w e is = ap (λ (b : Bool). lines (cond b (e ∷ []) [])) is ∙ line_alone e

pub none_needed : (k : Settings) (w : List Watchpoint) (e : Event) → needs_line k w e.what ≡ false
    → needed_lines k w (e ∷ []) ≡ []
none_needed k w e is = ap (λ (b : Bool). lines (cond b (e ∷ []) [])) is ∙ needed-nil k w
