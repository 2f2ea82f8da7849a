use Rattle.std.proofs.Common.{◌≡◌, ◌/◌, ◌^◌, ap, sym, ◌∙◌}
use Rattle.exec.proofs.Listed.{none_next}
use Rattle.exec.proofs.load_store_multiple.next_listed.Goals as goal

pub returns-then-left-eq0 : goal.returns-then-left-eq0
returns-then-left-eq0 c =
    let none : c.args.list / 2 ^ c.args.from ≡ 0 =
    ap (λ n. n / 2 ^ c.args.from) (sym c.bits.ensures ∙ sym c.from.ensures) ∙ c.if-left-eq0.true in
    none_next c.args.list c.args.from c.requires none
