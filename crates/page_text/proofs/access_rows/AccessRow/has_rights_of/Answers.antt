use Rattle.std.proofs.Common.{◌≡◌, ◌∙◌, arith, length, refl, sym}
use Rattle.std.proofs.lemmas.List.{ext_get_or}
use Rattle.page_text.specs.AccessTables.{no_rights}
use Rattle.page_text.proofs.access_rows.AccessRow.has_rights_of.Goals as goal

pub returns : goal.returns
returns c =
    let here : length c.args.self.now.rights ≡ 8 = search in
    let there : length c.args.other.now.rights ≡ 8 = search in
    let read = c.columns-test.false in (
      λ t. ext_get_or no_rights _ _ (here ∙ sym there)
          (λ i below. c.columns.invariant i no_rights (omega (arith, below, here, read))),
      λ e. refl,
    )
