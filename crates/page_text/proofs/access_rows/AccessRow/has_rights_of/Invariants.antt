use Rattle.std.proofs.Common.{◌≡◌, ℕ, ◌<◌, get_or}
use Rattle.access_map.specs.declared.world.Rights.{Rights}
use Rattle.page_text.proofs.access_rows.AccessRow.has_rights_of.Given as goal

-- the rights of the columns that were read are the same
abbrev pub invariant-columns : goal.invariant-columns
invariant-columns l =
    (k : ℕ) (d : Rights) → k < l.column → get_or l.self.rights k d ≡ get_or l.other.rights k d
