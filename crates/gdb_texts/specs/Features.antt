-- The features of a client (GDB manual, "General Query Packets", qSupported).
use Rattle.std.specs.Prelude.{ℕ, Bool, List, codes, bytes_eq}
use Rattle.std.specs.List.{list_any}
use Rattle.gdb_texts.specs.Parts.{parts, semicolon}
use Rattle.gdb_texts.specs.declared.features.Features.{Features}

-- whether a feature is in the list of features
abbrev pub has_feature : List ℕ → List ℕ → Bool
has_feature name text = list_any (λ part. bytes_eq part name) (parts semicolon text)

-- the features after `qSupported:`. Only GDB says that it knows vCont with this word (profile)
unfoldable pub features_of : List ℕ → Features
features_of text = record {
  is_gdb = has_feature (codes "vContSupported+") text;
  takes_swbreak = has_feature (codes "swbreak+") text;
  takes_hwbreak = has_feature (codes "hwbreak+") text;
}
