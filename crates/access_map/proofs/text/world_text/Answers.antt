use Rattle.std.proofs.Common.{List, ℕ, ap, ◌∙◌}
use Rattle.access_map.specs.Lines.{world_line}
use Rattle.access_map.proofs.Joining.{put_on, two_parts}
use Rattle.access_map.proofs.text.world_text.Goals as goal

pub returns : goal.returns
returns c =
    record {
      map = c.in_ok-map.map;
      is_map = c.in_ok-map.ensures;
      is =
          two_parts _ _ _ _ _
          (put_on _ _ _ _ c.in_ok-extend_from_slice.ensures.items c.as_slice.ensures.value)
          (c.in_ok-text.ensures
          ∙ ap (λ (name : List ℕ). world_line c.args.number c.args.row.now name) c.shown_name.ensures)
          c.in_ok-map_text.ensures;
    }
