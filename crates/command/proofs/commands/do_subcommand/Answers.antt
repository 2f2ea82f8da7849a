use Rattle.std.proofs.Common.{◌≤◌, ℕ, inl, subst}
use Rattle.command.proofs.commands.do_subcommand.Goals as goal
use Rattle.command.specs.Statuses.{max_bytes}

pub returns : goal.returns
returns g c = inl (record {
  image = c.in-Ok.bytes.items;
  board = c.in-Ok-read_file.bytes.items;
  image_fits = subst (λ (n : ℕ). n ≤ max_bytes) c.in-Ok.bytes.ok.0 c.in-Ok.ensures;
  board_fits = subst (λ (n : ℕ). n ≤ max_bytes) c.in-Ok-read_file.bytes.ok.0 c.in-Ok-read_file.ensures;
  performs = rw (← c.as_slice.ensures.value, ← c.as_slice-2.ensures.value) c.perform.ensures;
})
