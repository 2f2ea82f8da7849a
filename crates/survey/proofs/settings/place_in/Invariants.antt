use Rattle.std.proofs.Common.{◌≡◌, ◌+◌, drop}
use Rattle.survey.specs.Settings.{place_in}
use Rattle.survey.proofs.settings.place_in.Given as goal

abbrev pub invariant-loop-place : goal.invariant-loop-place
invariant-loop-place l = l.place + place_in l.region (drop l.place l.rows) ≡ place_in l.region l.rows
