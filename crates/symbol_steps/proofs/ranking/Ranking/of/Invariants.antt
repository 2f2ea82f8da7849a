use Rattle.std.proofs.Common.{◌≤◌, length, take}
use Rattle.std.specs.List.{All}
use Rattle.symbol_steps.specs.Rows.{AreDistinct, AreDescending, IsRowOf}
use Rattle.symbol_steps.proofs.Apart.{AreAmong}
use Rattle.symbol_steps.proofs.ranking.Ranking.of.Given as goal

abbrev pub invariant-symbols : goal.invariant-symbols
invariant-symbols l = record {
  rows : All (IsRowOf l.survey l.symbols.list.items) l.ranking;
  apart : AreDistinct l.ranking;
  among : AreAmong (take l.place l.symbols.list.items) l.ranking;
  order : AreDescending l.ranking;
  few : length l.ranking ≤ 20;
}
