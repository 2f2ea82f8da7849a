use Rattle.std.proofs.Common.{◌≡◌, ◌≤◌, ◌<◌, ◌-◌, ℕ, false}
use Rattle.access_map.specs.Sharing.{is_shared}
use Rattle.platform.specs.Boards.{numbers_of}
use Rattle.access_map.proofs.sharing.shares.Given as goal

-- no address before `first` is shared
abbrev pub invariant-each : goal.invariant-each
invariant-each l = record {
  upto : l.first ≤ 0xE000_0000;
  none : (a : ℕ) → a < l.first → is_shared (numbers_of l.board) l.writer l.reader l.allowed a ≡ false;
}

abbrev pub decreases-each : goal.decreases-each
decreases-each l = 0xE000_0000 - l.first
