use Rattle.std.proofs.Common.{◌≡◌, ℕ, ◌<◌, ◌≤◌}
use Rattle.platform.specs.Regions.{region, matches}
use Rattle.mpu.proofs.registers.MpuRegs.span.Given as goal

-- each region before this one has all addresses of the span, or none of them
abbrev pub invariant-loop-number : goal.invariant-loop-number
invariant-loop-number l = record {
  first : l.span.first ≤ l.address;
  last : l.address ≤ l.span.last;
  alike : (k : ℕ) → k < l.number → (x : ℕ) → l.span.first ≤ x → x ≤ l.span.last
      → matches (region l.self k) x ≡ matches (region l.self k) l.address;
}
