-- How many copies are kept: they have no more memory than they may.
use Rattle.std.proofs.Common.{◌≡◌, ◌*◌, ◌/◌, ◌≤◌, ℕ, arith}
use Rattle.std.proofs.Math.Nat.{mul-div-le, mul-le-mul_left, mul_right_comm}

-- so many marks, each with its checkpoints, on a board with b bytes of memory
pub copies_fit : (most marks b : ℕ) → marks ≤ most / (3 * b) → 3 * marks * b ≤ most
copies_fit most marks b few =
    let whole : 3 * b * (most / (3 * b)) ≤ most = mul-div-le most (3 * b) in
    let less : 3 * b * marks ≤ 3 * b * (most / (3 * b)) = mul-le-mul_left (3 * b) few in
    let same : 3 * marks * b ≡ 3 * b * marks = mul_right_comm 3 marks b in
    omega (arith, whole, less, same)
