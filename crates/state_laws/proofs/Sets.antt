-- Each small change of the exceptions keeps the board's numbers, its sets and its priority bytes.
use Rattle.std.proofs.Common.{◌≡◌, ℕ, ◌-◌, ◌^◌, ◌<◌, ◌≤◌, Bool, replicate, slice_index, refl, arith, ◌∙◌}
use Rattle.std.proofs.lemmas.Bool.{cond_both}
use Rattle.std.proofs.Math.Nat.{div-mul-le_self}
use Rattle.nvic.proofs.Boards.{at_each, same_each, pending_of_board, active_of_board, enabled_of_board}
use Rattle.nvic.proofs.Boards.{priority_of_board, group_of_board, primask_of_board, faultmask_of_board}
use Rattle.nvic.proofs.Boards.{basepri_of_board, reset_of_board}
use Rattle.nvic.proofs.Changes.{IsPreserved}
use Rattle.nvic.specs.Laws.{FitsBoard}
use Rattle.platform.specs.declared.exception.TheConstants.{EXCEPTIONS}
use Rattle.platform.specs.SystemInvariant.{KeepsTopBits, HasExceptionsOfBoard}
use Rattle.platform.specs.Priorities.{Nvic, can_be_disabled, has_priority_byte, implemented_bits, with_enabled}
use Rattle.platform.specs.Priorities.{with_priority}
use Rattle.platform.specs.Priorities.{with_basepri}
use Rattle.platform.specs.Priorities.{reset_nvic}

-- the numbers of the board, its sets and its priority bytes
pub record HasBoard (interrupts bits : ℕ) (n : Nvic) : Type 0 where
  pub same_interrupts : n.interrupts ≡ interrupts
  pub same_bits : n.priority_bits ≡ bits
  pub board : FitsBoard n
  pub bytes : (x : ℕ) → slice_index n.priorities x < 2 ^ 8
  pub basepri : n.masks.basepri < 2 ^ 8

-- ---- what the invariant says

pub top_bits_of_board : (interrupts bits : ℕ) (n : Nvic) → HasBoard interrupts bits n → KeepsTopBits n
top_bits_of_board interrupts bits n h = record {
  places = h.board.priorities.places;
  priorities = λ x. record { byte = h.bytes x; kept = h.board.priorities.keep x };
  basepri = record { byte = h.basepri; kept = h.board.basepri };
  group = h.board.group;
}

pub board_of : (n : Nvic) → KeepsTopBits n → HasExceptionsOfBoard n → HasBoard n.interrupts n.priority_bits n
board_of n top sets = record {
  same_interrupts = refl;
  same_bits = refl;
  board = record {
    sets = sets;
    priorities = record { places = top.places; keep = λ x. (top.priorities x).kept };
    basepri = top.basepri.kept;
    group = top.group;
  };
  bytes = λ x. (top.priorities x).byte;
  basepri = top.basepri.byte;
}

-- ---- the small changes

-- the change leaves the numbers of the board and the bytes
same_bytes : (interrupts bits : ℕ) (n m : Nvic) → m.interrupts ≡ n.interrupts → m.priority_bits ≡ n.priority_bits →
    m.priorities ≡ n.priorities → m.masks.basepri ≡ n.masks.basepri → HasBoard interrupts bits n → FitsBoard m →
    HasBoard interrupts bits m
same_bytes interrupts bits n m l k p b h is = record {
  same_interrupts = l ∙ h.same_interrupts;
  same_bits = k ∙ h.same_bits;
  board = is;
  bytes = λ x. rw p (h.bytes x);
  basepri = rw b h.basepri;
}

-- a byte of which the lower bits are cleared is a byte
kept_small : (bits b : ℕ) → b < 2 ^ 8 → implemented_bits bits b < 2 ^ 8
kept_small bits b small = let less : implemented_bits bits b ≤ b = div-mul-le_self b (2 ^ (8 - bits)) in omega arith

enabled_kept : (interrupts bits : ℕ) (n : Nvic) (x : ℕ) (on : Bool) → HasBoard interrupts bits n →
    HasBoard interrupts bits (with_enabled n x on)
enabled_kept interrupts bits n x on h =
    cond_both (can_be_disabled n.interrupts x) _ _ (λ m. FitsBoard m → HasBoard interrupts bits m)
    (λ e. same_bytes interrupts bits n _ refl refl refl refl h)
    (λ e. same_bytes interrupts bits n _ refl refl refl refl h)
    (enabled_of_board n x on h.board)

priority_kept : (interrupts bits : ℕ) (n : Nvic) (x b : ℕ) → b < 2 ^ 8 → HasBoard interrupts bits n →
    HasBoard interrupts bits (with_priority n x b)
priority_kept interrupts bits n x b small h =
    cond_both (has_priority_byte n.interrupts x) _ _ (λ m. FitsBoard m → HasBoard interrupts bits m)
    (λ e is. record {
      same_interrupts = h.same_interrupts;
      same_bits = h.same_bits;
      board = is;
      bytes =
          at_each (λ y c. c < 2 ^ 8) n.priorities x (implemented_bits n.priority_bits b) 0
          (kept_small n.priority_bits b small)
          h.bytes;
      basepri = h.basepri;
    })
    (λ e. same_bytes interrupts bits n _ refl refl refl refl h) (priority_of_board n x b h.board)

basepri_kept : (interrupts bits : ℕ) (n : Nvic) (b : ℕ) → b < 2 ^ 8 → HasBoard interrupts bits n →
    HasBoard interrupts bits (with_basepri n b)
basepri_kept interrupts bits n b small h = record {
  same_interrupts = h.same_interrupts;
  same_bits = h.same_bits;
  board = basepri_of_board n b h.board;
  bytes = h.bytes;
  basepri = kept_small n.priority_bits b small;
}

pub board_kept : (interrupts bits : ℕ) → IsPreserved (HasBoard interrupts bits)
board_kept interrupts bits = record {
  pending = λ n x on h. same_bytes interrupts bits n _ refl refl refl refl h (pending_of_board n x on h.board);
  active = λ n x on h. same_bytes interrupts bits n _ refl refl refl refl h (active_of_board n x on h.board);
  enabled = enabled_kept interrupts bits;
  priority = priority_kept interrupts bits;
  group = λ n g h. same_bytes interrupts bits n _ refl refl refl refl h (group_of_board n g h.board);
  primask = λ n on h. same_bytes interrupts bits n _ refl refl refl refl h (primask_of_board n on h.board);
  faultmask = λ n on h. same_bytes interrupts bits n _ refl refl refl refl h (faultmask_of_board n on h.board);
  basepri = basepri_kept interrupts bits;
}

-- ---- the reset

no_byte : (b : ℕ) → b ≡ 0 → b < 2 ^ 8
no_byte b e = omega arith

pub board_at_reset : (interrupts bits : ℕ)
    → HasBoard (reset_nvic interrupts bits).interrupts bits (reset_nvic interrupts bits)
board_at_reset interrupts bits = record {
  same_interrupts = refl;
  same_bits = refl;
  board = reset_of_board interrupts bits;
  bytes = λ x. no_byte (slice_index (replicate EXCEPTIONS 0) x) (same_each EXCEPTIONS 0 x);
  basepri = omega arith;
}
