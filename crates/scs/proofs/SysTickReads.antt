-- What a read of SysTick is made of, so that an attribute can name one definition.
use Rattle.std.proofs.Common.{ℕ}
use Rattle.platform.specs.SysTickRegisters.{read_systick, after_systick_read}

-- to unfold this is to unfold the value and what the read leaves
unfoldable pub value_and_effect : ℕ
unfolding read_systick after_systick_read
value_and_effect = 0
