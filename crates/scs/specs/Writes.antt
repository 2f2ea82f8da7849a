-- What a write leaves, and its answer, from its result: the new registers, or its stop.
use Rattle.std.specs.Prelude.{Result, Ok, Err}
use Rattle.platform.specs.declared.stop.Stop.{Stop}

-- a write that stops leaves the registers as they were
abbrev pub after_write : {A : Type 0} → A → Result A Stop → A
after_write old (Ok new) = new
after_write old (Err why) = old

-- the answer to a write
abbrev pub answered : {A : Type 0} → Result A Stop → Result (Unit {0}) Stop
answered (Ok new) = Ok tt
answered (Err why) = Err why
