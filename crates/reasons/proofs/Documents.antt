-- A document whose numbers, second RAM and devices are read: it is refused where its script is.
use Rattle.std.proofs.Common.{◌≡◌, List, codes, Option, Some, None, Result, Ok, Err}
use Rattle.toml.specs.Data.{Items, Members, get_member}
use Rattle.devices.specs.declared.device.Device.{Device}
use Rattle.board.specs.Texts.{script_in}
use Rattle.board.specs.Values.{◌>>=◌, tables_at}
use Rattle.platform.specs.Boards.{Described, Numbers, first_tick, max_events}
use Rattle.platform.specs.declared.error.BoardError.{BoardError}
use Rattle.platform.specs.declared.script.ScriptedEvent.{ScriptedEvent}
use Rattle.reasons.specs.declared.problem.Problem.{Problem}
use Rattle.reasons.specs.Events.{script_of}
use Rattle.reasons.specs.Problems.{Finds}

-- a board of a script is refused where the script is
of_script : (numbers : Numbers) (devices : List Device) (script : Result (List ScriptedEvent) BoardError)
    (found : Option Problem) → Finds found script
    → Finds {A = Described} found (script >>= (λ (script : List ScriptedEvent).
    Ok (record { numbers = numbers; script = script; devices = devices })))
of_script numbers devices (Ok script) None h = h
of_script numbers devices (Err error) None h = h
of_script numbers devices (Ok script) (Some problem) h = absurd cc
of_script numbers devices (Err error) (Some problem) h = cc

of_items : (numbers : Numbers) (devices : List Device) (items : Result Items BoardError) (found : Option Problem)
    → Finds found (items >>= script_in numbers.interrupts devices first_tick)
    → Finds {A = Described} found (items >>= (λ (items : Items). script_in numbers.interrupts devices first_tick items
    >>= (λ (script : List ScriptedEvent). Ok (record { numbers = numbers; script = script; devices = devices }))))
of_items numbers devices (Ok items) found h =
    of_script numbers devices (script_in numbers.interrupts devices first_tick items) found h
of_items numbers devices (Err error) None h = h
of_items numbers devices (Err error) (Some problem) h = cc

pub after_devices : (document : Members) (numbers : Numbers) (devices : List Device) (found : Option Problem)
    → Finds found (script_of numbers.interrupts devices document)
    → Finds {A = Described} found (tables_at max_events (get_member (codes "event") document)
    >>= (λ (items : Items). script_in numbers.interrupts devices first_tick items
    >>= (λ (script : List ScriptedEvent). Ok (record { numbers = numbers; script = script; devices = devices }))))
after_devices document numbers devices found h =
    of_items numbers devices (tables_at max_events (get_member (codes "event") document)) found h
