-- The actions of vCont (GDB manual, "Packets", vCont).
use Rattle.std.specs.Prelude.{ℕ, nat_lt, Bool, true, false, ◌==◌, if◌then◌else◌, List, [], ◌∷◌, codes, bytes_eq}
use Rattle.std.specs.Prelude.{Option, Some, None}
use Rattle.gdb_packets.specs.Numbers.{Parts, number, parted, two_numbers}
use Rattle.gdb_packets.specs.Packets.{colon}
use Rattle.gdb_texts.specs.Parts.{parts, semicolon}
use Rattle.gdb_texts.specs.declared.actions.Action.{Action}
use Rattle.gdb_texts.specs.declared.actions.Action.TheVariants as action
use Rattle.gdb_texts.specs.declared.actions.Resume.{Resume}
use Rattle.gdb_texts.specs.declared.actions.Resume.TheVariants as resume

-- ---- what an action does

-- nothing follows the letter
abbrev pub alone : Resume → List ℕ → Option Resume
alone r [] = Some r
alone r (byte ∷ bytes) = None

-- a signal follows the letter. It is ignored: firmware takes none (profile)
abbrev pub with_signal : Resume → Option ℕ → Option Resume
with_signal r None = None
with_signal r (Some signal) = Some r

abbrev pub range_of : Option (ℕ × ℕ) → Option Resume
range_of None = None
range_of (Some range) = Some (resume.Range range.0 range.1)

-- c, s, C signal, S signal, or r first,end
abbrev pub verb_of : ℕ → List ℕ → Option Resume
verb_of letter rest =
    if letter == 99 then alone resume.Continue rest  -- c
    else if letter == 115 then alone resume.Step rest  -- s
    else if letter == 67 then with_signal resume.Continue (number rest)  -- C
    else if letter == 83 then with_signal resume.Step (number rest)  -- S
    else if letter == 114 then range_of (two_numbers rest)  -- r
    else None

abbrev pub read_verb : List ℕ → Option Resume
read_verb [] = None
read_verb (letter ∷ rest) = verb_of letter rest

-- ---- for which thread it is: there is thread 1 alone (profile)

abbrev pub is_small : Option ℕ → Option Bool
is_small None = None
is_small (Some thread) = Some (nat_lt thread 2)

-- whether a thread is thread 1, any thread (0) or all threads (-1), None where it is no number
abbrev pub is_ours : List ℕ → Option Bool
is_ours text = if bytes_eq text (codes "-1") then Some true else is_small (number text)

-- ---- an action: its letter and what follows, and `:` with a thread or nothing

abbrev pub action_for : Option Resume → Option Bool → Action
action_for None ours = action.Malformed
action_for (Some r) None = action.Malformed
action_for (Some r) (Some true) = action.Ours r
action_for (Some r) (Some false) = action.Other

abbrev pub action_in : List ℕ → Option Parts → Action
action_in text None = action_for (read_verb text) (Some true)
action_in text (Some parts) = action_for (read_verb parts.front) (is_ours parts.rest)

abbrev pub action_of : List ℕ → Action
action_of text = action_in text (parted colon text)

-- ---- the first action that is for the one thread, None where an action up to it hasn't the form, or there is none

abbrev pub or_next : Action → Option Resume → Option Resume
or_next action.Malformed next = None
or_next action.Other next = next
or_next (action.Ours r) next = Some r

unfoldable pub first_ours : List (List ℕ) → Option Resume
first_ours [] = None
first_ours (part ∷ parts) = or_next (action_of part) (first_ours parts)

-- what `vCont;` with these actions asks for
abbrev pub actions_of : List ℕ → Option Resume
actions_of text = first_ours (parts semicolon text)
