-- What the one thread is at (GDB manual, "General Query Packets", qThreadExtraInfo; the words are a choice of this
-- project).
use Rattle.std.specs.Prelude.{ℕ, Bool, true, false, List, [], ◌++◌, codes, decimal}
use Rattle.platform.specs.Text.{stop_text}
use Rattle.gdb_texts.specs.Bytes.{bytes_text}
use Rattle.gdb_texts.specs.declared.threads.Activity.{Activity}
use Rattle.gdb_texts.specs.declared.threads.Activity.TheVariants as activity

abbrev pub activity_text : Activity → List ℕ
activity_text (activity.Stopped stop) = codes "stop " ++ stop_text stop
activity_text activity.Entry = codes "entry"
activity_text (activity.Handler number) = codes "handler " ++ decimal number
activity_text activity.Privileged = codes "thread privileged"
activity_text activity.Unprivileged = codes "thread unprivileged"

abbrev pub sleep_text : Bool → List ℕ
sleep_text true = codes " asleep"
sleep_text false = []

-- what the machine is at, and whether it sleeps
abbrev pub thread_text : Activity → Bool → List ℕ
thread_text a sleeps = activity_text a ++ sleep_text sleeps

-- the reply: this text in digits
abbrev pub thread_reply : Activity → Bool → List ℕ
thread_reply a sleeps = bytes_text (thread_text a sleeps)
