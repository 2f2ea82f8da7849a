-- Replies that are one word, and the codes of errors (GDB manual, "Standard Replies").
use Rattle.std.specs.Prelude.{ℕ, List, [], codes}
use Rattle.platform.specs.declared.error.PlaceError.{PlaceError}
use Rattle.platform.specs.declared.error.PlaceError.TheVariants as place
use Rattle.gdb_texts.specs.declared.replies.ErrorCode.{ErrorCode}
use Rattle.gdb_texts.specs.declared.replies.ErrorCode.TheVariants as code
use Rattle.gdb_texts.specs.declared.replies.Reply.{Reply}
use Rattle.gdb_texts.specs.declared.replies.Reply.TheVariants as reply

-- the text of an error. The manual leaves the numbers open (profile)
abbrev pub error_text : ErrorCode → List ℕ
error_text code.NoAnnex = codes "E00"
error_text code.NotAligned = codes "E01"
error_text code.NoSuchPlace = codes "E02"
error_text code.Stopped = codes "E03"
error_text code.Refused = codes "E04"
error_text code.Malformed = codes "E05"
error_text code.NoRoom = codes "E06"
error_text code.TooLong = codes "E07"
error_text code.NotReadable = codes "E08"

-- the text of a reply
abbrev pub reply_text : Reply → List ℕ
reply_text reply.Empty = []
reply_text reply.Done = codes "OK"
reply_text (reply.Error error) = error_text error

-- the code of a write that the machine refused
abbrev pub refusal : PlaceError → ErrorCode
refusal place.NotAligned = code.NotAligned
refusal place.NoSuchPlace = code.NoSuchPlace
refusal place.Stopped = code.Stopped
refusal (place.Refused stop) = code.Refused
