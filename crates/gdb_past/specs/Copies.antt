-- How many copies of a machine's state are kept: the larger the memory of a board, the fewer (profile).
use Rattle.std.specs.Prelude.{ℕ, ◌+◌, ◌*◌, ◌/◌, min, Option, Some, None}
use Rattle.platform.specs.Boards.{Numbers, RamSpan}

abbrev pub size_of_second : Option RamSpan → ℕ
size_of_second None = 0
size_of_second (Some span) = span.size

-- the bytes of memory of a board, which each copy has
abbrev pub memory_size : Numbers → ℕ
memory_size board = (board.flash_size + board.ram_size) + size_of_second board.second_ram

-- the most marks
abbrev pub max_marks : ℕ
max_marks = 8

-- the most bytes of memory that the copies for marks and checkpoints have together: 64 MiB
abbrev pub max_copied : ℕ
max_copied = 0x400_0000

-- there are two checkpoints for each mark
abbrev pub checkpoints_for : ℕ → ℕ
checkpoints_for marks = 2 * marks

-- the copies for so many marks: their own, and those of their checkpoints
abbrev pub copies_for : ℕ → ℕ
copies_for marks = 3 * marks

-- how many marks there is room for: as many as have that memory together with their checkpoints, at most eight
abbrev pub room_for : ℕ → ℕ
room_for bytes = min max_marks (max_copied / copies_for bytes)

abbrev pub room_of : Numbers → ℕ
room_of board = room_for (memory_size board)
