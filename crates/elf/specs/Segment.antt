-- How the loader's values are read as those of the reference.
use Rattle.std.specs.Prelude.{◌≡◌, ℕ, List, length, nat_lt, if◌then◌else◌, Result, Ok, Err}
use Rattle.platform.specs.Images.{Segment, segment_at, segment_end}
use Rattle.platform.specs.declared.error.LoadError.{LoadError}
use Rattle.platform.specs.declared.error.LoadError.TheVariants.{SegmentOutsideFile}
use Rattle.elf.specs.declared.image.Segment.{Segment as Lent}

-- a segment of an image, with the bytes that it borrows from the file
abbrev pub segment_of : Lent → Segment
segment_of segment = record { address = segment.address; bytes = segment.bytes.now }

-- the segment of the program header at a place of the file, or the refusal of its bytes
abbrev pub segment_in : List ℕ → ℕ → Result Segment LoadError
segment_in file at =
    if nat_lt (length file) (segment_end file at) then Err SegmentOutsideFile
    else Ok (segment_at file at)

-- a result is the one that the reference reads, its value seen by a view
abbrev pub Gives : {V W : Type 0} → (V → W) → Result V LoadError → Result W LoadError → Type 0
Gives view (Ok value) read = read ≡ Ok (view value)
Gives view (Err error) read = read ≡ Err error
