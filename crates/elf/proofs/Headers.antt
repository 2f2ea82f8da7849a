-- The loop over the program headers: the segments that were found stand in front of those of the
-- headers that are left.
use Rattle.std.proofs.Common.{◌≡◌, ℕ, suc, ◌+◌, ◌-◌, ◌*◌, ◌<◌, Bool, true, false, not, if◌then◌else◌, List, [], ◌∷◌}
use Rattle.std.proofs.Common.{◌++◌, length, Result, Ok, Err, nat_lt, refl, sym, ap, ◌∙◌, arith, append_assoc}
use Rattle.platform.specs.declared.error.LoadError.{LoadError}
use Rattle.platform.specs.declared.error.LoadError.TheVariants.{SegmentOutsideFile}
use Rattle.platform.specs.Images.{Segment, program_header_size, segments_of, in_front, is_segment, segment_at}
use Rattle.platform.specs.Images.{segment_end}
use Rattle.elf.specs.Segment.{segment_in}

-- the segments that are read, or the first refusal
abbrev Read : Type 0
Read = Result (List Segment) LoadError

-- segments, followed by those that are read after them
abbrev pub after : List Segment → Read → Read
after done (Ok rest) = Ok (done ++ rest)
after done (Err error) = Err error

-- the segments of the headers from an index on
abbrev pub left_from : List ℕ → ℕ → ℕ → ℕ → Read
left_from file table count index =
    segments_of file (table + program_header_size * index) (count - index)

-- one segment that is read, followed by the later ones
abbrev joined : Result Segment LoadError → Read → Read
joined (Ok segment) rest = in_front segment rest
joined (Err error) rest = Err error

-- what the header at a place adds to the segments of the later headers, by whether it is of a segment
abbrev header_if : Bool → List ℕ → ℕ → Read → Read
header_if is_of_segment file at rest =
    if not is_of_segment then rest
    else if nat_lt (length file) (segment_end file at) then Err SegmentOutsideFile
    else in_front (segment_at file at) rest

abbrev with_header : List ℕ → ℕ → Read → Read
with_header file at rest = header_if (is_segment file at) file at rest

joined-if : (outside : Bool) (segment : Segment) (error : LoadError) (rest : Read) →
    joined (if outside then Err error else Ok segment) rest
    ≡ (if outside then Err error else in_front segment rest)
joined-if true segment error rest = refl
joined-if false segment error rest = refl

after-in_front : (done : List Segment) (segment : Segment) (rest : Read) →
    after done (in_front segment rest) ≡ after (done ++ segment ∷ []) rest
after-in_front done segment (Ok rest) = ap Ok (sym (append_assoc done (segment ∷ []) rest))
after-in_front done segment (Err error) = refl

-- the header at an index, and the later ones
left_from-next : (file : List ℕ) (table count index : ℕ) → index < count →
    left_from file table count index
    ≡ with_header file (table + program_header_size * index) (left_from file table count (index + 1))
left_from-next file table count index below =
    let at : ℕ = table + program_header_size * index in
    let one_fewer : count - index ≡ suc (count - (index + 1)) = omega arith in
    let next : at + program_header_size ≡ table + program_header_size * (index + 1) = omega arith in
    ap (segments_of file at) one_fewer
    ∙ ap (λ (place : ℕ). with_header file at (segments_of file place (count - (index + 1)))) next

-- a header that is of no segment
pub skipped : (file : List ℕ) (table count index : ℕ)
    (done : List Segment) (all : Read) →
    index < count → is_segment file (table + program_header_size * index) ≡ false →
    after done (left_from file table count index) ≡ all →
    after done (left_from file table count (index + 1)) ≡ all
skipped file table count index done all below none whole =
    let at : ℕ = table + program_header_size * index in
    let rest : Read = left_from file table count (index + 1) in
    let same : with_header file at rest ≡ rest =
    ap (λ (b : Bool). header_if b file at rest) none in
    ap (after done) (sym (left_from-next file table count index below ∙ same)) ∙ whole

-- a header that is of a segment
of_segment : (file : List ℕ) (at : ℕ) (rest : Read) → is_segment file at ≡ true →
    with_header file at rest ≡ joined (segment_in file at) rest
of_segment file at rest one =
    let outside : Bool = nat_lt (length file) (segment_end file at) in
    ap (λ (b : Bool). header_if b file at rest) one
    ∙ sym (joined-if outside (segment_at file at) SegmentOutsideFile rest)

-- a header whose segment is refused
pub refused : (file : List ℕ) (table count index : ℕ)
    (done : List Segment) (all : Read) (error : LoadError) →
    index < count → is_segment file (table + program_header_size * index) ≡ true →
    segment_in file (table + program_header_size * index) ≡ Err error →
    after done (left_from file table count index) ≡ all → all ≡ Err error
refused file table count index done all error below one outside whole =
    let at : ℕ = table + program_header_size * index in
    let rest : Read = left_from file table count (index + 1) in
    sym whole
    ∙ ap (after done) (left_from-next file table count index below ∙ of_segment file at rest one)
    ∙ ap (λ (read : Result Segment LoadError). after done (joined read rest)) outside

-- a header whose segment is taken
pub taken : (file : List ℕ) (table count index : ℕ)
    (done : List Segment) (all : Read) (segment : Segment) →
    index < count → is_segment file (table + program_header_size * index) ≡ true →
    segment_in file (table + program_header_size * index) ≡ Ok segment →
    after done (left_from file table count index) ≡ all →
    after (done ++ segment ∷ []) (left_from file table count (index + 1)) ≡ all
taken file table count index done all segment below one inside whole =
    let at : ℕ = table + program_header_size * index in
    let rest : Read = left_from file table count (index + 1) in
    sym (after-in_front done segment rest)
    ∙ ap (λ (read : Result Segment LoadError). after done (joined read rest)) (sym inside)
    ∙ ap (after done) (sym (left_from-next file table count index below ∙ of_segment file at rest one))
    ∙ whole
