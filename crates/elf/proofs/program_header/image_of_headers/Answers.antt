use Rattle.std.proofs.Common.{map, arith, sym, length-append}
use Rattle.std.proofs.lemmas.List.{map_push}
use Rattle.elf.specs.Segment.{segment_of}
use Rattle.std.proofs.lemmas.Result.{err_from_is_err_and}
use Rattle.elf.proofs.Headers.{refused, skipped, taken}
use Rattle.elf.proofs.program_header.image_of_headers.Goals as goal
use Rattle.elf.proofs.program_header.image_of_headers.Goals.{then-is_segment+in_ok-segment_of_header, else-is_segment}

-- a header adds one segment to those that were found, or none
pub headers-preserved : goal.headers-preserved
headers-preserved c =
    let found = map segment_of c.headers.segments.items in
    elim c.if-is_segment.branch [
      | then-is_segment+in_ok-segment_of_header w ↦
          rw (w.segments-is, w.push.ensures.items, map_push) (record {
            whole = taken c.args.file.now c.args.table c.args.count c.headers.index found _ _
                c.headers-test.true (sym w.if-is_segment.ensures) w.in_ok-segment_of_header.ensures
                c.headers.invariant.whole;
            few = simp length-append (omega arith);
          })
      | else-is_segment w ↦
          rw w.segments-is (record {
            whole = skipped c.args.file.now c.args.table c.args.count c.headers.index found _
                c.headers-test.true (sym w.if-is_segment.ensures) c.headers.invariant.whole;
            few = omega arith;
          })
    ]

-- a header whose segment is refused
pub returns-in_err-segment_of_header : goal.returns-in_err-segment_of_header
returns-in_err-segment_of_header c =
    let found = map segment_of c.headers.segments.items in
    let p = err_from_is_err_and c.from_residual.result c.from_residual.ensures.1 in
    rw (p.1, p.2)
    (sym (refused c.args.file.now c.args.table c.args.count c.headers.index found _ _
    c.headers-test.true (sym c.if-is_segment.ensures) c.in_err-segment_of_header.ensures
    c.headers.invariant.whole))
