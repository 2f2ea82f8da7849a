use Rattle.std.proofs.Common.{Err, codes, refl}
use Rattle.std.proofs.lemmas.Result.{err_from_is_err_and}
use Rattle.board.specs.Texts.{numbers_in}
use Rattle.board.specs.Values.{number, where_ok}
use Rattle.reasons.proofs.Naming.{in_lines, lines_read, read_here, refused_here}
use Rattle.reasons.specs.Problems.{NamesFirst, refusal_of}
use Rattle.platform.specs.Boards.{is_interrupt_count}
use Rattle.toml.specs.Data.{get_member}
use Rattle.toml.specs.View.{table_view}
use Rattle.reasons.proofs.settings.check_numbers.Goals as goal

pub returns-in_err-base-clause-names : goal.returns-in_err-base-clause-names
unfolding NamesFirst
returns-in_err-base-clause-names c =
    let p = err_from_is_err_and c.from_residual.result c.from_residual.ensures.1 in
    rw (p.1, p.2) (refused_here _ _ _ _ c.in_err-base.ensures.read
    (c.in_err-base.ensures.names _ _ (record { is_named = refl; has_range = λ n. refl })))

pub returns-in_err-check_number-clause-names : goal.returns-in_err-check_number-clause-names
unfolding NamesFirst
returns-in_err-check_number-clause-names c =
    let p = err_from_is_err_and c.from_residual-in_err-check_number.result
    c.from_residual-in_err-check_number.ensures.1 in
    rw (p.1, p.2)
    (read_here _ _ _ _ c.in_ok-base.ensures.read (read_here _ _ _ _ c.in_ok-check_flash_size.ensures.read
    (refused_here _ _ _ _ c.in_err-check_number.ensures.read
    (c.in_err-check_number.ensures.names _ _ (record { is_named = refl; has_range = λ n. refl })))))

pub returns-in_err-check_number-2-clause-names : goal.returns-in_err-check_number-2-clause-names
unfolding NamesFirst
returns-in_err-check_number-2-clause-names c =
    let p = err_from_is_err_and c.from_residual-in_err-check_number-2.result
    c.from_residual-in_err-check_number-2.ensures.1 in
    rw (p.1, p.2)
    (read_here _ _ _ _ c.in_ok-base.ensures.read (read_here _ _ _ _ c.in_ok-check_flash_size.ensures.read
    (read_here _ _ _ _ c.in_ok-check_number.ensures.read
    (refused_here _ _ _ _ c.in_err-check_number-2.ensures.read
    (c.in_err-check_number-2.ensures.names _ _ (record { is_named = refl; has_range = λ n. refl }))))))

pub returns-in_err-lines-clause-names : goal.returns-in_err-lines-clause-names
unfolding NamesFirst
returns-in_err-lines-clause-names c =
    let p = err_from_is_err_and c.from_residual-in_err-lines.result c.from_residual-in_err-lines.ensures.1 in
    rw (p.1, p.2)
    (read_here _ _ _ _ c.in_ok-base.ensures.read (read_here _ _ _ _ c.in_ok-check_flash_size.ensures.read
    (read_here _ _ _ _ c.in_ok-check_number.ensures.read (read_here _ _ _ _ c.in_ok-check_number-2.ensures.read
    (refused_here (where_ok is_interrupt_count (number (get_member (codes "lines") (table_view c.args.document.now)))) _
    _ _ (lines_read (number (get_member (codes "lines") (table_view c.args.document.now)))
    (Err (refusal_of c.in_err-lines.field-0.0)) c.in_err-lines.ensures.read)
    (c.in_err-lines.ensures.names _ _ (record { is_named = refl; has_range = in_lines })))))))

pub returns-in_err-lines-clause-read : goal.returns-in_err-lines-clause-read
unfolding numbers_in
returns-in_err-lines-clause-read c =
    let p = err_from_is_err_and c.from_residual-in_err-lines.result c.from_residual-in_err-lines.ensures.1 in
    rw (
      p.1,
      p.2,
      c.in_ok-base.ensures.read,
      c.in_ok-check_flash_size.ensures.read,
      c.in_ok-check_number.ensures.read,
      c.in_ok-check_number-2.ensures.read,
      lines_read (number (get_member (codes "lines") (table_view c.args.document.now)))
          (Err (refusal_of c.in_err-lines.field-0.0)) c.in_err-lines.ensures.read,
    ) refl
