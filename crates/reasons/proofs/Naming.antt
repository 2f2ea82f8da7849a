-- The first key of a board whose number is refused.
use Rattle.std.proofs.Common.{◌≡◌, ℕ, Bool, true, ◌&&◌, nat_le, Result, Ok, Err, refl, sym, ◌∙◌, arith}
use Rattle.std.proofs.lemmas.Bool.Decides.{nat_tests}
use Rattle.board.specs.Values.{where_ok}
use Rattle.platform.specs.Boards.{is_interrupt_count}
use Rattle.platform.specs.declared.error.BoardError.{BoardError}
use Rattle.platform.specs.declared.exception.TheConstants.{MAX_INTERRUPTS}
use Rattle.reasons.specs.Problems.{IfRefused}

-- the number of a key is refused
pub refused_here : (read : Result ℕ BoardError) (error : BoardError) (fact : Type 0) (later : ℕ → Type 0)
    → read ≡ Err error → fact → IfRefused read fact later
refused_here read error fact later is so = rw is so

-- it is read, and a later one is refused
pub read_here : (read : Result ℕ BoardError) (n : ℕ) (fact : Type 0) (later : ℕ → Type 0) → read ≡ Ok n → later n
    → IfRefused read fact later
read_here read n fact later is so = rw is so

-- each number is at least 0
pub in_lines : (n : ℕ) → (nat_le 0 n && nat_le n MAX_INTERRUPTS) ≡ is_interrupt_count n
in_lines n = let least : nat_le 0 n ≡ true = grind (arith, nat_tests) in rw least refl

same_where : (f g : ℕ → Bool) (read : Result ℕ BoardError) → ((n : ℕ) → f n ≡ g n) → where_ok f read ≡ where_ok g read
same_where f g (Ok n) same = rw (same n) refl
same_where f g (Err error) same = refl

-- a number of lines that is read by the numbers of the message is read by the test
pub lines_read : (read found : Result ℕ BoardError)
    → where_ok (λ n. nat_le 0 n && nat_le n MAX_INTERRUPTS) read ≡ found → where_ok is_interrupt_count read ≡ found
lines_read read found is = sym (same_where _ _ read in_lines) ∙ is
