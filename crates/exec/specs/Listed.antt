-- The registers of a list, one after the other, and the accesses to their words.
use Rattle.std.specs.Prelude.{◌≡◌, ℕ, ◌<◌, ◌≤◌, Bool, true, false, List}
use Rattle.exec.specs.declared.load_store_multiple.ListedWords.{ListedWords}
use Rattle.instruction_set.specs.Registers.{Registers}
use Rattle.instruction_set.specs.Words.{is_bit}
use Rattle.platform.specs.declared.access.Kind.{Kind}
use Rattle.platform.specs.declared.access.Kind.TheVariants.{Load, Store}
use Rattle.platform.specs.declared.access.Request.{Request}
use Rattle.reference.specs.LoadStoreMultiple.{registers_of, word_requests}

-- `next` is the first register of a list from the number `from` on, or 16 where none is left
pub record IsNext (list from next : ℕ) : Type 0 where
  pub above : from ≤ next
  pub within : next ≤ 16
  pub listed : next < 16 → is_bit list next ≡ true
  pub none_between : (n : ℕ) → from ≤ n → n < next → is_bit list n ≡ false

-- the kind of the accesses to the words of a list
abbrev pub kind_of : Bool → Kind
kind_of true = Store
kind_of false = Load

-- accesses of a kind to the words of a list: one for each of its registers, the lowest first, upward from the address
abbrev pub requests_by : Kind → ListedWords → Registers → List Request
requests_by kind words r = word_requests kind words.address (registers_of words.list) r

-- the accesses to the words of a list
abbrev pub requests_for : ListedWords → Registers → List Request
requests_for words r = requests_by (kind_of words.stores) words r
