-- One section header, or one symbol, more.
use Rattle.std.proofs.Common.{◌≡◌, ℕ, ◌+◌, ◌*◌, List, [], Option, None, refl, add-one}
use Rattle.symbols.specs.declared.symbol.Symbol.{Symbol}
use Rattle.symbols.specs.Tables.{section_header_size, symbol_header, or_header, symbol_size, symbols_of, or_symbol}

pub no_headers : (file : List ℕ) (table : ℕ) → symbol_header file table 0 ≡ None
unfolding symbol_header
no_headers file table = refl

pub headers_more : (file : List ℕ) (table n : ℕ)
    → symbol_header file table (n + 1) ≡ or_header file (table + section_header_size * n) (symbol_header file table n)
unfolding symbol_header
headers_more file table n = rw add-one refl

pub no_symbols : (table strings : List ℕ) → symbols_of table strings 0 ≡ []
unfolding symbols_of
no_symbols table strings = refl

pub symbols_more : (table strings : List ℕ) (n : ℕ)
    → symbols_of table strings (n + 1) ≡ or_symbol table strings (symbol_size * n) (symbols_of table strings n)
unfolding symbols_of
symbols_more table strings n = rw add-one refl
