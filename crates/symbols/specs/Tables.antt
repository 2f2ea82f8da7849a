-- The symbols of an ELF image (TIS ELF 1.2, "Sections", "String Table" and "Symbol Table"), for every list of bytes.
use Rattle.std.specs.Prelude.{ℕ, zero, suc, ◌+◌, ◌*◌, ◌/◌, ◌%◌, ◌-◌, Bool, true, false, not, ◌&&◌, ◌||◌, nat_le, nat_lt}
use Rattle.std.specs.Prelude.{◌==◌, if◌then◌else◌, List, [], ◌∷◌, ◌++◌, length, slice_index, slice_range, drop, min}
use Rattle.std.specs.Prelude.{Option, Some, None}
use Rattle.symbols.specs.declared.symbol.Symbol.{Symbol}
use Rattle.symbols.specs.declared.places.Places.{Places}
use Rattle.symbols.specs.declared.places.Search.{Search}
use Rattle.symbols.specs.declared.places.Search.TheVariants.{Absent, Damaged, Found}

-- the number in the n bytes from a place of a file on: the lowest byte is first
abbrev pub number_in : List ℕ → ℕ → ℕ → ℕ
number_in bytes at zero = 0
number_in bytes at (suc n) = slice_index bytes at + 256 * number_in bytes (at + 1) n

-- "ELF Header": the fields that lead to the section header table
abbrev pub e_shoff : List ℕ → ℕ
e_shoff file = number_in file 32 4

abbrev pub e_shentsize : List ℕ → ℕ
e_shentsize file = number_in file 46 2

abbrev pub e_shnum : List ℕ → ℕ
e_shnum file = number_in file 48 2

-- the sizes of an ELF header, a section header and a symbol
abbrev pub elf_header_size : ℕ
elf_header_size = 52

abbrev pub section_header_size : ℕ
section_header_size = 40

abbrev pub symbol_size : ℕ
symbol_size = 16

-- e_ident: the magic number, ELFCLASS32 and ELFDATA2LSB
abbrev pub is_elf : List ℕ → Bool
is_elf file =
    ((((slice_index file 0 == 0x7F) && (slice_index file 1 == 0x45)) && (slice_index file 2 == 0x4C))
    && (slice_index file 3 == 0x46)) && ((slice_index file 4 == 1) && (slice_index file 5 == 1))

-- "Section Header": the fields of the one at a place of the file
abbrev pub sh_type : List ℕ → ℕ → ℕ
sh_type file at = number_in file (at + 4) 4

abbrev pub sh_offset : List ℕ → ℕ → ℕ
sh_offset file at = number_in file (at + 16) 4

abbrev pub sh_size : List ℕ → ℕ → ℕ
sh_size file at = number_in file (at + 20) 4

abbrev pub sh_link : List ℕ → ℕ → ℕ
sh_link file at = number_in file (at + 24) 4

abbrev pub sh_entsize : List ℕ → ℕ → ℕ
sh_entsize file at = number_in file (at + 36) 4

-- SHT_SYMTAB
abbrev pub symbol_table_type : ℕ
symbol_table_type = 2

-- whether the file has all bytes of the section of the header at a place
abbrev pub is_whole : List ℕ → ℕ → Bool
is_whole file at = nat_le (sh_offset file at + sh_size file at) (length file)

-- the place of the first header of a symbol table, given that of the headers before one at a place
abbrev pub or_header : List ℕ → ℕ → Option ℕ → Option ℕ
or_header file at (Some first) = Some first
or_header file at None = if sh_type file at == symbol_table_type then Some at else None

-- the place of the first header of a symbol table, of n section headers from a place of the file on
unfoldable pub symbol_header : List ℕ → ℕ → ℕ → Option ℕ
symbol_header file table zero = None
symbol_header file table (suc n) = or_header file (table + section_header_size * n) (symbol_header file table n)

-- "Symbol Table": the fields of the symbol at a place of the table
abbrev pub st_name : List ℕ → ℕ → ℕ
st_name table at = number_in table at 4

abbrev pub st_value : List ℕ → ℕ → ℕ
st_value table at = number_in table (at + 4) 4

abbrev pub st_size : List ℕ → ℕ → ℕ
st_size table at = number_in table (at + 8) 4

abbrev pub st_type : List ℕ → ℕ → ℕ
st_type table at = slice_index table (at + 12) % 16

abbrev pub st_shndx : List ℕ → ℕ → ℕ
st_shndx table at = number_in table (at + 14) 2

-- STT_NOTYPE, STT_OBJECT and STT_FUNC: the types of symbols that name an address
abbrev pub function_type : ℕ
function_type = 2

abbrev pub is_named_type : ℕ → Bool
is_named_type type = nat_le type function_type

-- SHN_UNDEF
abbrev pub undefined_section : ℕ
undefined_section = 0

-- SHN_ABS: the value of a symbol is a number, such as a size, and no address
abbrev pub absolute : ℕ
absolute = 0xFFF1

-- whether a symbol lies in a section of the file, or in one that it shares, by its section's number
abbrev pub has_section : ℕ → Bool
has_section section = not (section == undefined_section) && not (section == absolute)

-- whether a symbol of a type and a size covers addresses: it has a size, or is a function, which may have none
-- (profile)
abbrev pub has_extent : ℕ → ℕ → Bool
has_extent type size = (type == function_type) || not (size == 0)

-- the address of a symbol: that of a function without its Thumb bit
abbrev pub address_of : ℕ → ℕ → ℕ
address_of type value = if type == function_type then value / 2 * 2 else value

-- a name begins like that of a mapping symbol ("ELF for the Arm Architecture", "Mapping symbols"): `$a`, `$d` or `$t`
abbrev pub is_mapping : ℕ → ℕ → Bool
is_mapping first second = (first == 36) && (((second == 97) || (second == 100)) || (second == 116))

-- the two first bytes of the name of the symbol at a place of the table, 0 where the string table has none
abbrev pub first_of : List ℕ → List ℕ → ℕ → ℕ
first_of table strings at = slice_index strings (st_name table at)

abbrev pub second_of : List ℕ → List ℕ → ℕ → ℕ
second_of table strings at = slice_index strings (st_name table at + 1)

-- whether the symbol at a place of the table names an address
abbrev pub names_address : List ℕ → List ℕ → ℕ → Bool
names_address table strings at =
    (((is_named_type (st_type table at) && has_section (st_shndx table at))
    && has_extent (st_type table at) (st_size table at)) && not (first_of table strings at == 0))
    && not (is_mapping (first_of table strings at) (second_of table strings at))

-- the symbol at a place of the table
abbrev pub symbol_at : List ℕ → ℕ → Symbol
symbol_at table at = record {
  address = address_of (st_type table at) (st_value table at);
  size = st_size table at;
  name = st_name table at;
}

-- symbols, and the one at a place of the table where it names an address
abbrev pub or_symbol : List ℕ → List ℕ → ℕ → List Symbol → List Symbol
or_symbol table strings at symbols =
    if names_address table strings at then symbols ++ symbol_at table at ∷ [] else symbols

-- the symbols that name addresses, of the first n of a table, in its order
unfoldable pub symbols_of : List ℕ → List ℕ → ℕ → List Symbol
symbols_of table strings zero = []
symbols_of table strings (suc n) = or_symbol table strings (symbol_size * n) (symbols_of table strings n)

-- How the symbol table is found.

-- how many symbols are read at most (profile)
abbrev pub max_symbols : ℕ
max_symbols = 65536

-- the place of the section header of a number
abbrev pub header_at : List ℕ → ℕ → ℕ
header_at file number = e_shoff file + section_header_size * number

-- where the sections of the headers at two places lie: the symbols' and that of their names
abbrev pub places_at : List ℕ → ℕ → ℕ → Places
places_at file symbols strings = record {
  table = sh_offset file symbols;
  count = sh_size file symbols / symbol_size;
  strings = sh_offset file strings;
  strings_end = sh_offset file strings + sh_size file strings;
}

-- the symbol table of the header at a place, with the header of its string table at another
abbrev pub found_at : List ℕ → ℕ → ℕ → Search
found_at file symbols strings =
    if (is_whole file symbols && is_whole file strings) && nat_le (sh_size file symbols / symbol_size) max_symbols
    then Found (places_at file symbols strings) else Damaged

-- the symbol table of the header at a place, whose string table has the number sh_link
abbrev pub linked : List ℕ → ℕ → Search
linked file at =
    if (sh_entsize file at == symbol_size) && nat_lt (sh_link file at) (e_shnum file)
    then found_at file at (header_at file (sh_link file at)) else Damaged

abbrev pub of_header : List ℕ → Option ℕ → Search
of_header file None = Absent
of_header file (Some at) = linked file at

-- whether the file has all section headers, each of the size that the standard gives
abbrev pub has_headers : List ℕ → Bool
has_headers file =
    (e_shentsize file == section_header_size) && nat_le (header_at file (e_shnum file)) (length file)

-- where the symbols of a file are: none where it has no section headers or no symbol table
unfoldable pub places_of : List ℕ → Search
places_of file =
    if nat_lt (length file) elf_header_size then Damaged
    else if not (is_elf file) then Damaged
    else if e_shnum file == 0 then Absent
    else if has_headers file then of_header file (symbol_header file (e_shoff file) (e_shnum file))
    else Damaged

-- the symbols of a search
abbrev pub symbols_in : List ℕ → Search → List Symbol
symbols_in file Absent = []
symbols_in file Damaged = []
symbols_in file (Found p) =
    symbols_of (slice_range file p.table (p.table + symbol_size * p.count)) (slice_range file p.strings p.strings_end)
    p.count

abbrev pub is_damaged : Search → Bool
is_damaged Absent = false
is_damaged Damaged = true
is_damaged (Found p) = false

-- the string table of a search
abbrev pub strings_in : List ℕ → Search → List ℕ
strings_in file Absent = []
strings_in file Damaged = []
strings_in file (Found p) = slice_range file p.strings p.strings_end

-- the bytes of a string table from a place on, up to the first 0
abbrev pub up_to_zero : List ℕ → List ℕ
up_to_zero [] = []
up_to_zero (byte ∷ bytes) = if byte == 0 then [] else byte ∷ up_to_zero bytes

abbrev pub name_in : List ℕ → ℕ → List ℕ
name_in strings at = up_to_zero (drop at strings)
