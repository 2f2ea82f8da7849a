-- The parts of a line, put together.
use Rattle.std.proofs.Common.{◌≡◌, ℕ, ◌/◌, ◌%◌, ◌^◌, ◌<◌, Bool, List, ◌++◌, None, append_assoc, refl, sym, ap, ◌∙◌}
use Rattle.std.proofs.Common.{arith}
use Rattle.std.proofs.lemmas.Fmt.{decimal_digit}
use Rattle.std.specs.Fmt.{decimal}
use Rattle.std.specs.Prelude.{codes}
use Rattle.instruction_set.specs.Sizes.{bytes_in}
use Rattle.platform.specs.declared.access.Access.{Access}
use Rattle.platform.specs.declared.access.DecidedAccess.{DecidedAccess}
use Rattle.platform.specs.declared.event.EventKind.{EventKind}
use Rattle.platform.specs.declared.event.EventKind.TheVariants.{Accessed}
use Rattle.platform.specs.Events.{line}
use Rattle.platform.specs.declared.access.Rule.{Rule}
use Rattle.platform.specs.Text.{access_text, hex_byte, hex_word, kind_text, line_feed, outcome_text, privilege_text}
use Rattle.platform.specs.Text.{rule_text}
use Rattle.trace.proofs.Pairs.{upper_half}
use Rattle.reference.specs.Accesses.{accessed}
use Rattle.reference.specs.LoadStore.{fetch_at}
use Rattle.trace.specs.Ends.{end_text, fetch_end}
use Rattle.trace.specs.Tails.{access_head, tail}

-- a line is its tick and its tail
pub tick_and_tail : (page : List ℕ) (tick : ℕ) (what : EventKind) →
    (page ++ decimal tick) ++ tail what ≡ page ++ line (record { tick = tick; what = what })
unfolding line tail
tick_and_tail page tick what = simp append_assoc

-- the tail of an access is its head with its outcome, its rule and a line feed
pub head_and_rule : (page : List ℕ) (d : DecidedAccess) →
    ((page ++ (access_head d.access ++ (outcome_text d.refused ++ codes " "))) ++ rule_text d.rule) ++ line_feed ≡ page
    ++ tail (Accessed d)
unfolding access_head tail
head_and_rule page d = simp append_assoc

-- the words of a head, and the four bytes of its address
words_joined : (kind a b c d size privilege : List ℕ) →
    ((((codes " " ++ (kind ++ codes " ")) ++ (a ++ b)) ++ c) ++ d) ++ (codes " " ++ (size ++ (codes " " ++ privilege)))
    ≡ codes " " ++ ((((((kind ++ codes " ") ++ (((a ++ b) ++ c) ++ d)) ++ codes " ") ++ size) ++ codes " ")
    ++ privilege)
words_joined kind a b c d size privilege = simp append_assoc refl

-- the head of an access, joined from its pieces
pub head_joined : (kind upper high low size : List ℕ) (half : ℕ) (a : Access) → a.address < 2 ^ 32
    → half ≡ a.address / 0x1_0000 → kind ≡ codes " " ++ (kind_text a.kind ++ codes " ")
    → upper ≡ hex_byte (half / 256 % 256) ++ hex_byte (half % 256) → high ≡ hex_byte (a.address / 0x100 % 256)
    → low ≡ hex_byte (a.address % 256)
    → size ≡ codes " " ++ (decimal (bytes_in a.size) ++ (codes " " ++ privilege_text a.privileged))
    → (((kind ++ upper) ++ high) ++ low) ++ size ≡ codes " " ++ access_text a
head_joined kind upper high low size half a small is k u h l s =
    let bytes = upper_half a.address half small is in
    rw (k, u, bytes.0, bytes.1, h, l, s)
    (words_joined (kind_text a.kind) (hex_byte (a.address / 0x100_0000)) (hex_byte (a.address / 0x1_0000 % 256))
    (hex_byte (a.address / 0x100 % 256)) (hex_byte (a.address % 256)) (decimal (bytes_in a.size))
    (privilege_text a.privileged))

-- the line of an access that was done: its tick, its head and its end
pub done_line : (page head end : List ℕ) (tick : ℕ) (d : DecidedAccess) (rule : Rule) → d.refused ≡ None →
    head ≡ codes " " ++ access_text d.access → rule ≡ d.rule → end ≡ end_text rule →
    ((page ++ decimal tick) ++ head) ++ end ≡ page ++ line (record { tick = tick; what = Accessed d })
unfolding line
done_line page head end tick d rule done is same ends = rw (is, ends, same, done) (simp append_assoc)

-- the line of a fetch that was done, with the text of its size
abbrev with_size : (tick digits size privilege rule : List ℕ) → List ℕ
with_size tick digits size privilege rule =
    ((tick ++ codes " ") ++ ((((((((((codes "F" ++ codes " ") ++ digits) ++ codes " ") ++ size) ++ codes " ")
    ++ privilege) ++ codes " ") ++ codes "ok") ++ codes " ") ++ rule)) ++ line_feed

fetch_joined : (page tick digits privilege rule : List ℕ) →
    (page ++ tick)
    ++ ((codes " F " ++ digits) ++ (codes " 2 " ++ (privilege ++ (codes " ok " ++ (rule ++ line_feed)))))
    ≡ page ++ with_size tick digits (codes "2") privilege rule
fetch_joined page tick digits privilege rule = simp append_assoc refl

-- the line of a fetch that was done: its tick, the digits of its address and its end
pub fetch_line : (page digits : List ℕ) (tick at : ℕ) (privileged : Bool) (rule : Rule) → digits ≡ hex_word at →
    (page ++ decimal tick) ++ ((codes " F " ++ digits) ++ fetch_end privileged rule)
    ≡ page ++ line (accessed tick (fetch_at at privileged) rule None)
unfolding line
fetch_line page digits tick at privileged rule spelled =
    rw spelled
    (fetch_joined page (decimal tick) (hex_word at) (privilege_text privileged) (rule_text rule)
    ∙ ap (λ size. page ++ with_size (decimal tick) (hex_word at) size (privilege_text privileged) (rule_text rule))
    (sym (decimal_digit 2 (omega arith))))
