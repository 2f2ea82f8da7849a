-- Text on its way to GDB's console: the packets that it fills, and what waits.
use Rattle.std.proofs.Common.{◌≡◌, ◌∙◌, ◌==◌, ℕ, Bool, true, false, if◌then◌else◌, List, [], ◌∷◌, ◌++◌, ap, arith}
use Rattle.std.proofs.Common.{append_assoc, length, refl, sym}
use Rattle.std.proofs.lemmas.Bool.Decides.{nat_tests}
use Rattle.std.proofs.lemmas.List.{append-nil}
use Rattle.std.proofs.lemmas.List.Folds.{concat-append}
use Rattle.std.specs.List.{concat}
use Rattle.gdb.specs.Consoles.{Console, console_after, console_with, emptied, flush_text}
use Rattle.gdb.specs.Consoles.{sent_by, sent_with}
use Rattle.gdb_texts.specs.Console.{console_packet, console_packets, is_full}

-- more text was put to a console: these packets were sent, and the rest waits
pub record Cut (before : Console) (text : List ℕ) (after : Console) (sent : List ℕ) : Type 0 where
  pub parts : List (List ℕ)
  pub packets : sent ≡ console_packets parts
  pub whole : concat parts ++ after.waiting ≡ before.waiting ++ text

pub packets-append : (xs ys : List (List ℕ)) → console_packets (xs ++ ys) ≡ console_packets xs ++ console_packets ys
unfolding console_packets
packets-append [] ys = refl
packets-append (x ∷ xs) ys = rw (packets-append xs ys, append_assoc) refl

pub cut_none : (c : Console) → Cut c [] c []
unfolding console_packets
cut_none c = record { parts = []; packets = refl; whole = sym (append-nil c.waiting) }

pub cut_both : (c d e : Console) (x y sent more : List ℕ) → Cut c x d sent → Cut d y e more
    → Cut c (x ++ y) e (sent ++ more)
cut_both c d e x y sent more first next = record {
  parts = first.parts ++ next.parts;
  packets = rw (first.packets, next.packets) (sym (packets-append first.parts next.parts));
  whole = rw (concat-append, append_assoc) (ap (λ (l : List ℕ). concat first.parts ++ l) next.whole
      ∙ (sym (append_assoc (concat first.parts) d.waiting y)
      ∙ (ap (λ (l : List ℕ). l ++ y) first.whole ∙ append_assoc c.waiting x y)));
}

-- one byte
cut_byte : (c : Console) (byte : ℕ) (full : Bool) → full ≡ is_full (c.waiting ++ byte ∷ [])
    → Cut c (byte ∷ []) (console_with c byte) (sent_with c byte)
unfolding console_packets
cut_byte c byte true is = record {
  parts = (c.waiting ++ byte ∷ []) ∷ [];
  packets = rw (sym is) (sym (append-nil _));
  whole = rw (sym is) (rw (append-nil, append-nil) refl);
}
cut_byte c byte false is = record { parts = []; packets = rw (sym is) refl; whole = rw (sym is) refl }

pub cut_text : (c : Console) (text : List ℕ) → Cut c text (console_after c text) (sent_by c text)
unfolding console_after sent_by
cut_text c [] = cut_none c
cut_text c (byte ∷ bytes) =
    cut_both c (console_with c byte) (console_after (console_with c byte) bytes) (byte ∷ []) bytes
    (sent_with c byte) (sent_by (console_with c byte) bytes) (cut_byte c byte _ refl)
    (cut_text (console_with c byte) bytes)

-- what waits is sent
cut_if : (c : Console) (none : Bool) → none ≡ (length c.waiting == 0)
    → Cut c [] (emptied c) (if none then [] else console_packet c.waiting)
unfolding console_packets
cut_if c true is = record { parts = []; packets = refl; whole = nothing c.waiting is ∙ sym (append-nil c.waiting) }
  where
    nothing : (text : List ℕ) → true ≡ (length text == 0) → [] ≡ text
    nothing [] is = refl
    nothing (b ∷ bytes) is = absurd (let none : length (b ∷ bytes) ≡ 0 = grind (arith, nat_tests) in omega arith)
cut_if c false is = record {
  parts = c.waiting ∷ [];
  packets = sym (append-nil _);
  whole = append-nil (c.waiting ++ []);
}

pub cut_flush : (c : Console) → Cut c [] (emptied c) (flush_text c)
cut_flush c = cut_if c (length c.waiting == 0) refl
