-- Bytes that went out so far: a loop over calls of `put`.
use Rattle.std.proofs.Common.{◌≡◌, ℕ, ◌+◌, ◌<◌, List, [], ◌∷◌, ◌++◌, length, take, drop, Option}
use Rattle.std.proofs.Common.{append_assoc, arith, if◌then◌else◌, false, ◌==◌}
use Rattle.std.specs.Io.KnownBytes.{Appends, Keeps}
use Rattle.std.proofs.KnownBytes.{Appends-trans, Appends-kept}
use Rattle.std.proofs.lemmas.List.{take-append-drop}
use Rattle.std.proofs.Common.{length-drop}
use Rattle.std.proofs.lemmas.Bool.Decides.{nat_tests}
use Rattle.output.specs.Output.{IsCutShort, took_none}

-- of all bytes the rest is still to go out
pub record Sent (old new : Option (List ℕ)) (all rest : List ℕ) : Type 0 where
  pub front : List ℕ
  pub whole : all ≡ front ++ rest
  pub went : Appends old new front

-- some bytes of the rest were taken
pub some_sent : (old mid new : Option (List ℕ)) (all rest : List ℕ) (taken : ℕ) → Sent old mid all rest
    → Appends mid new (take taken rest) → Sent old new all (drop taken rest)
some_sent old mid new all rest taken s t = record {
  front = s.front ++ take taken rest;
  whole = rw (append_assoc, take-append-drop) s.whole;
  went = Appends-trans old mid new s.front (take taken rest) s.went t;
}

-- nothing more was taken
pub still_sent : (old mid new : Option (List ℕ)) (all rest : List ℕ) → Sent old mid all rest → Keeps mid new
    → Sent old new all rest
still_sent old mid new all rest s k =
    record { front = s.front; whole = s.whole; went = Appends-kept old mid new s.front s.went k }

-- a byte is left
pub cut_short : (old new : Option (List ℕ)) (all rest : List ℕ) → Sent old new all rest → 0 < length rest
    → IsCutShort old new all
cut_short old new all [] s l = absurd (let wrong : 0 < 0 = l in omega arith)
cut_short old new all (byte ∷ rest) s l =
    record { front = s.front; byte = byte; later = rest; whole = s.whole; went = s.went }

-- none of the bytes that are left was taken
pub cut_by_none : (old mid new : Option (List ℕ)) (all rest : List ℕ) (taken : ℕ) → Sent old mid all rest
    → Appends mid new (take taken rest) → taken ≡ 0 → 0 < length rest → IsCutShort old new all
cut_by_none old mid new all rest taken s t none some =
    cut_short old new all (drop taken rest) (some_sent old mid new all rest taken s t) (simp length-drop (omega arith))

-- a call that took something isn't counted
pub not_counted : (bytes : List ℕ) (taken before now : ℕ) → (taken ≡ 0 → ⊥)
    → now ≡ (if took_none bytes taken then before + 1 else before) → now ≡ before
not_counted bytes taken before now some counts = grind (arith, nat_tests, some, counts)

-- a call that took none of some bytes is
pub counted : (bytes : List ℕ) (taken before now : ℕ) → taken ≡ 0 → 0 < length bytes
    → now ≡ (if took_none bytes taken then before + 1 else before) → now ≡ before + 1
counted bytes taken before now none some counts = grind (arith, nat_tests, none, some, counts)

-- a list that isn't empty has something left
pub is_left : (bytes : List ℕ) → false ≡ (length bytes == 0) → 0 < length bytes
is_left [] wrong = absurd cc
is_left (byte ∷ bytes) right = omega arith
