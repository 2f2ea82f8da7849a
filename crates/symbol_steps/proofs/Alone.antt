-- A symbol that begins alone among the bytes that it covers names each of their addresses. No symbol names an address
-- that it doesn't cover.
use Rattle.std.proofs.Common.{◌≡◌, inl, inr, ℕ, zero, suc, ◌^◌, ◌<◌, ◌≤◌, Bool, true, false, not, cond, ◌&&◌}
use Rattle.std.proofs.Common.{◌==◌, nat_lt, nat_le, List, [], ◌∷◌, length, get_or, Option, Some, None, refl, sym, ap}
use Rattle.std.proofs.Common.{◌∙◌, arith, ◌⊎◌, subst}
use Rattle.std.specs.List.{Contains, list_all}
use Rattle.std.proofs.lemmas.Bool.{cases_Bool, ltb-true, ltb-false, eqb-true, lt-ltb, le-leb, and_parts, and_from}
use Rattle.std.proofs.lemmas.Bool.{not-true, or_cases, false≢true}
use Rattle.symbols.specs.declared.symbol.Symbol.{Symbol}
use Rattle.symbols.specs.Lookup.{covers, has_above, latest_below, nearer, nearest_of, symbol_of}
use Rattle.symbol_steps.specs.Ends.{end_of, is_alone, is_apart}
use Rattle.symbol_steps.specs.Symbols.{is_found, is_same, is_twin, names}
use Rattle.symbol_steps.proofs.Extents.{covers_own, covers_low, covers_high}

-- the nearest of the symbols up to one of a list, given that of those before and whether it covers the address
abbrev or_nearer : Bool → Option Symbol → Symbol → Option Symbol
or_nearer covered best u = cond covered (nearer best u) best

-- it is that one, or the one before
picked : (c : Bool) (b u t : Symbol) → cond c (Some u) (Some b) ≡ Some t → (Some b ≡ Some t) ⊎ (u ≡ t)
picked true b u t is = inr cc
picked false b u t is = inl is

found_here : (c : Bool) (best : Option Symbol) (u t : Symbol) → or_nearer c best u ≡ Some t
    → (best ≡ Some t) ⊎ ((c ≡ true) × (u ≡ t))
found_here false best u t is = inl is
found_here true None u t is = let e : u ≡ t = cc in inr (refl, e)
found_here true (Some b) u t is =
    elim (picked (nat_lt b.address u.address) b u t is) [
      | inl e ↦ inl e
      | inr e ↦ inr (refl, e)
    ]

-- the nearest symbol of a list is one of it, of which a test holds if it holds of all
pub found_in : (latest : ℕ) (above : Bool) (a : ℕ) (p : Symbol → Bool) (best : Option Symbol) (list : List Symbol)
    (t : Symbol) → list_all p list ≡ true → nearest_of latest above a best list ≡ Some t
    → (best ≡ Some t) ⊎ ((covers latest above a t ≡ true) × (p t ≡ true))
found_in latest above a p best [] t all is = inl is
found_in latest above a p best (u ∷ list) t all is =
    let parts = and_parts (p u) (list_all p list) all in
    elim (found_in latest above a p (or_nearer (covers latest above a u) best u) list t parts.1 is) [
      | inl e ↦ elim (found_here (covers latest above a u) best u t e) [
        | inl e ↦ inl e
        | inr here ↦
            inr (subst (λ (x : Symbol). (covers latest above a x ≡ true) × (p x ≡ true)) here.1 (here.0, parts.0))
      ]
      | inr both ↦ inr both
    ]

-- the nearest begins no earlier than those before it
record Reaches (from : ℕ) (nearest : Option Symbol) : Type 0 where
  symbol : Symbol
  is : nearest ≡ Some symbol
  reach : from ≤ symbol.address

reaches_here : (c : Bool) (b u : Symbol) → Reaches b.address (or_nearer c (Some b) u)
reaches_here false b u = record { symbol = b; is = refl; reach = omega arith }
reaches_here true b u =
    elim (cases_Bool (nat_lt b.address u.address)) [
      | inl e ↦
          let less : b.address < u.address = ltb-true b.address u.address e in
          record { symbol = u; is = rw e refl; reach = omega (arith, less) }
      | inr e ↦ record { symbol = b; is = rw e refl; reach = omega arith }
    ]

reaches_new : (best : Option Symbol) (u : Symbol) → Reaches u.address (or_nearer true best u)
reaches_new None u = record { symbol = u; is = refl; reach = omega arith }
reaches_new (Some b) u =
    elim (cases_Bool (nat_lt b.address u.address)) [
      | inl e ↦ record { symbol = u; is = rw e refl; reach = omega arith }
      | inr e ↦
          let less : u.address ≤ b.address = ltb-false b.address u.address e in
          record { symbol = b; is = rw e refl; reach = less }
    ]

reaches_kept : (latest : ℕ) (above : Bool) (a : ℕ) (b : Symbol) (list : List Symbol)
    → Reaches b.address (nearest_of latest above a (Some b) list)
reaches_kept latest above a b [] = record { symbol = b; is = refl; reach = omega arith }
reaches_kept latest above a b (u ∷ list) =
    let here = reaches_here (covers latest above a u) b u in
    let rest = reaches_kept latest above a here.symbol list in
    record {
      symbol = rest.symbol;
      is = ap (λ best. nearest_of latest above a best list) here.is ∙ rest.is;
      reach = let x : b.address ≤ here.symbol.address = here.reach in
          let y : here.symbol.address ≤ rest.symbol.address = rest.reach in omega (arith, x, y);
    }

-- the nearest begins no earlier than a symbol of the list that covers the address
reaches_own : (latest : ℕ) (above : Bool) (a : ℕ) (s : Symbol) (best : Option Symbol) (list : List Symbol) (k : ℕ)
    → k < length list → get_or list k s ≡ s → covers latest above a s ≡ true
    → Reaches s.address (nearest_of latest above a best list)
reaches_own latest above a s best [] k below at own = absurd (omega (arith, below))
reaches_own latest above a s best (u ∷ list) zero below at own =
    let covered : covers latest above a u ≡ true =
    ap (λ (x : Symbol). covers latest above a x) at ∙ own in
    let new = reaches_new best u in
    let rest = reaches_kept latest above a new.symbol list in
    record {
      symbol = rest.symbol;
      is = ap (λ c. nearest_of latest above a (or_nearer c best u) list) covered
          ∙ ap (λ best. nearest_of latest above a best list) new.is ∙ rest.is;
      reach = let e : u.address ≡ s.address = ap (λ (x : Symbol). x.address) at in
          let x : u.address ≤ new.symbol.address = new.reach in
          let y : new.symbol.address ≤ rest.symbol.address = rest.reach in omega (arith, e, x, y);
    }
reaches_own latest above a s best (u ∷ list) (suc k) below at own =
    reaches_own latest above a s (or_nearer (covers latest above a u) best u) list k (omega (arith, below)) at own

apart_same : (s t : Symbol) (end : ℕ) → s.address ≤ t.address → t.address < end → is_apart s end t ≡ true
    → is_same s t ≡ true
apart_same s t end low high apart =
    let within : (nat_le s.address t.address && nat_lt t.address end) ≡ true =
    and_from (nat_le s.address t.address) (nat_lt t.address end) (le-leb s.address t.address low)
    (lt-ltb t.address end high) in
    elim (or_cases (not (nat_le s.address t.address && nat_lt t.address end)) (is_same s t) apart) [
      | inl e ↦ absurd (false≢true (sym (not-true _ e) ∙ within))
      | inr e ↦ e
    ]

-- a symbol that is alone names each address that it covers
pub names_own : (list : List Symbol) (s : Symbol) (a : ℕ) → Contains list s → is_alone list s (end_of list s) ≡ true
    → s.address ≤ a → a < end_of list s → names list s a ≡ true
unfolding symbol_of
names_own list s a listed alone low high =
    let own : covers (latest_below a list) (has_above a list) a s ≡ true =
    covers_own list s a listed.0 listed.1 listed.2 low high in
    let nearest = reaches_own (latest_below a list) (has_above a list) a s None list listed.0 listed.1 listed.2 own in
    let t : Symbol = nearest.symbol in
    let is : nearest_of (latest_below a list) (has_above a list) a None list ≡ Some t = nearest.is in
    let p : Symbol → Bool = is_apart s (end_of list s) in
    rw is (elim (found_in (latest_below a list) (has_above a list) a p None list t alone is) [
      | inl none ↦ absurd cc
      | inr both ↦
          let below : t.address ≤ a = covers_low list t a both.0 in
          apart_same s t (end_of list s) nearest.reach (omega (arith, below, high)) both.1
    ])

all_pass : (list : List Symbol) → list_all (λ s. true) list ≡ true
all_pass [] = refl
all_pass (s ∷ list) = all_pass list

same_covers : (latest : ℕ) (above : Bool) (a : ℕ) (s t : Symbol) → is_same s t ≡ true → covers latest above a t ≡ true
    → covers latest above a s ≡ true
same_covers latest above a s t same covered =
    let parts = and_parts (is_twin s t) (t.size == s.size) same in
    let twin = and_parts (t.address == s.address) (t.name == s.name) parts.0 in
    let address : t.address ≡ s.address = eqb-true t.address s.address twin.0 in
    let size : t.size ≡ s.size = eqb-true t.size s.size parts.1 in
    rw (← address, ← size) covered

-- what a symbol names it covers
covers_named : (list : List Symbol) (s : Symbol) (a : ℕ) (nearest : Option Symbol)
    → nearest_of (latest_below a list) (has_above a list) a None list ≡ nearest → is_found s nearest ≡ true
    → covers (latest_below a list) (has_above a list) a s ≡ true
covers_named list s a None is named = absurd (false≢true named)
covers_named list s a (Some t) is named =
    elim (found_in (latest_below a list) (has_above a list) a (λ s. true) None list t (all_pass list) is) [
      | inl none ↦ absurd cc
      | inr both ↦ same_covers (latest_below a list) (has_above a list) a s t named both.0
    ]

pub named_within : (list : List Symbol) (s : Symbol) (a : ℕ) → a < 2 ^ 32 → names list s a ≡ true
    → (s.address ≤ a) × (a < end_of list s)
unfolding symbol_of
named_within list s a few named =
    let covered : covers (latest_below a list) (has_above a list) a s ≡ true =
    covers_named list s a (nearest_of (latest_below a list) (has_above a list) a None list) refl named in
    (covers_low list s a covered, covers_high list s a few covered)
