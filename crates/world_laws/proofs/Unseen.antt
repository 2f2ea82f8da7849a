-- Bytes that a world apart may write are not seen, so the laws of tasks are laws of worlds.
use Rattle.std.proofs.Common.{◌≡◌, ◌∙◌, ◌<◌, ◌≤◌, ◌+◌, ◌⊎◌, ℕ, Bool, true, false, not, ◌&&◌, ◌||◌, inl, inr, []}
use Rattle.std.proofs.Common.{◌∷◌, Option, Some, None, ap, arith, length, refl, replicate, slice_index, subst, sym}
use Rattle.std.proofs.lemmas.Bool.{cases_lt}
use Rattle.std.proofs.lemmas.Bool.Decides.{nat_tests}
use Rattle.std.proofs.lemmas.List.{get_or_past, length-replicate}
use Rattle.access_map.proofs.SameSettings.{same_decisions}
use Rattle.access_map.specs.declared.world.Place.TheVariants.{Ram, SecondRam}
use Rattle.access_map.specs.declared.world.World.{World}
use Rattle.access_map.specs.Sharing.{AreWorldsApart, is_shared, is_in_ram}
use Rattle.access_map.specs.Settings.{IsSameSetting}
use Rattle.access_map.specs.Worlds.{decision_in, first_of, is_in_place, rights_at, size_of}
use Rattle.platform.specs.Boards.{Numbers, RamSpan, blank, blank_second}
use Rattle.platform.specs.declared.access.Decision.{Decision}
use Rattle.platform.specs.declared.access.Kind.TheVariants.{Fetch, Load}
use Rattle.platform.specs.Map.{ram_base}
use Rattle.platform.specs.Memory.{Agree, Block, BlocksAgree, Memory}
use Rattle.access_map.specs.declared.world.Place.{Place}
use Rattle.reference.specs.State.{State}
use Rattle.task_laws.specs.Sight.{is_seen}
use Rattle.world_laws.specs.WorldLaw.{AgreeButRams, HasRamsOf, UnseenLaw, may_write}
use Rattle.survey_run.specs.WorldRuns.{world_of}

-- a world reads or executes the byte of RAM at an address
abbrev may_see : World → ℕ → Bool
may_see w a = (rights_at w Ram a).read || (rights_at w Ram a).execute

-- unprivileged code sees the bytes of RAM that the world of the state reads or executes
seen_is : (w : World) (s : State) (a : ℕ) → IsSameSetting w (world_of s) → may_see w a ≡ is_seen s a
unfolding rights_at
seen_is w s a same =
    ap (λ (d : Decision). d.granted || (decision_in w a Fetch).granted) (same_decisions w (world_of s) a Load same)
    ∙ ap (λ (d : Decision). (decision_in (world_of s) a Load).granted || d.granted)
    (same_decisions w (world_of s) a Fetch same)

-- of a byte that carries nothing, and that the reader sees
not_carried : (inside writes sees : Bool) → inside ≡ true → sees ≡ true
    → inside && (writes && sees && not false) ≡ false → not writes ≡ true
not_carried true true true i s e = sym e
not_carried true false true i s e = refl
not_carried true writes false i s e = absurd cc
not_carried false writes sees i s e = absurd cc

-- the byte of RAM that a world sees isn't one that a world apart from it may write
unwritten : (board : Numbers) (v w : World) (a : ℕ) → is_in_ram board a ≡ true → may_see w a ≡ true
    → is_shared board v w [] a ≡ false → not (may_write v a) ≡ true
unfolding is_shared
unwritten board v w a there sees none = not_carried (is_in_ram board a) (may_write v a) (may_see w a) there sees none

-- a block whose bytes of RAM the world sees isn't one that a world apart from it may write
module _ (board : Numbers) (v w : World) (s : State) (apart : AreWorldsApart board v w [])
    (here : IsSameSetting w (world_of s))
  where
    seen_kept : (a : ℕ) → is_in_ram board a ≡ true → is_seen s a ≡ true → not (may_write v a) ≡ true
    seen_kept a there sees = unwritten board v w a there (seen_is w s a here ∙ sees) (apart a).0

    same_block : (b c : Block)
        → (b.is_writable ≡ true → (k : ℕ) → k < length b.bytes → is_in_ram board (b.base + k) ≡ true)
        → BlocksAgree (λ a. not (b.is_writable && may_write v a)) b c → BlocksAgree (is_seen s) b c
    same_block b c rams agree = record {
      base = agree.base;
      size = agree.size;
      is_writable = agree.is_writable;
      bytes = λ k sees. split k sees (cases_lt k (length b.bytes));
    }
      where
        kept : (k : ℕ) → is_seen s (b.base + k) ≡ true → k < length b.bytes → (writes : Bool) → b.is_writable ≡ writes
            → not (b.is_writable && may_write v (b.base + k)) ≡ true
        kept k sees below true is =
            ap (λ (x : Bool). not (x && may_write v (b.base + k))) is ∙ seen_kept (b.base + k) (rams is k below) sees
        kept k sees below false is = ap (λ (x : Bool). not (x && may_write v (b.base + k))) is

        split : (k : ℕ) → is_seen s (b.base + k) ≡ true → ((k < length b.bytes) ⊎ (length b.bytes ≤ k))
            → slice_index c.bytes k ≡ slice_index b.bytes k
        split k sees (inl below) = agree.bytes k (kept k sees below b.is_writable refl)
        split k sees (inr beyond) =
            let there : length c.bytes ≤ k = rw agree.size beyond in
            get_or_past c.bytes k 0 there ∙ sym (get_or_past b.bytes k 0 beyond)

    same_memory : (m n : Memory) → HasRamsOf board m → AgreeButRams v m n → Agree (is_seen s) m n
    same_memory [] [] rams agree = tt
    same_memory [] (c ∷ n) rams agree = absurd agree
    same_memory (b ∷ m) [] rams agree = absurd agree
    same_memory (b ∷ m) (c ∷ n) rams agree =
        (same_block b c rams.0 agree.0, same_memory m n rams.1 agree.1)

pub unseen_law : (board : Numbers) (v w : World) (s t : State) → UnseenLaw board v w s t
unseen_law board v w s t here h = record {
  memory = same_memory board v w s h.apart here s.bus.memory t.bus.memory h.rams h.written.memory;
  rest = h.written.rest;
}

-- the memory before a start has the RAMs of its board
in_place : (board : Numbers) (place : Place) (k : ℕ) → k < size_of board place
    → is_in_place board place (first_of board place + k) ≡ true
in_place board place k below = grind (arith, nat_tests, below)

in_first : (board : Numbers) (k : ℕ) → k < length {A = ℕ} (replicate board.ram_size 0) → is_in_ram board (ram_base + k)
    ≡ true
in_first board k below =
    let inside : k < board.ram_size = rw length-replicate at below in
    ap (λ (b : Bool). b || is_in_place board SecondRam (ram_base + k)) (in_place board Ram k inside)

or_true : (b : Bool) → (b || true) ≡ true
or_true true = refl
or_true false = refl

in_second : (board : Numbers) (second : RamSpan) (k : ℕ) → board.second_ram ≡ Some second
    → k < length {A = ℕ} (replicate second.size 0) → is_in_ram board (second.base + k) ≡ true
in_second board second k is below =
    let inside : k < second.size = rw length-replicate at below in
    let base : first_of board SecondRam ≡ second.base = rw is refl in
    let size : size_of board SecondRam ≡ second.size = rw is refl in
    let here : is_in_place board SecondRam (second.base + k) ≡ true =
    subst (λ (b : ℕ). is_in_place board SecondRam (b + k) ≡ true) base (in_place board SecondRam k (rw size inside)) in
    ap (λ (b : Bool). is_in_place board Ram (second.base + k) || b) here
    ∙ or_true (is_in_place board Ram (second.base + k))

pub blank_has_rams : (board : Numbers) → HasRamsOf board (blank board)
blank_has_rams board = (λ is. absurd cc, (λ is k below. in_first board k below, lead board.second_ram refl))
  where
    lead : (second : Option RamSpan) → board.second_ram ≡ second → HasRamsOf board (blank_second second)
    lead None is = tt
    lead (Some second) is = (λ writes k below. in_second board second k is below, tt)
