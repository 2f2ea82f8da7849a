-- The lines of accesses, one after another.
use Rattle.std.proofs.Common.{◌≡◌, ◌⊎◌, inl, inr, ℕ, Bool, true, false, not, List, [], ◌∷◌, ◌++◌, Option, Some, None}
use Rattle.std.proofs.Common.{refl, sym, ◌∙◌, ap, append_assoc}
use Rattle.std.proofs.lemmas.List.Elements.{All-nil, All-cons, All-append}
use Rattle.std.proofs.lemmas.List.Folds.{list_any-append}
use Rattle.std.proofs.lemmas.Bool.{or_parts}
use Rattle.platform.specs.declared.access.Access.{Access}
use Rattle.platform.specs.declared.access.Cause.{Cause}
use Rattle.platform.specs.declared.access.Rule.{Rule}
use Rattle.platform.specs.declared.event.Event.{Event}
use Rattle.platform.specs.declared.event.EventKind.TheVariants.{Accessed}
use Rattle.reference.specs.declared.failure.Failure.{Failure}
use Rattle.reference.specs.declared.failure.Failure.TheVariants.{Refused, Usage, Stop}
use Rattle.platform.specs.Events.{is_refused}
use Rattle.platform.specs.Memory.{Memory}
use Rattle.step_laws.specs.AccessLaw.{NoneRefused, covers, are_covering, OnlyCovered}
use Rattle.physical_memory.proofs.Blocks.{agree_self, agree_then, agree_where}

-- ---- refusals

pub unrefused-nil : NoneRefused []
unrefused-nil = All-nil (λ event. is_refused event.what ≡ false)

pub unrefused-cons : (e : Event) (es : List Event) → is_refused e.what ≡ false → NoneRefused es → NoneRefused (e ∷ es)
unrefused-cons e es first rest = All-cons (λ event. is_refused event.what ≡ false) e es first rest

pub unrefused-append : (xs ys : List Event) → NoneRefused xs → NoneRefused ys → NoneRefused (xs ++ ys)
unrefused-append xs ys first rest = All-append (λ event. is_refused event.what ≡ false) xs ys first rest

-- the last event is the refusal of this access
pub record LastRefused (access : Access) (cause : Cause) (events : List Event) : Type 0 where
  pub unrefused : List Event
  pub refused : Event
  pub rule : Rule
  pub events_are : events ≡ unrefused ++ refused ∷ []
  pub none_refused : NoneRefused unrefused
  pub is_refusal : refused.what ≡ Accessed (record { access = access; rule = rule; refused = Some cause })

-- lines that may go on, or that end in a failure: the refusal of an access is the last of them, if an access failed
abbrev pub EndIn : Option Failure → List Event → Type 0
EndIn None events = NoneRefused events
EndIn (Some (Refused access cause)) events = NoneRefused events ⊎ LastRefused access cause events
EndIn (Some (Usage fault)) events = NoneRefused events
EndIn (Some (Stop why)) events = NoneRefused events

last-append : (access : Access) (cause : Cause) (xs ys : List Event) → NoneRefused xs →
    LastRefused access cause ys → LastRefused access cause (xs ++ ys)
last-append access cause xs ys before last = record {
  unrefused = xs ++ last.unrefused;
  refused = last.refused;
  rule = last.rule;
  events_are = ap (λ es. xs ++ es) last.events_are ∙ sym (append_assoc xs last.unrefused (last.refused ∷ []));
  none_refused = unrefused-append xs last.unrefused before last.none_refused;
  is_refusal = last.is_refusal;
}

-- unrefused lines before them
pub ends-append : (failure : Option Failure) (xs ys : List Event) → NoneRefused xs → EndIn failure ys →
    EndIn failure (xs ++ ys)
ends-append None xs ys before end = unrefused-append xs ys before end
ends-append (Some (Refused access cause)) xs ys before (inl end) = inl (unrefused-append xs ys before end)
ends-append (Some (Refused access cause)) xs ys before (inr end) = inr (last-append access cause xs ys before end)
ends-append (Some (Usage fault)) xs ys before end = unrefused-append xs ys before end
ends-append (Some (Stop why)) xs ys before end = unrefused-append xs ys before end

-- ---- bytes

-- an address that lines leave uncovered is left so by either part of them
pub uncovered : (xs ys : List Event) (address : ℕ) → are_covering (xs ++ ys) address ≡ false →
    (are_covering xs address ≡ false) × (are_covering ys address ≡ false)
uncovered xs ys address e =
    or_parts _ _ (sym (list_any-append (λ (event : Event). covers event.what address) xs ys) ∙ e)

pub is_false : (b : Bool) → not b ≡ true → b ≡ false
is_false true e = absurd cc
is_false false e = refl

pub is_not : (b : Bool) → b ≡ false → not b ≡ true
is_not b e = rw e refl

-- one after another
pub covered-append : (old between new : Memory) (xs ys : List Event) → OnlyCovered old between xs →
    OnlyCovered between new ys → OnlyCovered old new (xs ++ ys)
covered-append old between new xs ys first rest =
    let apart : (x : ℕ) → not (are_covering (xs ++ ys) x) ≡ true →
    (are_covering xs x ≡ false) × (are_covering ys x ≡ false) =
    λ x e. uncovered xs ys x (is_false (are_covering (xs ++ ys) x) e) in
    agree_then _ old between new (agree_where _ _ (λ x e. is_not _ (apart x e).0) old between first)
    (agree_where _ _ (λ x e. is_not _ (apart x e).1) between new rest)

-- memory that stays
pub covered-same : (m : Memory) (events : List Event) → OnlyCovered m m events
covered-same m events = agree_self _ m

-- more lines, while memory stays
pub covered-more : (old new : Memory) (xs ys : List Event) → OnlyCovered old new xs → OnlyCovered old new (xs ++ ys)
covered-more old new xs ys first = covered-append old new new xs ys first (covered-same new ys)
