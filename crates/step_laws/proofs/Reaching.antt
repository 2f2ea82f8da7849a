-- The word of a device changes by the pokes of a tick, and by loads and stores of a step: no other change of the bus
-- touches the words of devices.
use Rattle.std.proofs.Common.{◌≡◌, ℕ, ◌+◌, ◌++◌, Bool, true, false, not, ◌&&◌, ◌||◌, if◌then◌else◌, List, [], ◌∷◌}
use Rattle.std.proofs.Common.{Option}
use Rattle.std.proofs.Common.{Some, None, refl, sym, ◌∙◌, ap}
use Rattle.std.specs.Prelude.{is_some, slice_index, unwrap_or}
use Rattle.std.proofs.lemmas.Bool.{and_parts, cond_both, or_parts}
use Rattle.std.proofs.lemmas.List.Folds.{list_any-append}
use Rattle.devices.proofs.Foreseen.{other_poke}
use Rattle.devices.specs.declared.device.Poke.{Poke}
use Rattle.devices.specs.Copies.{HaveSameDevices}
use Rattle.devices.specs.Devices.{DeviceWords, Word, after_store_at, after_store_in, loaded, loaded_in, poked, poked_by}
use Rattle.devices.specs.Devices.{read_at, sent_at, stored_content, word_at}
use Rattle.devices.specs.Pokes.{poked_all}
use Rattle.devices.specs.Table.{has, place}
use Rattle.platform.specs.declared.access.DoneAccess.{DoneAccess}
use Rattle.platform.specs.declared.access.Kind.{Kind}
use Rattle.platform.specs.declared.access.Performed.TheVariants.{Done}
use Rattle.platform.specs.declared.access.Request.{Request}
use Rattle.platform.specs.declared.access.Rule.{Rule}
use Rattle.platform.specs.declared.event.Event.{Event}
use Rattle.platform.specs.Events.{is_access_with}
use Rattle.platform.specs.Kinds.{is_load, is_probe, is_store}
use Rattle.platform.specs.Map.{is_in_ppb}
use Rattle.platform.specs.Memory.{is_in_memory}
use Rattle.instruction_set.specs.Sizes.{bytes_in}
use Rattle.devices.specs.Laws.{has_device_at}
use Rattle.platform.specs.Outcomes.{Outcome}
use Rattle.platform.specs.Space.{number_read}
use Rattle.platform.specs.System.{System, after_pokes, after_tick, device_access, loaded_from_device, pokes_of, settled}
use Rattle.platform.specs.System.{stored_to_device, time_passed, with_devices}
use Rattle.platform.specs.Time.{events_at}
use Rattle.reference.specs.Accesses.{access_lines, accessed, carried_out, console_line, decision, is_to_device}
use Rattle.reference.specs.Accesses.{perform}
use Rattle.reference.specs.State.{Bus, State}
use Rattle.step_laws.specs.DeviceLaw.{WordStays, are_naming, are_of_word, are_reaching, names, pokes_by, reaches}
use Rattle.step_laws.proofs.BusRules.{BusRules, bus_keeps}
use Rattle.step_laws.proofs.Devices.{devices_refl, perform_same, system_leaves, tick_same}
use Rattle.step_laws.proofs.Settling.{settled_part}

-- ---- pokes of other words

poke_by_stays : (ds : List DeviceWords) (ticks a : ℕ) (p : Option Poke) → names p a ≡ false →
    word_at (poked_by ds ticks p) a ≡ word_at ds a
poke_by_stays ds ticks a None other = refl
poke_by_stays ds ticks a (Some p) other = other_poke ds ticks a p.address p.value other

pokes_stay : (ds : List DeviceWords) (ticks a : ℕ) (ps : List Poke) → are_naming ps a ≡ false →
    word_at (poked_all ds ticks ps) a ≡ word_at ds a
pokes_stay ds ticks a [] other = refl
pokes_stay ds ticks a (p ∷ ps) other =
    let parts = or_parts (are_of_word p.address a) (are_naming ps a) other in
    pokes_stay (poked ds ticks p.address p.value) ticks a ps parts.1 ∙ other_poke ds ticks a p.address p.value parts.0

settled_words : (s : System) → (settled s).devices ≡ s.devices
settled_words s = settled_part (λ t. t.devices) (λ t what. refl) s

-- ---- one access

-- lists of the same devices poke alike
pokes_alike : (ds es : List DeviceWords) (x : ℕ) (kind : Kind) (a : ℕ) → HaveSameDevices ds es →
    pokes_by (word_at ds x) kind a ≡ pokes_by (word_at es x) kind a
pokes_alike [] [] x kind a h = refl
pokes_alike (d ∷ ds) (e ∷ es) x kind a h = rw h.0 (by (has e.device x) refl (pokes_alike ds es x kind a h.1))
  where
    by : (b : Bool) → has e.device x ≡ b → pokes_by (word_at ds x) kind a ≡ pokes_by (word_at es x) kind a →
        pokes_by
        (if has e.device x then Some (record { device = e.device; stored = slice_index d.words (place e.device x) })
        else word_at ds x) kind a
        ≡ pokes_by (word_at (e ∷ es) x) kind a
    by true there rest = rw there refl
    by false there rest = rw there rest
pokes_alike [] (e ∷ es) x kind a h = absurd h
pokes_alike (d ∷ ds) [] x kind a h = absurd h

module _ (es : List DeviceWords) (a : ℕ) where
  -- an access leaves the word, unless its lines reach it
  abbrev Stays : ℕ → Request → System → Outcome System → Type 0
  Stays tick q s o =
      are_reaching es (access_lines tick q o.performed) a ≡ false → word_at o.after.devices a ≡ word_at s.devices a

  -- the line of an access that was carried out doesn't reach it
  unreached : (tick : ℕ) (q : Request) (access : DoneAccess) →
      are_reaching es (access_lines tick q (Done access)) a ≡ false →
      (is_store q.access.kind && are_of_word q.access.address a
      || pokes_by (word_at es q.access.address) q.access.kind a) ≡ false
  unreached tick q access none =
      (or_parts (is_access_with (λ d. reaches es d a) (accessed tick q access.rule None).what)
      (are_reaching es (console_line tick access.sent) a) none).0

  -- likewise of a read that gave a value
  unread : (tick : ℕ) (q : Request) (rule : Rule) (value : Option ℕ) → is_some value ≡ true →
      are_reaching es (access_lines tick q (number_read rule value)) a ≡ false →
      (is_store q.access.kind && are_of_word q.access.address a
      || pokes_by (word_at es q.access.address) q.access.kind a) ≡ false
  unread tick q rule None there none = absurd cc
  unread tick q rule (Some v) there none = unreached tick q (record { rule = rule; value = v; sent = None }) none

  after_or : (x y : Bool) → ((x || true) && y) ≡ false → y ≡ false
  after_or true y e = e
  after_or false y e = e

  stored_stays : (tick : ℕ) (s : System) (rule : Rule) (q : Request) → is_store q.access.kind ≡ true →
      HaveSameDevices s.devices es → Stays tick q s (stored_to_device s rule q)
  stored_stays tick s rule q e same none =
      ap (λ (ds : List DeviceWords). word_at ds a)
      (settled_words (with_devices s (after_store_at s.devices s.time.ticks q.access.address q.access.size q.value)))
      ∙ by (word_at s.devices q.access.address) refl
    where
      parts : (is_store q.access.kind && are_of_word q.access.address a ≡ false)
          × (pokes_by (word_at es q.access.address) q.access.kind a ≡ false)
      parts =
          or_parts (is_store q.access.kind && are_of_word q.access.address a)
          (pokes_by (word_at es q.access.address) q.access.kind a)
          (unreached tick q (record {
            rule = rule;
            value = 0;
            sent = unwrap_or (sent_at s.devices q.access.address q.value) None;
          }) none)

      other : are_of_word q.access.address a ≡ false
      other = rw e at parts.0

      unpoked : pokes_by (word_at s.devices q.access.address) q.access.kind a ≡ false
      unpoked = pokes_alike s.devices es q.access.address q.access.kind a same ∙ parts.1

      by : (word : Option Word) → word_at s.devices q.access.address ≡ word →
          word_at (after_store_in s.devices s.time.ticks q.access.address q.access.size q.value word) a
          ≡ word_at s.devices a
      by None there = refl
      by (Some w) there =
          poke_by_stays
          (poked s.devices s.time.ticks q.access.address
          (stored_content w s.time.ticks q.access.address q.access.size q.value))
          s.time.ticks a w.device.store_poke (unnamed w there)
          ∙ other_poke s.devices s.time.ticks a q.access.address _ other
        where
          unnamed : (w : Word) → word_at s.devices q.access.address ≡ Some w → names w.device.store_poke a ≡ false
          unnamed w there =
              after_or (is_load q.access.kind) (names w.device.store_poke a) (rw (there, e) at unpoked)

  loaded_stays : (tick : ℕ) (s : System) (rule : Rule) (q : Request) → is_load q.access.kind ≡ true →
      is_store q.access.kind ≡ false → HaveSameDevices s.devices es → Stays tick q s (loaded_from_device s rule q)
  loaded_stays tick s rule q load e same none =
      ap (λ (ds : List DeviceWords). word_at ds a)
      (settled_words (with_devices s (loaded s.devices s.time.ticks q.access.address)))
      ∙ by (word_at s.devices q.access.address) refl
    where
      by : (word : Option Word) → word_at s.devices q.access.address ≡ word →
          word_at (loaded_in s.devices s.time.ticks word) a ≡ word_at s.devices a
      by None there = refl
      by (Some w) there = poke_by_stays s.devices s.time.ticks a w.device.load_poke unnamed
        where
          unnamed : names w.device.load_poke a ≡ false
          unnamed =
              let parts =
              or_parts (is_store q.access.kind && are_of_word q.access.address a)
              (pokes_by (word_at es q.access.address) q.access.kind a)
              (unread tick q rule (read_at s.devices s.time.ticks q.access.address q.access.size)
              (rw there refl) none) in
              rw (there, load, e) at
              (pokes_alike s.devices es q.access.address q.access.kind a same ∙ parts.1)

  one_of : (x y : Bool) → (x || y) ≡ true → y ≡ false → x ≡ true
  one_of true y either e = refl
  one_of false y either e = absurd cc

  device_stays : (tick : ℕ) (s : System) (rule : Rule) (q : Request) →
      (is_load q.access.kind || is_store q.access.kind) ≡ true → HaveSameDevices s.devices es →
      Stays tick q s (device_access s rule q)
  unfolding device_access
  device_stays tick s rule q either same =
      cond_both (is_store q.access.kind) _ _ (Stays tick q s) (λ e. stored_stays tick s rule q e same)
      (λ e. loaded_stays tick s rule q (one_of (is_load q.access.kind) (is_store q.access.kind) either e) e same)

  -- likewise of an access of the bus
  abbrev BusStays : ℕ → Request → Bus → Outcome Bus → Type 0
  BusStays tick q b o =
      are_reaching es (access_lines tick q o.performed) a ≡ false →
      word_at o.after.system.devices a ≡ word_at b.system.devices a

  carried_stays : (x tick : ℕ) (b : Bus) (rule : Rule) (q : Request) → HaveSameDevices b.system.devices es →
      BusStays tick q b (carried_out x b rule q)
  unfolding carried_out
  carried_stays x tick b rule q same =
      cond_both (is_probe q.access.kind) _ _ (BusStays tick q b) (λ e none. refl)
      (λ e. cond_both (is_in_ppb q.access.address) _ _ (BusStays tick q b)
      (λ f none. ap (λ (ds : List DeviceWords). word_at ds a) (system_leaves x b.system rule q))
      (λ f. cond_both (is_to_device b q.access) _ _ (BusStays tick q b)
      (λ g. device_stays tick b.system rule q
      (and_parts (is_load q.access.kind || is_store q.access.kind)
      (not (is_in_memory b.memory q.access.address (bytes_in q.access.size))
      && has_device_at b.system.devices q.access.address)
      g).0 same)
      (λ g none. refl)))

  perform_stays : (x tick : ℕ) (b : Bus) (q : Request) → HaveSameDevices b.system.devices es →
      BusStays tick q b (perform x b q)
  unfolding perform
  perform_stays x tick b q same =
      cond_both (decision b q).granted _ _ (BusStays tick q b)
      (λ e. carried_stays x tick b (decision b q).rule q same) (λ e none. refl)

  -- ---- the step

  none_first : (xs ys : List Event) → are_reaching es (xs ++ ys) a ≡ false → are_reaching es xs a ≡ false
  none_first xs ys e =
      (or_parts _ _ (sym (list_any-append (λ (event : Event). is_access_with (λ d. reaches es d a) event.what) xs ys)
      ∙ e)).0

  none_later : (xs ys : List Event) → are_reaching es (xs ++ ys) a ≡ false → are_reaching es ys a ≡ false
  none_later xs ys e =
      (or_parts _ _ (sym (list_any-append (λ (event : Event). is_access_with (λ d. reaches es d a) event.what) xs ys)
      ∙ e)).1

  -- the devices are these, and the word is as in them, unless an event reaches it
  abbrev IsAsIn : Bus → List Event → Type 0
  IsAsIn b events =
      HaveSameDevices b.system.devices es
      × (are_reaching es events a ≡ false → word_at b.system.devices a ≡ word_at es a)

  word_rules : BusRules IsAsIn
  word_rules = record {
    access = λ x tick b events q h. (
      perform_same es x b q h.0,
      λ none. perform_stays x tick b q h.0 (none_later events _ none) ∙ h.1 (none_first events _ none),
    );
    nvic = λ b events n h. h;
    status = λ b events st h. h;
    line = λ b events e other h. (h.0, λ none. h.1 (none_first events (e ∷ []) none));
  }

  pokes_leave : (s : System) (ps : List Poke) → are_naming ps a ≡ false →
      word_at (after_pokes s ps).devices a ≡ word_at s.devices a
  pokes_leave s [] other = refl
  pokes_leave s (p ∷ ps) other =
      ap (λ (ds : List DeviceWords). word_at ds a)
      (settled_words (with_devices s (poked_all s.devices s.time.ticks (p ∷ ps))))
      ∙ pokes_stay s.devices s.time.ticks a (p ∷ ps) other

  tick_leaves : (s : System) → are_naming (pokes_of (events_at (s.time.ticks + 1) s.time.script)) a ≡ false →
      word_at (after_tick s).devices a ≡ word_at s.devices a
  unfolding after_tick
  tick_leaves s other = pokes_leave (time_passed s) (pokes_of (events_at (s.time.ticks + 1) s.time.script)) other

pub word_stays : (s : State) (a : ℕ) → WordStays s a
word_stays s a unnamed none =
    let es = s.bus.system.devices in
    (bus_keeps (word_rules es a) s (devices_refl es, λ none. refl)
    (tick_same es s.bus.system (devices_refl es), λ none. tick_leaves es a s.bus.system unnamed)).1 none
