-- An access of unprivileged code, and a list of them, from two buses that differ only in memory, where the memories
-- look the same to it: what is left differs only in memory again, and `Alike` holds of it.
--
-- - `granted_in`: a grant at the address of a request is one at each of its bytes. So a granted read reads bytes that
--   look the same, and a granted write writes bytes that may be stored (`IsOpen`).
-- - `space_alike`, `carried_alike`, `perform_alike` and `all_alike` go up by one layer each: memory, the bus,
--   one access with its decision, a list. Each says that the second result is the first with another memory.
use Rattle.std.proofs.Common.{◌≡◌, ◌⊎◌, inl, inr, ℕ, ◌+◌, Bool, true, false, not, ◌&&◌, ◌||◌, List, [], ◌∷◌}
use Rattle.std.proofs.Common.{Result, Ok, Err, refl, sym, ap, subst, ◌∙◌}
use Rattle.std.proofs.lemmas.Bool.{or_right}
use Rattle.devices.specs.Laws.{has_device_at}
use Rattle.instruction_set.specs.Sizes.{bytes_in}
use Rattle.platform.specs.declared.access.Access.{Access}
use Rattle.platform.specs.declared.access.Decision.{Decision}
use Rattle.platform.specs.declared.access.Kind.{Kind}
use Rattle.platform.specs.declared.access.Kind.TheVariants.{Fetch, Load, Store, Probe}
use Rattle.platform.specs.declared.access.Performed.{Performed}
use Rattle.platform.specs.declared.access.Request.{Request}
use Rattle.platform.specs.declared.access.Rule.{Rule}
use Rattle.platform.specs.declared.event.Event.{Event}
use Rattle.reference.specs.declared.failure.Failure.{Failure}
use Rattle.reference.specs.Accesses.{ListResult, carried_out, decision, access_lines, perform, value_of, followed}
use Rattle.reference.specs.Accesses.{is_to_device, perform_all}
use Rattle.platform.specs.Kinds.{is_load, is_probe, is_store, is_write}
use Rattle.platform.specs.Map.{is_in_ppb, is_in_window}
use Rattle.platform.specs.Memory.{Agree, Memory, is_writable_at, bytes_of}
use Rattle.platform.specs.Outcomes.{Outcome, within}
use Rattle.platform.specs.Regions.{Mpu, IsSound}
use Rattle.platform.specs.Space.{number_read, written_to, memory_access}
use Rattle.reference.specs.State.{Bus}
use Rattle.task_laws.specs.Sight.{may, sees}
use Rattle.task_laws.specs.TaskLaw.{IsOfTask, AreOfTask}
use Rattle.task_laws.proofs.Blocks.{decided_alike, one_block}
use Rattle.task_laws.proofs.Memories.{rest_kept}
use Rattle.task_laws.proofs.Priorities.{Decides, device_decides, system_decides}
use Rattle.physical_memory.proofs.Blocks.{AllIn, agree_then, both, both_by, in_memory_alike, number_alike}
use Rattle.physical_memory.proofs.Blocks.{writable_alike}
use Rattle.physical_memory.proofs.Blocks.{written_alike}
use Rattle.physical_memory.proofs.Bytes.{length-bytes_of}

-- ---- what a granted access may read and write

-- whether the decision denies unprivileged code a store at an address
abbrev pub denies : Mpu → Bool → ℕ → Bool
denies m z a = not (may m z Store a)

-- the decision grants a kind of access at each byte of a request
abbrev Granted : Mpu → Bool → Kind → Request → Type 0
Granted m z kind q = AllIn (may m z kind) q.access.address (bytes_in q.access.size)

-- where it grants that kind at the address, it grants it at each byte
granted_in : (m : Mpu) (z : Bool) (kind : Kind) (q : Request) → IsSound m → IsOfTask q →
    may m z kind q.access.address ≡ true → Granted m z kind q
granted_in m z kind q sound of granted k below =
    ap (λ (d : Decision). d.granted)
    (decided_alike m (q.access.address + k) q.access.address kind false z sound
    (one_block q.access.address k q.access.size of.aligned below))
    ∙ granted

-- each byte that a request reads is seen, and each that it writes may be stored
record IsOpen (m : Mpu) (z : Bool) (q : Request) : Type 0 where
  reads : is_probe q.access.kind ≡ false → is_write q.access.kind ≡ false →
      AllIn (sees m z) q.access.address (bytes_in q.access.size)
  writes : is_write q.access.kind ≡ true → Granted m z Store q

-- where the decision grants a request, it is so
is_open : (m : Mpu) (z : Bool) (q : Request) → IsSound m → IsOfTask q → may m z q.access.kind q.access.address ≡ true →
    IsOpen m z q
is_open m z q sound of granted = split of.kind
  where
    no_write : (kind : Kind) → q.access.kind ≡ kind → is_write kind ≡ false → is_write q.access.kind ≡ true →
        Granted m z Store q
    no_write kind e reads wrote = absurd (let w : false ≡ true = sym reads ∙ ap is_write (sym e) ∙ wrote in cc)

    at : (kind : Kind) → q.access.kind ≡ kind → Granted m z kind q
    at kind e = granted_in m z kind q sound of (ap (λ (k : Kind). may m z k q.access.address) (sym e) ∙ granted)

    split : ((q.access.kind ≡ Fetch) ⊎ ((q.access.kind ≡ Load) ⊎ ((q.access.kind ≡ Store) ⊎ (q.access.kind ≡ Probe)))) →
        IsOpen m z q
    split (inl e) = record {
      reads = λ unprobed read k below. or_right (may m z Load (q.access.address + k)) _ (at Fetch e k below);
      writes = no_write Fetch e refl;
    }
    split (inr (inl e)) = record {
      reads = λ unprobed read k below. rw (at Load e k below) refl;
      writes = no_write Load e refl;
    }
    split (inr (inr (inl e))) = record {
      reads = λ unprobed read. absurd (let w : true ≡ false = ap is_write (sym e) ∙ read in cc);
      writes = λ wrote. at Store e;
    }
    split (inr (inr (inr e))) = record {
      reads = λ unprobed. absurd (let w : true ≡ false = ap is_probe (sym e) ∙ unprobed in cc);
      writes = no_write Probe e refl;
    }

-- ---- two buses

-- a bus with another memory
abbrev pub with_memory_of : Bus → Memory → Bus
with_memory_of b k = record b { memory = k }

-- the outcome of an access with another memory
abbrev pub outcome_with : Outcome Bus → Memory → Outcome Bus
outcome_with o k = record o { after = with_memory_of o.after k }

-- the result of a list with another memory
abbrev pub list_with : ListResult → Memory → ListResult
list_with all k = record all { bus = with_memory_of all.bus k }

-- m and z are what the decision depends on, and `old` is the memory before the accesses
module _ (m : Mpu) (z : Bool) (old : Memory) where
  -- the memory of a bus looks the same as k, each byte that may not be stored is as in `old`, and m and z are what the
  -- decision depends on
  pub record Alike (b : Bus) (k : Memory) : Type 0 where
    pub looks : Agree (sees m z) b.memory k
    pub kept : Agree (denies m z) old b.memory
    pub decides : Decides m z b.system

  -- the outcomes of two accesses: they differ only in memory
  pub record SameOutcome (one two : Outcome Bus) : Type 0 where
    pub rest : two ≡ outcome_with one two.after.memory
    pub alike : Alike one.after two.after.memory

  -- ---- memory and the device window

  -- two outcomes of memory, as outcomes of the bus b: they differ only in memory
  abbrev SameSpace : Bus → Outcome Memory → Outcome Memory → Type 0
  SameSpace b one two = SameOutcome (within (with_memory_of b) one) (within (with_memory_of b) two)

  write_alike : (b : Bus) (k : Memory) (rule : Rule) (q : Request) → Alike b k → Granted m z Store q →
      SameSpace b (written_to b.memory rule q) (written_to k rule q)
  write_alike b k rule q alike granted =
      let bytes = bytes_of (bytes_in q.access.size) q.value in
      let long = length-bytes_of (bytes_in q.access.size) q.value in
      both (SameSpace b) (is_in_window q.access.address) _ _ _ _ (λ e. record { rest = refl; alike = alike })
      (λ e. both_by (SameSpace b) (is_writable_at b.memory q.access.address (bytes_in q.access.size))
      (is_writable_at k q.access.address (bytes_in q.access.size)) _ _ _ _
      (writable_alike (sees m z) b.memory k q.access.address (bytes_in q.access.size) alike.looks)
      (λ there. record {
        rest = refl;
        alike = record {
          looks = written_alike (sees m z) b.memory k q.access.address bytes alike.looks;
          kept =
              agree_then (denies m z) old b.memory _ alike.kept
              (rest_kept (may m z Store) b.memory q.access.address bytes (rw long granted));
          decides = alike.decides;
        };
      })
      (λ f. record { rest = refl; alike = alike }))

  space_alike : (b : Bus) (k : Memory) (ticks : ℕ) (rule : Rule) (q : Request) → Alike b k → IsOpen m z q →
      is_probe q.access.kind ≡ false →
      SameSpace b (memory_access b.memory ticks rule q) (memory_access k ticks rule q)
  unfolding memory_access
  space_alike b k ticks rule q alike opened unprobed =
      both (SameSpace b) (is_write q.access.kind) _ _ _ _ (λ e. write_alike b k rule q alike (opened.writes e))
      (λ e. record {
        rest =
            ap (λ (p : Performed). record { after = with_memory_of b k; performed = p })
            (both (λ (one two : Performed). two ≡ one) (is_in_window q.access.address) _ _ _ _ (λ f. refl)
            (λ f. ap (number_read rule)
            (number_alike (sees m z) b.memory k q.access.address (bytes_in q.access.size) alike.looks
            (opened.reads unprobed e))));
        alike = alike;
      })

  -- ---- the bus, and one access

  -- an access is to a device in both, or in neither: the same words are in memory
  device_alike : (b : Bus) (k : Memory) (a : Access) → Agree (sees m z) b.memory k →
      is_to_device (with_memory_of b k) a ≡ is_to_device b a
  device_alike b k a looks =
      ap (λ (there : Bool). (is_load a.kind || is_store a.kind)
      && (not there && has_device_at b.system.devices a.address))
      (in_memory_alike (sees m z) b.memory k a.address (bytes_in a.size) looks)

  carried_alike : (x : ℕ) (b : Bus) (k : Memory) (rule : Rule) (q : Request) → IsOfTask q → Alike b k →
      IsOpen m z q → SameOutcome (carried_out x b rule q) (carried_out x (with_memory_of b k) rule q)
  unfolding carried_out
  carried_alike x b k rule q of alike opened =
      both SameOutcome (is_probe q.access.kind) _ _ _ _ (λ e. record { rest = refl; alike = alike })
      (λ e. both SameOutcome (is_in_ppb q.access.address) _ _ _ _
      (λ f. record {
        rest = refl;
        alike = record {
          looks = alike.looks;
          kept = alike.kept;
          decides = system_decides m z x b.system rule q of.unprivileged alike.decides;
        };
      })
      (λ f. both_by SameOutcome (is_to_device b q.access) (is_to_device (with_memory_of b k) q.access) _ _ _ _
      (device_alike b k q.access alike.looks)
      (λ g. record {
        rest = refl;
        alike = record {
          looks = alike.looks;
          kept = alike.kept;
          decides = device_decides m z b.system rule q alike.decides;
        };
      })
      (λ g. space_alike b k b.system.time.ticks rule q alike opened e)))

  -- an access of unprivileged code
  pub perform_alike : (x : ℕ) (b : Bus) (k : Memory) (q : Request) → IsSound m → IsOfTask q → Alike b k →
      SameOutcome (perform x b q) (perform x (with_memory_of b k) q)
  unfolding perform
  perform_alike x b k q sound of alike =
      both SameOutcome (decision b q).granted _ _ _ _
      (λ granted. carried_alike x b k (decision b q).rule q of alike
      (is_open m z q sound of (rw (alike.decides.mpu, alike.decides.below_zero, of.unprivileged) at granted)))
      (λ refused. record { rest = refl; alike = alike })

  -- ---- a list of accesses

  -- the results of two lists: they differ only in memory
  pub record SameList (one two : ListResult) : Type 0 where
    pub rest : two ≡ list_with one two.bus.memory
    pub alike : Alike one.bus two.bus.memory

  followed_alike : (events : List Event) (b : Bus) (k : Memory) (value : Result ℕ Failure) (first second : ListResult) →
      Alike b k → SameList first second →
      SameList (followed events b value first) (followed events (with_memory_of b k) value second)
  followed_alike events b k (Ok value) first second alike others =
      record { rest = ap (followed events b (Ok value)) others.rest; alike = others.alike }
  followed_alike events b k (Err why) first second alike others = record { rest = refl; alike = alike }

  -- a list of accesses of unprivileged code
  pub all_alike : (x tick : ℕ) (b : Bus) (k : Memory) (qs : List Request) → IsSound m → AreOfTask qs → Alike b k →
      SameList (perform_all x tick b qs) (perform_all x tick (with_memory_of b k) qs)
  unfolding perform_all
  all_alike x tick b k [] sound of alike = record { rest = refl; alike = alike }
  all_alike x tick b k (q ∷ qs) sound of alike =
      let one = perform x b q in
      let two = perform x (with_memory_of b k) q in
      let here : SameOutcome one two = perform_alike x b k q sound of.0 alike in
      subst
      (λ (o : Outcome Bus). SameList
      (followed (access_lines tick q one.performed) one.after (value_of q one.performed)
      (perform_all x tick one.after qs))
      (followed (access_lines tick q o.performed) o.after (value_of q o.performed) (perform_all x tick o.after qs)))
      (sym here.rest)
      (followed_alike _ one.after two.after.memory (value_of q one.performed) _ _ here.alike
      (all_alike x tick one.after two.after.memory qs sound of.1 here.alike))
