-- Dumps that go to their files, one after another.
use Rattle.std.proofs.Common.{◌≡◌, ◌∙◌, ◌<◌, ◌≤◌, ◌+◌, ℕ, List, [], ◌∷◌, ◌++◌, true, false, ap, append-nil, arith}
use Rattle.std.proofs.Common.{drop, drop_of_length-le, length, refl, slice_index_or, subst, suc, sym}
use Rattle.std.proofs.KnownBytes.{Appends-nil, Appends-trans}
use Rattle.std.proofs.Math.Seq.{drop-cons}
use Rattle.std.proofs.lemmas.List.{append_assoc}
use Rattle.std.specs.Io.KnownBytes.{Appends}
use Rattle.command.specs.Dumping.{Dumps, DumpsAll, all_dump_bytes, dump_bytes}
use Rattle.command_line.specs.declared.dumps.Dump.{Dump}
use Rattle.output.specs.Output.{Writing, WritesAll}
use Rattle.reference.specs.State.{State}

-- all bytes of the dumps before a place went out
pub record DumpedSoFar (dumps : List Dump) (s : State) (place : ℕ) (old mid : Writing) : Type 0 where
  pub before : List Dump
  pub are : dumps ≡ before ++ drop place dumps
  pub went : WritesAll old mid (all_dump_bytes before s)

here : (dumps : List Dump) (place : ℕ) (blank : Dump) → place < length dumps
    → drop place dumps ≡ slice_index_or dumps place blank ∷ drop (place + 1) dumps
here dumps place blank within =
    let next : suc place ≡ place + 1 = omega arith in
    subst (λ (n : ℕ). drop place dumps ≡ slice_index_or dumps place blank ∷ drop n dumps) next
    (drop-cons dumps place blank within)

one_more : (before : List Dump) (dump : Dump) (s : State)
    → all_dump_bytes (before ++ dump ∷ []) s ≡ all_dump_bytes before s ++ dump_bytes dump s
one_more [] dump s = append-nil (dump_bytes dump s)
one_more (first ∷ before) dump s =
    ap (λ (bytes : List ℕ). dump_bytes first s ++ bytes) (one_more before dump s)
    ∙ sym (append_assoc (dump_bytes first s) (all_dump_bytes before s) (dump_bytes dump s))

pub dumped_none : (dumps : List Dump) (s : State) (old : Writing) → DumpedSoFar dumps s 0 old old
dumped_none dumps s old = record { before = []; are = refl; went = (Appends-nil old.written, refl) }

pub dumped_more : (dumps : List Dump) (s : State) (place : ℕ) (blank : Dump) (old mid new : Writing)
    → place < length dumps → Dumps (slice_index_or dumps place blank) s mid new true
    → DumpedSoFar dumps s place old mid → DumpedSoFar dumps s (place + 1) old new
dumped_more dumps s place blank old mid new within went so_far =
    let dump = slice_index_or dumps place blank in
    record {
      before = so_far.before ++ dump ∷ [];
      are =
          so_far.are ∙ ap (λ (rest : List Dump). so_far.before ++ rest) (here dumps place blank within)
          ∙ sym (append_assoc so_far.before (dump ∷ []) (drop (place + 1) dumps));
      went = (
        subst (λ (bytes : List ℕ). Appends old.written new.written bytes) (sym (one_more so_far.before dump s))
            (Appends-trans old.written mid.written new.written (all_dump_bytes so_far.before s) (dump_bytes dump s)
            so_far.went.0 went.0),
        went.1 ∙ so_far.went.1,
      );
    }

pub dumped_not : (dumps : List Dump) (s : State) (place : ℕ) (blank : Dump) (old mid new : Writing)
    → place < length dumps → Dumps (slice_index_or dumps place blank) s mid new false
    → DumpedSoFar dumps s place old mid → DumpsAll dumps s old new false
dumped_not dumps s place blank old mid new within failed so_far = record {
  before = so_far.before;
  dump = slice_index_or dumps place blank;
  later = drop (place + 1) dumps;
  are = so_far.are ∙ ap (λ (rest : List Dump). so_far.before ++ rest) (here dumps place blank within);
  mid = mid;
  went = so_far.went;
  failed = failed;
}

pub dumped_all : (dumps : List Dump) (s : State) (place : ℕ) (old new : Writing) → length dumps ≤ place
    → DumpedSoFar dumps s place old new → DumpsAll dumps s old new true
dumped_all dumps s place old new all so_far =
    let whole : dumps ≡ so_far.before =
    so_far.are ∙ ap (λ (rest : List Dump). so_far.before ++ rest) (drop_of_length-le dumps all)
    ∙ append-nil so_far.before in
    subst (λ (ds : List Dump). WritesAll old new (all_dump_bytes ds s)) (sym whole) so_far.went

pub ruleset dumped = (dumped_none, dumped_more, dumped_not, dumped_all)
