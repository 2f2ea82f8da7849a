-- A protocol that keeps more than its answers need: its course is that of the part that they need.
use Rattle.std.proofs.Common.{◌≡◌, ℕ, Bool, true, false, List, [], ◌∷◌, ◌++◌, refl, ◌∙◌, ap}
use Rattle.serving.specs.Conduct.{Conduct, SessionState, after_bytes, answers, course_of, end_answers, lifted, next}
use Rattle.serving.specs.Pieces.{Piece, last_state}
use Rattle.reference.specs.State.{State}

-- the part after a byte is what the conduct of the part keeps
abbrev pub KeepsPart : {A B : Type 0} → (B → A) → (B → State → ℕ → B) → Conduct A → Type 0
KeepsPart {A} {B} part after c = (b : B) (s : State) (byte : ℕ) → part (after b s byte) ≡ c.kept (part b) s byte

abbrev seen : {A B : Type 0} → (B → A) → SessionState B → SessionState A
seen part t = record { kept = part t.kept; state = t.state }

next_seen : {A B : Type 0} (part : B → A) (after : B → State → ℕ → B) (c : Conduct A) → KeepsPart part after c
    → (t : SessionState B) (byte : ℕ) → seen part (next (lifted part after c) t byte) ≡ next c (seen part t) byte
next_seen {A} part after c keeps t byte =
    ap (λ (k : A). record { kept = k; state = last_state t.state (c.answered (part t.kept) t.state byte) })
    (keeps t.kept t.state byte)

after_by : {A B : Type 0} (part : B → A) (after : B → State → ℕ → B) (c : Conduct A) (t : SessionState B) (x : ℕ)
    (xs : List ℕ) (is_open : Bool) → c.is_open (part t.kept) ≡ is_open
    → seen part (after_bytes (lifted part after c) (next (lifted part after c) t x) xs)
    ≡ after_bytes c (next c (seen part t) x) xs
    → seen part (after_bytes (lifted part after c) t (x ∷ xs)) ≡ after_bytes c (seen part t) (x ∷ xs)
unfolding after_bytes
after_by part after c t x xs true e on = rw e on
after_by part after c t x xs false e on = rw e refl

after_seen : {A B : Type 0} (part : B → A) (after : B → State → ℕ → B) (c : Conduct A) → KeepsPart part after c
    → (t : SessionState B) (xs : List ℕ)
    → seen part (after_bytes (lifted part after c) t xs) ≡ after_bytes c (seen part t) xs
unfolding after_bytes
after_seen part after c keeps t [] = refl
after_seen {A} part after c keeps t (x ∷ xs) =
    after_by part after c t x xs (c.is_open (part t.kept)) refl
    (after_seen part after c keeps (next (lifted part after c) t x) xs
    ∙ ap (λ (u : SessionState A). after_bytes c u xs) (next_seen part after c keeps t x))

answers_by : {A B : Type 0} (part : B → A) (after : B → State → ℕ → B) (c : Conduct A) (t : SessionState B) (x : ℕ)
    (xs : List ℕ) (is_open : Bool) → c.is_open (part t.kept) ≡ is_open
    → answers (lifted part after c) (next (lifted part after c) t x) xs ≡ answers c (next c (seen part t) x) xs
    → answers (lifted part after c) t (x ∷ xs) ≡ answers c (seen part t) (x ∷ xs)
unfolding answers
answers_by part after c t x xs true e on =
    rw e (ap (λ (ps : List Piece). c.answered (part t.kept) t.state x ++ ps) on)
answers_by part after c t x xs false e on = rw e refl

answers_seen : {A B : Type 0} (part : B → A) (after : B → State → ℕ → B) (c : Conduct A) → KeepsPart part after c
    → (t : SessionState B) (xs : List ℕ) → answers (lifted part after c) t xs ≡ answers c (seen part t) xs
unfolding answers
answers_seen part after c keeps t [] = refl
answers_seen {A} part after c keeps t (x ∷ xs) =
    answers_by part after c t x xs (c.is_open (part t.kept)) refl
    (answers_seen part after c keeps (next (lifted part after c) t x) xs
    ∙ ap (λ (u : SessionState A). answers c u xs) (next_seen part after c keeps t x))

-- so a session of it is one of the part
pub course_seen : {A B : Type 0} (part : B → A) (after : B → State → ℕ → B) (c : Conduct A)
    → KeepsPart part after c → (b : B) (s : State)
    → course_of (lifted part after c) b s ≡ course_of c (part b) s
course_seen {A} {B} part after c keeps b s =
    let t : SessionState B = record { kept = b; state = s } in
    λ i. record {
      answers = λ given. answers_seen part after c keeps t given i;
      all_answers = λ given. answers_seen part after c keeps t given i
          ++ end_answers c (after_seen part after c keeps t given i);
      is_open = λ given. c.is_open (after_seen part after c keeps t given i).kept;
    }
