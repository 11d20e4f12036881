-- The two calls joined to the checks of lists and to the meaning of the book that the bytes hold.
use Rattle.std.specs.Prelude.{◌≡◌, ◌↔◌, List, ℕ, ◌+◌, ◌*◌, ◌≤◌, length, take, leb, ℤ, Ok}
use Rattle.std.proofs.Common.{sym, ap, ◌∙◌}
use Rattle.reply.specs.Answer.{Answer, done, refused, ok, need, says, says-done, Outcome}
use Rattle.reply.specs.Room.{Due, kept, wrote, Leaves, Fair}
use Rattle.meaning.specs.Book.{Book}
use Rattle.meaning.specs.Limits.{Limits}
use Rattle.meaning.specs.State.{flags}
use Rattle.meaning.specs.Laws.{flags-laws}
use Rattle.lists.specs.Derivation.{check_derivation}
use Rattle.lists.specs.Trace.{size, check_trace}
use Rattle.lists.specs.Convert.{derivation_steps, trace_steps, as_trace, as_derivation, to_trace, to_derivation}
use Rattle.lists.specs.Converted.{as_trace-accepted, as-many-steps, over-and-back, as_derivation-accepted, no-more-steps, accepted-either-way}
use Rattle.lists.specs.Replies.{to_trace-done, to_trace-wrote, to_trace-front, to_trace-fair, to_derivation-done, to_derivation-wrote, to_derivation-front, to_derivation-fair}
use Rattle.book.specs.Answer as books
use Rattle.book.specs.OnBook.{on_book, on-accepted, on-done, on-fair}
use Rattle.encode.specs.Stands.{Bytes}
use Rattle.encode.specs.Exact.{accepted-is-written}
use Rattle.trace.specs.Answer as traces
use Rattle.derivation.specs.Answer as derivations

-- ---- what the two calls owe: of the book's bytes s, the list l, the goal (relation r with the values vals) and the room d

abbrev pub to_trace_due : List ℕ → List ℤ → ℕ → List ℤ → List ℤ → Due ℤ
to_trace_due s l r vals d = on_book s (kept d) (λ b. to_trace b flags r vals l d)

abbrev pub to_derivation_due : List ℕ → List ℤ → ℕ → List ℤ → List ℤ → Due ℤ
to_derivation_due s l r vals d = on_book s (kept d) (λ b. to_derivation b flags r vals l d)

-- ---- inside a call, on an accepted book

-- 20: a trace has at most 1,000,000 numbers
unfoldable pub limited : List ℤ → Answer
limited t = need (leb (length t) 1000000) 20 (length t) ok

-- how many numbers a derivation of n steps and its trace have
pub record Long (b : Book) (l : List ℤ) (n : ℕ) : Type 0 where
  pub few : length l ≤ 1000000
  pub steps : n ≤ length l
  pub long : length (as_trace b flags l) ≡ size b flags + length l + n * size b flags

-- ---- what is left in the room

pub to-trace-fair : (s : List ℕ) (l : List ℤ) (r : ℕ) (vals d : List ℤ) → Fair d (to_trace_due s l r vals d)
to-trace-fair s l r vals d = on-fair s d _ (λ b. to_trace-fair b flags r vals l d)

pub to-derivation-fair : (s : List ℕ) (l : List ℤ) (r : ℕ) (vals d : List ℤ) → Fair d (to_derivation_due s l r vals d)
to-derivation-fair s l r vals d = on-fair s d _ (λ b. to_derivation-fair b flags r vals l d)

-- a list was written: the bytes hold a book, and it is what is due of that book
pub record Written (s : List ℕ) (f : Book → Due ℤ) (n : ℕ) (e : List ℤ) : Type 0 where
  pub book : Book
  pub held : books.answer s ≡ books.accepted book
  pub answer : (f book).answer ≡ done n
  pub room : e ≡ (f book).room

written-by : (s : List ℕ) (f : Book → Due ℤ) (d : List ℤ) {n : ℕ} {e : List ℤ} → Leaves (on_book s (kept d) f) (Ok n) e → Written s f n e
unfolding says
written-by s f d w =
    let (b, q, k) = on-done s d f (sym w.tells) in
    record { book = b; held = q; answer = k; room = w.room ∙ ap (λ (y : Due ℤ). y.room) (on-accepted s (kept d) f b q) }

-- where a list is due, it was written
wrote_by : (s : List ℕ) (f : Book → Due ℤ) (d t : List ℤ) {x : Outcome} {e : List ℤ} (b : Book) → books.answer s ≡ books.accepted b → f b ≡ wrote t d
    → Leaves (on_book s (kept d) f) x e → x ≡ Ok (length t)
wrote_by s f d t {x} b q z w = (says-done x (length t)).0 (w.tells ∙ ap (λ (y : Due ℤ). y.answer) (on-accepted s (kept d) f b q ∙ z))

-- ---- on the bytes s of a book, for the goal r vals

module _ (s : List ℕ) (bytes : Bytes s) (r : ℕ) (vals : List ℤ) where
  -- an accepted book keeps the limits
  limits : (b : Book) → books.answer s ≡ books.accepted b → Limits b
  limits b q = (accepted-is-written s bytes b q).1

  trace-answer : (b : Book) (l : List ℤ) → books.answer s ≡ books.accepted b → traces.answer s l r vals ≡ check_trace b flags r vals l
  unfolding traces.answer
  trace-answer b l q = on-accepted s refused (λ c. check_trace c flags r vals l) b q

  derivation-answer : (b : Book) (l : List ℤ) → books.answer s ≡ books.accepted b → derivations.answer s l r vals ≡ check_derivation b r vals l
  unfolding derivations.answer
  derivation-answer b l q = on-accepted s refused (λ c. check_derivation c r vals l) b q

  module _ (l d : List ℤ) where
    -- what the first conversion has written is the derivation's trace: the trace check accepts it for the same goal, and it has as many steps
    pub record Traced (n : ℕ) (e : List ℤ) : Type 0 where
      pub book : Book
      pub held : books.answer s ≡ books.accepted book
      pub from : check_derivation book r vals l ≡ ok
      pub list : take n e ≡ as_trace book flags l
      pub accepted : traces.answer s (take n e) r vals ≡ ok
      pub steps : length (trace_steps book flags (take n e)) ≡ length (derivation_steps book l)

    pub to-trace-accepted : (n : ℕ) (e : List ℤ) → Leaves (to_trace_due s l r vals d) (Ok n) e → Traced n e
    to-trace-accepted n e c =
        let w = written-by s _ d c in
        let b = w.book in
        let L = limits b w.held in
        let (p, m, k, z) = to_trace-done b flags r vals l d w.answer in
        let front = ap (take n) w.room ∙ to_trace-front b flags r vals l d w.answer in
        record {
          book = b;
          held = w.held;
          from = p;
          list = front;
          accepted = trace-answer b (take n e) w.held ∙ rw front (as_trace-accepted b flags flags-laws L r vals l p m);
          steps = rw front (as-many-steps b flags flags-laws L r vals l p);
        }

    -- it writes just where the derivation is accepted, its trace has at most 1,000,000 numbers and the room holds it
    pub to-trace-exact : (x : Outcome) (e : List ℤ) → Leaves (to_trace_due s l r vals d) x e
        → ((n : ℕ) × (x ≡ Ok n)) ↔ ((b : Book) × (books.answer s ≡ books.accepted b) × (check_derivation b r vals l ≡ ok) × (length (as_trace b flags l) ≤ 1000000) × (length (as_trace b flags l) ≤ length d))
    to-trace-exact x e c = (
      λ h. let w = written-by s _ d (rw h.1 at c) in
          let (p, m, k, z) = to_trace-done w.book flags r vals l d w.answer in
          (w.book, w.held, p, m, k),
      λ h. (_, wrote_by s _ d (as_trace h.0 flags l) h.0 h.1 (to_trace-wrote h.0 flags r vals l d h.2 h.3 h.4) c),
    )

    -- what the second conversion has written are the last writers: the derivation check accepts it for the same goal, and it has no more steps
    pub record Derived (n : ℕ) (e : List ℤ) : Type 0 where
      pub book : Book
      pub held : books.answer s ≡ books.accepted book
      pub from : check_trace book flags r vals l ≡ ok
      pub list : take n e ≡ as_derivation book flags r l
      pub accepted : derivations.answer s (take n e) r vals ≡ ok
      pub steps : length (derivation_steps book (take n e)) ≤ length (trace_steps book flags l)

    pub to-derivation-accepted : (n : ℕ) (e : List ℤ) → Leaves (to_derivation_due s l r vals d) (Ok n) e → Derived n e
    to-derivation-accepted n e c =
        let w = written-by s _ d c in
        let b = w.book in
        let L = limits b w.held in
        let (p, k, z) = to_derivation-done b flags r vals l d w.answer in
        let front = ap (take n) w.room ∙ to_derivation-front b flags r vals l d w.answer in
        record {
          book = b;
          held = w.held;
          from = p;
          list = front;
          accepted = derivation-answer b (take n e) w.held ∙ rw front (as_derivation-accepted b flags flags-laws L r vals l p);
          steps = rw front (no-more-steps b flags flags-laws L r vals l p);
        }

    -- an accepted trace is refused only for room
    pub to-derivation-exact : (x : Outcome) (e : List ℤ) → Leaves (to_derivation_due s l r vals d) x e
        → ((n : ℕ) × (x ≡ Ok n)) ↔ ((b : Book) × (books.answer s ≡ books.accepted b) × (check_trace b flags r vals l ≡ ok) × (length (as_derivation b flags r l) ≤ length d))
    to-derivation-exact x e c = (
      λ h. let w = written-by s _ d (rw h.1 at c) in
          let (p, k, z) = to_derivation-done w.book flags r vals l d w.answer in
          (w.book, w.held, p, k),
      λ h. (_, wrote_by s _ d (as_derivation h.0 flags r l) h.0 h.1 (to_derivation-wrote h.0 flags r vals l d h.2 h.3) c),
    )

  -- a derivation taken over and back is the same list, number for number
  pub there_and_back : (l d : List ℤ) (n : ℕ) (e : List ℤ) → Leaves (to_trace_due s l r vals d) (Ok n) e
      → (d' : List ℤ) (m : ℕ) (e' : List ℤ) → Leaves (to_derivation_due s (take n e) r vals d') (Ok m) e' → take m e' ≡ l
  there_and_back l d n e c d' m e' c' =
      let t = to-trace-accepted l d n e c in
      let u = to-derivation-accepted (take n e) d' m e' c' in
      let b = t.book in
      let q = t.held in
      let k = u.held in
      let same : u.book ≡ b = cc in
      u.list ∙ rw (same, t.list) (over-and-back b flags flags-laws (limits b t.held) r vals l t.from)

  -- and a room that holds the derivation gets it back
  pub back-again : (l d : List ℤ) (n : ℕ) (e : List ℤ) → Leaves (to_trace_due s l r vals d) (Ok n) e
      → (d' : List ℤ) → length l ≤ length d' → (x : Outcome) (e' : List ℤ) → Leaves (to_derivation_due s (take n e) r vals d') x e'
      → (x ≡ Ok (length l)) × (take (length l) e' ≡ l)
  back-again l d n e c d' room x e' c' =
      let t = to-trace-accepted l d n e c in
      let b = t.book in
      let same : as_derivation b flags r (take n e) ≡ l = rw t.list (over-and-back b flags flags-laws (limits b t.held) r vals l t.from) in
      let good : check_trace b flags r vals (take n e) ≡ ok = sym (trace-answer b (take n e) t.held) ∙ t.accepted in
      let fits : length (as_derivation b flags r (take n e)) ≤ length d' = rw same room in
      let is : x ≡ Ok (length l) = wrote_by s _ d' (as_derivation b flags r (take n e)) b t.held (to_derivation-wrote b flags r vals (take n e) d' good fits) c' ∙ ap (λ (z : List ℤ). Ok (length z)) same in
      (is, there_and_back l d n e c d' (length l) e' (rw is at c'))

  -- some list is accepted as a trace just where some list is accepted as a derivation whose trace is within the limit
  pub either_way : (b : Book) → books.answer s ≡ books.accepted b
      → ((l : List ℤ) × (traces.answer s l r vals ≡ ok)) ↔ ((l : List ℤ) × (derivations.answer s l r vals ≡ ok) × (length (as_trace b flags l) ≤ 1000000))
  either_way b q =
      let all = accepted-either-way b flags flags-laws (limits b q) r vals in (
        λ h. let (l, e, m) = all.0 (h.0, sym (trace-answer b h.0 q) ∙ h.1) in (l, derivation-answer b l q ∙ e, m),
        λ h. let (l, e) = all.1 (h.0, sym (derivation-answer b h.0 q) ∙ h.1, h.2) in (l, trace-answer b l q ∙ e),
      )
