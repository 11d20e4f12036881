-- The ways of a conversion's call.
use mathlib.Core.Path.{◌≡◌, refl, sym, ap, ◌∙◌}
use mathlib.Core.List.{List, [], ◌∷◌, ◌++◌}
use Prim.Native.Nat.{ℕ, zero, suc, ◌+◌, ◌*◌, ◌≤◌, ◌<◌}
use native.Mathlib.Nat.{mul-le-mul}
use native.Mathlib.Omega.{arith}
use lib.ListN.{length, get_or, drop, length-drop}
use lib.IntN.{ℤ}
use borrow.Author.Tests.{le-leb, lt-leb}
use mir.Syntax.{w8}
use mir.Val.{Fits}
use Rattle.reply.specs.declared.Refusal.{Refusal}
use Rattle.reply.specs.Answer.{Answer, refused, ok, need, and_then, refuse, says, told, Outcome}
use Rattle.reply.specs.Among.{told-ok, told-no}
use Rattle.reply.specs.Room.{written, Leaves, written-wrote, fair-length}
use Rattle.reply.proofs.Room.{written-needs, written-fair}
use Rattle.meaning.specs.Book.{Book}
use Rattle.meaning.specs.State.{Control, flags}
use Rattle.meaning.specs.Laws.{flags-laws}
use Rattle.lists.specs.Derivation.{judge_goal, judge_length, check_derivation}
use Rattle.lists.specs.Trace.{size, check_trace}
use Rattle.lists.specs.Instance.{clause_number, clause_at}
use Rattle.lists.specs.Walker.{walk}
use Rattle.lists.specs.Convert.{steps_walk, derivation_steps, as_trace, as_derivation, to_trace, to_derivation}
use Rattle.lists.specs.Among.{among-derivation, among-trace}
use Rattle.lists.specs.Laws.{asked-exact}
use Rattle.lists.proofs.Places.{step-in-derivation}
use Rattle.lists.proofs.Back.{step-in-trace}
use Rattle.lists.specs.Converted.{as_trace-length}
use Rattle.book.specs.declared.Header.{Header}
use Rattle.book.specs.Read.{read}
use Rattle.book.specs.Meaning.{book_in}
use Rattle.book.specs.Trailer.{read-trailed}
use Rattle.book.specs.Arities.{relations-are}
use Rattle.encode.specs.Written.{limits-read}
use Rattle.steps.specs.Put.{Put}
use Rattle.steps.specs.Walk.{Walk}
use Rattle.back.specs.Walk.{Trace}
use Rattle.back.proofs.Places.{flags-some}
use Rattle.derivation.specs.Answer.{counted}
use Rattle.derivation.proofs.Laws.{plain-stop, check_done}
use Rattle.convert.specs.Calls.{limited, Long}
use Rattle.std.specs.Prelude.{Ok, Err}

-- ---- replies

-- a refusal of a check
pub replies-stop : (a : Answer) (t d : List ℤ) (g : Refusal) → a ≡ refused g.number g.place → Leaves (written a t d) (Err g) d
unfolding written says
replies-stop a t d g e = rw e (record { tells = refl; room = refl })

-- a room keeps its length
pub replies-length : (a : Answer) (t d : List ℤ) {x : Outcome} {e : List ℤ} → Leaves (written a t d) x e → length e ≡ length d
replies-length a t d w = ap length w.room ∙ fair-length _ (written-fair a t d)

module _ (t d : List ℤ) (n : ℕ) (count : n ≡ length t) where
  -- the room is too short
  pub replies-needs : length d < n → Leaves (written ok t d) (Err (refuse 9 n)) d
  unfolding says
  replies-needs h = rw (written-needs t d 0 (omega arith), ← count) (record { tells = refl; room = refl })

  pub replies-wrote : (e : List ℤ) → n ≤ length d → e ≡ t ++ drop n d → Leaves (written ok t d) (Ok n) e
  unfolding says
  replies-wrote e h k = rw (written-wrote t d 0 (omega arith), ← count) (record { tells = refl; room = k })

  -- the trace is too long, or not
  pub replies-long : 1000000 < n → Leaves (written (limited t) t d) (Err (refuse 20 n)) d
  unfolding limited need
  replies-long h = replies-stop _ t d (refuse 20 n) (rw (lt-leb (length t) 1000000 (omega arith), ← count))

  pub within : n ≤ 1000000 → limited t ≡ ok
  unfolding limited need
  within h = rw (le-leb (length t) 1000000 (omega arith))

  -- within the limit: the room is too short, or the trace is put at its front
  pub replies-short : n ≤ 1000000 → length d < n → Leaves (written (limited t) t d) (Err (refuse 9 n)) d
  replies-short k h = rw (within k) (replies-needs h)

  pub replies-put : (e : List ℤ) → n ≤ 1000000 → n ≤ length d → Put d e 0 t → Leaves (written (limited t) t d) (Ok n) e
  replies-put e k h w = rw (within k) (replies-wrote e h (w.is ∙ ap (λ (m : ℕ). t ++ drop m d) (let z : 0 + length t ≡ n = omega arith in z)))

-- the number of a trace's numbers, as the code works it out
pub long-is : {b : Book} {l : List ℤ} {n z : ℕ} → Long b l n → z ≡ size b flags → z + length l + n * z ≡ length (as_trace b flags l)
long-is w e = rw e (sym w.long)

-- it fits
pub long-small : {b : Book} {l : List ℤ} {n z : ℕ} → Long b l n → z ≤ 144 → z + length l + n * z ≤ 145000144
long-small {b} {l} {n} {z} w h =
    let m : n ≤ 1000000 = omega (arith, w.few, w.steps) in
    let y : n * z ≤ 1000000 * 144 = mul-le-mul m h in
    omega (arith, w.few)

-- ---- an accepted list

-- a list has at most as many steps as numbers
walk-few : (b : Book) (m i : ℕ) (o : Unit {0}) (l : List ℤ) → length (walk b (steps_walk b 0) m i o l) ≤ length l
unfolding walk
walk-few b zero i o l = omega arith
walk-few b (suc m) i o [] = omega arith
walk-few b (suc m) i o (x ∷ l) =
    let r = drop 0 (drop (clause_at b (clause_number b x)).vars l) in
    omega (arith, walk-few b m (i + 1 + (clause_at b (clause_number b x)).vars + 0) o r, length-drop (clause_at b (clause_number b x)).vars l)

steps-few : (b : Book) (l : List ℤ) → length (derivation_steps b l) ≤ length l
unfolding derivation_steps
steps-few b l = walk-few b (length l) 0 tt l

-- the derivation check answers how many steps there are
module _ (b : Book) (r : ℕ) (vals l : List ℤ) (n : ℕ) {y : Outcome} (p : y ≡ told (counted (check_derivation b r vals l) n)) where
  module _ {m : ℕ} (q : y ≡ Ok m) where
    derived-ok : check_derivation b r vals l ≡ ok
    derived-ok = told-ok _ (among-derivation b r vals l) (sym (check_done b r vals l n p q refl))

    derived-steps : n ≡ m
    unfolding told counted
    derived-steps = let z : Ok n ≡ Ok m = rw derived-ok at (sym p ∙ q) in cc

  derived-no : {g : Refusal} → y ≡ Err g → check_derivation b r vals l ≡ refused g.number g.place
  derived-no {g} q = told-no _ g (sym (plain-stop (check_derivation b r vals l) n p q q) ∙ q)

module _ (s : List ℕ) (h : Header) (l : List ℤ) (r : ℕ) (vals : List ℤ) (good : read s ≡ Ok h) where
  goal-small : (a : Answer) → and_then (judge_goal (book_in s h) r vals) (and_then (judge_length l) a) ≡ ok → (r < 16) × (length l ≤ 1000000)
  goal-small a e =
      let w = ((asked-exact (book_in s h) r vals l a).0 e).0 in
      let k = (read-trailed s h good).kept in
      (omega (arith, w.there, relations-are s h good), w.few)

  module _ {y : Outcome} {n : ℕ} where
    pub trace-walk : y ≡ told (check_trace (book_in s h) flags r vals l) → y ≡ Ok n → Trace s h flags l (size (book_in s h) flags)
    unfolding check_trace
    trace-walk p q =
        let e = told-ok _ (among-trace (book_in s h) flags r vals l) (sym p ∙ q) in
        record { walk = record { good = good; steps = step-in-trace (book_in s h) flags l r vals e }; size = refl; some = flags-some s h good; few = (goal-small _ e).1 }

    pub trace-small : y ≡ told (check_trace (book_in s h) flags r vals l) → y ≡ Ok n → r < 16
    unfolding check_trace
    trace-small p q = (goal-small _ (told-ok _ (among-trace (book_in s h) flags r vals l) (sym p ∙ q))).0

    module _ (p : y ≡ told (counted (check_derivation (book_in s h) r vals l) (length (derivation_steps (book_in s h) l)))) (q : y ≡ Ok n) where
      pub derivation-walk : Walk s h l 0 0
      derivation-walk = record { good = good; steps = step-in-derivation (book_in s h) l r vals (derived-ok (book_in s h) r vals l _ p q) }

      pub derivation-long : ((i : ℕ) → Fits w8 (get_or s i 0)) → Long (book_in s h) l n
      unfolding check_derivation
      derivation-long bytes =
          let e = derived-ok (book_in s h) r vals l _ p q in
          rw (← (derived-steps (book_in s h) r vals l _ p q)) (record {
            few = (goal-small _ e).1;
            steps = steps-few (book_in s h) l;
            long = as_trace-length (book_in s h) flags flags-laws (limits-read s h (record { below = λ i k. (bytes i).fits }) good) r vals l e;
          })

-- at the number that the code has for a state's size
pub trace-at : {s : List ℕ} {h : Header} {C : Control} {l : List ℤ} {z n : ℕ} → Trace s h C l z → n ≡ z → Trace s h C l n
trace-at t e = rw e t

-- ---- the replies of the two calls

module _ (b : Book) (r : ℕ) (vals l d : List ℤ) {y x : Outcome} where
  pub derivation-on : {n : ℕ} {e : List ℤ} → y ≡ told (check_trace b flags r vals l) → y ≡ Ok n →
      Leaves (written ok (as_derivation b flags r l) d) x e → Leaves (to_derivation b flags r vals l d) x e
  unfolding to_derivation
  derivation-on p q w = rw (told-ok _ (among-trace b flags r vals l) (sym p ∙ q)) w

  pub derivation-stop : {g : Refusal} → y ≡ told (check_trace b flags r vals l) → y ≡ Err g → x ≡ Err g → Leaves (to_derivation b flags r vals l d) x d
  unfolding to_derivation
  derivation-stop {g} p q e = rw e (replies-stop _ (as_derivation b flags r l) d g (told-no _ g (sym p ∙ q)))

  module _ (n : ℕ) (p : y ≡ told (counted (check_derivation b r vals l) n)) where
    pub trace-on : {m : ℕ} {e : List ℤ} → y ≡ Ok m → Leaves (written (limited (as_trace b flags l)) (as_trace b flags l) d) x e → Leaves (to_trace b flags r vals l d) x e
    unfolding to_trace limited and_then
    trace-on q w = rw (derived-ok b r vals l n p q) w

    pub trace-stop : {g : Refusal} → y ≡ Err g → x ≡ Err g → Leaves (to_trace b flags r vals l d) x d
    unfolding to_trace and_then
    trace-stop {g} q e = rw e (replies-stop _ (as_trace b flags l) d g (rw (derived-no b r vals l n p q)))
