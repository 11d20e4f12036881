-- The replies of the two conversions: when they write, what they write, and that else they leave the room as it was.
use Rattle.std.specs.Prelude.{◌≡◌, refl, ◌↔◌, List, ◌∷◌, ℕ, ◌≤◌, length, take, leb, ℤ}
use Rattle.std.proofs.Math.Path.{ap}
use Rattle.std.proofs.Common.{◌∙◌, leb→le, le→leb}
use Rattle.meaning.specs.Book.{Book}
use Rattle.meaning.specs.State.{Control}
use Rattle.reply.specs.Answer.{Answer, done, ok, need, and_then}
use Rattle.reply.specs.Among.{has, all, Among, amongs, among-and, among-all, need-ok, and_split, and-join}
use Rattle.reply.specs.Room.{wrote, Fair, written-wrote}
use Rattle.reply.proofs.Room.{written-done, written-front, written-fair}
use Rattle.lists.specs.Derivation.{check_derivation}
use Rattle.lists.specs.Trace.{check_trace}
use Rattle.lists.specs.Convert.{as_trace, as_derivation, to_trace, to_derivation}
use Rattle.lists.specs.Among.{in_derivation, among-derivation, among-trace}

module _ (b : Book) (C : Control) (r : ℕ) (vals l room : List ℤ) where
  -- ---- to a trace

  -- the answer before the room is looked at
  abbrev pub limited : Answer
  limited = and_then (check_derivation b r vals l) (need (leb (length (as_trace b C l)) 1000000) 20 (length (as_trace b C l)) ok)

  pub among-limited : Among (20 ∷ in_derivation) limited
  unfolding has all
  among-limited = among-and _ (among-all (20 ∷ in_derivation) tt (among-derivation b r vals l)) (search amongs)

  limited-exact : (limited ≡ ok) ↔ ((check_derivation b r vals l ≡ ok) × (length (as_trace b C l) ≤ 1000000))
  limited-exact =
      let n = length (as_trace b C l) in (
        λ e. let (p, q) = and_split _ (among-derivation b r vals l) e in (p, leb→le n 1000000 ((need-ok _ _ _ _).0 q).0),
        λ h. and-join (h.0, (need-ok _ 20 n ok).1 (le→leb n 1000000 h.1, refl)),
      )

  -- a derivation is taken to a trace just where it is accepted, its trace has at most 1,000,000 numbers and the room holds it
  pub to_trace-done : {n : ℕ} → (to_trace b C r vals l room).answer ≡ done n
      → (check_derivation b r vals l ≡ ok) × (length (as_trace b C l) ≤ 1000000) × (length (as_trace b C l) ≤ length room) × (length (as_trace b C l) ≡ n)
  unfolding to_trace
  to_trace-done e =
      let ((m, p), k, z) = written-done (as_trace b C l) room limited e in
      let (q, few) = limited-exact.0 (p ∙ ap done (among-limited.plain p)) in
      (q, few, k, z)

  pub to_trace-wrote : check_derivation b r vals l ≡ ok → length (as_trace b C l) ≤ 1000000 → length (as_trace b C l) ≤ length room
      → to_trace b C r vals l room ≡ wrote (as_trace b C l) room
  unfolding to_trace
  to_trace-wrote p m n = rw (limited-exact.1 (p, m)) (written-wrote (as_trace b C l) room 0 n)

  pub to_trace-front : {n : ℕ} → (to_trace b C r vals l room).answer ≡ done n → take n (to_trace b C r vals l room).room ≡ as_trace b C l
  unfolding to_trace
  to_trace-front e = written-front (as_trace b C l) room limited e

  pub to_trace-fair : Fair room (to_trace b C r vals l room)
  unfolding to_trace
  to_trace-fair = written-fair limited (as_trace b C l) room

  -- ---- to a derivation: an accepted trace is refused only for room

  pub to_derivation-done : {n : ℕ} → (to_derivation b C r vals l room).answer ≡ done n
      → (check_trace b C r vals l ≡ ok) × (length (as_derivation b C r l) ≤ length room) × (length (as_derivation b C r l) ≡ n)
  unfolding to_derivation
  to_derivation-done e =
      let ((m, p), k, z) = written-done (as_derivation b C r l) room (check_trace b C r vals l) e in
      (p ∙ ap done ((among-trace b C r vals l).plain p), k, z)

  pub to_derivation-wrote : check_trace b C r vals l ≡ ok → length (as_derivation b C r l) ≤ length room → to_derivation b C r vals l room ≡ wrote (as_derivation b C r l) room
  unfolding to_derivation
  to_derivation-wrote p n = rw p (written-wrote (as_derivation b C r l) room 0 n)

  pub to_derivation-front : {n : ℕ} → (to_derivation b C r vals l room).answer ≡ done n → take n (to_derivation b C r vals l room).room ≡ as_derivation b C r l
  unfolding to_derivation
  to_derivation-front e = written-front (as_derivation b C r l) room (check_trace b C r vals l) e

  pub to_derivation-fair : Fair room (to_derivation b C r vals l room)
  unfolding to_derivation
  to_derivation-fair = written-fair (check_trace b C r vals l) (as_derivation b C r l) room
