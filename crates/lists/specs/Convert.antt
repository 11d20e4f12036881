-- The two conversions between lists of numbers, and what each call answers and leaves in the lent room.
use Rattle.std.specs.Prelude.{List, [], ◌∷◌, ℕ, length, drop, leb, ℤ}
use Rattle.meaning.specs.Book.{Book, Step}
use Rattle.meaning.specs.System.{moves, last_writers}
use Rattle.meaning.specs.State.{Control, first, with_places}
use Rattle.reply.specs.Answer.{ok, need, and_then}
use Rattle.reply.specs.Room.{Due, written}
use Rattle.lists.specs.Instance.{step_at}
use Rattle.lists.specs.Walker.{Walker, walk}
use Rattle.lists.specs.Derivation.{numbers, check_derivation}
use Rattle.lists.specs.Trace.{size, trace_numbers, check_trace}

-- ---- the steps that a list tells, where `gap` numbers stand after each step's values: none in a derivation, a state in a trace

abbrev pub steps_walk : Book → ℕ → Walker (List Step)
steps_walk b gap = record {
  Memory = Unit {0};
  gap = gap;
  step = λ k l i o rest. step_at b k l ∷ rest;
  next = λ s o. o;
  ended = λ i o. [];
}

unfoldable pub derivation_steps : Book → List ℤ → List Step
derivation_steps b l = walk b (steps_walk b 0) (length l) 0 tt l

unfoldable pub trace_steps : Book → Control → List ℤ → List Step
trace_steps b C l = walk b (steps_walk b (size b C)) (length l) (size b C) tt (drop (size b C) l)

-- ---- what is written

-- the first state's places are all at their low ends; the steps are the derivation's, in order
unfoldable pub as_trace : Book → Control → List ℤ → List ℤ
as_trace b C l = trace_numbers b C (first b C) (moves b (with_places b C) (first b C) (derivation_steps b l))

-- the last step that wrote relation r, then the last earlier one that wrote its body's, and so on back to a clause without body
unfoldable pub as_derivation : Book → Control → ℕ → List ℤ → List ℤ
as_derivation b C r l = numbers (last_writers b r (trace_steps b C l))

-- ---- what a call answers: done with the length written, or the refusal; and the room afterwards

-- a trace of over 1,000,000 numbers is refused (20) before the room is looked at
unfoldable pub to_trace : Book → Control → ℕ → List ℤ → List ℤ → List ℤ → Due ℤ
to_trace b C r vals l room =
    let t = as_trace b C l in
    written (and_then (check_derivation b r vals l) (need (leb (length t) 1000000) 20 (length t) ok)) t room

unfoldable pub to_derivation : Book → Control → ℕ → List ℤ → List ℤ → List ℤ → Due ℤ
to_derivation b C r vals l room = written (check_trace b C r vals l) (as_derivation b C r l) room
