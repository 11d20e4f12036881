-- Which numbers the refusals of the two checks have, and that what they accept is ok.
use Rattle.std.proofs.Math.Option.{Option, none}
use Rattle.std.specs.Prelude.{Bool, List, [], ◌∷◌, ℕ, length, drop, ℤ}
use Rattle.meaning.specs.Book.{Book, Fact}
use Rattle.meaning.specs.State.{Control, State}
use Rattle.reply.specs.Among.{has, all, Among, amongs, among-and, among-all}
use Rattle.lists.specs.Instance.{judge_clause, judge, judge_enabled}
use Rattle.lists.specs.Derivation.{judge_step, derivation_walk, check, judge_goal, judge_length, check_derivation}
use Rattle.lists.specs.Trace.{size, judge_move, trace_walk, judge_first, check_walk, check_trace}
use Rattle.lists.specs.Walked.{walk-keeps}

-- an instance; a step; a derivation; a trace
abbrev pub in_instance : List ℕ
in_instance = 12 ∷ 13 ∷ 14 ∷ 15 ∷ []

abbrev pub in_step : List ℕ
in_step = 16 ∷ in_instance

abbrev pub in_derivation : List ℕ
in_derivation = 10 ∷ 11 ∷ 17 ∷ in_step

abbrev pub in_trace : List ℕ
in_trace = 18 ∷ 19 ∷ in_derivation

pub among-judge : (b : Book) (k more : ℕ) (l : List ℤ) (i : ℕ) → Among in_instance (judge b k more l i)
unfolding judge judge_clause has
among-judge b k more l i = search amongs depth 10

pub among-enabled : (b : Book) (k more : ℕ) (l : List ℤ) (i : ℕ) (met : Bool) → Among in_step (judge_enabled b k more l i met)
unfolding judge_enabled has all
among-enabled b k more l i met = among-and _ (among-all in_step tt (among-judge b k more l i)) (search amongs)

-- the goal and the list's length
pub among-goal : (b : Book) (r : ℕ) (vals : List ℤ) → Among in_derivation (judge_goal b r vals)
unfolding judge_goal has
among-goal b r vals = search amongs

pub among-length : (l : List ℤ) → Among in_derivation (judge_length l)
unfolding judge_length has
among-length l = search amongs

-- ---- a derivation

pub among-step : (b : Book) (k : ℕ) (l : List ℤ) (i : ℕ) (o : Option Fact) → Among in_step (judge_step b k l i o)
unfolding judge_step
among-step b k l i o = among-enabled b k 0 l i _

pub among-derivation : (b : Book) (r : ℕ) (vals l : List ℤ) → Among in_derivation (check_derivation b r vals l)
unfolding check_derivation check has all
among-derivation b r vals l =
    among-and _ (among-goal b r vals) (among-and _ (among-length l)
    (walk-keeps b (derivation_walk b _) (Among in_derivation) (λ i o. search amongs) (λ k l i o a w. among-and _ (among-all in_derivation tt (among-step b k l i o)) w) (length l) 0 none l))

-- ---- a trace

module _ (b : Book) (C : Control) where
  pub among-move : (k : ℕ) (l : List ℤ) (i : ℕ) (σ : State C) → Among in_trace (judge_move b C k l i σ)
  unfolding judge_move has all
  among-move k l i σ = among-and _ (among-all in_trace tt (among-enabled b k (size b C) l i _)) (search amongs)

  pub among_first : (l : List ℤ) → Among in_trace (judge_first b C l)
  unfolding judge_first has
  among_first l = search amongs

  pub among-trace : (r : ℕ) (vals l : List ℤ) → Among in_trace (check_trace b C r vals l)
  unfolding check_trace check_walk has all
  among-trace r vals l =
      among-and _ (among-all in_trace tt (among-goal b r vals))
      (among-and _ (among-all in_trace tt (among-length l))
      (among-and _ (among_first l)
      (walk-keeps b (trace_walk b C _) (Among in_trace) (λ i σ. search amongs) (λ k l i σ a w. among-and _ (among-move k l i σ) w) (length l) (size b C) _ (drop (size b C) l))))
