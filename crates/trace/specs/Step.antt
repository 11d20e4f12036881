-- What one step of a trace answers, the state after it, and the end of the list.
use Rattle.std.specs.Prelude.{ℕ, List, take, drop, ℤ}
use Rattle.meaning.specs.Book.{Book, Fact, body}
use Rattle.meaning.specs.State.{Control, State}
use Rattle.reply.specs.Answer.{Answer, ok, need}
use Rattle.lists.specs.Compare.{eq_vals, first_diff}
use Rattle.lists.specs.Instance.{step_at, judge_enabled}
use Rattle.lists.specs.Trace.{size, state_numbers, has, meets}

module _ (b : Book) (C : Control) where
  -- 12 to 16: a step by clause k from place i on in the state σ, its inputs at the front of l
  unfoldable pub enabled : ℕ → List ℤ → ℕ → State C → Answer
  enabled k l i σ = judge_enabled b k (size b C) l i (meets b C (body b (step_at b k l)) σ)

  -- 19: the numbers from place j on are those of the state σ
  unfoldable pub next_state : List ℤ → ℕ → State C → Answer
  next_state l j σ = need (eq_vals (take (size b C) (drop j l)) (state_numbers b C σ)) 19 (first_diff j (drop j l) (state_numbers b C σ)) ok

  -- 17: the state σ at the end of a list of n numbers holds f
  unfoldable pub ends : State C → Fact → ℕ → Answer
  ends σ f n = need (has b C f σ) 17 n ok
