-- A derivation as a list of numbers: clause number, then its values, step after step; and what its check answers.
use Rattle.std.proofs.Math.Option.{Option, none, some}
use Rattle.std.specs.Prelude.{List, [], ◌∷◌, ◌++◌, ℕ, length, get_or, leb, ltb, eqb, ℤ, pos}
use Rattle.meaning.specs.Book.{Book, Fact, Step, head, body}
use Rattle.reply.specs.Answer.{Answer, ok, need, and_then}
use Rattle.lists.specs.Compare.{same}
use Rattle.lists.specs.Instance.{step_at, judge_enabled}
use Rattle.lists.specs.Walker.{Walker, walk}

unfoldable pub numbers : List Step → List ℤ
numbers [] = []
numbers (s ∷ d) = pos s.clause ∷ (s.vals ++ numbers d)

-- one step by clause k from place i on, its values at the front of l, after the fact o
unfoldable pub judge_step : Book → ℕ → List ℤ → ℕ → Option Fact → Answer
judge_step b k l i o = judge_enabled b k 0 l i (same (body b (step_at b k l)) o)

-- the check remembers the fact just before; at the end it is the goal f
abbrev pub derivation_walk : Book → Fact → Walker Answer
derivation_walk b f = record {
  Memory = Option Fact;
  gap = 0;
  step = λ k l i o. and_then (judge_step b k l i o);
  next = λ s o. some (head b s);
  ended = λ i o. need (same o (some f)) 17 i ok;
}

unfoldable pub check : Book → Fact → List ℤ → Answer
check b f l = walk b (derivation_walk b f) (length l) 0 none l

-- ---- with the goal and the list's length judged first, which the trace check shares

unfoldable pub judge_goal : Book → ℕ → List ℤ → Answer
judge_goal b r vals = need (ltb r (length b.arities)) 10 0 (need (eqb (length vals) (get_or b.arities r 0)) 10 0 ok)

unfoldable pub judge_length : List ℤ → Answer
judge_length l = need (ltb 0 (length l)) 11 0 (need (leb (length l) 1000000) 11 0 ok)

abbrev pub goal : ℕ → List ℤ → Fact
goal r vals = record { rel = r; vals = vals }

unfoldable pub check_derivation : Book → ℕ → List ℤ → List ℤ → Answer
check_derivation b r vals l = and_then (judge_goal b r vals) (and_then (judge_length l) (check b (goal r vals) l))
