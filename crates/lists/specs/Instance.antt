-- Judging one step, which a derivation and a trace share: refusals 12 to 16.
use Rattle.std.specs.Prelude.{Bool, List, ℕ, ◌+◌, length, get_or, take, leb, ltb, ℤ, pos, negsuc}
use Rattle.meaning.specs.Constraint.{holds}
use Rattle.meaning.specs.Book.{Book, Clause, Step, none_such, variable_window}
use Rattle.reply.specs.Answer.{Answer, ok, need, and_then}
use Rattle.lists.specs.Compare.{all_in, first_out}

-- a list's number as a clause's number; below zero it is one that no clause has
unfoldable pub clause_number : Book → ℤ → ℕ
clause_number b (pos k) = k
clause_number b (negsuc n) = length b.clauses

abbrev pub clause_at : Book → ℕ → Clause
clause_at b k = get_or b.clauses k none_such

-- the step by clause k whose values stand at the front of l
abbrev pub step_at : Book → ℕ → List ℤ → Step
step_at b k l = record { clause = k; vals = take (clause_at b k).vars l }

-- a step by the clause c that begins at place i: its values stand at the front of l, and `more` numbers follow them
unfoldable pub judge_clause : Book → Clause → ℕ → List ℤ → ℕ → Answer
judge_clause b c more l i =
    let xs = take c.vars l in
    need (leb (c.vars + more) (length l)) 13 i
    (need (all_in (variable_window b c) xs) 14 (first_out (variable_window b c) (i + 1) xs)
    (need (holds xs c.rule) 15 i ok))

unfoldable pub judge : Book → ℕ → ℕ → List ℤ → ℕ → Answer
judge b k more l i = need (ltb k (length b.clauses)) 12 i (judge_clause b (clause_at b k) more l i)

-- with its body judged too: `met` says whether it is met where the step stands
unfoldable pub judge_enabled : Book → ℕ → ℕ → List ℤ → ℕ → Bool → Answer
judge_enabled b k more l i met = and_then (judge b k more l i) (need met 16 i ok)
