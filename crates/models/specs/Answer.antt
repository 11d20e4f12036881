-- What the model check answers, for any book and model bytes: the answer, how many assignments were examined, and the broken one's clause and values.
use Rattle.std.specs.Prelude.{ℕ, ◌-◌, List, [], ◌++◌, length, get_or, replicate, ltb, ℤ, pos, Ok, Err}
use Rattle.reply.specs.Answer.{Answer, refused, ok, number}
use Rattle.meaning.specs.Constraint.{truth, holds}
use Rattle.meaning.specs.Book.{Book}
use Rattle.cursor.specs.Steps.{pick, Read}
use Rattle.book.specs.OnBook.{on_book}
use Rattle.models.specs.Read.{Part, rules, model_in}
use Rattle.models.specs.Walk.{Finding, clean, broken, find, walk, total}

pub record Reply : Type 0 where
  pub answer : Answer
  pub count : ℕ
  pub clause : ℕ
  pub values : List ℤ

abbrev pub number_of : Reply → ℕ
number_of y = number y.answer

-- any reply but 25: clause and values are 0
abbrev pub plain : Answer → ℕ → Reply
plain a count = record { answer = a; count = count; clause = 0; values = replicate 16 (pos 0) }

-- sixteen values, the unused ones 0
abbrev pub slots : List ℤ → List ℤ
slots vs = vs ++ replicate (16 - length vs) (pos 0)

unfoldable pub outcome : Finding → Reply
outcome (clean n) = plain ok n
outcome (broken n s) = record { answer = refused 25 n; count = n; clause = s.clause; values = slots s.vals }

-- what stands for a relation's part that is not there
abbrev pub no_part : Part
no_part = record { at = 0; rule = truth }

-- a model that was read: the query's constraint (23), the number of assignments (24), then each in order (25)
unfoldable pub weighed : Book → List Part → Reply
weighed b ps =
    let query = get_or ps b.query no_part in
    pick (holds [] query.rule) (plain (refused 23 query.at) 0)
    (pick (ltb 1000000 (total b)) (plain (refused 24 0) 0)
    (outcome (find b (rules ps) 0 (walk b))))

unfoldable pub judged : Book → Read (List Part) → Reply
judged b (Err r) = plain (refused r.number r.place) 0
judged b (Ok (ps, c)) = weighed b ps

-- the model's bytes s, where b is the book
unfoldable pub examine : Book → List ℕ → Reply
examine b s = judged b (model_in s b.arities)

-- a refused book ends the call with its own refusal; nothing was examined
unfoldable pub model_answer : List ℕ → List ℕ → Reply
model_answer book s = on_book book (λ n p. plain (refused n p) 0) (λ b. examine b s)
