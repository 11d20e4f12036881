-- Walking a list of numbers by steps: a clause number, the step's values, then a gap of some numbers, and so on. A derivation has no gap; a trace has a state there.
use Rattle.std.specs.Prelude.{List, [], ◌∷◌, ℕ, zero, suc, ◌+◌, drop, ℤ}
use Rattle.meaning.specs.Book.{Book, Step}
use Rattle.lists.specs.Instance.{clause_number, clause_at, step_at}

-- What is remembered between steps; how many numbers stand in a gap; what the step by clause k that begins at place i, its values at the front of l,
-- makes of the result of what follows it; what is remembered after it; and the result where the list ends at place i.
pub record Walker (R : Type 0) : Type 1 where
  pub Memory : Type 0
  pub gap : ℕ
  pub step : ℕ → List ℤ → ℕ → Memory → R → R
  pub next : Step → Memory → Memory
  pub ended : ℕ → Memory → R

-- from place i on, where l is what is left and o is what is remembered; m is at least as large as l is long
unfoldable pub walk : Book → {R : Type 0} (W : Walker R) → ℕ → ℕ → W.Memory → List ℤ → R
walk b W zero i o l = W.ended i o
walk b W (suc m) i o [] = W.ended i o
walk b W (suc m) i o (x ∷ l) =
    let k = clause_number b x in
    let n = (clause_at b k).vars in
    W.step k l i o (walk b W m (i + 1 + n + W.gap) (W.next (step_at b k l) o) (drop W.gap (drop n l)))
