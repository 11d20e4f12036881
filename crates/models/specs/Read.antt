-- A model as bytes: one constraint for each relation in order, over its places as variables, with nothing left over.
use Rattle.std.specs.Prelude.{ℕ, ◌+◌, List, [], ◌∷◌, map, length, set, eqb, Ok, Err}
use Rattle.meaning.specs.Constraint.{Constraint}
use Rattle.cursor.specs.declared.Cursor.{Cursor}
use Rattle.reply.specs.declared.Refusal.{Refusal}
use Rattle.reply.specs.Answer.{refuse}
use Rattle.cursor.specs.Steps.{pick, Step, Read}
use Rattle.cursor.specs.Walk.{constraint_at}
use Rattle.cursor.specs.Tree.{tree_at}
use Rattle.reply.specs.Then.{go_on, ◌>>=◌}

-- a relation's constraint, and the byte where it starts
pub record Part : Type 0 where
  pub at : ℕ
  pub rule : Constraint

-- the list of constraints
abbrev pub rules : List Part → List Constraint
rules ps = map (λ (p : Part). p.rule) ps

-- a constraint's refusal has its own number in a model: 21 for 7, 22 for 8
unfoldable pub number_in : ℕ → ℕ
number_in n = pick (eqb n 7) 21 22

unfoldable pub in_model : Refusal → Refusal
in_model r = refuse (number_in r.number) r.place

-- go on with a constraint that was read, or stop
unfoldable pub rule_then : Read Constraint → (Constraint → Cursor → Read (List Part)) → Read (List Part)
rule_then (Ok (t, c)) go = go t c
rule_then (Err r) go = Err (in_model r)

-- where a constraint of 64 nodes may start
abbrev pub fresh : Cursor → Cursor
fresh c = record { at = c.at; left = 64 }

-- the constraints over these arities, from the cursor to the end; bytes left are 22 at the first left
unfoldable pub parts_at : List ℕ → List ℕ → Cursor → Read (List Part)
parts_at s [] c = pick (eqb c.at (length s)) (Ok ([], c)) (Err (refuse 22 c.at))
parts_at s (n ∷ ns) c =
    rule_then (tree_at s n 16 (fresh c)) λ t d.
    parts_at s ns d >>= λ (ps, e). Ok (record { at = c.at; rule = t } ∷ ps, e)

-- what the bytes of a model over these arities hold, or the refusal
unfoldable pub model_in : List ℕ → List ℕ → Read (List Part)
model_in s ns = parts_at s ns (record { at = 0; left = 0 })

-- its constraints; none where it is refused
unfoldable pub rules_of : Read (List Part) → List Constraint
rules_of (Ok (ps, c)) = rules ps
rules_of (Err r) = []

-- ---- the same walk without the trees, which the code makes

-- one constraint over n variables
unfoldable pub rule_at : List ℕ → ℕ → Cursor → Step
rule_at s n c = go_on (constraint_at 16 s n (fresh c)) Ok (λ r. Err (in_model r))

unfoldable pub pass_at : List ℕ → List ℕ → Cursor → Step
pass_at s [] c = pick (eqb c.at (length s)) (Ok c) (Err (refuse 22 c.at))
pass_at s (n ∷ ns) c = rule_at s n c >>= pass_at s ns

-- where each constraint starts, put down in l from place k on
unfoldable pub starts_at : List ℕ → List ℕ → ℕ → Cursor → List ℕ → List ℕ
starts_at s [] k c l = l
starts_at s (n ∷ ns) k c l = go_on (rule_at s n c) (λ d. starts_at s ns (k + 1) d (set l k c.at)) (λ _. set l k c.at)
