-- What reading bytes as a model hands on, and the constraints of a model that was read.
use Rattle.std.specs.Prelude.{◌≡◌, List, ℕ, Result, Ok, Err}
use Rattle.reply.specs.declared.Refusal.{Refusal}
use Rattle.book.specs.declared.held.Book.{Book}
use Rattle.book.specs.Held.{meant}
use Rattle.parts.specs.declared.Model.{Model}
use Rattle.meaning.specs.Constraint.{Constraint}
use Rattle.parts.specs.Task.{scan, rules_in}

-- the model of this book that these bytes hold, or the refusal of these bytes
abbrev pub Opened : Book → List ℕ → Result Model Refusal → Type 0
Opened b s (Ok m) = (m.book ≡ b) × (m.bytes.now ≡ s)
Opened b s (Err r) = scan s (meant b).arities ≡ Err r

-- its constraints
abbrev pub constraints : Model → List Constraint
constraints m = rules_in m.bytes.now (meant m.book).arities
