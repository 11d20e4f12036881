-- What a reply says, and the check's promise.
use Rattle.std.specs.Prelude.{ℕ, ◌≡◌, List, [], get_or, Result, Ok, Err}
use Rattle.std.proofs.Common.{sym, ap, ◌∙◌}
use Rattle.reply.specs.declared.Refusal.{Refusal}
use Rattle.reply.specs.Answer.{says, says-one, refused, ok}
use Rattle.meaning.specs.Book.{Window, none_such, variable_window}
use Rattle.cursor.specs.Steps.{Read}
use Rattle.book.specs.Held.{meant}
use Rattle.models.specs.Read.{Part, model_in}
use Rattle.models.specs.Walk.{find, tries, walk}
use Rattle.models.specs.Answer.{Reply, plain, outcome, weighed, model_answer}
use Rattle.parts.specs.declared.Model.{Model}
use Rattle.parts.specs.declared.Task.{Task}
use Rattle.parts.specs.Opened.{constraints}
use Rattle.model.specs.declared.Reply as code
use Rattle.model.specs.declared.Broken.{Broken}

-- what each of its fields says
abbrev pub told : code.Reply → Reply
told r = record { answer = says r.answer; count = r.count; clause = r.clause; values = r.values }

-- what it says of assignments in order: how many they were, none of them broken, or the first broken one
unfoldable pub said : Result ℕ Broken → Reply
said (Ok n) = plain ok n
said (Err b) = record { answer = refused 25 b.count; count = b.count; clause = b.clause; values = b.values }

-- the parts of a model that was read
unfoldable pub parts_of : Read (List Part) → List Part
parts_of (Ok (ps, c)) = ps
parts_of (Err r) = []

abbrev pub parts_in : List ℕ → List ℕ → List Part
parts_in s ns = parts_of (model_in s ns)

-- ---- of a model that was read

-- the windows of the variables of a task's clause
abbrev pub windows_of : Task → ℕ → Window
windows_of t = let b = meant t.model.book in variable_window b (get_or b.clauses t.number none_such)

-- clause k's assignments in order, where `before` were examined before them
abbrev pub clause_answer : Model → ℕ → ℕ → Reply
clause_answer m k before =
    let b = meant m.book in
    outcome (find b (constraints m) before (tries b k (get_or b.clauses k none_such)))

-- all assignments in order
abbrev pub walk_answer : Model → Reply
walk_answer m = outcome (find (meant m.book) (constraints m) 0 (walk (meant m.book)))

-- the whole model
abbrev pub weighed_answer : Model → Reply
weighed_answer m = weighed (meant m.book) (parts_in m.bytes.now (meant m.book).arities)

-- ---- the book and the model that these bytes hold, or a refusal, which is the whole reply then
abbrev pub Given : List ℕ → List ℕ → Result Model Refusal → Type 0
Given book model (Ok m) = (m.book.bytes.now ≡ book) × (m.bytes.now ≡ model)
Given book model (Err r) = model_answer book model ≡ plain (refused r.number r.place) 0

-- ---- the promise: the whole reply is what document 01 says of these bytes
pub record Replies (book model : List ℕ) (r : code.Reply) : Type 0 where
  pub tells : told r ≡ model_answer book model

-- no second reply keeps the same promise
pub only : {book model : List ℕ} {r t : code.Reply} → Replies book model r → Replies book model t → r ≡ t
only {r = r} {t = t} p q =
    let e = p.tells ∙ sym q.tells in
    λ i. record { answer = says-one (ap (λ (y : Reply). y.answer) e) i; count = (e i).count; clause = (e i).clause; values = (e i).values }
