-- What is said of a trace in its table's book: the meaning's book, the steps' places and their rows.
use Rattle.std.specs.Prelude.{ℕ}
use Rattle.meaning.specs.Book.{Book}
use Rattle.book.specs.Held.{meant}
use Rattle.table.specs.declared.Row.{Row}
use Rattle.table.specs.Table.{IsRow}
use Rattle.instance.specs.Values.{number_in}
use Rattle.steps.specs.Walk.{Here, Walk}
use Rattle.back.specs.declared.Trace.{Trace}

-- the meaning's book
abbrev pub book_of : Trace → Book
book_of t = meant t.table.now.book

-- a step stands at place i
abbrev pub StepAt : Trace → ℕ → Type 0
StepAt t i = Here t.table.now.book.bytes.now t.table.now.book.header t.list.now t.size i

-- from place i on stand steps to the end
abbrev pub StepsFrom : Trace → ℕ → Type 0
StepsFrom t i = Walk t.table.now.book.bytes.now t.table.now.book.header t.list.now t.size i

-- r is the row of the step's clause at place i
abbrev pub RowAt : Trace → ℕ → Row → Type 0
RowAt t i r = IsRow t.table.now.book.bytes.now t.table.now.book.header (number_in t.table.now.book.bytes.now t.table.now.book.header t.list.now i) r
