-- Laws of the text: what is printed out of the book's bytes is what the meaning's book says.
use mathlib.Core.Path.{◌≡◌, sym, ap}
use Prim.Native.Nat.{ℕ}
use lib.ListN.{length}
use Rattle.meaning.specs.Book.{place_window}
use Rattle.cursor.specs.declared.Clause.{Clause}
use Rattle.cursor.specs.Meaning.{clause_in}
use Rattle.book.specs.declared.held.Book.{Book}
use Rattle.book.specs.Held.{meant}
use Rattle.book.specs.Joined.{Held}
use Rattle.book.specs.Arities.{relations-are}
use Rattle.sexp.specs.Sexp.{Sexps, each}
use Rattle.put.specs.declared.Printer.{Printer}
use Rattle.put.specs.Shows.{Lines}
use Rattle.script.specs.Names.{place_name}
use Rattle.script.specs.Terms.{limits}
use Rattle.script.specs.Lines.{input_line, input_lines, denied, clause_part_of}
use Rattle.text.specs.Reply.{clause_of}

module _ (b : Book) where
  -- ---- loops over the relations

  -- place i of relation r
  unfoldable pub limits_at : ℕ → ℕ → Sexps
  limits_at r i = limits (place_window (meant b) r i) (place_name r i)

  pub denied-are : each b.header.relations denied ≡ each (length (meant b).arities) denied
  denied-are = ap (λ (m : ℕ). each m denied) (sym (relations-are _ _ b.accepted))

  -- ---- loops over the clauses

  unfoldable pub inputs_at : ℕ → Sexps
  inputs_at k = input_lines k (clause_of b k)

  unfoldable pub part_at : ℕ → Sexps
  part_at k = clause_part_of (meant b) k (clause_of b k)

  -- a record that was read is the clause
  pub inputs-held : (k : ℕ) (l : Clause) → Held b.bytes.now b.header k l → {p q : Printer} →
      Lines p q (each l.variables (input_line k)) → Lines p q (inputs_at k)
  unfolding inputs_at input_lines clause_in
  inputs-held k l w u = rw w.is u
