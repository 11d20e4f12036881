-- What it means to print bytes, an S-expression, items with a space before each, and lines.
use Rattle.std.specs.Prelude.{◌≡◌, List, ℕ, ◌+◌, length}
use Rattle.std.specs.Borrow.{MutBor}
use Rattle.sexp.specs.Sexp.{Sexp, Sexps, render, items, lines}
use Rattle.put.specs.Room.{paste, sat}
use Rattle.put.specs.declared.Printer.{Printer}

-- a printer of the room r, at this place
pub record Begins (r : MutBor (List ℕ)) (at : ℕ) (p : Printer) : Type 0 where
  pub same : p.room.ghost_name ≡ r.ghost_name
  pub room : p.room.now ≡ r.now
  pub place : p.at ≡ at

-- writing t takes a printer from p to q, in the same room
pub record Wrote (p q : Printer) (t : List ℕ) : Type 0 where
  pub same : q.room.ghost_name ≡ p.room.ghost_name
  pub next : q.at ≡ sat (p.at + length t)
  pub room : q.room.now ≡ paste p.room.now p.at t

pub record Shows (p q : Printer) (x : Sexp) : Type 0 where
  pub text : Wrote p q (render x)

pub record Lists (p q : Printer) (xs : Sexps) : Type 0 where
  pub text : Wrote p q (items xs)

pub record Lines (p q : Printer) (xs : Sexps) : Type 0 where
  pub text : Wrote p q (lines xs)
