-- Numbers written into a lent room from where a writer stands.
use Rattle.std.specs.Prelude.{◌≡◌, List, ◌+◌, ◌≤◌, length, ℤ}
use Rattle.steps.specs.Put.{Put}
use Rattle.forth.specs.declared.Writer.{Writer}

-- the room has place for xs
pub record HasRoom (p : Writer) (xs : List ℤ) : Type 0 where
  pub room : p.at + length xs ≤ length p.room.now

-- writing xs takes a writer from p to q, in the same room
pub record Puts (p q : Writer) (xs : List ℤ) : Type 0 where
  pub same : q.room.ghost_name ≡ p.room.ghost_name
  pub next : q.at ≡ p.at + length xs
  pub room : Put p.room.now q.room.now p.at xs
