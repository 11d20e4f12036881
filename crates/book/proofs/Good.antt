-- What an accepted header lends the code: the relations and the index lie in the book.
use Prim.Native.Nat.{ℕ, ◌+◌, ◌*◌, ◌<◌, ◌≤◌}
use native.Mathlib.Omega.{arith}
use mathlib.Core.Path.{◌≡◌, sym}
use mathlib.Core.List.{List}
use lib.ListN.{length}
use Rattle.book.specs.declared.Header.{Header}
use Rattle.book.specs.Read.{trailer}
use Rattle.book.specs.Trailer.{Trailed, trailed}
use Rattle.std.specs.Prelude.{Ok}

-- of a trailer that was read
module _ (s : List ℕ) (g : Header) (e : Ok g ≡ trailer s) where
  by-trailer : Trailed s g
  by-trailer = trailed s g (sym e)

  pub good-relations : g.relations ≤ g.start
  good-relations = by-trailer.kept.room

  pub good_start : g.start ≤ length s
  good_start = let k = by-trailer.kept in omega arith

  pub good-index : g.start + g.count * 2 ≤ length s
  good-index = let k = by-trailer.kept in omega arith

-- what lending the front up to the index asks, and an index entry
module _ (s : List ℕ) (g : Header) (w : Trailed s g) where
  pub good-room : g.start ≤ length s
  good-room = let k = w.kept in omega arith

  pub good-entry : (k : ℕ) → k < g.count → g.start + k * 2 + 2 ≤ length s
  good-entry k h = let x = w.kept in omega arith
