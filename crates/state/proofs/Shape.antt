-- The arities of an accepted book: the state's arrays hold them.
use mathlib.Core.Path.{◌≡◌, ap}
use mathlib.Core.List.{List, [], ◌∷◌}
use Prim.Native.Nat.{ℕ, ◌+◌, ◌≤◌, ◌<◌}
use native.Mathlib.Numerals.{add-one}
use native.Mathlib.Omega.{arith}
use lib.ListN.{length, get_or, drop, drop_of_length-le}
use lib.Seq.{drop-cons}
use Rattle.meaning.specs.State.{flags}
use Rattle.lists.specs.Trace.{sum, size}
use Rattle.book.specs.declared.Header.{Header}
use Rattle.book.specs.Read.{read}
use Rattle.book.specs.Meaning.{book_in}
use Rattle.book.specs.Trailer.{read-trailed}
use Rattle.book.specs.Arities.{relations-are, arity-is, arity-small}
use Rattle.std.specs.Prelude.{Ok}

module _ (s : List ℕ) (h : Header) (good : read s ≡ Ok h) where
  pub relations-few : h.relations ≤ 16
  relations-few = (read-trailed s h good).kept.few

  pub arities-few : length (book_in s h).arities ≤ 16
  arities-few = omega (arith, relations-are s h good, relations-few)

  pub arities-small : (r : ℕ) → r < length (book_in s h).arities → get_or (book_in s h).arities r 0 ≤ 8
  arities-small r b =
      let k : r < h.relations = omega (arith, relations-are s h good) in
      omega (arith, arity-is s h good r k, arity-small s h good r k)

  pub size_is : size (book_in s h) flags ≡ h.relations + sum (book_in s h).arities
  unfolding size
  size_is = ap (λ (n : ℕ). n + sum (book_in s h).arities) (relations-are s h good)

-- ---- the arities from relation r on

module _ (ns : List ℕ) (r : ℕ) where
  pub arity-cons : r < length ns → drop r ns ≡ get_or ns r 0 ∷ drop (r + 1) ns
  arity-cons h = rw (drop-cons ns r 0 h, add-one r)

  pub arity-none : length ns ≤ r → drop r ns ≡ []
  arity-none h = drop_of_length-le ns {i = r} h

  pub sum_more : r < length ns → sum (drop r ns) ≡ get_or ns r 0 + sum (drop (r + 1) ns)
  unfolding sum
  sum_more h = rw (arity-cons h)

  pub sum-none : length ns ≤ r → sum (drop r ns) ≡ 0
  unfolding sum
  sum-none h = rw (arity-none h)

-- ---- a relation r below the book's n: the arrays have it, and what its places and the later ones take

module _ (s : List ℕ) (h : Header) (good : read s ≡ Ok h) {n r : ℕ} (e : n ≡ h.relations) where
  pub relation-there : r < n → r < length (book_in s h).arities
  relation-there b = rw (relations-are s h good, ← e) b

  pub relation-past : n ≤ r → length (book_in s h).arities ≤ r
  relation-past b = rw (relations-are s h good, ← e) b

  pub relation-few : r < n → r < 16
  relation-few b = omega (arith, relations-few s h good)

  pub relation-places : r < n → sum (drop r (book_in s h).arities) ≡ get_or (book_in s h).arities r 0 + sum (drop (r + 1) (book_in s h).arities)
  relation-places b = sum_more (book_in s h).arities r (relation-there b)
