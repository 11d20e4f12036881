use Rattle.std.proofs.Common.{w32}
use Rattle.whole.specs.Whole.{own}
use Rattle.meaning.specs.Book.{place_window}
use Rattle.book.specs.Meaning.{book_in}
use Rattle.book.proofs.place_window.Goals as goal

pub returns : goal.returns
unfolding place_window book_in
returns c = let t = c.struct_told-1.given in record { lo = own w32 _ t.0.1; hi = own w32 _ t.1.0.1 }
