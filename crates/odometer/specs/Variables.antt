-- The windows of the variables that an odometer counts through.
use Rattle.std.specs.Prelude.{ℕ}
use Rattle.meaning.specs.Book.{Window}
use Rattle.book.specs.Windows.{windows_of}
use Rattle.odometer.specs.declared.Odometer.{Odometer}

abbrev pub windows : Odometer → ℕ → Window
windows o = windows_of o.book.bytes.now o.book.header o.clause
