-- A window as the code has it, and the windows of a clause's variables.
use Rattle.std.specs.Prelude.{◌≡◌, List, ℕ, get_or, ℤ, ◌≤ℤ◌, Ok}
use Rattle.meaning.specs.Book as meant
use Rattle.meaning.specs.Book.{none_such, place_window, variable_window}
use Rattle.book.specs.declared.Header.{Header}
use Rattle.book.specs.declared.Window.{Window}
use Rattle.book.specs.Read.{read}
use Rattle.book.specs.Meaning.{book_in}
use Rattle.book.specs.Trailer.{read-trailed}

-- the code's window w is the meaning's m
pub record Windowed (m : meant.Window) (w : Window) : Type 0 where
  pub lo : w.lo ≡ m.lo
  pub hi : w.hi ≡ m.hi

abbrev pub window_of : Window → meant.Window
window_of w = record { lo = w.lo; hi = w.hi }

pub windowed-is : {m : meant.Window} {w : Window} → Windowed m w → window_of w ≡ m
windowed-is x = λ i. record { lo = x.lo i; hi = x.hi i }

-- the windows of clause k's variables
abbrev pub windows_of : List ℕ → Header → ℕ → ℕ → meant.Window
windows_of s h k = variable_window (book_in s h) (get_or (book_in s h).clauses k none_such)

-- none of them is empty
pub window-some : (s : List ℕ) (h : Header) (k i : ℕ) → read s ≡ Ok h → (windows_of s h k i).lo ≤ℤ (windows_of s h k i).hi
unfolding variable_window book_in
window-some s h k i good = (read-trailed s h good).kept.window

-- what holds of the header's two ends holds of each window's
module _ (P : ℤ → Type 0) (s : List ℕ) (h : Header) (low : P h.lo) (high : P h.hi) where
  pub places-keep : (r i : ℕ) → P (place_window (book_in s h) r i).lo × P (place_window (book_in s h) r i).hi
  unfolding place_window book_in
  places-keep r i = (low, high)

  pub variables-keep : (c : meant.Clause) (i : ℕ) → P (variable_window (book_in s h) c i).lo × P (variable_window (book_in s h) c i).hi
  unfolding variable_window book_in
  variables-keep c i = (low, high)
