-- Laws of the text: what stands before k is its own text, and then k; lists of S-expressions, element by element.
use Rattle.std.specs.Prelude.{List, [], ◌∷◌, ◌++◌, ◌≡◌, refl, ℕ, zero, suc, ◌+◌, ◌≤◌, ◌<◌, length, get_or, take, drop}
use Rattle.std.proofs.Common.{append_assoc, sym, ap, ap₂, ◌∙◌, zero-add, arith, length-take, length-drop, get_or-take, get_or-drop}
use Rattle.sexp.specs.Sexp.{Sexp, Sexps, word, list, end, ◌&◌, ◌⧺◌, onto, inside, render, spaced, items, lines_onto, lines, each, over}

mutual
  unfolding onto

  onto-append : (x : Sexp) (j k : List ℕ) → onto x (j ++ k) ≡ onto x j ++ k
  onto-append (word t) j k = sym (append_assoc t j k)
  onto-append (list xs) j k = ap (λ (s : List ℕ). 40 ∷ s) (inside-append xs j k)

  inside-append : (xs : Sexps) (j k : List ℕ) → inside xs (j ++ k) ≡ inside xs j ++ k
  inside-append end j k = refl
  inside-append (x & xs) j k = ap (onto x) (spaced-append xs (41 ∷ j) k) ∙ onto-append x (spaced xs (41 ∷ j)) k

  spaced-append : (xs : Sexps) (j k : List ℕ) → spaced xs (j ++ k) ≡ spaced xs j ++ k
  spaced-append end j k = refl
  spaced-append (x & xs) j k = ap (λ (s : List ℕ). 32 ∷ s) (ap (onto x) (spaced-append xs j k) ∙ onto-append x (spaced xs j) k)

lines-append : (xs : Sexps) (j k : List ℕ) → lines_onto xs (j ++ k) ≡ lines_onto xs j ++ k
unfolding lines_onto
lines-append end j k = refl
lines-append (x & xs) j k = ap (λ (s : List ℕ). onto x (10 ∷ s)) (lines-append xs j k) ∙ onto-append x (10 ∷ lines_onto xs j) k

pub onto-split : (x : Sexp) (k : List ℕ) → render x ++ k ≡ onto x k
onto-split x k = sym (onto-append x [] k)

pub spaced-split : (xs : Sexps) (k : List ℕ) → items xs ++ k ≡ spaced xs k
spaced-split xs k = sym (spaced-append xs [] k)

pub lines_split : (xs : Sexps) (k : List ℕ) → lines xs ++ k ≡ lines_onto xs k
lines_split xs k = sym (lines-append xs [] k)

pub spaced-and : (xs ys : Sexps) (k : List ℕ) → spaced (xs ⧺ ys) k ≡ spaced xs (spaced ys k)
unfolding onto ◌⧺◌
spaced-and end ys k = refl
spaced-and (x & xs) ys k = ap (λ (s : List ℕ). 32 ∷ onto x s) (spaced-and xs ys k)

pub lines-and : (xs ys : Sexps) (k : List ℕ) → lines_onto (xs ⧺ ys) k ≡ lines_onto xs (lines_onto ys k)
unfolding lines_onto ◌⧺◌
lines-and end ys k = refl
lines-and (x & xs) ys k = ap (λ (s : List ℕ). onto x (10 ∷ s)) (lines-and xs ys k)

-- ---- lists that go by a count

pub each_same : (n : ℕ) (f g : ℕ → Sexps) → ((i : ℕ) → i < n → f i ≡ g i) → each n f ≡ each n g
unfolding each
each_same zero f g h = refl
each_same (suc n) f g h = ap₂ (λ (xs ys : Sexps). xs ⧺ ys) (each_same n f g (λ i l. h i (omega arith))) (h n (omega arith))

-- the elements of a part of a list
pub over-part : {A : Type 0} (d : A) (s : List A) (from m : ℕ) (f : ℕ → A → Sexps) → from + m ≤ length s →
    each m (λ i. f i (get_or s (from + i) d)) ≡ over d (take m (drop from s)) f
over-part d s from m f h =
    let len : length (take m (drop from s)) ≡ m = length-take m (drop from s) ∙ omega (arith, length-drop from s) in
    rw len (each_same m _ _ (λ i l. ap (f i) (sym (get_or-take m (drop from s) i d l ∙ get_or-drop from s i d))))

-- and of its front
pub over-front : {A : Type 0} (d : A) (s : List A) (m : ℕ) (f : ℕ → A → Sexps) → m ≤ length s →
    each m (λ i. f i (get_or s i d)) ≡ over d (take m s) f
over-front d s m f h = each_same m _ _ (λ i l. ap (λ (k : ℕ). f i (get_or s k d)) (sym (zero-add i))) ∙ over-part d s 0 m f (omega arith)
