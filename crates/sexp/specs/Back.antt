-- The text of S-expressions of well-formed words says just these.
use Rattle.std.specs.Prelude.{List, [], ◌∷◌, ◌++◌, ◌≡◌, refl, Bool, true, false, ℕ, zero, suc, ◌<◌}
use Rattle.std.proofs.Math.Option.{some}
use Rattle.std.proofs.Common.{ap, ◌∙◌, arith}
use Rattle.sexp.specs.Sexp.{Sexp, Sexps, word, list, end, ◌&◌, ◌⧺◌, onto, inside, render, spaced, lines_onto, lines, each}
use Rattle.sexp.specs.Parse.{kind_of, letter, Token, name, extend, before, tokens, pile, on_word, on_close, on_open, said, whole, parse, both, is_letter, opening, closing, blank, odd, Kind, letters, is_name, plain, plains}

clash : false ≡ true → ⊥
clash h = let z : ◌≡◌ {A = ℕ} 0 1 = cc in omega arith

pub fst : (a b : Bool) → both a b ≡ true → a ≡ true
fst true b h = refl
fst false b h = h

pub snd : (a : Bool) {b : Bool} → both a b ≡ true → b ≡ true
snd true h = h
snd false h = absurd (clash h)

is-letter : (k : Kind) → is_letter k ≡ true → k ≡ letter
unfolding is_letter
is-letter opening h = absurd (clash h)
is-letter closing h = absurd (clash h)
is-letter blank h = absurd (clash h)
is-letter letter h = refl
is-letter odd h = absurd (clash h)

-- a name may end before k
Ends : List ℕ → Type 0
Ends k = (b : ℕ) → extend b (tokens k) ≡ name (b ∷ []) ∷ tokens k

name-token : (b : ℕ) (t k : List ℕ) → both (is_letter (kind_of b)) (letters t) ≡ true → Ends k → tokens (b ∷ t ++ k) ≡ name (b ∷ t) ∷ tokens k
unfolding tokens before extend letters Ends
name-token b [] k h e = rw (is-letter (kind_of b) (fst (is_letter (kind_of b)) true h)) (e b)
name-token b (c ∷ t) k h e =
    rw (is-letter (kind_of b) (fst (is_letter (kind_of b)) (letters (c ∷ t)) h))
    (ap (λ (ts : List Token). extend b ts) (name-token c t k (snd (is_letter (kind_of b)) h) e))

and-end : (xs : Sexps) → xs ⧺ end ≡ xs
unfolding ◌⧺◌
and-end end = refl
and-end (x & xs) = ap (λ (ys : Sexps). x & ys) (and-end xs)

spaced-ends : (xs : Sexps) (k : List ℕ) → Ends k → Ends (spaced xs k)
unfolding Ends onto tokens kind_of before extend
spaced-ends end k e = e
spaced-ends (x & xs) k e = λ b. refl

shut-ends : (k : List ℕ) → Ends (41 ∷ k)
unfolding Ends tokens kind_of before extend
shut-ends k b = refl

line-ends : (k : List ℕ) → Ends (10 ∷ k)
unfolding Ends tokens kind_of before extend
line-ends k b = refl

none-ends : Ends []
unfolding Ends tokens extend
none-ends b = refl

-- before what says ys, the text of x says x and ys
mutual
  unfolding onto tokens kind_of before extend said on_word on_close on_open letters is_name plain Ends ◌⧺◌

  said-onto : (x : Sexp) → plain x ≡ true → (k : List ℕ) → Ends k → (ys : Sexps) (up : List Sexps) → said (tokens k) ≡ pile ys up → said (tokens (onto x k)) ≡ pile (x & ys) up
  said-onto (word []) p k e ys up h = absurd (clash p)
  said-onto (word (b ∷ t)) p k e ys up h = ap said (name-token b t k p e) ∙ ap (on_word (b ∷ t)) h
  said-onto (list xs) p k e ys up h = ap on_open (said-inside xs p k e ys up h)

  said-inside : (xs : Sexps) → plains xs ≡ true → (k : List ℕ) → Ends k → (ys : Sexps) (up : List Sexps) → said (tokens k) ≡ pile ys up →
      said (tokens (inside xs k)) ≡ pile xs (ys ∷ up)
  said-inside end p k e ys up h = ap on_close h
  said-inside (x & xs) p k e ys up h =
      said-onto x (fst (plain x) (plains xs) p) (spaced xs (41 ∷ k)) (spaced-ends xs (41 ∷ k) (shut-ends k)) xs (ys ∷ up)
      (said-spaced xs (snd (plain x) p) (41 ∷ k) (shut-ends k) end (ys ∷ up) (ap on_close h) ∙ ap (λ (zs : Sexps). pile zs (ys ∷ up)) (and-end xs))

  said-spaced : (xs : Sexps) → plains xs ≡ true → (k : List ℕ) → Ends k → (ys : Sexps) (up : List Sexps) → said (tokens k) ≡ pile ys up →
      said (tokens (spaced xs k)) ≡ pile (xs ⧺ ys) up
  said-spaced end p k e ys up h = h
  said-spaced (x & xs) p k e ys up h =
      said-onto x (fst (plain x) (plains xs) p) (spaced xs k) (spaced-ends xs k e) (xs ⧺ ys) up (said-spaced xs (snd (plain x) p) k e ys up h)

-- parsing gives back one S-expression
pub parse-render : (x : Sexp) → plain x ≡ true → parse (render x) ≡ some (x & end)
unfolding parse said whole tokens
parse-render x p = ap whole (said-onto x p [] none-ends end [] refl)

said-lines : (xs : Sexps) → plains xs ≡ true → said (tokens (lines xs)) ≡ pile xs []
unfolding lines_onto plain said tokens kind_of before
said-lines end p = refl
said-lines (x & xs) p = said-onto x (fst (plain x) (plains xs) p) (10 ∷ lines xs) (line-ends (lines xs)) xs [] (said-lines xs (snd (plain x) p))

-- and a list of them, each closed by a line feed
pub parse-lines : (xs : Sexps) → plains xs ≡ true → parse (lines xs) ≡ some xs
unfolding parse whole
parse-lines xs p = ap whole (said-lines xs p)

-- ---- which S-expressions are plain

pub plains-and : (xs ys : Sexps) → plains xs ≡ true → plains ys ≡ true → plains (xs ⧺ ys) ≡ true
unfolding plain ◌⧺◌
plains-and end ys p q = q
plains-and (x & xs) ys p q = rw (fst (plain x) (plains xs) p) (plains-and xs ys (snd (plain x) p) q)

pub plains-each : (n : ℕ) (f : ℕ → Sexps) → ((i : ℕ) → i < n → plains (f i) ≡ true) → plains (each n f) ≡ true
unfolding plain each
plains-each zero f h = refl
plains-each (suc n) f h = plains-and (each n f) (f n) (plains-each n f (λ i l. h i (omega arith))) (h n (omega arith))

pub letters-append : (s t : List ℕ) → letters s ≡ true → letters t ≡ true → letters (s ++ t) ≡ true
unfolding letters
letters-append [] t p q = q
letters-append (b ∷ s) t p q = rw (fst (is_letter (kind_of b)) (letters s) p) (letters-append s t (snd (is_letter (kind_of b)) p) q)
