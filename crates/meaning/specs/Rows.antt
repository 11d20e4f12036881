-- Lists with one element replaced, and rows of places in their windows.
use Rattle.std.specs.Prelude.{◌≡◌, refl, List, [], ◌∷◌, ℕ, zero, suc, ◌<◌, length, get_or, set, ℤ, ◌≤ℤ◌}
use Rattle.std.proofs.Common.{sym, ap, ◌∙◌, length-set, get_or-set_same, get_or-set_other, ext_get_or}
use Rattle.std.proofs.Math.Decide.{ℕ_discrete}
use Rattle.std.specs.Int.Signed.{≤ℤ_refl}
use Rattle.meaning.specs.Book.{Window, Within}
use Rattle.meaning.specs.State.{Shaped, low_row, low_rows, Replaced}

-- ---- `set` says just that one element is replaced and every other is as before

module _ {A : Type 0} (d : A) (l : List A) (i : ℕ) (v : A) (h : i < length l) where
  pub set-replaces : Replaced d l i v (set l i v)
  set-replaces = record { size = length-set l i v; there = get_or-set_same l i v d h; rest = λ j n. get_or-set_other l i j v d n }

  pub replaced-set : (l' : List A) → Replaced d l i v l' → l' ≡ set l i v
  replaced-set l' r = ext_get_or d l' (set l i v) (r.size ∙ sym (length-set l i v)) (λ j k. pick j (ℕ_discrete j i))
    where
      pick : (j : ℕ) → Dec (j ≡ i) → get_or l' j d ≡ get_or (set l i v) j d
      pick j (yes e) = rw e (r.there ∙ sym (get_or-set_same l i v d h))
      pick j (no n) = r.rest j n ∙ sym (get_or-set_other l i j v d n)

-- ---- rows

pub shaped-length : (w : ℕ → ℕ → Window) (ns : List ℕ) (vs : List (List ℤ)) → Shaped w ns vs → length vs ≡ length ns
shaped-length w [] [] h = refl
shaped-length w [] (v ∷ vs) h = absurd h
shaped-length w (a ∷ ns) [] h = absurd h
shaped-length w (a ∷ ns) (v ∷ vs) h = ap suc (shaped-length (λ r. w (suc r)) ns vs h.2)

pub shaped-set : (w : ℕ → ℕ → Window) (ns : List ℕ) (vs : List (List ℤ)) → Shaped w ns vs → (r : ℕ) (v : List ℤ) → length v ≡ get_or ns r 0 → Within (w r) v
    → Shaped w ns (set vs r v)
shaped-set w [] [] h r v e k = tt
shaped-set w [] (x ∷ vs) h r v e k = absurd h
shaped-set w (n ∷ ns) [] h r v e k = absurd h
shaped-set w (n ∷ ns) (x ∷ vs) h zero v e k = (e, k, h.2)
shaped-set w (n ∷ ns) (x ∷ vs) h (suc r) v e k = (h.0, h.1, shaped-set (λ q. w (suc q)) ns vs h.2 r v e k)

-- ---- every place at the low end of its window

low-length : (w : ℕ → Window) (n : ℕ) → length (low_row w n) ≡ n
low-length w zero = refl
low-length w (suc n) = ap suc (low-length (λ i. w (suc i)) n)

low-within : (w : ℕ → Window) → ((i : ℕ) → (w i).lo ≤ℤ (w i).hi) → (n : ℕ) → Within w (low_row w n)
low-within w h zero = tt
low-within w h (suc n) = (record { low = ≤ℤ_refl (w 0).lo; high = h 0 }, low-within (λ i. w (suc i)) (λ i. h (suc i)) n)

pub low-shaped : (w : ℕ → ℕ → Window) → ((r i : ℕ) → (w r i).lo ≤ℤ (w r i).hi) → (ns : List ℕ) → Shaped w ns (low_rows w ns)
low-shaped w h [] = tt
low-shaped w h (n ∷ ns) = (low-length (w 0) n, low-within (w 0) (h 0) n, low-shaped (λ r. w (suc r)) (λ r. h (suc r)) ns)
