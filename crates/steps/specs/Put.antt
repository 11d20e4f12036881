-- Numbers written into lent room.
use Rattle.std.specs.Prelude.{◌≡◌, List, [], ◌∷◌, ◌++◌, ℕ, ◌+◌, ◌≤◌, ◌<◌, length, get_or, set, take, drop, ℤ}
use Rattle.std.proofs.Common.{sym, ap, ◌∙◌, append_assoc, add-one, arith, length-append, length-drop, take-append-drop, length-take-le, take_at, drop_at, drop-drop}
use Rattle.std.proofs.lemmas.List.{set_split}
use lib.Seq.{take-suc}

-- e is d with the numbers p from place `at` on, and every other number as it was
pub record Put (d e : List ℤ) (at : ℕ) (p : List ℤ) : Type 0 where
  pub room : at + length p ≤ length d
  pub is : e ≡ take at d ++ (p ++ drop (at + length p) d)

module _ {d e : List ℤ} {at : ℕ} {p : List ℤ} (w : Put d e at p) where
  front : length (take at d) ≡ at
  front = length-take-le at d (omega (arith, w.room))

  pub put-length : length e ≡ length d
  put-length = ap length w.is ∙ simp length-append (omega (arith, w.room, front, length-drop (at + length p) d))

  -- what stands from there on
  pub put-from : drop at e ≡ p ++ drop (at + length p) d
  put-from = ap (drop at) w.is ∙ drop_at (take at d) _ at front

  pub put-after : drop (at + length p) e ≡ drop (at + length p) d
  put-after = sym (drop-drop (length p) at e) ∙ ap (drop (length p)) put-from ∙ drop_at p _ (length p) (omega arith)

  -- what stands up to the end of what was written
  pub put-upto : take (at + length p) e ≡ take at d ++ p
  put-upto =
      ap (take (at + length p)) (w.is ∙ sym (append_assoc (take at d) p (drop (at + length p) d)))
      ∙ take_at (take at d ++ p) _ (at + length p) (length-append (take at d) p ∙ ap (λ (k : ℕ). k + length p) front)

  -- one part after another
  pub put-join : {f q : List ℤ} → Put e f (at + length p) q → Put d f at (p ++ q)
  put-join {f} {q} u =
      let n = at + length p in
      let same : n + length q ≡ at + length (p ++ q) = rw length-append (omega arith) in
      let rest : drop (n + length q) e ≡ drop (at + length (p ++ q)) d =
      sym (drop-drop (length q) n e) ∙ ap (drop (length q)) put-after ∙ drop-drop (length q) n d ∙ ap (λ (k : ℕ). drop k d) same in
      record {
        room = rw length-append (omega (arith, w.room, u.room, put-length));
        is = u.is ∙ rw (put-upto, rest, append_assoc (take at d) p, append_assoc p q);
      }

  -- one number more
  pub put-more : (x : ℤ) → at + length p < length d → Put d (set e (at + length p) x) at (p ++ (x ∷ []))
  put-more x h =
      let n = at + length p in
      put-join (record {
        room = omega (arith, put-length);
        is = set_split e n x (omega (arith, put-length)) ∙ ap (λ (k : ℕ). take n e ++ (x ∷ drop k e)) (sym (add-one n));
      })

-- one number more of a list
pub put-next : {d e : List ℤ} (at j : ℕ) (xs : List ℤ) (z : ℤ) → Put d e at (take j xs) → at + length xs ≤ length d → j < length xs → Put d (set e (at + j) (get_or xs j z)) at (take (j + 1) xs)
put-next at j xs z w h k =
    let n : length (take j xs) ≡ j = length-take-le j xs (omega arith) in
    rw (add-one j, take-suc xs j z k) (rw n at (put-more w (get_or xs j z) (omega (arith, n))))

-- nothing yet
pub put-none : (d : List ℤ) (at : ℕ) → at ≤ length d → Put d d at []
put-none d at h = let z : at + 0 ≡ at = omega arith in record { room = omega arith; is = rw z (sym (take-append-drop at d)) }

-- the same list under another name
pub put_as : {d e : List ℤ} {at : ℕ} {p q : List ℤ} → Put d e at p → p ≡ q → Put d e at q
put_as w e = rw e at w

-- one part after another, where the first is known to have n numbers
pub put_then : {d e f : List ℤ} {at : ℕ} {p q : List ℤ} (n : ℕ) → length p ≡ n → Put d e at p → Put e f (at + n) q → Put d f at (p ++ q)
put_then n h w u = put-join w (rw h u)
