-- A word stands in a list of bytes at a place.
use Rattle.std.specs.Prelude.{ℕ, ◌+◌, ◌≤◌, ◌<◌, ◌≡◌, ◌↔◌, drop}
use Rattle.std.proofs.Common.{add-one, subst, ◌∙◌, drop-cons, get_or-drop}
use native.Mathlib.Omega.{arith}
use Rattle.std.proofs.Math.Path.{refl, sym}
use mathlib.Core.List.{List, [], ◌∷◌, ◌++◌}
use Rattle.std.proofs.Math.ListN.{length, get_or, take, length-take}
use Rattle.std.proofs.Math.Seq.{get_or-take, take-length}

unfoldable pub Stands : List ℕ → ℕ → List ℕ → Type 0
Stands s p [] = p ≤ length s
Stands s p (b ∷ w) = (p < length s) × (get_or s p 0 ≡ b) × Stands s (p + 1) w

-- every element is a byte
pub record Bytes (s : List ℕ) : Type 0 where
  pub below : (i : ℕ) → i < length s → get_or s i 0 < 256

module _ (s : List ℕ) where
  -- the same place, written otherwise
  pub stands_at : {p q : ℕ} (w : List ℕ) → p ≡ q → Stands s p w → Stands s q w
  stands_at w e = subst (λ (n : ℕ). Stands s n w) e

  pub stands-room : (p : ℕ) (w : List ℕ) → Stands s p w → p + length w ≤ length s
  unfolding Stands
  stands-room p [] h = omega arith
  stands-room p (b ∷ w) h = omega (arith, stands-room (p + 1) w h.2)

  pub stands-split : (p : ℕ) (u v : List ℕ) → Stands s p (u ++ v) → Stands s p u × Stands s (p + length u) v
  unfolding Stands
  stands-split p [] v h =
      let room : p + length v ≤ length s = stands-room p v h in
      (omega arith, stands_at v (omega arith) h)
  stands-split p (b ∷ u) v h =
      let r = stands-split (p + 1) u v h.2 in
      ((h.0, h.1, r.0), stands_at v (omega arith) r.1)

  pub stands-join : (p : ℕ) (u v : List ℕ) → Stands s p u → Stands s (p + length u) v → Stands s p (u ++ v)
  unfolding Stands
  stands-join p [] v h k = stands_at v (omega arith) k
  stands-join p (b ∷ u) v h k = (h.0, h.1, stands-join (p + 1) u v h.2 (stands_at v (omega arith) k))

  -- a word stands in a front that reaches to its end exactly where it stands in the whole
  pub stands-front : (j p : ℕ) (w : List ℕ) → p + length w ≤ j → Stands (take j s) p w ↔ Stands s p w
  unfolding Stands
  stands-front j p [] k = (λ h. omega (arith, length-take j s), λ h. omega (arith, length-take j s))
  stands-front j p (b ∷ w) k =
      let rest = stands-front j (p + 1) w (omega arith) in
      let same : get_or (take j s) p 0 ≡ get_or s p 0 = get_or-take j s p 0 (omega arith) in (
        λ h. (omega (arith, length-take j s, h.0), sym same ∙ h.1, rest.0 h.2),
        λ h. (omega (arith, length-take j s, h.0), same ∙ h.1, rest.1 h.2),
      )

  pub stands-is : (p : ℕ) (w : List ℕ) → Stands s p w → take (length w) (drop p s) ≡ w
  unfolding Stands
  stands-is p [] h = refl
  stands-is p (b ∷ w) h = rw (drop-cons s p 0 h.0, h.1, ← (add-one p), stands-is (p + 1) w h.2)

  pub is-stands : (p : ℕ) (w : List ℕ) → p + length w ≤ length s → take (length w) (drop p s) ≡ w → Stands s p w
  unfolding Stands
  is-stands p [] k e = omega arith
  is-stands p (b ∷ w) k e =
      let f : get_or s p 0 ∷ take (length w) (drop (p + 1) s) ≡ b ∷ w = rw (add-one p) (rw (drop-cons s p 0 (omega arith)) at e) in
      (omega arith, (cc), is-stands (p + 1) w (omega arith) (cc))

  pub stands-get : (p : ℕ) (w : List ℕ) (i : ℕ) → Stands s p w → i < length w → get_or s (p + i) 0 ≡ get_or w i 0
  stands-get p w i h k = rw (← (stands-is p w h), get_or-take, get_or-drop)

  pub stands-whole : (w : List ℕ) → Stands s 0 w → length w ≡ length s → s ≡ w
  stands-whole w h e = sym (take-length s) ∙ rw (← e) (stands-is 0 w h)

pub stands_self : (w : List ℕ) → Stands w 0 w
stands_self w = is-stands w 0 w (omega arith) (take-length w)
