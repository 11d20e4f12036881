-- Laws of writing: what is written one after the other is its concatenation written.
use mathlib.Core.Path.{◌≡◌, refl, sym, ap, ◌∙◌}
use mathlib.Core.List.{List, [], ◌∷◌, ◌++◌, append_assoc}
use Prim.Native.Nat.{ℕ, suc, min, ◌+◌, ◌-◌, ◌^◌, ◌≤◌, ◌<◌}
use native.Mathlib.Nat.{add-zero, zero-add, min-eq_left, min-eq_right, le_antisymm}
use native.Mathlib.Omega.{arith}
use native.Mathlib.Numerals.{add-one}
use native.Mathlib.Decide.{dec_le}
use lib.IntN.{ℤ}
use lib.Signed.{mag}
use mir.Syntax.{Width, w64}
use mir.Val.{hbits, to_z, of_z}
use mir.Facts.{to_z-of_z}
use lib.ListN.{length, set, take, drop, length-set, length-append}
use lib.Seq.{set_out, sets, sets-eq}
use borrow.Rule.Slice.PartMut.{put_mid}
use Rattle.std.proofs.lemmas.List.{drop_all, drop-drop, length-take-le, take-append-drop}
use Rattle.sexp.specs.Sexp.{Sexp, Sexps, ◌⧺◌, onto, spaced, lines_onto, each}
use Rattle.sexp.specs.Split.{onto-split, spaced-split, spaced-and, lines_split, lines-and}
use Rattle.put.specs.Room.{paste, sat, top}
use Rattle.put.specs.declared.Printer.{Printer}
use Rattle.put.specs.Number.{num}
use Rattle.put.specs.Shows.{Wrote, Shows, Lists, Lines}

-- ---- pasting, of elements of any type
module _ {A : Type 0} where
  pub paste-out : (t d : List A) (at : ℕ) → length d ≤ at → paste d at t ≡ d
  unfolding paste
  paste-out [] d at h = refl
  paste-out (b ∷ t) d at h = rw set_out (paste-out t d (at + 1) (omega arith))

  pub length-paste : (t d : List A) (at : ℕ) → length (paste d at t) ≡ length d
  unfolding paste
  length-paste [] d at = refl
  length-paste (b ∷ t) d at = length-paste t (set d at b) (at + 1) ∙ length-set d at b

  paste-append : (s t d : List A) (at : ℕ) → paste (paste d at s) (at + length s) t ≡ paste d at (s ++ t)
  unfolding paste
  paste-append [] t d at = rw add-zero
  paste-append (b ∷ s) t d at =
      let e : at + suc (length s) ≡ at + 1 + length s = omega arith in
      rw e (paste-append s t (set d at b) (at + 1))

  -- past the top nothing is stored, so a position may stop there
  paste-sat : (t d : List A) (at : ℕ) → length d ≤ top → paste d (sat at) t ≡ paste d at t
  paste-sat t d at h = by-dec (dec_le at top)
    where
      by-dec : Dec (at ≤ top) → paste d (sat at) t ≡ paste d at t
      by-dec (yes l) = rw (min-eq_left {n = at} {m = top} l)
      by-dec (no g) =
          let o : top ≤ at = omega arith in
          rw (min-eq_right {n = top} {m = at} o) (paste-out t d top h ∙ sym (paste-out t d at (omega arith)))

  paste-sets : (t d : List A) (at : ℕ) → paste d at t ≡ sets d at t
  unfolding paste
  paste-sets [] d at = refl
  paste-sets (b ∷ t) d at = rw add-one (paste-sets t (set d at b) (suc at))

  -- what fits stands in front of the rest of the room
  pub paste-front : (t d : List A) → length t ≤ length d → paste d 0 t ≡ t ++ drop (length t) d
  paste-front t d h = paste-sets t d 0 ∙ sets-eq t d 0 (omega arith) ∙ ap (λ (k : ℕ). t ++ drop k d) (zero-add (length t))

  -- copying the first n of t stores what fits: all of t, or up to the end of d
  module _ (t d : List A) (at n : ℕ) (h : at + n ≤ length d) (k : n ≤ length t) (end : n < length t → length d ≤ at + n) where
    front-length : length (take n t) ≡ n
    front-length = length-take-le n t k

    rest-out : Dec (length t ≤ n) → paste (paste d at (take n t)) (at + n) (drop n t) ≡ paste d at (take n t)
    unfolding paste
    rest-out (yes o) = rw (drop_all n t o)
    rest-out (no g) =
        let o : n < length t = omega arith in
        paste-out (drop n t) (paste d at (take n t)) (at + n) (omega (arith, length-paste (take n t) d at, end o))

    front-all : paste d at (take n t) ≡ paste d at t
    front-all =
        sym (rest-out (dec_le (length t) n)) ∙ rw front-length at (paste-append (take n t) (drop n t) d at) ∙ ap (paste d at) (take-append-drop n t)

    front-is : paste d at (take n t) ≡ take at d ++ (take n t ++ drop (at + n) d)
    front-is = paste-sets (take n t) d at ∙ rw front-length at (sets-eq (take n t) d at (omega (arith, h, front-length))) ∙ append_assoc (take at d) _ _

    pub copied : (m : ℕ) (u : List A) → m ≡ n → u ≡ take n t → put_mid at m d u ≡ paste d at t
    copied m u e f = rw (e, f, drop-drop n at d) (sym front-is ∙ front-all)

-- ---- writing
pub wrote_none : {p : Printer} → Wrote p p []
unfolding paste
wrote_none {p} = let h = p.there in record { same = refl; next = omega arith; room = refl }

module _ {p q : Printer} {b : ℕ} (g : q.room.ghost_name ≡ p.room.ghost_name) (k : q.at ≡ sat (p.at + 1)) where
  -- one byte, stored in the room or past it
  pub wrote_one : q.room.now ≡ set p.room.now p.at b → Wrote p q (b ∷ [])
  unfolding paste
  wrote_one e = record { same = g; next = k; room = e }

  pub wrote-out : q.room.now ≡ p.room.now → length p.room.now ≤ p.at → Wrote p q (b ∷ [])
  wrote-out e o = record { same = g; next = k; room = e ∙ sym (paste-out (b ∷ []) p.room.now p.at o) }

-- as many bytes as fit, copied
pub wrote_copied : {p q : Printer} {t : List ℕ} (n : ℕ) {m : ℕ} {u : List ℕ} → q.room.ghost_name ≡ p.room.ghost_name → q.at ≡ sat (p.at + length t) →
    p.at < length p.room.now → n ≡ min (length t) (length p.room.now - p.at) → m ≡ n → u ≡ take n t → q.room.now ≡ put_mid p.at m p.room.now u → Wrote p q t
wrote_copied n g k l e f h r = record { same = g; next = k; room = r ∙ copied _ _ _ n (omega (arith, e, l)) (omega (arith, e)) (λ o. omega (arith, e, o)) _ _ f h }

-- no byte fits
pub wrote_past : {p q : Printer} {t : List ℕ} → q.room.ghost_name ≡ p.room.ghost_name → q.at ≡ sat (p.at + length t) → length p.room.now ≤ p.at → q.room.now ≡ p.room.now → Wrote p q t
wrote_past {p} {q} {t} g k o e = record { same = g; next = k; room = e ∙ sym (paste-out t p.room.now p.at o) }

pub join : {p q r : Printer} {s t : List ℕ} → Wrote p q s → Wrote q r t → Wrote p r (s ++ t)
join {p} {q} {r} {s} {t} w v =
    let d = p.room.now in
    record {
      same = v.same ∙ w.same;
      next = omega (arith, length-append s t, w.next, v.next);
      room = v.room ∙ rw (w.next, w.room) (paste-sat t (paste d p.at s) (p.at + length s) (rw length-paste p.fits) ∙ paste-append s t d p.at);
    }

-- ---- an S-expression, and then k
module _ {p q r : Printer} {k : List ℕ} where
  pub one : {x : Sexp} → Shows p q x → Wrote q r k → Wrote p r (onto x k)
  one {x} u v = rw (onto-split x k) at (join u.text v)

  -- items, and then k
  pub all : {xs : Sexps} → Lists p q xs → Wrote q r k → Wrote p r (spaced xs k)
  all {xs} u v = rw (spaced-split xs k) at (join u.text v)

  pub rows : {xs : Sexps} → Lines p q xs → Wrote q r k → Wrote p r (lines_onto xs k)
  rows {xs} u v = rw (lines_split xs k) at (join u.text v)

module _ {p q r : Printer} {xs : Sexps} where
  -- items, more of them, and then k
  pub more : (ys : Sexps) (k : List ℕ) → Lists p q xs → Wrote q r (spaced ys k) → Wrote p r (spaced (xs ⧺ ys) k)
  more ys k u v = rw spaced-and (all u v)

  -- lines, more of them, and then k
  pub more_rows : (ys : Sexps) (k : List ℕ) → Lines p q xs → Wrote q r (lines_onto ys k) → Wrote p r (lines_onto (xs ⧺ ys) k)
  more_rows ys k u v = rw lines-and (rows u v)

  pub both : {ys : Sexps} → Lists p q xs → Lists q r ys → Lists p r (xs ⧺ ys)
  both {ys} u v = record { text = more ys [] u v.text }

  pub both-lines : {ys : Sexps} → Lines p q xs → Lines q r ys → Lines p r (xs ⧺ ys)
  both-lines {ys} u v = record { text = more_rows ys [] u v.text }

-- ---- a loop: no item, those of one turn more, and all of them
module _ (f : ℕ → Sexps) where
  pub each_none : {p : Printer} → Lists p p (each 0 f)
  unfolding each onto
  each_none = record { text = wrote_none }

  pub each_more : {p q r : Printer} (i : ℕ) → Lists p q (each i f) → Lists q r (f i) → Lists p r (each (i + 1) f)
  unfolding each
  each_more i u v = rw add-one (both u v)

  pub each_all : {p q : Printer} {i n : ℕ} → i ≤ n → n ≤ i → Lists p q (each i f) → Lists p q (each n f)
  each_all h k u = rw (le_antisymm h k) at u

  pub lines_none : {p : Printer} → Lines p p (each 0 f)
  unfolding each lines_onto
  lines_none = record { text = wrote_none }

  pub lines_more : {p q r : Printer} (i : ℕ) → Lines p q (each i f) → Lines q r (f i) → Lines p r (each (i + 1) f)
  unfolding each
  lines_more i u v = rw add-one (both-lines u v)

  pub lines-all : {p q : Printer} {i n : ℕ} → i ≤ n → n ≤ i → Lines p q (each i f) → Lines p q (each n f)
  lines-all h k u = rw (le_antisymm h k) at u

module _ {p q : Printer} where
  -- the same, said otherwise
  pub retext : {s t : List ℕ} → s ≡ t → Wrote p q s → Wrote p q t
  retext e u = rw e at u

  pub relist : {xs ys : Sexps} → xs ≡ ys → Lists p q xs → Lists p q ys
  relist e u = rw e at u

  pub reline : {xs ys : Sexps} → xs ≡ ys → Lines p q xs → Lines p q ys
  reline e u = rw e at u

  pub reshow : {x y : Sexp} → x ≡ y → Shows p q x → Shows p q y
  reshow e u = rw e at u

  -- a number, read back from its bits
  pub renum : (w : Width) (n : ℤ) → mag n < 2 ^ hbits w → Shows p q (num (to_z w (of_z w n))) → Shows p q (num n)
  renum w n h u = reshow (ap num (to_z-of_z (record { sfits = h }))) u

  -- a number of fewer bits, read back
  pub renum_wide : (w : Width) (n : ℤ) {r : ℤ} → mag n < 2 ^ hbits w → mag r < 2 ^ hbits w64 → r ≡ to_z w (of_z w n) →
      Shows p q (num (to_z w64 (of_z w64 r))) → Shows p q (num n)
  renum_wide w n {r} h g e u = reshow (ap num (e ∙ to_z-of_z (record { sfits = h }))) (renum w64 r g u)
