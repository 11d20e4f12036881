-- What a writer has still to write of a list that has room.
use mathlib.Core.Path.{◌≡◌, refl, sym, ap, ◌∙◌}
use mathlib.Core.List.{List, [], ◌++◌, append_assoc, append-nil}
use Prim.Native.Nat.{◌≤◌}
use native.Mathlib.Omega.{arith}
use lib.ListN.{length, length-append}
use lib.IntN.{ℤ}
use Rattle.steps.specs.Put.{Put, put-length, put-join, put-none}
use Rattle.forth.specs.declared.Writer.{Writer}
use Rattle.forth.specs.Puts.{HasRoom, Puts}

-- from the front of the room
pub front-fits : {p : Writer} {xs : List ℤ} → p.at ≡ 0 → length xs ≤ length p.room.now → HasRoom p xs
front-fits e f = record { room = omega (arith, e, f) }

-- one list after another
pub first-fits : {p : Writer} {xs : List ℤ} (ys : List ℤ) → HasRoom p (xs ++ ys) → HasRoom p xs
first-fits {xs = xs} ys f = record { room = omega (arith, f.room, length-append xs ys) }

module _ {p q : Writer} {xs ys : List ℤ} where
  pub second-fits : Puts p q xs → HasRoom p (xs ++ ys) → HasRoom q ys
  second-fits w f = record { room = omega (arith, f.room, length-append xs ys, w.next, put-length w.room) }

  pub puts-join : {r : Writer} → Puts p q xs → Puts q r ys → Puts p r (xs ++ ys)
  puts-join w u = record {
    same = u.same ∙ w.same;
    next = omega (arith, length-append xs ys, w.next, u.next);
    room = put-join w.room (rw w.next at u.room);
  }

-- what the room holds once the writer is gone
pub put-back : {p q : Writer} {xs e : List ℤ} → Puts p q xs → (p.room.ghost_name ≡ q.room.ghost_name → e ≡ q.room.now) → Put p.room.now e p.at xs
put-back w back = rw (back (sym w.same)) w.room

-- part of the list `due`, for which p has room, is written from p to q, and the list `rest` is not yet
pub record Left (p q : Writer) (due rest : List ℤ) : Type 0 where
  pub fits : HasRoom p due
  pub part : List ℤ
  pub put : Puts p q part
  pub is : part ++ rest ≡ due

pub left-first : {p : Writer} {due : List ℤ} → HasRoom p due → Left p p due due
left-first {p} f = record {
  fits = f;
  part = [];
  put = record { same = refl; next = omega arith; room = put-none p.room.now p.at (omega (arith, f.room)) };
  is = refl;
}

module _ {p q : Writer} {due : List ℤ} where
  pub next-fits : {xs : List ℤ} (rest : List ℤ) → Left p q due (xs ++ rest) → HasRoom q xs
  next-fits rest w = first-fits rest (second-fits w.put (rw (← w.is) at w.fits))

  pub left-more : {xs rest : List ℤ} {r : Writer} → Left p q due (xs ++ rest) → Puts q r xs → Left p r due rest
  left-more {xs} {rest} w u = record { fits = w.fits; part = w.part ++ xs; put = puts-join w.put u; is = append_assoc w.part xs rest ∙ w.is }

  pub left-none : {rest : List ℤ} → Left p q due rest → rest ≡ [] → Puts p q due
  left-none w e = rw (sym (append-nil w.part) ∙ ap (λ (t : List ℤ). w.part ++ t) (sym e) ∙ w.is) at w.put
