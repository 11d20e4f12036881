-- What every call shares, shown once for a check, once for a call with a room, and once for the functions for C.
use Rattle.std.specs.Prelude.{ℕ, zero, suc, ◌≤◌, ◌≡◌, refl, Bool, true, false, ◌⊎◌, List, [], ◌∷◌, ◌++◌, length, leb}
use Rattle.std.proofs.Common.{arith, ◌∙◌, inl, inr, leb-true, leb-false}
use Rattle.std.proofs.Math.Path.{sym, ap}
use Rattle.meaning.specs.Book.{Book}
use Rattle.reply.specs.Answer.{Answer, done, refused, number, place, says, told, says-told, Answers, answers_one, Outcome}
use Rattle.reply.specs.Among.{has, has-before, has-behind, Among, refused-not}
use Rattle.reply.specs.Room.{Due, kept, written, Leaves, leaves-one, Fair, Front, written-wrote}
use Rattle.reply.proofs.Room.{written-needs}
use Rattle.book.specs.OnBook.{on_book, on-refused, on_both, on-fair}
use Rattle.book.specs.Numbers.{refused-number}
use Rattle.kit.specs.Promises.{Tells}
use Rattle.demands.specs.Demands.{Replies, RepliesInC}
use Rattle.demands.specs.Demands.Words.{Call, pair, answering, filling, in_book, OneOf}

-- ---- numbers

-- 1 to 8
in-book : (n : ℕ) → 1 ≤ n → n ≤ 8 → OneOf in_book n
unfolding has
in-book zero l h = absurd (let z : ⊥ = omega arith in z)
in-book (suc zero) l h = tt
in-book (suc (suc zero)) l h = tt
in-book (suc (suc (suc zero))) l h = tt
in-book (suc (suc (suc (suc zero)))) l h = tt
in-book (suc (suc (suc (suc (suc zero))))) l h = tt
in-book (suc (suc (suc (suc (suc (suc zero)))))) l h = tt
in-book (suc (suc (suc (suc (suc (suc (suc zero))))))) l h = tt
in-book (suc (suc (suc (suc (suc (suc (suc (suc zero)))))))) l h = tt
in-book (suc (suc (suc (suc (suc (suc (suc (suc (suc n))))))))) l h = absurd (let z : ⊥ = omega arith in z)

-- an answer's number: 0, the book's, or one of ns; and its refusals have a number that is not 0
pub record Numbered (ns : List ℕ) (a : Answer) : Type 0 where
  pub which : OneOf (0 ∷ in_book ++ ns) (number a)
  pub success : number a ≡ 0 → (n : ℕ) × (a ≡ done n)

numbered : (ns : List ℕ) (a : Answer) → ¬ OneOf ns 0 → ((n p : ℕ) → a ≡ refused n p → OneOf (in_book ++ ns) n) → Numbered ns a
unfolding has
numbered ns (done n) none w = record { which = tt; success = λ e. (n, refl) }
numbered ns (refused n p) none w = record {
  which = has-behind (0 ∷ []) (in_book ++ ns) n (w n p refl);
  success = λ (e : n ≡ 0). absurd (none (rw e at (w n p refl)));
}

-- of a call on a book
module _ {X : Type 0} (ns : List ℕ) (s : List ℕ) (stop : ℕ → ℕ → X) (go : Book → X) (of : X → Answer) (none : ¬ OneOf ns 0)
    (stops : (n p : ℕ) → of (stop n p) ≡ refused n p) (goes : (b : Book) (n p : ℕ) → of (go b) ≡ refused n p → OneOf ns n) where
  pub on-numbered : Numbered ns (of (on_book s stop go))
  unfolding has
  on-numbered = on_both s stop go (λ x. Numbered ns (of x))
      (λ n p q. numbered ns (of (stop n p)) none λ m r e.
      let z : refused n p ≡ refused m r = sym (stops n p) ∙ e in
      let k : n ≡ m = ap number z in
      let (l, h) = refused-number s n p q in
      rw (← k) (has-before in_book ns n (in-book n l h)))
      (λ b q. numbered ns (of (go b)) none λ m r e. has-behind in_book ns m (goes b m r e))

-- ---- calls without a room

empties : (d e : List ⊥) → d ≡ e
empties [] [] = refl
empties [] (x ∷ e) = absurd x
empties (x ∷ d) e = absurd x

empty-front : (n : ℕ) (d e : List ⊥) → n ≡ 0 → Front n d e
empty-front n d e z = (rw z (omega arith), ap length (empties e d), empties _ _)

module _ {R O : Type 0} (Keeps : List ℕ → R → Type 0) (answer : R → Answer) (ns : List ℕ) (K : List ℕ → O → Type 0) (i : R → O) where
  abbrev call : Call
  call = record { Reply = R; Item = ⊥; Keeps = λ s d x e. Keeps s x; answer = answer; numbers = ns; Out = O; KeepsInC = λ s d o e. K s o; in_c = i }

  -- x keeps the promise, all that do are equal, and they answer what is due of the book
  module _ (s : List ℕ) (g : Book → Answer) (none : ¬ OneOf ns 0) (among : (b : Book) → Among ns (g b)) (x : R) (keeps : Keeps s x)
      (one : (y z : R) → Keeps s y → Keeps s z → y ≡ z) (tells : (y : R) → Keeps s y → answer y ≡ on_book s refused g) where
    plain : (n : ℕ) → on_book s refused g ≡ done n → n ≡ 0
    plain n = on_both s refused g (λ a. a ≡ done n → n ≡ 0) (λ m p q e. absurd (refused-not e)) (λ b q e. (among b).plain e)

    said : (y : R) → Keeps s y → Numbered ns (answer y)
    said y w = rw (tells y w) (on-numbered ns s refused g (λ a. a) none (λ n p. refl) (λ b n p e. (among b).among e))

    pub roomless : Replies call s
    roomless = record {
      some = λ d. (x, [], keeps);
      one = λ d e f y z p q. (one y z p q, empties e f);
      by_number = λ d e y w. record {
        book-refused = λ n p q. tells y w ∙ on-refused s refused g n p q;
        success = (said y w).success;
        which = (said y w).which;
        refused-room = λ n p q. empties e d;
        done-room = λ n q. empty-front n d e (plain n (sym (tells y w) ∙ q));
      };
    }

  -- what comes out for x is what the function for C promises
  pub roomless-in-c : (s : List ℕ) (x : R) (keeps : Keeps s x) → K s (i x) → ((o : O) (y : R) → K s o → Keeps s y → o ≡ i y) → RepliesInC call s
  roomless-in-c s x keeps out same = record {
    some = λ d. (i x, [], out);
    one = λ d e f o q u v. (same o x u keeps ∙ sym (same q x v keeps), empties e f);
    same = λ d e f o y u w. (same o y u w, empties f e);
  }

-- number and place as the function for C has them
pub tells-pair : {a : Answer} {o : ℕ × ℕ} (x : Outcome) → Tells a o.0 o.1 → says x ≡ a → o ≡ pair (says x)
tells-pair {a} {o} x u e = λ j. ((u.number ∙ sym (ap number e)) j, (u.place ∙ sym (ap place e)) j)

pub pair-tells : (a : Answer) → Tells a (number a) (place a)
pair-tells a = record { number = refl; place = refl }

-- a check
module _ (g : Book → Answer) (ns : List ℕ) (s : List ℕ) where
  abbrev due : Answer
  due = on_book s refused g

  pub answering-replies : ¬ OneOf ns 0 → ((b : Book) → Among ns (g b)) → Replies (answering (λ s. on_book s refused g) ns) s
  answering-replies none among =
      roomless (λ s x. Answers (on_book s refused g) x) says ns _ _ s g none among (told due) (record { tells = says-told due }) (λ y z. answers_one) (λ y w. w.tells)

  pub answering-in-c : RepliesInC (answering (λ s. on_book s refused g) ns) s
  answering-in-c =
      roomless-in-c (λ s x. Answers (on_book s refused g) x) says ns _ _ s (told due) (record { tells = says-told due })
      (rw says-told (pair-tells due)) (λ o y u w. tells-pair y u w.tells)

-- ---- calls with a room

module _ {A : Type 0} (g : List A → Book → Due A) (ns : List ℕ) (s : List ℕ) where
  abbrev owed : List A → Due A
  owed d = on_book s (kept d) (g d)

  leaves-owed : (d : List A) → Leaves (owed d) (told (owed d).answer) (owed d).room
  leaves-owed d = record { tells = says-told (owed d).answer; room = refl }

  module _ (none : ¬ OneOf ns 0) (fair : (d : List A) (b : Book) → Fair d (g d b)) (goes : (d : List A) (b : Book) (n p : ℕ) → (g d b).answer ≡ refused n p → OneOf ns n) where
    fair-owed : (d : List A) → Fair d (owed d)
    fair-owed d = on-fair s d (g d) (fair d)

    said-owed : (d : List A) (x : Outcome) → says x ≡ (owed d).answer → Numbered ns (says x)
    said-owed d x e = rw e (on-numbered ns s (kept d) (g d) (λ y. y.answer) none (λ n p. refl) (goes d))

    pub filling-replies : Replies (filling (λ s d. on_book s (kept d) (g d)) ns) s
    filling-replies = record {
      some = λ d. (_, _, leaves-owed d);
      one = λ d e f x y. leaves-one;
      by_number = λ d e x w. record {
        book-refused = λ n p q. w.tells ∙ ap (λ (y : Due A). y.answer) (on-refused s (kept d) (g d) n p q);
        success = (said-owed d x w.tells).success;
        which = (said-owed d x w.tells).which;
        refused-room = λ n p q. w.room ∙ (fair-owed d).refused-room (sym w.tells ∙ q);
        done-room = λ n q. rw w.room ((fair-owed d).done-room (sym w.tells ∙ q));
      };
    }

  pub filling-in-c : RepliesInC (filling (λ s d. on_book s (kept d) (g d)) ns) s
  filling-in-c = record {
    some = λ d. (pair (owed d).answer, (owed d).room, record { told = pair-tells (owed d).answer; room = refl });
    one = λ d e f o q u v.
        ((λ j. ((u.told.number ∙ sym v.told.number) j, (u.told.place ∙ sym v.told.place) j)), u.room ∙ sym v.room);
    same = λ d e f o x u w. (tells-pair x u.told w.tells, u.room ∙ sym w.room);
  }

-- the refusals of what is written: those before it, and 9
pub written-numbers : {A : Type 0} (a : Answer) (t d : List A) {n p : ℕ} → (written a t d).answer ≡ refused n p → (a ≡ refused n p) ⊎ (n ≡ 9)
unfolding written
written-numbers (refused m q) t d e = inl e
written-numbers {A} (done m) t d {n} {p} e = go (leb (length t) (length d)) refl e
  where
    go : (u : Bool) → leb (length t) (length d) ≡ u → (written (done m) t d).answer ≡ refused n p → (done m ≡ refused n p) ⊎ (n ≡ 9)
    go true q e = absurd (refused-not (sym e ∙ ap (λ (y : Due A). y.answer) (written-wrote t d m (leb-true (length t) (length d) q))))
    go false q e = inr (ap number (sym e ∙ ap (λ (y : Due A). y.answer) (written-needs t d m (leb-false (length t) (length d) q))))
